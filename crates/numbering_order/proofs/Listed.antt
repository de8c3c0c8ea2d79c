-- Lists of nodes, none twice. Assumes nothing.
use mathlib.Core.Path.{◌≡◌, refl, sym, ◌∙◌}
use mathlib.Core.Logic.{⊎_elim}
use mathlib.Core.Bool.{true, false}
use mathlib.Core.List.{List, [], ◌∷◌, ◌++◌}
use Prim.Native.Nat.{ℕ, ◌≤◌}
use native.Mathlib.Omega.{arith}
use lib.ListN.{length}
use lib.Dec.{eqb}
use borrow.Author.Tests.{eqb-true}
use Rattle.basis.specs.Lists.{memb}
use Rattle.basis.specs.Perm.{Perm}
use Rattle.basis.proofs.Count.{bit-one, bit_none, count_append, times_none}
use Rattle.basis.proofs.Lists.{memb-append, memb-one}
use Rattle.basis.proofs.Logic.{by_test, clash, or_split}
use Rattle.basis.proofs.Perm.{perm_memb}
use Rattle.numbering_stacks.proofs.Sort.{once_most}
use Rattle.numbering_order.specs.Model.{Listed}

-- no more nodes than there are
pub listed_most : {n : ℕ} {o : List ℕ} → Listed n o → length o ≤ n
listed_most {n} {o} L = once_most n o L.once L.inside

pub listed_none : (n : ℕ) → Listed n []
listed_none n = record { once = λ x. omega arith; inside = λ z m. clash m refl }

-- lists that share nothing, one after the other
pub listed-append : {n : ℕ} {a b : List ℕ} → Listed n a → Listed n b → ((x : ℕ) → memb x b ≡ true → memb x a ≡ false) → Listed n (a ++ b)
listed-append {n} {a} {b} A B apart = record {
  once = λ x.
      by_test (memb x b)
      (λ e. omega (arith, count_append (eqb x) a b, B.once x, times_none x a (apart x e)))
      (λ e. omega (arith, count_append (eqb x) a b, A.once x, times_none x b e));
  inside = λ z m. ⊎_elim (λ e. A.inside z e) (λ e. B.inside z e) (or_split (memb z a) (memb z b) (sym (memb-append z a b) ∙ m));
}

pub listed-one : {n : ℕ} (z : ℕ) → 1 ≤ z → z ≤ n → Listed n (z ∷ [])
listed-one {n} z a b = record {
  once = λ x. by_test (eqb x z) (λ e. omega (arith, bit-one (eqb x z) e)) (λ e. omega (arith, bit_none (eqb x z) e));
  inside = λ x m. let q : x ≡ z = eqb-true x z (sym (memb-one x z) ∙ m) in (omega arith, omega arith);
}

-- the same nodes in another order
pub listed_perm : {n : ℕ} {a b : List ℕ} → Perm a b → Listed n b → Listed n a
listed_perm P L = record { once = λ x. omega (arith, P.alike x, L.once x); inside = λ z m. L.inside z (sym (perm_memb P z) ∙ m) }

-- One number more of those that pass a test, stored where the others end. Assumes nothing.
use mathlib.Core.Path.{◌≡◌, refl, sym, ap, ap₂, ◌∙◌}
use mathlib.Core.Bool.{Bool, true, false}
use mathlib.Core.List.{List, [], ◌∷◌, ◌++◌, append-nil}
use Prim.Native.Nat.{ℕ, ◌+◌}
use native.Mathlib.Nat.{add-zero}
use native.Mathlib.Omega.{arith}
use lib.ListN.{length, set}
use lib.Seq.{sets, length-sets}
use Rattle.basis.specs.Filling.{Filling}
use Rattle.basis.specs.Lists.{cons_if, filterb, up_from}
use Rattle.basis.proofs.Count.{length-filter, bit-one, bit_none}
use Rattle.basis.proofs.Next.{sets_append, count_next, filter_next}

module _ (t : ℕ → Bool) (at : ℕ) (before : List ℕ) where
  pub filling_begin : Filling t at before 0 before at
  filling_begin = record { list = refl; end = sym (add-zero at) }

  module _ (i : ℕ) (after : List ℕ) (to : ℕ) (F : Filling t at before i after to) where
    pub filling-length : length after ≡ length before
    filling-length = ap length F.list ∙ length-sets before at (filterb t (up_from 1 i))

    -- i + 1 passes
    pub filling_yes : t (1 + i) ≡ true → Filling t at before (i + 1) (set after to (i + 1)) (to + 1)
    filling_yes e = record {
      list =
          ap₂ (λ (l : List ℕ) (j : ℕ). set l j (i + 1)) F.list (F.end ∙ ap (λ (n : ℕ). at + n) (sym (length-filter t (up_from 1 i))))
          ∙ ap (set (sets before at (filterb t (up_from 1 i))) (at + length (filterb t (up_from 1 i)))) same
          ∙ sym (sets_append before at (filterb t (up_from 1 i)) ((1 + i) ∷ []))
          ∙ ap (sets before at) (ap (λ b. filterb t (up_from 1 i) ++ cons_if b (1 + i) []) (sym e) ∙ sym (filter_next t 1 i));
      end = omega (arith, F.end, count_next t 1 i, bit-one (t (1 + i)) e);
    }
      where
        same : i + 1 ≡ 1 + i
        same = omega arith

    -- it fails
    pub filling_no : t (1 + i) ≡ false → Filling t at before (i + 1) after to
    filling_no e = record {
      list =
          F.list
          ∙ ap (sets before at)
          (sym (append-nil (filterb t (up_from 1 i))) ∙ ap (λ b. filterb t (up_from 1 i) ++ cons_if b (1 + i) []) (sym e) ∙ sym (filter_next t 1 i));
      end = omega (arith, F.end, count_next t 1 i, bit_none (t (1 + i)) e);
    }

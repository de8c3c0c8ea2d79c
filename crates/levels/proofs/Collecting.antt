-- The loop that collects the nodes with a level. Assumes nothing.
use mathlib.Core.Path.{◌≡◌, sym, ap, ◌∙◌, subst}
use mathlib.Core.Bool.{Bool}
use mathlib.Core.List.{List}
use Prim.Native.Nat.{ℕ, ◌+◌, ◌-◌, ◌*◌, ◌≤◌, ◌<◌}
use native.Mathlib.Nat.{add-zero}
use native.Mathlib.Omega.{arith}
use lib.ListN.{length, get_or, set}
use lib.Seq.{sets}
use lib.Dec.{ltb}
use borrow.Author.Tests.{lt-ltb}
use Rattle.basis.specs.Filling.{Filling}
use Rattle.basis.specs.Lists.{up_from}
use Rattle.basis.proofs.Count.{length-filter, count_length}
use Rattle.basis.proofs.Filling.{filling_begin, filling-length, filling_yes, filling_no}
use Rattle.basis.proofs.Lists.{length-up_from}
use Rattle.basis.proofs.Next.{sets_before}
use Rattle.spec.specs.Graph.{of_node}
use Rattle.laws.proofs.Legal.{of_node-at}
use Rattle.levels.specs.Part.{placed}

-- q has a level
abbrev leveled : List ℕ → ℕ → Bool
leveled W q = ltb 0 (of_node W q)

-- the nodes up to p that have a level stand in the fifth area, `count` of them
pub record Collecting (n : ℕ) (W U : List ℕ) (count p : ℕ) : Type 0 where
  pub few : n ≤ 4096
  pub room : 5 * n ≤ length W
  pub most : p ≤ n
  pub filling : Filling (leveled W) (4 * n) W p U (4 * n + count)

pub collect_begin : {n : ℕ} {W : List ℕ} → (n ≤ 4096) × (5 * n ≤ length W) → Collecting n W W 0 0
collect_begin {n} {W} h = record {
  few = h.0;
  room = h.1;
  most = omega arith;
  filling = subst (λ (k : ℕ). Filling (leveled W) (4 * n) W 0 W k) (sym (add-zero (4 * n))) (filling_begin (leveled W) (4 * n) W);
}

module _ {n : ℕ} {W U : List ℕ} {count p : ℕ} (I : Collecting n W U count p) where
  abbrev F : Filling (leveled W) (4 * n) W p U (4 * n + count)
  F = I.filling

  pub collect_size : length U ≡ length W
  collect_size = filling-length (leveled W) (4 * n) W p U (4 * n + count) F

  count_is : count ≡ length (placed p W)
  count_is = omega (arith, F.end, length-filter (leveled W) (up_from 1 p))

  pub count_most : count ≤ p
  count_most = omega (arith, count_is, length-filter (leveled W) (up_from 1 p), count_length (leveled W) (up_from 1 p), length-up_from 1 p)

  module _ (h : p < n) where
    word : of_node W (1 + p) ≡ get_or U p 0
    word =
        let e : 1 + p - 1 ≡ p = omega arith in
        of_node-at W (1 + p) (omega arith) ∙ ap (λ (j : ℕ). get_or W j 0) e ∙ sym (sets_before W (4 * n) (placed p W) p (omega arith))
        ∙ ap (λ (l : List ℕ). get_or l p 0) (sym F.list)

    pub collect_skip : get_or U p 0 ≡ 0 → Collecting n W U count (p + 1)
    collect_skip z = record {
      few = I.few;
      room = I.room;
      most = omega arith;
      filling = filling_no (leveled W) (4 * n) W p U (4 * n + count) F (ap (ltb 0) (word ∙ z));
    }

    pub collect_take : (get_or U p 0 ≡ 0 → ⊥) → Collecting n W (set U (4 * n + count) (p + 1)) (count + 1) (p + 1)
    collect_take z =
        let e : 4 * n + count + 1 ≡ 4 * n + (count + 1) = omega arith in
        record {
          few = I.few;
          room = I.room;
          most = omega arith;
          filling = subst (λ (k : ℕ). Filling (leveled W) (4 * n) W (p + 1) (set U (4 * n + count) (p + 1)) k) e
              (filling_yes (leveled W) (4 * n) W p U (4 * n + count) F (ap (ltb 0) word ∙ lt-ltb 0 (get_or U p 0) (omega arith)));
        }

pub collect_done : {n : ℕ} {W U : List ℕ} {count p : ℕ} → Collecting n W U count p → n ≤ p
    → (count ≡ length (placed n W)) × (U ≡ sets W (4 * n) (placed n W))
collect_done {n} {W} {U} {count} {p} I h =
    let e : p ≡ n = omega (arith, I.most) in
    (count_is I ∙ ap (λ (j : ℕ). length (placed j W)) e, I.filling.list ∙ ap (λ (j : ℕ). sets W (4 * n) (placed j W)) e)

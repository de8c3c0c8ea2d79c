-- The loop of `copy_over`: the words met are as in the second search, which stays; and the two copies in one list. Assumes nothing.
use mathlib.Core.Path.{◌≡◌, refl, sym, ap, ◌∙◌}
use mathlib.Core.Logic.{⊎_elim}
use mathlib.Core.List.{List, ◌++◌}
use Prim.Native.Nat.{ℕ, ◌+◌, ◌-◌, ◌≤◌, ◌<◌}
use native.Mathlib.Omega.{arith}
use lib.ListN.{length, drop, get_or, set, get_or-append, length-append}
use lib.Seq.{get_or-take, get_or-drop, get_or-append-add}
use Rattle.basis.proofs.Logic.{lt_or_le}
use Rattle.levels_search.proofs.Ahead.{Ahead, ahead_none, ahead-front, toward_pass, queued_node, unmet}
use Rattle.levels_search.proofs.Toward.{Toward, toward_done}
use Rattle.levels_ends.specs.Passes.{OnePart}

-- ---- one list twice

module _ (B : List ℕ) {h : ℕ} (l : length B ≡ h) where
  twice_size : length (B ++ B) ≡ h + h
  twice_size = length-append B B ∙ (λ i. l i + l i)

  twice_first : {j : ℕ} → j < h → get_or (B ++ B) j 0 ≡ get_or B j 0
  twice_first {j} b = get_or-append B B 0 j (omega arith)

  twice_second : (j : ℕ) → get_or (B ++ B) (h + j) 0 ≡ get_or B j 0
  twice_second j = ap (λ (k : ℕ). get_or (B ++ B) (k + j) 0) (sym l) ∙ get_or-append-add B B j 0

-- ---- the loop

-- the second search
abbrev second_of : ℕ → List ℕ → List ℕ
second_of n W = drop (n + n) W

-- at the loop's head
pub record Copying (n count : ℕ) (W₀ W : List ℕ) (i : ℕ) : Type 0 where
  pub asked : OnePart n count W₀
  pub toward : Toward (second_of n W₀ ++ second_of n W₀) (Ahead n count (second_of n W₀) i) W

pub copy_begin : {n count : ℕ} {W : List ℕ} → OnePart n count W → Copying n count W W 0
copy_begin {n} {count} {W} P = record { asked = P; toward = record { size = P.full ∙ sym (twice_size (second_of n W) size); there = there } }
  where
    size : length (second_of n W) ≡ n + n
    size = P.second.full

    there : (j : ℕ) → (Ahead n count (second_of n W) 0 j → ⊥) → get_or W j 0 ≡ get_or (second_of n W ++ second_of n W) j 0
    there j f =
        ⊎_elim
        (λ (h : j < n + n).
        sym (get_or-take (n + n) W j 0 h) ∙ unmet P.second P.first P.same j f
        ∙ sym (twice_first (second_of n W) size h ∙ unmet P.second P.second (λ q. refl) j f))
        (λ (h : n + n ≤ j).
        let e : n + n + (j - (n + n)) ≡ j = omega arith in
        ap (λ (k : ℕ). get_or W k 0) (sym e) ∙ sym (get_or-drop (n + n) W (j - (n + n)) 0) ∙ sym (twice_second (second_of n W) size (j - (n + n)))
        ∙ ap (λ (k : ℕ). get_or (second_of n W ++ second_of n W) k 0) e)
        (lt_or_le j (n + n))

module _ {n count : ℕ} {W₀ W : List ℕ} {i : ℕ} (I : Copying n count W₀ W i) where
  abbrev B : List ℕ
  B = second_of n W₀

  B-size : length B ≡ n + n
  B-size = I.asked.second.full

  pub copy_size : length W ≡ n + n + (n + n)
  copy_size = I.toward.size ∙ twice_size B B-size

  -- a word of the second search
  read : (j : ℕ) → get_or W (n + n + j) 0 ≡ get_or B j 0
  read j = I.toward.there (n + n + j) (λ a. omega (arith, ahead-front I.asked.second a)) ∙ twice_second B B-size j

  module _ (h : i < count) where
    -- the node at i of its queue
    node_is : get_or W (n + n + n + i) 0 ≡ get_or B (n + i) 0
    node_is = let e : n + n + n + i ≡ n + n + (n + i) = omega arith in ap (λ (k : ℕ). get_or W k 0) e ∙ read (n + i)

    module _ {v : ℕ} (q : v ≡ get_or W (n + n + n + i) 0) where
      v_is : v ≡ get_or B (n + i) 0
      v_is = q ∙ node_is

      pub v_low : 1 ≤ v
      v_low = rw v_is (queued_node I.asked.second h).0

      v_in : v - 1 < n
      v_in = omega (arith, v_low, v_is, (queued_node I.asked.second h).1)

      pub v_fits : n + n + (v - 1) < length W
      v_fits = omega (arith, copy_size, v_in)

      pub copy_step : Copying n count W₀ (set (set W (v - 1) (get_or W (n + n + (v - 1)) 0)) (n + i) (get_or W (n + n + n + i) 0)) (i + 1)
      copy_step =
          let k : n + i < n + n = omega (arith, I.asked.second.most) in
          let m : v - 1 < n + n = omega (arith, v_in) in
          record {
            asked = I.asked;
            toward =
                toward_pass I.toward (ap (λ (x : ℕ). x - 1) v_is) (omega (arith, twice_size B B-size)) (omega (arith, twice_size B B-size))
                (read (v - 1) ∙ sym (twice_first B B-size m)) (node_is ∙ sym (twice_first B B-size k));
          }

  pub copied : count ≤ i → W ≡ B ++ B
  copied h = toward_done I.toward (λ j. ahead_none h)

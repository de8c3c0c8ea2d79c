-- The words of listed numbers set to 0, one after the other: what remains does from here what all do from the start. Assumes nothing.
use mathlib.Core.Path.{◌≡◌, refl, sym, ap, ◌∙◌}
use mathlib.Core.List.{List}
use Prim.Native.Nat.{ℕ, suc, ◌+◌, ◌-◌, ◌≤◌, ◌<◌}
use native.Mathlib.Omega.{arith}
use lib.ListN.{length, drop, get_or, set, length-set, length-drop, drop_of_length-le}
use lib.Seq.{drop-set-lt, get_or-take, get_or-drop, length-take-le, drop-cons}
use Rattle.basis.specs.Lists.{memb}
use Rattle.basis.specs.Stored.{stored, nought}
use Rattle.basis.proofs.Index.{memb-get_or}
use Rattle.graph_words.specs.Erasable.{listed, Erasable}

-- the words in front of word j are passed: the list stands as it was
pub record Erasing (base at count : ℕ) (W U : List ℕ) (j : ℕ) : Type 0 where
  pub ask : Erasable base at count W
  pub size : length U ≡ length W
  pub list : drop at U ≡ drop at W
  pub goes : stored base nought U (drop (j - at) (listed at count W)) ≡ stored base nought W (listed at count W)

pub erase_begin : {base at count : ℕ} {W : List ℕ} → Erasable base at count W → Erasing base at count W W at
erase_begin {base} {at} {count} {W} A =
    let z : at - at ≡ 0 = omega arith in
    record { ask = A; size = refl; list = refl; goes = ap (λ (i : ℕ). stored base nought W (drop i (listed at count W))) z }

module _ {base at count : ℕ} {W U : List ℕ} {j : ℕ} (I : Erasing base at count W U j) where
  list_size : length (listed at count W) ≡ count
  list_size = length-take-le count (drop at W) (omega (arith, length-drop at W, I.ask.held))

  pub erase_done : at + count ≤ j → U ≡ stored base nought W (listed at count W)
  unfolding stored
  erase_done h = sym (ap (stored base nought U) (drop_of_length-le (listed at count W) {i = j - at} (omega (arith, list_size)))) ∙ I.goes

  module _ (f : at ≤ j) (h : j < at + count) where
    pub erase_index : j < length U
    erase_index = omega (arith, I.ask.held, I.size)

    module _ {v : ℕ} (e : v ≡ get_or U j 0) where
      v_is : v ≡ get_or (listed at count W) (j - at) 0
      v_is =
          let back : at + (j - at) ≡ j = omega arith in
          e ∙ sym (ap (λ (i : ℕ). get_or U i 0) back) ∙ sym (get_or-drop at U (j - at) 0)
          ∙ ap (λ (l : List ℕ). get_or l (j - at) 0) I.list ∙ sym (get_or-take count (drop at W) (j - at) 0 (omega arith))

      inside : (1 ≤ v) × (base + v ≤ at)
      inside = I.ask.inside v (ap (λ (x : ℕ). memb x (listed at count W)) v_is ∙ memb-get_or (listed at count W) (j - at) (omega (arith, list_size)))

      -- its word is there
      pub erase_word : (1 ≤ v) × (base + v < length U)
      erase_word = (inside.0, omega (arith, inside.1, erase_index))

      pub erase_step : Erasing base at count W (set U (base + v - 1) 0) (j + 1)
      unfolding stored
      erase_step =
          let next : j + 1 - at ≡ suc (j - at) = omega arith in
          record {
            ask = I.ask;
            size = length-set U (base + v - 1) 0 ∙ I.size;
            list = drop-set-lt at U (base + v - 1) 0 (omega (arith, inside.0, inside.1)) ∙ I.list;
            goes =
                rw next
                (ap (λ (x : ℕ). stored base nought (set U (base + x - 1) 0) (drop (suc (j - at)) (listed at count W))) v_is
                ∙ sym (ap (stored base nought U) (drop-cons (listed at count W) (j - at) 0 (omega (arith, list_size)))) ∙ I.goes);
          }

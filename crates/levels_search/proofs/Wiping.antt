-- The loop of `wipe_each`: the words met are 0, the queue from i on is as it was. Assumes nothing.
use mathlib.Core.Path.{◌≡◌, refl, sym, ap, ◌∙◌}
use mathlib.Core.List.{List}
use Prim.Native.Nat.{ℕ, ◌+◌, ◌-◌, ◌≤◌, ◌<◌}
use native.Mathlib.Omega.{arith}
use lib.ListN.{length, get_or, set, replicate, length-replicate}
use lib.Seq.{get_or-set_other}
use Rattle.basis.proofs.Index.{zeros-at}
use Rattle.levels_search.specs.Queue.{Queued}
use Rattle.levels_search.proofs.Ahead.{Ahead, ahead_none, toward_pass, queued_node, unmet}
use Rattle.levels_search.proofs.Toward.{Toward, toward_done}

-- at the loop's head
pub record Wiping (n count : ℕ) (W₀ W : List ℕ) (i : ℕ) : Type 0 where
  pub asked : Queued n count W₀
  pub toward : Toward (replicate (n + n) 0) (Ahead n count W₀ i) W
  pub queue : (k : ℕ) → i ≤ k → get_or W (n + k) 0 ≡ get_or W₀ (n + k) 0

zeros_size : (n : ℕ) → length (replicate {A = ℕ} (n + n) 0) ≡ n + n
zeros_size n = length-replicate (n + n) 0

pub wipe_begin : {n count : ℕ} {W : List ℕ} → Queued n count W → Wiping n count W W 0
wipe_begin {n} {count} {W} R = record {
  asked = R;
  toward = record { size = R.full ∙ sym (zeros_size n); there = λ j f. unmet R R (λ q. refl) j f ∙ sym (zeros-at (n + n) j) };
  queue = λ k h. refl;
}

module _ {n count : ℕ} {W₀ W : List ℕ} {i : ℕ} (I : Wiping n count W₀ W i) where
  pub wipe_size : length W ≡ n + n
  wipe_size = I.toward.size ∙ zeros_size n

  module _ (h : i < count) where
    pub i_fits : n + i < length W
    i_fits = omega (arith, wipe_size, I.asked.most)

    module _ {v : ℕ} (q : v ≡ get_or W (n + i) 0) where
      v_is : v ≡ get_or W₀ (n + i) 0
      v_is = q ∙ I.queue i (omega arith)

      pub v_low : 1 ≤ v
      v_low = rw v_is (queued_node I.asked h).0

      v_in : v - 1 < n
      v_in = omega (arith, v_low, v_is, (queued_node I.asked h).1)

      pub v_fits : v - 1 < length W
      v_fits = omega (arith, v_in, wipe_size)

      pub wipe_step : Wiping n count W₀ (set (set W (v - 1) 0) (n + i) 0) (i + 1)
      wipe_step = record {
        asked = I.asked;
        toward =
            toward_pass I.toward (ap (λ (x : ℕ). x - 1) v_is) (omega (arith, v_in, zeros_size n)) (omega (arith, i_fits, wipe_size, zeros_size n))
            (sym (zeros-at (n + n) (v - 1))) (sym (zeros-at (n + n) (n + i)));
        queue = λ k l.
            get_or-set_other (set W (v - 1) 0) (n + i) (n + k) 0 0 (λ e. omega arith) ∙ get_or-set_other W (v - 1) (n + k) 0 0 (λ e. omega (arith, v_in))
            ∙ I.queue k (omega arith);
      }

  pub wiped : count ≤ i → W ≡ replicate (n + n) 0
  wiped h = toward_done I.toward (λ j. ahead_none h)

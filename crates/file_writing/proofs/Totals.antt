-- The sum of a list of words, word by word. Assumes nothing.
use mathlib.Core.Path.{◌≡◌, refl}
use mathlib.Core.List.{List}
use Prim.Native.Nat.{ℕ, ◌+◌, ◌*◌, ◌≤◌, ◌<◌}
use native.Mathlib.Numerals.{add-one}
use native.Mathlib.Omega.{arith}
use lib.ListN.{length, get_or, take}
use lib.Seq.{take_all}
use Rattle.basis.specs.Lists.{sum}
use Rattle.basis.proofs.Sums.{sum-take}

-- the first i words of 16 bits are summed
pub record Totalled (xs : List ℕ) (i total : ℕ) : Type 0 where
  pub few : i ≤ length xs
  pub most : total ≤ 65535 * i
  pub total_is : total ≡ sum (take i xs)

pub totalled_begin : (xs : List ℕ) → Totalled xs 0 0
totalled_begin xs = record { few = omega arith; most = omega arith; total_is = refl }

module _ {xs : List ℕ} {i total : ℕ} (T : Totalled xs i total) where
  pub totalled_step : i < length xs → get_or xs i 0 < 65536 → Totalled xs (i + 1) (total + get_or xs i 0)
  totalled_step h w =
      record {
        few = omega arith;
        most = omega (arith, T.most);
        total_is = rw (add-one i) (omega (arith, sum-take xs i h, T.total_is));
      }

  pub totalled_done : length xs ≤ i → total ≡ sum xs
  totalled_done h = rw (take_all i xs h) at T.total_is

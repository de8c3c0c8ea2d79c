-- Row starts from first columns. Row q of the store stands at index q − 1. Assumes nothing.
use Rattle.std.specs.Prelude.{List, map, ℕ, suc, ◌-◌, ◌≤◌, ◌<◌, length, get_or}
use Rattle.basis.specs.Lists.{up_from, sum}

-- where row i starts, counted from 0: what the rows before it reach below the diagonal, together
unfoldable pub start_by : List ℕ → ℕ → ℕ
start_by first i = sum (map (λ j. suc j - get_or first j 0) (up_from 0 i))

-- no row begins behind its diagonal, and there are at most 6 × 4,096
pub record Columns (first : List ℕ) : Type 0 where
  pub few : length first ≤ 24576
  pub most : (i : ℕ) → i < length first → get_or first i 0 ≤ suc i

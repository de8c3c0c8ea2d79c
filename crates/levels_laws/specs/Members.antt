-- The members of a part in its words, and what is done for each of them. Assumes nothing.
use Rattle.std.specs.Prelude.{◌≡◌, Bool, true, false, List, ℕ, ◌+◌, ◌-◌, ◌*◌, ◌≤◌, ◌<◌, length, get_or, eqb}
use Rattle.basis.specs.Lists.{memb}
use Rattle.basis.specs.Perm.{Once}
use Rattle.laws.specs.Scratch.{second_area, merged_area, members_area, tally_area, areas_end}
use Rattle.levels_laws.specs.Starts.{members_of}

-- the members from..to are nodes, each once
pub record Members (n from to : ℕ) (W : List ℕ) : Type 0 where
  pub few : n ≤ 4096
  pub order : from ≤ to
  pub most : to ≤ n
  pub words : 5 * n ≤ length W
  pub once : Once (members_of n from to W)
  pub low : (i : ℕ) → from ≤ i → i < to → 1 ≤ get_or W (members_area n + i) 0
  pub high : (i : ℕ) → from ≤ i → i < to → get_or W (members_area n + i) 0 ≤ n

-- node z is settled: its two numbers are equal
abbrev pub settled_at : ℕ → List ℕ → ℕ → Bool
settled_at n W z = eqb (get_or W (z - 1) 0) (get_or W (second_area n + z - 1) 0)

-- the level of z counted from the other end of k
abbrev pub mirrored_at : ℕ → ℕ → List ℕ → ℕ → ℕ
mirrored_at n k W z = k + 1 - get_or W (second_area n + z - 1) 0

-- and have levels up to k in the second list
pub record Mirrorable (n from to k : ℕ) (W : List ℕ) : Type 0 where
  pub members : Members n from to W
  pub few : k ≤ 4096
  pub most : (q : ℕ) → memb q (members_of n from to W) ≡ true → get_or W (second_area n + q - 1) 0 ≤ k

-- what is asked before the words of a part are cleared: outside the members, past as many words of the queue and of the starts as there are
-- members, and past level k all is 0
pub record Clearable (n from to k : ℕ) (W : List ℕ) : Type 0 where
  pub members : Members n from to W
  pub deep : k ≤ n
  pub firsts : (q : ℕ) → 1 ≤ q → q ≤ n → memb q (members_of n from to W) ≡ false → get_or W (q - 1) 0 ≡ 0
  pub seconds : (q : ℕ) → 1 ≤ q → q ≤ n → memb q (members_of n from to W) ≡ false → get_or W (2 * n + q - 1) 0 ≡ 0
  pub queue : (i : ℕ) → n + (to - from) ≤ i → i < 2 * n → get_or W i 0 ≡ 0
  pub starts : (i : ℕ) → 3 * n + (to - from) ≤ i → i + k < 4 * n → get_or W i 0 ≡ 0

-- what is asked before the levels of a part are moved from MERGED to TALLY: outside the members, and in TALLY, all is 0
pub record Movable (n from to : ℕ) (X : List ℕ) : Type 0 where
  pub room : areas_end n ≤ length X
  pub members : Members n from to X
  pub levels : (q : ℕ) → 1 ≤ q → q ≤ n → memb q (members_of n from to X) ≡ false → get_or X (merged_area n + q - 1) 0 ≡ 0
  pub spare : (i : ℕ) → tally_area n ≤ i → i < areas_end n → get_or X i 0 ≡ 0

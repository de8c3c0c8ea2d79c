-- What the functions of this crate do, as functions on lists. W is the words of a part: n first numbers, a queue of n nodes, n second
-- numbers, n words that end in the counts of the levels, the first level's count last, and n words that stand aside. Assumes nothing.
use Rattle.std.specs.Prelude.{Bool, ◌&&◌, ◌||◌, cond, List, [], ◌∷◌, map, ℕ, ◌+◌, ◌-◌, ◌*◌, ◌≤◌, ◌<◌, length, get_or, set, eqb, ltb}
use Rattle.basis.specs.Lists.{up_from, greatest}
use Rattle.basis.specs.Perm.{times}
use Rattle.levels_laws.specs.Tally.{tally}

-- the p-th node of the queue
abbrev pub node_at : ℕ → List ℕ → ℕ → ℕ
node_at n W p = get_or W (n + p) 0

-- the nodes s..t of the queue
abbrev pub queued : ℕ → ℕ → ℕ → List ℕ → List ℕ
queued n s t W = map (node_at n W) (up_from s (t - s))

-- the number of node z, of the numbers that start at base
abbrev pub number_at : ℕ → List ℕ → ℕ → ℕ
number_at base W z = get_or W (base + z - 1) 0

-- the count word of the level of node z: level i has the word 4n - i
abbrev pub slot_of : ℕ → ℕ → List ℕ → ℕ → ℕ
slot_of n base W z = 4 * n - number_at base W z

-- the same of the p-th node of the queue
abbrev pub slot_at : ℕ → ℕ → List ℕ → ℕ → ℕ
slot_at n base W p = slot_of n base W (node_at n W p)

-- the count of level i
abbrev pub count_of : ℕ → List ℕ → ℕ → ℕ
count_of n W i = get_or W (4 * n - i) 0

-- the count words of the nodes s..t of the queue
abbrev pub slots : ℕ → ℕ → ℕ → ℕ → List ℕ → List ℕ
slots n base s t W = map (slot_at n base W) (up_from s (t - s))

-- the greatest count of the levels that these nodes touch, once they are added
unfoldable pub peak_of : ℕ → ℕ → ℕ → ℕ → List ℕ → ℕ
peak_of n base s t W = greatest (map (λ i. get_or (tally W (slots n base s t W)) i 0) (slots n base s t W))

-- the levels L after the nodes zs got their numbers
unfoldable pub written : (ℕ → ℕ) → List ℕ → List ℕ → List ℕ
written f L [] = L
written f L (z ∷ zs) = written f (set L (z - 1) (f z)) zs

-- the words and the levels after the nodes s..t of the queue are placed by the numbers that start at base
abbrev pub words_by : ℕ → ℕ → ℕ → ℕ → List ℕ → List ℕ
words_by n base s t W = tally W (slots n base s t W)

abbrev pub levels_by : ℕ → ℕ → ℕ → ℕ → List ℕ → List ℕ → List ℕ
levels_by n base s t W L = written (number_at base W) L (queued n s t W)

-- by second numbers "if l < h", and if equal where `narrow` says that u's width is less than v's
abbrev pub goes_second : ℕ → ℕ → Bool → Bool
goes_second h l narrow = ltb l h || eqb l h && narrow

-- where the numbers start that the piece s..t goes by
unfoldable pub chosen : ℕ → ℕ → ℕ → Bool → List ℕ → ℕ
chosen n s t narrow W = cond (goes_second (peak_of n 0 s t W) (peak_of n (2 * n) s t W) narrow) (2 * n) 0

-- the nodes s..t of the queue are nodes, and their numbers are levels 1..n
pub record Readable (n base s t : ℕ) (W : List ℕ) : Type 0 where
  pub order : s ≤ t
  pub most : t ≤ n
  pub few : n ≤ 4096
  pub room : 5 * n ≤ length W
  pub inside : base + n ≤ 3 * n
  pub node_low : (p : ℕ) → s ≤ p → p < t → 1 ≤ node_at n W p
  pub node_high : (p : ℕ) → s ≤ p → p < t → node_at n W p ≤ n
  pub number_low : (p : ℕ) → s ≤ p → p < t → 1 ≤ number_at base W (node_at n W p)
  pub number_high : (p : ℕ) → s ≤ p → p < t → number_at base W (node_at n W p) ≤ n

-- and there is room for them in the counts of their levels
pub record Countable (n base s t : ℕ) (W : List ℕ) : Type 0 where
  pub read : Readable n base s t W
  pub small : (p : ℕ) → s ≤ p → p < t → get_or W (slot_at n base W p) 0 + (t - s) ≤ 65535

-- the counts hold the nodes s..t of the queue
pub record Full (n base s t : ℕ) (W : List ℕ) : Type 0 where
  pub read : Readable n base s t W
  pub holds : (i : ℕ) → times i (slots n base s t W) ≤ get_or W i 0

-- a piece can be placed by either numbers
pub record Placeable (n s t : ℕ) (W L : List ℕ) : Type 0 where
  pub first : Countable n 0 s t W
  pub second : Countable n (2 * n) s t W
  pub levels : n ≤ length L

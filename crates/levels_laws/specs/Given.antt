-- What the combined levels of one part ask and leave: the part's members, its ends and the levels rooted at both are there. Assumes nothing.
use Rattle.std.specs.Prelude.{◌≡◌, true, false, cond, List, map, ℕ, ◌+◌, ◌-◌, ◌*◌, ◌≤◌, ◌<◌, length, get_or, take, replicate}
use Rattle.std.proofs.Math.Seq.{slice}
use Rattle.basis.specs.Lists.{memb}
use Rattle.spec.specs.Combined.{combined, count_at}
use Rattle.spec.specs.Ends.{Ends, ends}
use Rattle.spec.specs.Graph.{Graph, nodes, of_node}
use Rattle.spec.specs.Levels.{levels, level_of, level_list, part}
use Rattle.laws.specs.Legal.{Node, LegalGraph}
use Rattle.laws.specs.Scratch.{second_area, merged_area, members_area, tally_area}
use Rattle.laws.specs.Structure.{EndsOf}
use Rattle.levels_laws.specs.Model.{count_of}
use Rattle.levels_laws.specs.Seek.{at}
use Rattle.levels_laws.specs.Starts.{members_of}

-- the first member of the part
abbrev pub first_of : ℕ → ℕ → List ℕ → ℕ
first_of n from W = get_or W (members_area n + from) 0

-- the ends of the part
abbrev pub ends_of : Graph → ℕ → List ℕ → Ends
ends_of g from W = ends g (first_of g.size from W)

-- What is asked of the words W and the levels L: the members of one part stand from..to in rising order, the levels rooted at its ends v
-- and u stand by old number, the queues behind them hold nothing past as many words as the part has nodes, and the levels are
-- all 0.
pub record Given (g : Graph) (from to k v_width u_width : ℕ) (W L : List ℕ) : Type 0 where
  pub words : tally_area g.size ≤ length W
  pub order : from < to
  pub most : to ≤ g.size
  pub members : members_of g.size from to W ≡ part g (first_of g.size from W)
  pub depth : k ≡ (ends_of g from W).k
  pub width-v : v_width ≡ (ends_of g from W).v_width
  pub width_u : u_width ≡ (ends_of g from W).u_width
  pub firsts : take g.size W ≡ level_list g (levels g (ends_of g from W).v)
  pub seconds : slice (second_area g.size) (merged_area g.size) W ≡ level_list g (levels g (ends_of g from W).u)
  pub queue_v : (i : ℕ) → g.size + (to - from) ≤ i → i < second_area g.size → get_or W i 0 ≡ 0
  pub queue_u : (i : ℕ) → merged_area g.size + (to - from) ≤ i → i < members_area g.size → get_or W i 0 ≡ 0
  pub clean : L ≡ replicate g.size 0

-- the levels afterwards: the part's nodes have their combined levels, every other node what it had
abbrev pub merged : Graph → ℕ → Ends → List ℕ → List ℕ
merged g z e L = map (λ q. cond (memb q (part g z)) (of_node (combined g e) q) (of_node L q)) (nodes g)

-- what is worked on and the levels hold once u's queue is cleared: the part of z with its ends e
pub record Entry (g : Graph) (z : ℕ) (e : Ends) (n from to : ℕ) (W L : List ℕ) : Type 0 where
  pub graph : LegalGraph g
  pub node : Node g z
  pub ends : EndsOf g z e
  pub is : n ≡ g.size
  pub few : n ≤ 4096
  pub words : 5 * n ≤ length W
  pub room : n ≤ length L
  pub order : from ≤ to
  pub most : to ≤ n
  pub deep : e.k ≤ n
  pub members : members_of n from to W ≡ part g z
  pub firsts : (q : ℕ) → Node g q → get_or W (q - 1) 0 ≡ level_of (levels g e.v) q
  pub seconds : (q : ℕ) → Node g q → get_or W (2 * n + q - 1) 0 ≡ level_of (levels g e.u) q
  pub counts : (i : ℕ) → 3 * n ≤ i → i < 4 * n → get_or W i 0 ≡ 0
  pub clean : (q : ℕ) → memb q (part g z) ≡ true → at L q ≡ 0

-- what the words and the levels hold once the part is levelled
pub record Levelled (g : Graph) (z : ℕ) (e : Ends) (n from to : ℕ) (W L W' L' : List ℕ) : Type 0 where
  pub words : length W' ≡ length W
  pub room : length L' ≡ length L
  pub first_out : (q : ℕ) → Node g q → memb q (part g z) ≡ false → get_or W' (q - 1) 0 ≡ 0
  pub second_out : (q : ℕ) → Node g q → memb q (part g z) ≡ false → get_or W' (2 * n + q - 1) 0 ≡ 0
  pub queue : (i : ℕ) → n + (to - from) ≤ i → i < 2 * n → get_or W' i 0 ≡ get_or W i 0
  pub starts : (i : ℕ) → 3 * n + (to - from) ≤ i → i + e.k < 4 * n → get_or W' i 0 ≡ get_or W i 0
  pub counts : (i : ℕ) → 1 ≤ i → i ≤ e.k → count_of n W' i ≡ count_at (combined g e) i
  pub behind : (i : ℕ) → 4 * n ≤ i → get_or W' i 0 ≡ get_or W i 0
  pub inside : (q : ℕ) → memb q (part g z) ≡ true → at L' q ≡ of_node (combined g e) q
  pub outside : (q : ℕ) → Node g q → memb q (part g z) ≡ false → at L' q ≡ at L q

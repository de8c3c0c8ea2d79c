-- The order of a part as the code returns it, and what it asks of the working words. Assumes nothing.
use Rattle.std.specs.Prelude.{◌≡◌, ◌⊎◌, true, false, List, ℕ, ◌+◌, ◌≤◌, length, take, get_or, replicate}
use Rattle.std.proofs.lemmas.List.Edits.{sets}
use Rattle.std.proofs.Math.Seq.{slice}
use Rattle.basis.specs.Lists.{memb}
use Rattle.basis.specs.Perm.{Once}
use Rattle.spec.specs.Combined.{combined}
use Rattle.spec.specs.Ends.{Ends, ends}
use Rattle.spec.specs.Graph.{Graph, of_node}
use Rattle.spec.specs.Levels.{part}
use Rattle.spec.specs.Numbering.{PartResult, start_node, finish_node, part_levels, forward_order, turns, part_result}
use Rattle.laws.specs.Scratch.{members_area}
use Rattle.levels_sort.specs.Nodes.{Nodes}
use Rattle.numbering_stacks.specs.Part.{members_in}
use Rattle.numbering_sequence.specs.declared.shape.Sequence.{Sequence}

-- the order of the part with the ends e, before any turn
abbrev pub forward_by : Graph → Ends → List ℕ
forward_by g e = forward_order g (part_levels g e) e.k (start_node g e)

-- what is returned of it: whether it is turned is decided in unknowns
abbrev pub sequence_of : Graph → List ℕ → Ends → Sequence
sequence_of g counts e = record { v = start_node g e; u = finish_node g e; turned = turns g counts (forward_by g e) }

-- ---- the working words

-- The first four areas are 0. Behind them stand n words by old number, from `at` on, and m nodes, from `from` on, in either order.
pub record Areas (n at from m : ℕ) (W : List ℕ) : Type 0 where
  pub zeros : take (members_area n) W ≡ replicate (members_area n) 0
  pub at_low : members_area n ≤ at
  pub from_low : members_area n ≤ from
  pub at_held : at + n ≤ length W
  pub from_held : from + m ≤ length W
  pub apart : (at + n ≤ from) ⊎ (from + m ≤ at)

-- the m nodes from `from` on are a part: that of the first of them, which is its lowest
pub record PartAt (g : Graph) (from m : ℕ) (W : List ℕ) : Type 0 where
  pub some : 1 ≤ m
  pub members : members_in from m W ≡ part g (get_or W from 0)

-- the ends of the part whose nodes stand from `from` on
abbrev pub ends_in : Graph → ℕ → List ℕ → Ends
ends_in g from W = ends g (get_or W from 0)

-- and what is found of it
abbrev pub result_in : Graph → List ℕ → ℕ → List ℕ → PartResult
result_in g counts from W = part_result g counts (get_or W from 0)

-- the words W with it: the order behind the first n words, the levels from `at` on
abbrev pub with_result : ℕ → ℕ → PartResult → List ℕ → List ℕ
with_result n at found W = sets (sets W n found.order) at found.levels

-- what the order of a part asks: the part, its combined levels, k, v and u
pub record Sequenceable (g : Graph) (at from m k v u : ℕ) (W : List ℕ) : Type 0 where
  pub areas : Areas g.size at from m W
  pub part : PartAt g from m W
  pub levels : slice at (at + g.size) W ≡ combined g (ends_in g from W)
  pub k_is : k ≡ (ends_in g from W).k
  pub v_is : v ≡ (ends_in g from W).v
  pub u_is : u ≡ (ends_in g from W).u

-- the same after any change of names: v is v as now named, and the levels are counted from it
pub record Named (g : Graph) (at from m k v : ℕ) (W : List ℕ) : Type 0 where
  pub areas : Areas g.size at from m W
  pub part : PartAt g from m W
  pub levels : slice at (at + g.size) W ≡ part_levels g (ends_in g from W)
  pub k_is : k ≡ (ends_in g from W).k
  pub v_is : v ≡ start_node g (ends_in g from W)

-- what a change of names asks: the levels of the m nodes are among 1..k, and those of other nodes are 0
pub record Mirrorable (n at from m k : ℕ) (W : List ℕ) : Type 0 where
  pub areas : Areas n at from m W
  pub nodes : Nodes n (members_in from m W)
  pub once : Once (members_in from m W)
  pub few : k ≤ 4096
  pub some : (q : ℕ) → memb q (members_in from m W) ≡ true → 1 ≤ of_node (slice at (at + n) W) q
  pub most : (q : ℕ) → memb q (members_in from m W) ≡ true → of_node (slice at (at + n) W) q ≤ k
  pub outside : (q : ℕ) → 1 ≤ q → q ≤ n → memb q (members_in from m W) ≡ false → of_node (slice at (at + n) W) q ≡ 0

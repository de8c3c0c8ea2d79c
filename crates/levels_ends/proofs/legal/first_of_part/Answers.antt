-- `levels_ends::legal::first_of_part` meets its contract: the queue of a search is the part. Assumes nothing.
use mathlib.Core.Path.{◌≡◌, sym, ap, ◌∙◌, subst}
use mathlib.Core.List.{List}
use Prim.Native.Nat.{ℕ, ◌+◌, ◌-◌, ◌≤◌}
use native.Mathlib.Omega.{arith}
use lib.ListN.{length, take, drop}
use Rattle.basis.specs.Lists.{memb}
use Rattle.spec.specs.Graph.{graph_of, size_of, first_in_e}
use Rattle.spec.specs.Levels.{levels, reached}
use Rattle.laws.specs.Legal.{Node}
use Rattle.laws.proofs.Parts.{part_most}
use Rattle.laws.proofs.Refused.{passed, starts_of_lem}
use Rattle.levels_search.specs.Answer.{Searched}
use Rattle.levels_ends.proofs.Areas.{queue_nodes, some-reached, length_queue}
use Rattle.levels_ends.proofs.Least.{first_perm}
use Rattle.levels_ends.proofs.legal.first_of_part.Goals as goal

-- what is lent of the queue
queue-lent : (n : ℕ) {c r : ℕ} (W : List ℕ) → c ≡ r → take (n + c - n) (drop n W) ≡ take r (drop n W)
queue-lent n {c} W q = let e : n + c - n ≡ c = omega arith in ap (λ (k : ℕ). take k (drop n W)) (e ∙ q)

pub search-r-requires : goal.search-r-requires
search-r-requires c = record { neighbours_value = c.requires.neighbours_value; le_root = c.requires.le_node; root_len_bound = part_most (graph_of c.args.starts.now c.args.neighbours.now) c.args.node; work_value = c.requires.work_value }

pub first_in_e-v-requires : goal.first_in_e-v-requires
first_in_e-v-requires c =
    let node : Node (graph_of c.args.starts.now c.args.neighbours.now) c.args.node = record { low = c.requires.le_node.0; high = c.requires.le_node.1 } in
    let kept : Searched c.args.starts.now c.args.neighbours.now c.args.node c.search-r.new.work = c.search-r.ensures.searched in
    let reached_is : c.from-count.result ≡ reached (levels (graph_of c.args.starts.now c.args.neighbours.now) c.args.node) = c.from-count.ensures ∙ ap (λ r. r.reached) c.search-r.ensures.value in
    let lent = queue-lent (size_of c.args.starts.now) c.search-r.new.work reached_is in
    let l = subst (λ (l : List ℕ). 1 ≤ length l) (sym lent) (omega (arith, some-reached c.requires.neighbours_value node kept, length_queue c.requires.neighbours_value node kept)) in record { by_index = (c.args.neighbours.now, starts_of_lem (passed c.args.starts.now c.args.neighbours.now c.requires.neighbours_value)); nodes = (λ q m. queue_nodes c.requires.neighbours_value node kept q (ap (memb q) (sym lent) ∙ m)); in_bounds = l }

pub returns : goal.returns
returns c =
    let kept : Searched c.args.starts.now c.args.neighbours.now c.args.node c.search-r.new.work = c.search-r.ensures.searched in
    let reached_is : c.from-count.result ≡ reached (levels (graph_of c.args.starts.now c.args.neighbours.now) c.args.node) = c.from-count.ensures ∙ ap (λ r. r.reached) c.search-r.ensures.value in
    let lent = queue-lent (size_of c.args.starts.now) c.search-r.new.work reached_is in
    let A = starts_of_lem (passed c.args.starts.now c.args.neighbours.now c.requires.neighbours_value) in record {
      value = c.first_in_e-v.ensures c.args.neighbours.now A
          ∙ ap (first_in_e (graph_of c.args.starts.now c.args.neighbours.now)) lent
          ∙ first_perm (graph_of c.args.starts.now c.args.neighbours.now) kept.members;
      work_value_2 = c.wipe.ensures ∙ sym c.requires.work_value;
    }

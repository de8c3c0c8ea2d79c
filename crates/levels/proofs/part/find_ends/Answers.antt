-- `levels::part::find_ends` meets its contract. Assumes nothing.
use mathlib.Core.Path.{◌≡◌, ap, ◌∙◌}
use mathlib.Core.List.{List, ◌++◌}
use Prim.Native.Nat.{ℕ, ◌+◌, ◌*◌}
use native.Mathlib.Omega.{arith}
use lib.ListN.{take, drop, take-append-drop}
use Rattle.spec.specs.Graph.{graph_of, size_of}
use Rattle.spec.specs.Lent.{zeroed, words_per_node}
use Rattle.laws.specs.Legal.{Node}
use Rattle.laws.proofs.Lent.{zeroed_behind}
use Rattle.levels_ends.specs.Passes.{half}
use Rattle.levels.proofs.Firsts.{first_range, first-own}
use Rattle.levels.proofs.Scratch.{zero_front, behind_front, zeroed_again}
use Rattle.levels.proofs.Widths.{alone_ask, alone_ends}
use Rattle.levels.proofs.part.find_ends.Goals as goal

pub first_of_part-v-requires : goal.first_of_part-v-requires
first_of_part-v-requires c =
    let h : ℕ = half c.args.starts.now in
    record { neighbours_value = c.requires.neighbours_value; le_node = c.requires.le_node; work_value = ap (take h) c.clear.ensures ∙ zero_front h (words_per_node * size_of c.args.starts.now) c.args.scratch.now (omega arith) }

pub ends_from-f-requires : goal.ends_from-f-requires
ends_from-f-requires c =
    let node : Node (graph_of c.args.starts.now c.args.neighbours.now) c.args.node = record { low = c.requires.le_node.0; high = c.requires.le_node.1 } in
    let words_are : (c.first_of_part-v.new.work ++ drop (half c.args.starts.now) c.clear.new.words) ≡ zeroed (words_per_node * size_of c.args.starts.now) c.args.scratch.now = let h : ℕ = half c.args.starts.now in
    ap (λ (l : List ℕ). l ++ drop h c.clear.new.words) c.first_of_part-v.ensures.work_value_2
    ∙ take-append-drop h c.clear.new.words ∙ c.clear.ensures in
    let h : ℕ = half c.args.starts.now in
    let e = c.first_of_part-v.ensures.value in record { neighbours_value = c.requires.neighbours_value; le_first = first_range c.args.starts.now c.args.neighbours.now c.requires.neighbours_value node e; first_value = first-own c.args.starts.now c.args.neighbours.now c.requires.neighbours_value node e; work_value = ap (take (h + h)) words_are ∙ zero_front (h + h) (words_per_node * size_of c.args.starts.now) c.args.scratch.now (omega arith) }

pub end_widths-w-requires : goal.end_widths-w-requires
end_widths-w-requires c =
    let node : Node (graph_of c.args.starts.now c.args.neighbours.now) c.args.node = record { low = c.requires.le_node.0; high = c.requires.le_node.1 } in
    let words_are : (c.first_of_part-v.new.work ++ drop (half c.args.starts.now) c.clear.new.words) ≡ zeroed (words_per_node * size_of c.args.starts.now) c.args.scratch.now = let h : ℕ = half c.args.starts.now in
    ap (λ (l : List ℕ). l ++ drop h c.clear.new.words) c.first_of_part-v.ensures.work_value_2
    ∙ take-append-drop h c.clear.new.words ∙ c.clear.ensures in
    let done = alone_ask c.args.starts.now c.args.neighbours.now c.requires.neighbours_value node c.first_of_part-v.ensures.value c.ends_from-f.ensures.value c.ends_from-f.ensures.ended c.args.scratch.now words_are c.requires.starts_in_bounds in record { listable = done.0; listable_2 = done.1 }

pub returns : goal.returns
returns c =
    let node : Node (graph_of c.args.starts.now c.args.neighbours.now) c.args.node = record { low = c.requires.le_node.0; high = c.requires.le_node.1 } in
    let words_are : (c.first_of_part-v.new.work ++ drop (half c.args.starts.now) c.clear.new.words) ≡ zeroed (words_per_node * size_of c.args.starts.now) c.args.scratch.now = let h : ℕ = half c.args.starts.now in
    ap (λ (l : List ℕ). l ++ drop h c.clear.new.words) c.first_of_part-v.ensures.work_value_2
    ∙ take-append-drop h c.clear.new.words ∙ c.clear.ensures in
    let h : ℕ = half c.args.starts.now in
    let m : ℕ = words_per_node * size_of c.args.starts.now in
    let Y : List ℕ = c.ends_from-f.new.work in
    record {
      value = alone_ends c.args.starts.now c.args.neighbours.now c.requires.neighbours_value node c.first_of_part-v.ensures.value c.ends_from-f.ensures.value c.ends_from-f.ensures.ended c.args.scratch.now words_are c.requires.starts_in_bounds c.end_widths-w.ensures.v_value c.end_widths-w.ensures.u_value;
      scratch_value = c.clear-2.ensures
          ∙ zeroed_again m c.end_widths-w.new.scratch c.args.scratch.now
          (ap (drop m) c.end_widths-w.ensures.scratch_value ∙ behind_front (h + h) m Y (c.first_of_part-v.new.work ++ drop (half c.args.starts.now) c.clear.new.words) c.ends_from-f.ensures.ended.full (omega arith)
          ∙ ap (drop m) words_are ∙ zeroed_behind m c.args.scratch.now);
    }

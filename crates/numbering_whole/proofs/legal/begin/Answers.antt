-- `numbering_whole::legal::begin` meets its contract: what is cleared, then the members. Assumes nothing.
use mathlib.Core.Path.{◌∙◌}
use Prim.Native.Nat.{◌*◌}
use native.Mathlib.Omega.{arith}
use lib.ListN.{drop}
use Rattle.spec.specs.Graph.{size_of}
use Rattle.laws.proofs.Lent.{zeroed-all}
use Rattle.numbering_next.proofs.NextPart.{starts}
use Rattle.numbering_whole.proofs.Figures.{members_room, members_blank, filled_room, levels_blank, behind_same}
use Rattle.numbering_whole.proofs.Ran.{ran_begin}
use Rattle.numbering_whole.proofs.legal.begin.Goals as goal

pub overflow_sub-n : goal.overflow_sub-n
overflow_sub-n c = omega (arith, (starts _ _ c.requires.neighbours_value).count)

pub members-requires : goal.members-requires
members-requires c =
    let S = c.args.starts.now in
    let N = c.args.neighbours.now in
    let W = c.args.scratch.now in record { neighbours_value = c.requires.neighbours_value; starts_in_bounds = members_room S N c.requires.neighbours_value W c.requires.starts_in_bounds c.clear.ensures; scratch_value = members_blank S N c.requires.neighbours_value W c.requires.starts_in_bounds c.clear.ensures; sizes_len = c.requires.numbers_len.0 }

pub returns : goal.returns
returns c =
    let S = c.args.starts.now in
    let N = c.args.neighbours.now in
    let W = c.args.scratch.now in
    let w = c.clear.ensures in record {
      value = c.members.ensures.value;
      ran = λ order K counted. ran_begin (drop (5 * size_of S) c.clear.new.words) c.requires.neighbours_value counted c.members.ensures.sized
          (c.clear-2.ensures ∙ zeroed-all (size_of S) c.args.levels.now c.requires.numbers_len.1)
          (c.clear-3.ensures ∙ zeroed-all (size_of S) c.args.passes.now c.requires.numbers_len.2)
          c.members.ensures.scratch_value_2
          (filled_room S N c.requires.neighbours_value W c.requires.starts_in_bounds w c.members.ensures.scratch_value_2)
          (levels_blank S N c.requires.neighbours_value W c.requires.starts_in_bounds w c.members.ensures.scratch_value_2);
      scratch_value = behind_same S N c.requires.neighbours_value W c.requires.starts_in_bounds w c.members.ensures.scratch_value_2;
    }

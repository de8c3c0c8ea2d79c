-- `mesh_rowset::legal::write_word` meets its contract. Assumes nothing.
use Prim.Native.Nat.{ℕ, ◌+◌, ◌/◌, ◌^◌, ◌<◌}
use mathlib.Core.List.{List}
use mathlib.Core.Logic.{⊎_elim}
use mathlib.Core.Path.{sym, subst₂}
use native.Mathlib.Omega.{arith}
use lib.Count.{count_trailing_zeros}
use Rattle.basis.proofs.Logic.{eq_or_ne}
use Rattle.mesh_rowset.proofs.Sets.{Writing, writing_done, bit_left, bit_inside, writing_self, writing_node}
use Rattle.mesh_rowset.proofs.legal.write_word.Goals as goal

pub put-to-requires : goal.put-to-requires
put-to-requires c =
    let inside = bit_inside _ _ _ _ _ _ _ _ _ c.loop-rest.invariant (omega (arith, c.ranges.word)) c.loop-rest-test.true in
    (omega (arith, inside, c.requires), omega (arith, inside, c.requires, c.loop-rest.invariant.most))

pub loop-rest-preserved : goal.loop-rest-preserved
loop-rest-preserved c =
    let W = c.loop-rest.invariant in
    let fits : c.args.word < 18446744073709551616 = omega (arith, c.ranges.word) in
    let low = bit_left _ _ _ _ _ _ _ _ _ W fits c.loop-rest-test.true in
    let z = count_trailing_zeros 64 c.loop-rest.rest in
    let Next = λ (n : List ℕ) (t : ℕ). Writing c.args.word c.args.base c.args.p c.args.at c.args.list.now (c.loop-rest.k + z + 1) (c.loop-rest.rest / 2 ^ z / 2) t n in
    ⊎_elim
    (λ e. let w = c.put-to.ensures.value e in subst₂ Next (sym w.1) (sym w.0) (writing_self _ _ _ _ _ _ _ _ _ W fits z low e))
    (λ d. let w = c.put-to.ensures.value_2 d in subst₂ Next (sym w.1) (sym w.0) (writing_node _ _ _ _ _ _ _ _ _ W fits z low d))
    (eq_or_ne (c.args.base + c.loop-rest.k + z + 1) c.args.p)

pub returns : goal.returns
returns c = writing_done _ _ _ _ _ _ _ _ _ c.loop-rest.invariant c.loop-rest-test.false

-- `file_writing::legal::write_refusal` meets its contract: the label, the number and the line's end, where they have room. Assumes nothing.
use Prim.Native.Nat.{◌≤◌}
use native.Mathlib.Omega.{arith}
use lib.ListN.{length}
use Rattle.spec.specs.Text.{ascii, newline}
use Rattle.spec.specs.File.{item, refused_line}
use Rattle.file_writing.specs.Written.{Put}
use Rattle.file_writing.proofs.Decimals.{digits_few}
use Rattle.file_writing.proofs.Puts.{put_then}
use Rattle.file_writing.proofs.Refusals.{refused_length, tried_short, tried_room}
use Rattle.file_writing.proofs.legal.write_refusal.Goals as goal

pub overflow_add-digits : goal.overflow_add-digits
overflow_add-digits c = omega (arith, c.digits.ensures, digits_few c.from-x.result, c.from-x.ensures)

pub returns-then-out-digits : goal.returns-then-out-digits
returns-then-out-digits c = let done = tried_short (refused_line c.args.number) c.args.out.now (omega (arith, refused_length c.args.number, rw c.from-x.ensures at c.digits.ensures, c.if-out-digits.true)) in record { value = done.0; out_value = done.1 }

pub returns : goal.returns
unfolding refused_line item ascii newline
returns c =
    let whole : Put (refused_line c.args.number) 0 c.put_text.result c.args.out.now c.put_text.new.out = put_then (rw c.from-x.ensures at c.put_item-end.ensures) c.put_text.ensures in
    let h : length (refused_line c.args.number) ≤ length c.args.out.now = omega (arith, refused_length c.args.number, rw c.from-x.ensures at c.digits.ensures, c.if-out-digits.false) in
    let done = tried_room (refused_line c.args.number) c.args.out.now h whole in record { value = done.0; out_value = done.1 }

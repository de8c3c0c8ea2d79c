-- `renumber::run`: what is written is the text of the bytes read, which say what is printed of the whole input.
use Rattle.std.proofs.Common.{rules, arith}
use Rattle.renumber.proofs.Long.{printed_whole, printed_front, printed_none}
use Rattle.renumber.proofs.run.Goals as goal

pub returns : goal.returns
returns g c =
    let s = c.in_ok-size.ensures.value in
    let t = c.text-bytes.ensures.output_value in
    let w = c.write_full.ensures in
    record {
      all = printed_whole _ _ _ _ _ _ _ (omega arith) s t w.all;
      front = printed_front _ _ _ _ _ _ (omega arith) s t w.front;
    }

pub returns-in_err-size : goal.returns-in_err-size
returns-in_err-size g c = record { all = search rules; front = printed_none _ _ }

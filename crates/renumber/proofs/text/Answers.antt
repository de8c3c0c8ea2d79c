-- `renumber::text`: there is room, so that the text is document 01's.
use Rattle.std.proofs.Common.{arith}
use Rattle.file_listing.proofs.Output.{printed}
use Rattle.renumber.proofs.text.Goals as goal

pub list_file-bytes-requires : goal.list_file-bytes-requires
list_file-bytes-requires c = record {
  reading_room = record { words-fit = omega arith; starts_fit = omega arith; neighbours_fit = omega arith; scratch_fits = omega arith; counts_fit = omega arith };
  text_room = record { numbers_fit = omega arith; levels-fit = omega arith; passes_fit = omega arith; output_fits = omega arith };
}

pub returns : goal.returns
returns c =
    let e = c.list_file-bytes.ensures in
    let p = printed c.args.file.now (record { bytes_are = e.value; output_is = e.output_value }) in
    record { bound = p.0; output_value = p.1 }

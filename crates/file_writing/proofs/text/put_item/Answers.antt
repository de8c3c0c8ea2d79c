-- `file_writing::text::put_item` meets its contract: the label, then the number. Assumes nothing.
use Rattle.file_writing.proofs.Puts.{put_then}
use Rattle.file_writing.proofs.text.put_item.Goals as goal

pub returns : goal.returns
returns c = put_then c.put_text-behind.ensures c.put_number.ensures

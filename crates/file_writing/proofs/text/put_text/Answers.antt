-- `file_writing::text::put_text` meets its contract: the text is copied. Assumes nothing.
use Rattle.file_writing.proofs.Puts.{put_copied}
use Rattle.file_writing.proofs.text.put_text.Goals as goal

pub returns : goal.returns
returns c = put_copied c.requires c.copy_from_slice.ensures.after

-- What a file is refused by once its words are decoded, before its entries are counted. Assumes nothing.
use Rattle.std.specs.Prelude.{ℕ, List}
use Rattle.spec.specs.Refusal.{refuse, ◌or_else◌}
use Rattle.spec.specs.File.{file_nodes, file_elements, body, counted_refusal, left_over}

-- the elements one by one, then "bytes left over"
unfoldable pub words_refusal : List ℕ → ℕ
words_refusal bs = counted_refusal (file_elements bs) (file_nodes bs) (body bs) or_else refuse (left_over bs) 12

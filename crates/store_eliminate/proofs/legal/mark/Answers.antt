-- `store_eliminate::legal::mark` meets its contract: bytes cleared, rows done and their marks counted, words cleared. Assumes nothing.
use mathlib.Core.Path.{◌≡◌, ap, ◌∙◌}
use Prim.Native.Nat.{ℕ}
use borrow.Author.Rules.{rules}
use lib.ListN.{length, replicate}
use Rattle.store_eliminate.proofs.Rows.{rows_none, rows_words, rows_bytes}
use Rattle.store_eliminate.proofs.Walk.{bytes_few}
use Rattle.store_eliminate.proofs.legal.mark.Goals as goal

pub pass_and_count-count-requires : goal.pass_and_count-count-requires
pass_and_count-count-requires c =
    let e : c.fill.new.self ≡ replicate (length c.args.bytes.now) 0 = c.fill.ensures.after (search rules) in
    let w = rows_none c.requires.0 _ _ c.requires.1 (e ∙ ap (λ (m : ℕ). replicate m 0) c.requires.2) in
    record { given = (c.requires.0, w); countable = bytes_few w }

pub returns-clause-bytes_value : goal.returns-clause-bytes_value
returns-clause-bytes_value c = rows_bytes c.requires.0 c.pass_and_count-count.ensures.done (search rules)

pub returns-clause-scratch_value : goal.returns-clause-scratch_value
returns-clause-scratch_value c =
    let e : c.fill-2.new.self ≡ replicate (length c.pass_and_count-count.new.scratch) 0 = c.fill-2.ensures.after (search rules) in
    e ∙ ap (λ (m : ℕ). replicate m 0) (rows_words c.requires.0 c.pass_and_count-count.ensures.done)

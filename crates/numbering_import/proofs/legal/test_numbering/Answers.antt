-- `numbering_import::legal::test_numbering` meets its contract: the test of the numbering, then of the figures. Assumes nothing.
use mathlib.Core.Path.{◌≡◌, sym, ap, ◌∙◌}
use mathlib.Core.Bool.{true, false}
use Prim.Native.Nat.{ℕ}
use native.Mathlib.Omega.{arith}
use Rattle.spec.specs.Graph.{size_of}
use Rattle.spec.specs.Measures.{is_numbering}
use Rattle.numbering_import.specs.Answer.{sent_three}
use Rattle.numbering_import.proofs.Late.{numbering_7, numbering_14, numbering_none, words_zero}
use Rattle.numbering_import.proofs.legal.test_numbering.Goals as goal

pub numbered-requires : goal.numbered-requires
numbered-requires c = (omega (arith, c.requires.legal_lists.starts.few, c.requires.words_len), omega arith)

pub figures-found-requires : goal.figures-found-requires
figures-found-requires c =
    let numbered : is_numbering (size_of c.args.starts.now) c.args.numbering.now ≡ true = ap (λ (k : ℕ). is_numbering k c.args.numbering.now) (sym c.requires.words_len) ∙ sym c.numbered.ensures.value ∙ c.if-not-numbered.false in
    record { legal_lists = c.requires.legal_lists; counts_value = c.requires.counts_value; numbering_value = numbered; words_len = c.numbered.auto.scratch ∙ c.requires.words_len; total_value = c.requires.total_value }

pub returns-then-same_figures : goal.returns-then-same_figures
returns-then-same_figures c =
    let numbered : is_numbering (size_of c.args.starts.now) c.args.numbering.now ≡ true = ap (λ (k : ℕ). is_numbering k c.args.numbering.now) (sym c.requires.words_len) ∙ sym c.numbered.ensures.value ∙ c.if-not-numbered.false in
    record { value = numbering_none c.args.starts.now c.args.neighbours.now c.args.counts.now c.args.numbering.now (sent_three c.args.sent) numbered c.figures-found.ensures.result_value (sym c.same_figures.ensures ∙ c.if-same_figures.true); words_value = c.figures-found.ensures.words_value }

pub returns-else-same_figures : goal.returns-else-same_figures
returns-else-same_figures c =
    let numbered : is_numbering (size_of c.args.starts.now) c.args.numbering.now ≡ true = ap (λ (k : ℕ). is_numbering k c.args.numbering.now) (sym c.requires.words_len) ∙ sym c.numbered.ensures.value ∙ c.if-not-numbered.false in
    record { value = numbering_14 c.args.starts.now c.args.neighbours.now c.args.counts.now c.args.numbering.now (sent_three c.args.sent) numbered c.figures-found.ensures.result_value (sym c.same_figures.ensures ∙ c.if-same_figures.false); words_value = c.figures-found.ensures.words_value }

pub returns-then-not-numbered : goal.returns-then-not-numbered
returns-then-not-numbered c =
    let n = size_of c.args.starts.now in
    let no : is_numbering n c.args.numbering.now ≡ false =
    ap (λ (k : ℕ). is_numbering k c.args.numbering.now) (sym c.requires.words_len) ∙ sym c.numbered.ensures.value ∙ c.if-not-numbered.true in record { value = numbering_7 c.args.starts.now c.args.neighbours.now c.args.counts.now c.args.numbering.now (sent_three c.args.sent) no; words_value = words_zero n c.args.numbering.now c.args.words.now _ c.requires.words_len c.requires.words_len c.numbered.ensures.scratch_value c.if-not-numbered.true }

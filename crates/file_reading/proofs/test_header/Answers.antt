-- `file_reading::test_header` meets its contract. Assumes nothing.
use mathlib.Core.Path.{◌≡◌, sym, ◌∙◌}
use mathlib.Core.Bool.{false}
use native.Mathlib.Omega.{arith}
use borrow.Author.Tests.{eq-eqb, ne_eqb, lt-ltb, le-ltb}
use Rattle.spec.specs.File.{file_nodes, bad_header, header_refusal}
use Rattle.file_reading.proofs.Bytes.{nodes_is, header_whole}
use Rattle.file_reading.proofs.test_header.Goals as goal

pub returns-then-bad_header : goal.returns-then-bad_header
unfolding header_refusal
returns-then-bad_header c = rw (sym c.bad_header.ensures ∙ c.if-bad_header.true)

pub word_at-n-requires : goal.word_at-n-requires
word_at-n-requires c =
    let good : bad_header c.args.file.now ≡ false = sym c.bad_header.ensures ∙ c.if-bad_header.false in
    omega (arith, (header_whole c.args.file.now good).0)

pub returns-then-n-eq0 : goal.returns-then-n-eq0
unfolding header_refusal
returns-then-n-eq0 c =
    let good : bad_header c.args.file.now ≡ false = sym c.bad_header.ensures ∙ c.if-bad_header.false in
    let nodes : c.word_at-n.result ≡ file_nodes c.args.file.now = let W = c.args.file.now in c.word_at-n.ensures ∙ sym (nodes_is W (header_whole W good).0) in
    let W = c.args.file.now in
    rw (good, eq-eqb (file_nodes W) 0 (sym nodes ∙ c.if-n-eq0.true))

pub returns-then-n-gt4096 : goal.returns-then-n-gt4096
unfolding header_refusal
returns-then-n-gt4096 c =
    let good : bad_header c.args.file.now ≡ false = sym c.bad_header.ensures ∙ c.if-bad_header.false in
    let nodes : c.word_at-n.result ≡ file_nodes c.args.file.now = let W = c.args.file.now in c.word_at-n.ensures ∙ sym (nodes_is W (header_whole W good).0) in
    let W = c.args.file.now in
    let e = nodes in
    rw (good, ne_eqb (file_nodes W) 0 (λ z. c.if-n-eq0.false (e ∙ z)), lt-ltb 4096 (file_nodes W) (omega (arith, e, c.if-n-gt4096.true)))

pub returns : goal.returns
unfolding header_refusal
returns c =
    let good : bad_header c.args.file.now ≡ false = sym c.bad_header.ensures ∙ c.if-bad_header.false in
    let nodes : c.word_at-n.result ≡ file_nodes c.args.file.now = let W = c.args.file.now in c.word_at-n.ensures ∙ sym (nodes_is W (header_whole W good).0) in
    let W = c.args.file.now in
    let e = nodes in
    rw (good, ne_eqb (file_nodes W) 0 (λ z. c.if-n-eq0.false (e ∙ z)), le-ltb 4096 (file_nodes W) (omega (arith, e, c.if-n-gt4096.false)))

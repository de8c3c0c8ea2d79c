-- `graph_envelope::legal::unknowns::share_of` meets its contract. Assumes nothing.
use mathlib.Core.Path.{◌≡◌, ap, ap₂, ◌∙◌}
use Prim.Native.Nat.{ℕ, ◌+◌, ◌-◌, ◌*◌}
use mathlib.Core.List.{List}
use native.Mathlib.Omega.{arith}
use lib.ListN.{length}
use Rattle.spec.specs.Graph.{graph_of, of_node}
use Rattle.spec.specs.Measures.{renumbered, first_in}
use Rattle.laws.specs.Unknowns.{triangle}
use Rattle.laws.proofs.UnknownBounds.{counts_size}
use Rattle.graph_envelope.proofs.InUnknowns.{width_of, aheads_rise, aheads_long, count_few, width_is, width_most, span_is}
use Rattle.graph_envelope.proofs.legal.unknowns.share_of.Goals as goal

pub number-c-requires : goal.number-c-requires
number-c-requires c =
    let fit = c.requires.counts_value in
    omega (arith, counts_size _ _ fit, c.requires.node.low, c.requires.node.high)

pub width-requires : goal.width-requires
width-requires c =
    let G = c.requires.legal_graph in
    let x = c.args.numbering.now in
    let ok = c.requires.numbering_value in
    let K = c.args.counts.now in
    let fit = c.requires.counts_value in
    let made = c.requires.ahead_value in
    record { starts = c.requires.starts; legal_graph = G; numbering_value = ok; node = c.requires.node; rises = rw made (aheads_rise G x ok K fit); ahead_len = ap length made ∙ aheads_long G x ok K fit }

pub share-requires : goal.share-requires
share-requires c =
    let wide_is : c.width.result ≡ width_of (graph_of c.args.starts.now c.args.neighbours.now) c.args.counts.now c.args.numbering.now c.args.p = let h = renumbered (graph_of c.args.starts.now c.args.neighbours.now) c.args.numbering.now in
    let q = of_node c.args.numbering.now c.args.p in
    c.width.ensures
    ∙ ap (λ (l : List ℕ). of_node l q - of_node l (first_in h q)) c.requires.ahead_value
    ∙ width_is c.requires.legal_graph c.args.numbering.now c.requires.numbering_value c.args.counts.now c.requires.counts_value c.args.p c.requires.node in
    let G = c.requires.legal_graph in
    let x = c.args.numbering.now in
    let ok = c.requires.numbering_value in
    let K = c.args.counts.now in
    let fit = c.requires.counts_value in
    let P = c.requires.node in
    omega (arith, c.number-c.ensures, count_few G x ok K fit c.args.p P, wide_is, width_most G x ok K fit c.args.p P, c.requires.starts.few)

pub returns : goal.returns
returns c =
    let wide_is : c.width.result ≡ width_of (graph_of c.args.starts.now c.args.neighbours.now) c.args.counts.now c.args.numbering.now c.args.p = let h = renumbered (graph_of c.args.starts.now c.args.neighbours.now) c.args.numbering.now in
    let q = of_node c.args.numbering.now c.args.p in
    c.width.ensures
    ∙ ap (λ (l : List ℕ). of_node l q - of_node l (first_in h q)) c.requires.ahead_value
    ∙ width_is c.requires.legal_graph c.args.numbering.now c.requires.numbering_value c.args.counts.now c.requires.counts_value c.args.p c.requires.node in
    c.share.ensures
    ∙ ap₂ (λ (a : ℕ) (b : ℕ). a * b + triangle a) c.number-c.ensures wide_is
    ∙ span_is c.requires.legal_graph c.args.numbering.now c.requires.numbering_value c.args.counts.now c.requires.counts_value c.args.p c.requires.node

-- `numbering_import::numbers::put_pairs` meets its contract: the pairs passed are put over the nodes' own numbers. Assumes nothing.
use mathlib.Core.Path.{◌≡◌, refl, sym, ap, ◌∙◌}
use mathlib.Core.List.{List}
use Prim.Native.Nat.{ℕ, ◌≤◌}
use native.Mathlib.Omega.{arith}
use lib.ListN.{length, get_or, length-set}
use Rattle.basis.proofs.ByNumber.{word_of}
use Rattle.basis.proofs.Puts.{puts_none, puts-step}
use Rattle.spec_import.specs.CallsImport.{old_numbers}
use Rattle.numbering_import.proofs.Supplied.{new_at, puts_of, old_range, puts-all}
use Rattle.numbering_import.proofs.ByPair.{olds_length, olds_at}
use Rattle.numbering_import.proofs.numbers.put_pairs.Goals as goal

pub loop-i-init : goal.loop-i-init
loop-i-init c = record { inside = omega arith; same_length = refl; words_are = puts_none _ _ _ }

pub overflow_sub-numbers : goal.overflow_sub-numbers
overflow_sub-numbers c =
    let old : c.from-old.result ≡ get_or (old_numbers c.args.pairs.now) c.loop-i.i 0 = let P = c.args.pairs.now in
    c.from-old.ensures ∙ sym (olds_at P c.loop-i.i (omega (arith, olds_length P))) in
    let range : (1 ≤ c.from-old.result) × (c.from-old.result ≤ length c.args.numbers.now) = let P = c.args.pairs.now in
    let w = old_range (length c.args.numbers.now) P c.requires.pairs_value c.loop-i.i (omega (arith, olds_length P)) in
    (omega (arith, w.0, old), omega (arith, w.1, old)) in
    omega (arith, range)

pub bounds-numbers-old : goal.bounds-numbers-old
bounds-numbers-old c =
    let old : c.from-old.result ≡ get_or (old_numbers c.args.pairs.now) c.loop-i.i 0 = let P = c.args.pairs.now in
    c.from-old.ensures ∙ sym (olds_at P c.loop-i.i (omega (arith, olds_length P))) in
    let range : (1 ≤ c.from-old.result) × (c.from-old.result ≤ length c.args.numbers.now) = let P = c.args.pairs.now in
    let w = old_range (length c.args.numbers.now) P c.requires.pairs_value c.loop-i.i (omega (arith, olds_length P)) in
    (omega (arith, w.0, old), omega (arith, w.1, old)) in
    omega (arith, range)

pub loop-i-preserved : goal.loop-i-preserved
loop-i-preserved c =
    let old : c.from-old.result ≡ get_or (old_numbers c.args.pairs.now) c.loop-i.i 0 = let P = c.args.pairs.now in
    c.from-old.ensures ∙ sym (olds_at P c.loop-i.i (omega (arith, olds_length P))) in
    let P = c.args.pairs.now in
    record {
      inside = omega (arith, olds_length P);
      same_length = length-set c.loop-i.numbers _ _ ∙ c.loop-i.invariant.same_length;
      words_are = puts-step (word_of 0 (old_numbers P)) (new_at P) c.args.numbers.now c.loop-i.invariant.words_are (omega (arith, old)) refl;
    }

pub returns : goal.returns
returns c =
    let P = c.args.pairs.now in
    let W = c.args.numbers.now in
    let e : c.loop-i.i ≡ length (old_numbers P) = omega (arith, olds_length P, c.loop-i.invariant.inside) in
    c.loop-i.invariant.words_are ∙ ap (puts_of P W) e ∙ ap (λ (w : List ℕ). puts_of P w (length (old_numbers P))) c.requires.numbers_value ∙ puts-all (length W) P c.requires.pairs_value

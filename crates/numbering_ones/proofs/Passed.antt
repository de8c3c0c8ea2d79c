-- Words summed up and set to 0 as they are passed. Assumes nothing.
use mathlib.Core.Path.{◌≡◌, ap, ◌∙◌}
use mathlib.Core.List.{List, ◌++◌}
use Prim.Native.Nat.{ℕ, ◌+◌, ◌-◌, ◌<◌}
use native.Mathlib.Numerals.{add-one}
use native.Mathlib.Omega.{arith}
use lib.ListN.{length, get_or, take, drop, replicate, length-replicate}
use lib.Seq.{get_or-drop}
use Rattle.basis.specs.Lists.{sum}
use Rattle.basis.proofs.Index.{get_or_right}
use Rattle.basis.proofs.Sums.{sum-take}

-- the sum up to the next word
pub take_more : (l : List ℕ) (i : ℕ) → i < length l → sum (take (i + 1) l) ≡ sum (take i l) + get_or l i 0
take_more l i h = ap (λ (k : ℕ). sum (take k l)) (add-one i) ∙ sum-take l i h

-- the word at i, of a list of which the words before i were set to 0
pub word-ahead : (C c : List ℕ) (i : ℕ) → c ≡ replicate i 0 ++ drop i C → get_or c i 0 ≡ get_or C i 0
word-ahead C c i e =
    let Z : List ℕ = replicate i 0 in
    let z : length Z ≡ i = length-replicate i 0 in
    let n : i + (i - length Z) ≡ i = omega arith in
    ap (λ (l : List ℕ). get_or l i 0) e ∙ get_or_right 0 Z (drop i C) i (omega arith) ∙ get_or-drop i C (i - length Z) 0 ∙ ap (λ (k : ℕ). get_or C k 0) n

-- The n words that were lent, after the test of a numbering: the nodes in the order of their numbers. Assumes nothing.
use mathlib.Core.Path.{◌≡◌, sym, ap, ◌∙◌}
use mathlib.Core.Bool.{Bool, true, cond}
use mathlib.Core.List.{List, ◌++◌, append-nil}
use Prim.Native.Nat.{ℕ}
use lib.ListN.{length, drop}
use lib.Seq.{drop-length}
use Rattle.basis.specs.Lists.{overwrite}
use Rattle.spec.specs.Lent.{zeroed}
use Rattle.spec.specs.Measures.{is_numbering, order_of}
use Rattle.laws.proofs.Numberings.{numbering_length}
use Rattle.graph_envelope.proofs.Lent.{length-order_of}

-- the order takes the place of all of them
order_fills : (X W : List ℕ) → length W ≡ length X → overwrite (order_of X) W ≡ order_of X
order_fills X W len =
    ap (λ (k : ℕ). order_of X ++ drop k W) (length-order_of X)
    ∙ ap (λ (k : ℕ). order_of X ++ drop k W) (sym len)
    ∙ ap (λ (l : List ℕ). order_of X ++ l) (drop-length W)
    ∙ append-nil (order_of X)

pub order_made : (n : ℕ) (X W : List ℕ) {v : List ℕ} {r : Bool} → is_numbering n X ≡ true → length W ≡ n
    → r ≡ is_numbering (length X) X
    → v ≡ cond r (overwrite (order_of X) W) (zeroed (length X) W)
    → v ≡ order_of X
order_made n X W ok len er ev =
    let l : length X ≡ n = numbering_length n X ok in
    ev
    ∙ ap (λ (b : Bool). cond b (overwrite (order_of X) W) (zeroed (length X) W)) (er ∙ ap (λ (k : ℕ). is_numbering k X) l ∙ ok)
    ∙ order_fills X W (len ∙ sym l)

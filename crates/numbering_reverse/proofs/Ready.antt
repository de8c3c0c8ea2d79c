-- A part's order in the working words before, and after, the unknowns ahead are put. Assumes nothing.
use mathlib.Core.Path.{◌≡◌, sym, ap, ◌∙◌, subst}
use mathlib.Core.List.{List, ◌++◌}
use Prim.Native.Nat.{ℕ, ◌+◌, ◌≤◌}
use native.Mathlib.Omega.{arith}
use lib.ListN.{length, take, drop, replicate}
use Rattle.basis.specs.Stored.{stored, nought}
use Rattle.basis.proofs.Stored.{stored-zeros}
use Rattle.spec.specs.Graph.{size_of}
use Rattle.graph_words.specs.Erasable.{Erasable}
use Rattle.numbering_reverse.specs.Places.{segment, Listed, Part, Clean, Placed, Put}
use Rattle.numbering_reverse.proofs.Placing.{segment-length, put_all}
use Rattle.numbering_reverse.proofs.Spans.{part-listed, part_small}

module _ {S N : List ℕ} (n m : ℕ) (B : List ℕ) (size : n ≡ size_of S) (fit : n + m ≤ length B) (P : Part S N (segment n m B)) where
  pub ready_small : (m ≤ n) × (n ≤ 4096) × (n + m ≤ length B)
  ready_small = (omega (arith, part_small P, segment-length n m B fit), omega (arith, P.starts.few), fit)

  pub ready_listed : Listed n (segment n m B)
  ready_listed = subst (λ (k : ℕ). Listed k (segment n m B)) (sym size) (part-listed P)

  module _ (K W : List ℕ) (p : Put K n m B W m) where
    -- the order stands as before
    pub order_kept : segment n m W ≡ segment n m B
    order_kept = ap (take m) p.behind

    pub fit-after : n + m ≤ length W
    fit-after = omega (arith, p.long)

    pub part-after : Part S N (segment n m W)
    part-after = subst (λ (o : List ℕ). Part S N o) (sym order_kept) P

    listed-after : Listed n (segment n m W)
    listed-after = subst (λ (o : List ℕ). Listed n o) (sym order_kept) ready_listed

    pub placed-after : Placed K (segment n m W) W
    placed-after = subst (λ (o : List ℕ). Placed K o W) (sym order_kept) (put_all n m B fit K W p)

    -- the words can be taken away again, and the first n words are then 0
    pub erase_ask : Erasable 0 n m W
    erase_ask = record { held = fit-after; inside = λ z i. let r = listed-after.inside z i in (r.0, omega (arith, r.1)) }

    pub erased : Clean n (segment n m B) B → stored 0 nought W (segment n m W) ≡ replicate n 0 ++ drop n B
    erased c =
        stored-zeros n W (segment n m W) (omega (arith, fit-after)) listed-after.inside (subst (λ (o : List ℕ). Clean n o W) (sym order_kept) (p.clean c))
        ∙ ap (λ (l : List ℕ). replicate n 0 ++ l) p.behind

-- The nodes of a row that get a number, one after another: the loop of `append`. Assumes nothing.
use mathlib.Core.Path.{◌≡◌, refl, sym, ap, ◌∙◌}
use mathlib.Core.Bool.{Bool, true, false, ◌||◌, or-false}
use mathlib.Core.List.{List, [], ◌∷◌, ◌++◌, append_assoc, append-nil}
use Prim.Native.Nat.{ℕ, suc, ◌+◌, ◌≤◌, ◌<◌}
use native.Mathlib.Omega.{arith}
use native.Mathlib.Numerals.{add-one}
use lib.ListN.{length, drop, get_or, length-append}
use lib.Seq.{drop-cons}
use lib.Dec.{ltb}
use borrow.Author.Tests.{ne_eqb, eqb-true}
use Rattle.basis.specs.Lists.{filterb, chainb, memb}
use Rattle.basis.specs.Perm.{Once}
use Rattle.basis.proofs.Count.{filter_once}
use Rattle.basis.proofs.Index.{memb-get_or}
use Rattle.basis.proofs.Lists.{memb-append, memb-one, filter_in, filter_cong}
use Rattle.basis.proofs.Logic.{by_test}
use Rattle.basis.proofs.Rise.{rise_head, rise_once}
use Rattle.basis.proofs.Sort.{chain_tail}
use Rattle.levels_sort.specs.Nodes.{Nodes}
use Rattle.numbering_order.specs.Model.{order_in, Listed, Open, Became, Far, free}
use Rattle.numbering_order.proofs.Listed.{listed-append}
use Rattle.numbering_order.proofs.Words.{At, open_at, at-order, at_open, at_next, far_same, far_on}
use Rattle.numbering_order.proofs.Offer.{free_new}

module _ (L : List ℕ) (i : ℕ) where
  pub free-listed : {n : ℕ} {o : List ℕ} (l : List ℕ) → Listed n o → Nodes n l → Once l → Listed n (o ++ filterb (free L i o) l)
  free-listed {n} {o} l A N u =
      listed-append A
      (record { once = filter_once (free L i o) l u; inside = λ z m. N z (filter_in (free L i o) l z m).0 })
      (λ x m. free_new L i o x (filter_in (free L i o) l x m).1)

  -- the first of a row, then the others
  pub free_step : (o : List ℕ) (q : ℕ) (l : List ℕ) → chainb ltb (q ∷ l) ≡ true
      → (o ++ filterb (free L i o) (q ∷ [])) ++ filterb (free L i (o ++ filterb (free L i o) (q ∷ []))) l ≡ o ++ filterb (free L i o) (q ∷ l)
  free_step o q l c = by_test (free L i o q) yes no
    where
      yes : free L i o q ≡ true → (o ++ filterb (free L i o) (q ∷ [])) ++ filterb (free L i (o ++ filterb (free L i o) (q ∷ []))) l ≡ o ++ filterb (free L i o) (q ∷ l)
      yes e = rw e (append_assoc o (q ∷ []) (filterb (free L i (o ++ (q ∷ []))) l) ∙ ap (λ (k : List ℕ). o ++ (q ∷ k)) (filter_cong (free L i (o ++ (q ∷ []))) (free L i o) l same))
        where
          same : (x : ℕ) → memb x l ≡ true → free L i (o ++ (q ∷ [])) x ≡ free L i o x
          same x m =
              let h : q < x = rise_head q l c x m in
              let f : memb x (o ++ (q ∷ [])) ≡ memb x o =
              memb-append x o (q ∷ []) ∙ ap (λ (b : Bool). memb x o || b) (memb-one x q ∙ ne_eqb x q (λ s. omega arith)) ∙ or-false (memb x o) in
              rw f

      no : free L i o q ≡ false → (o ++ filterb (free L i o) (q ∷ [])) ++ filterb (free L i (o ++ filterb (free L i o) (q ∷ []))) l ≡ o ++ filterb (free L i o) (q ∷ l)
      no e = rw e (rw (append-nil o))

-- the row from j on is still to be offered
pub record Appending (row : List ℕ) (n at : ℕ) (W₀ : List ℕ) (t i : ℕ) (W : List ℕ) (e j : ℕ) : Type 0 where
  pub order : List ℕ
  pub now : At n order (drop n W₀) W e
  pub nodes : Nodes n row
  pub rises : chainb ltb (drop j row) ≡ true
  pub most : j ≤ length row
  pub room : n + n ≤ length W₀
  pub behind : Far n at W₀
  pub size : length W ≡ length W₀
  pub goes : order ++ filterb (free (drop at W₀) i order) (drop j row) ≡ order_in n t W₀ ++ filterb (free (drop at W₀) i (order_in n t W₀)) row

pub append_begin : {row : List ℕ} {n at : ℕ} {W : List ℕ} {t : ℕ} (i : ℕ) → Open n t W → Far n at W → Nodes n row → chainb ltb row ≡ true
    → Appending row n at W t i W t 0
append_begin i O F N c = record {
  order = _;
  now = open_at O;
  nodes = N;
  rises = c;
  most = omega arith;
  room = O.room;
  behind = F;
  size = refl;
  goes = refl;
}

module _ {row : List ℕ} {n at : ℕ} {W₀ : List ℕ} {t i : ℕ} {W : List ℕ} {e j : ℕ} (I : Appending row n at W₀ t i W e j) where
  same_levels : drop at W ≡ drop at W₀
  same_levels = far_same I.behind I.now

  pub append_far : Far n at W
  append_far = far_on (omega (arith, I.room)) I.behind I.now

  pub append_open : Open n e W
  append_open = at_open I.now

  module _ (h : j < length row) where
    pub row_node : (1 ≤ get_or row j 0) × (get_or row j 0 ≤ n)
    row_node = I.nodes (get_or row j 0) (memb-get_or row j h)

    split : drop j row ≡ get_or row j 0 ∷ drop (suc j) row
    split = drop-cons row j 0 h

    pub append-step : {e' : ℕ} {W' : List ℕ} → length W' ≡ length W
        → Became n W (order_in n e W ++ filterb (free (drop at W) i (order_in n e W)) (get_or row j 0 ∷ [])) e' W' → Appending row n at W₀ t i W' e' (j + 1)
    append-step {e'} {W'} s B =
        let q : ℕ = get_or row j 0 in
        let o' : List ℕ = I.order ++ filterb (free (drop at W₀) i I.order) (q ∷ []) in
        let c : chainb ltb (q ∷ drop (suc j) row) ≡ true = rw split at I.rises in record {
          order = o';
          now =
              at_next I.now
              (free-listed (drop at W₀) i (q ∷ []) I.now.listed (one q row_node) (rise_once (q ∷ []) refl))
              (omega (arith, length-append I.order (filterb (free (drop at W₀) i I.order) (q ∷ []))))
              (rw (at-order I.now, same_levels) at B);
          nodes = I.nodes;
          rises = rw (add-one j) (chain_tail ltb q (drop (suc j) row) c);
          most = omega arith;
          room = I.room;
          behind = I.behind;
          size = s ∙ I.size;
          goes = rw (add-one j) (free_step (drop at W₀) i I.order q (drop (suc j) row) c ∙ ap (λ (k : List ℕ). I.order ++ filterb (free (drop at W₀) i I.order) k) (sym split) ∙ I.goes);
        }
      where
        one : (q : ℕ) → (1 ≤ q) × (q ≤ n) → Nodes n (q ∷ [])
        one q w z m = rw (eqb-true z q (sym (memb-one z q) ∙ m)) w

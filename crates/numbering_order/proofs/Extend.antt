-- What one node finds along its row: sorted (`sort_tail`), and so added to the order (`extend`). Assumes nothing.
use mathlib.Core.Path.{◌≡◌, sym, ap, ap₂, ◌∙◌}
use mathlib.Core.Bool.{true}
use mathlib.Core.List.{List, ◌++◌}
use Prim.Native.Nat.{ℕ, ◌+◌, ◌-◌, ◌≤◌}
use native.Mathlib.Omega.{arith}
use lib.ListN.{length, take, drop, length-append, length-drop, take-append-drop}
use lib.Seq.{drop-drop, take_at, drop_at, drop-append-le, length-take-le}
use lib.Dec.{ltb}
use borrow.Rule.Slice.PartMut.{mid_of, put_mid, Post-is}
use Rattle.basis.specs.Lists.{filterb, chainb, memb}
use Rattle.basis.specs.Perm.{Perm}
use Rattle.basis.proofs.Lists.{memb-drop}
use Rattle.basis.proofs.Perm.{perm_append, perm_refl, perm_length}
use Rattle.basis.proofs.Rise.{rise_once}
use Rattle.spec.specs.Graph.{Graph, adjoins, graph_of, graph_refusal, row_of, size_of, sort_e}
use Rattle.laws.proofs.Refused.{not_refused}
use Rattle.laws.proofs.Orders.{perm_sort_e}
use Rattle.levels_sort.specs.Nodes.{Nodes}
use Rattle.numbering_order.specs.Model.{stand, order_in, Listed, Open, Became, free, found_by, add_by}
use Rattle.numbering_order.proofs.Listed.{listed_perm}
use Rattle.numbering_order.proofs.Words.{stand_behind, stand_again, stand_perm, At, open_at, at-order, at_open, at_next}
use Rattle.numbering_order.proofs.Append.{free-listed}

-- ---- sorted

module _ {n : ℕ} {o R W : List ℕ} {e : ℕ} (A : At n o R W e) (t : ℕ) (h : t ≤ e) where
  front : length (take t o) ≡ t
  front = length-take-le t o (omega (arith, A.count))

  span : length (drop t o) ≡ n + e - (n + t)
  span = length-drop t o ∙ omega (arith, A.count)

  -- the words of the numbers after t
  pub tail_part : mid_of (n + t) (n + e - (n + t)) W ≡ drop t o
  tail_part =
      let d : drop (n + t) W ≡ drop t o ++ drop (length o) R =
      sym (drop-drop t n W) ∙ ap (drop t) (ap (drop n) A.is ∙ stand_behind n o R) ∙ drop-append-le t o (drop (length o) R) (omega (arith, A.count)) in
      ap (take (n + e - (n + t))) d ∙ take_at (drop t o) (drop (length o) R) (n + e - (n + t)) span

  pub tail_put : {s : List ℕ} → Perm s (drop t o) → put_mid (n + t) (n + e - (n + t)) W s ≡ stand n (take t o ++ s) R
  tail_put {s} P =
      let j : take t o ++ drop t o ≡ o = take-append-drop t o in
      let a : n + length (take t o) ≡ n + t = ap (λ (k : ℕ). n + k) front in
      let b : n + length (take t o ++ drop t o) ≡ n + e = ap (λ (k : List ℕ). n + length k) j ∙ ap (λ (k : ℕ). n + k) (sym A.count) in
      let w : stand n (take t o ++ drop t o) R ≡ W = ap (λ (k : List ℕ). stand n k R) j ∙ sym A.is in
      let q = stand_perm n (take t o) (drop t o) s R P in
      sym ((rw (a, b, w) at q) ∙ ap (λ (k : List ℕ). take (n + t) W ++ (s ++ k)) (sym (Post-is (n + t) (n + e) W (omega arith))))

-- of a slice's contents: what is lent are nodes, and it comes back sorted
pub tail_nodes : {n k e : ℕ} {W : List ℕ} → n ≡ k → Open n e W → (t : ℕ) → t ≤ e → Nodes k (mid_of (n + t) (n + e - (n + t)) W)
tail_nodes {n} {k} {e} {W} q O t h z m =
    let o : List ℕ = order_in n e W in
    let d : memb z (drop t o) ≡ true = ap (memb z) (sym (tail_part (open_at O) t h)) ∙ m in
    rw (← q) (O.listed.inside z (memb-drop z t o d))

pub tail_done : {n e : ℕ} {W : List ℕ} → Open n e W → (t : ℕ) → t ≤ e → (g : Graph) (s : List ℕ) → s ≡ sort_e g (mid_of (n + t) (n + e - (n + t)) W)
    → put_mid (n + t) (n + e - (n + t)) W s ≡ stand n (take t (order_in n e W) ++ sort_e g (drop t (order_in n e W))) (drop n W)
tail_done {n} {e} {W} O t h g s q =
    let o : List ℕ = order_in n e W in
    let r : s ≡ sort_e g (drop t o) = q ∙ ap (sort_e g) (tail_part (open_at O) t h) in
    ap (put_mid (n + t) (n + e - (n + t)) W) r ∙ tail_put (open_at O) t h (perm_sort_e g (drop t o))

-- what w finds has been added and sorted
pub extend_done : {n t : ℕ} {W : List ℕ} (S N : List ℕ) (at i : ℕ) → Open n t W → {a w : ℕ} → a ≡ w → {l : List ℕ} → l ≡ row_of S N a → Nodes n l → chainb ltb l ≡ true
    → {e : ℕ} {W₁ : List ℕ} → Became n W (order_in n t W ++ filterb (free (drop at W) i (order_in n t W)) l) e W₁
    → {W₂ : List ℕ} → W₂ ≡ stand n (take t (order_in n e W₁) ++ sort_e (graph_of S N) (drop t (order_in n e W₁))) (drop n W₁)
    → Became n W (add_by (found_by (graph_of S N) (drop at W) i) (order_in n t W) w) e W₂
unfolding found_by
extend_done {n} {t} {W} S N at i O {a} {w} q {l} r Z c {e} {W₁} B {W₂} s =
    let o : List ℕ = order_in n t W in
    let F : List ℕ = filterb (free (drop at W) i o) l in
    let A = open_at O in
    let A₁ : At n (o ++ F) (drop n W) W₁ e = at_next A (free-listed (drop at W) i l O.listed Z (rise_once l c)) (omega (arith, length-append o F)) B in
    let f : take t (order_in n e W₁) ≡ o = ap (take t) (at-order A₁) ∙ take_at o F t (sym A.count) in
    let d : drop t (order_in n e W₁) ≡ F = ap (drop t) (at-order A₁) ∙ drop_at o F t (sym A.count) in
    let P = perm_sort_e (graph_of S N) F in
    let m : length (o ++ sort_e (graph_of S N) F) ≡ length (o ++ F) = length-append o (sort_e (graph_of S N) F) ∙ ap (λ (k : ℕ). length o + k) (perm_length P) ∙ sym (length-append o F) in
    let g : F ≡ filterb (free (drop at W) i o) (row_of S N w) = ap (filterb (free (drop at W) i o)) (r ∙ ap (row_of S N) q) in
    rw (← g) (record {
      count = B.count ∙ sym m;
      is =
          s ∙ ap₂ (λ (x : List ℕ) (y : List ℕ). stand n (x ++ sort_e (graph_of S N) y) (drop n W₁)) f d
          ∙ ap (λ (k : List ℕ). stand n (o ++ sort_e (graph_of S N) F) (drop n k)) A₁.is
          ∙ stand_again n (o ++ F) (drop n W) (o ++ sort_e (graph_of S N) F) (omega (arith, m));
    })

-- what was added is as long as it says, and stands ready to be sorted
pub extend_open : {n t : ℕ} {W : List ℕ} (l : List ℕ) (at i : ℕ) → Open n t W → Nodes n l → chainb ltb l ≡ true
    → {e : ℕ} {W₁ : List ℕ} → Became n W (order_in n t W ++ filterb (free (drop at W) i (order_in n t W)) l) e W₁ → Open n e W₁ × (t ≤ e)
extend_open {n} {t} {W} l at i O Z c {e} {W₁} B =
    let o : List ℕ = order_in n t W in
    let F : List ℕ = filterb (free (drop at W) i o) l in
    let A = open_at O in
    let A₁ : At n (o ++ F) (drop n W) W₁ e = at_next A (free-listed (drop at W) i l O.listed Z (rise_once l c)) (omega (arith, length-append o F)) B in
    (at_open A₁, omega (arith, A.count, A₁.count, length-append o F))

-- ---- a legal graph's rows

-- a row holds nodes and rises
pub row_fine : (S N : List ℕ) → graph_refusal S N ≡ 0 → {n : ℕ} → n ≡ size_of S → (w : ℕ) {l : List ℕ} → l ≡ row_of S N w → Nodes n l × (chainb ltb l ≡ true)
unfolding adjoins
row_fine S N ok q w e = (
  λ z m. let Z = (not_refused S N ok).inside w z (rw e at m) in (Z.low, rw q Z.high),
  rw e ((not_refused S N ok).rises w),
)

-- the order after it has no node twice
pub found-listed : {n : ℕ} (g : Graph) (L : List ℕ) (i : ℕ) (o : List ℕ) (w : ℕ) → Listed n o → Nodes n (g.row w) → chainb ltb (g.row w) ≡ true
    → Listed n (add_by (found_by g L i) o w)
unfolding found_by
found-listed g L i o w A Z c =
    let F : List ℕ = filterb (free L i o) (g.row w) in
    listed_perm (perm_append (perm_refl o) (perm_sort_e g F)) (free-listed L i (g.row w) A Z (rise_once (g.row w) c))

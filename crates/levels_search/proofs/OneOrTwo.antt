-- One node visited, and two, in levels and queue of one list: what `visit_one` and `visit_two` do. Assumes nothing.
use mathlib.Core.Path.{◌≡◌, sym, ◌∙◌, subst}
use mathlib.Core.Bool.{cond}
use mathlib.Core.List.{List, [], ◌∷◌}
use Prim.Native.Nat.{ℕ, ◌+◌, ◌-◌, ◌≤◌, ◌<◌}
use native.Mathlib.Omega.{arith}
use lib.ListN.{length, take, drop, get_or, set, length-set}
use lib.Seq.{get_or-take, get_or-set_other}
use lib.Dec.{eqb}
use Rattle.basis.specs.Lists.{bit}
use Rattle.basis.proofs.Logic.{by_test}
use Rattle.spec.specs.Graph.{of_node}
use Rattle.laws.proofs.Legal.{of_node-at}
use Rattle.levels_search.specs.Marks.{within}
use Rattle.levels_search.specs.Queue.{Pushed, Lent, Moved}
use Rattle.levels_search.proofs.Pushed.{pushed-one, pushed_room, pushed-old, pushed-append, pushed_ready}
use Rattle.levels_search.proofs.Halves.{write_front, write_behind, front_length, behind_length}

module _ {n : ℕ} {W : List ℕ} {tail j : ℕ} (R : Lent n W tail j) where
  lent_next : {vs W' : List ℕ} {t : ℕ} → within n vs → length W' ≡ length W → Moved n vs j W tail W' t → Lent n W' t j
  lent_next {vs} w e P =
      record { size = e ∙ R.size; ready = pushed_ready R.ready P (subst (λ (m : ℕ). within m vs) (sym (front_length n W R.size)) w) }

  module _ {v : ℕ} (lo : 1 ≤ v) (hi : v ≤ n) where
    -- the word of v
    abbrev w : ℕ
    w = get_or W (v - 1) 0

    level_is : of_node (take n W) v ≡ w
    level_is = of_node-at (take n W) v lo ∙ get_or-take n W (v - 1) 0 (omega arith)

    high : v ≤ length (take n W)
    high = omega (arith, front_length n W R.size)

    pub has_room : w ≡ 0 → tail < n
    has_room e = omega (arith, pushed_room R.ready lo high (level_is ∙ e), behind_length n W R.size)

    -- its word and the one where the queue ends are written
    pub one : tail < n → Moved n (v ∷ []) j W tail (set (set W (v - 1) (cond (eqb w 0) j w)) (n + tail) v) (tail + bit (eqb w 0))
    one h =
        rw (write_front n W (v - 1) tail (cond (eqb w 0) j w) v (omega arith), write_behind n W (v - 1) tail (cond (eqb w 0) j w) v (omega arith))
        (subst
        (λ (x : ℕ). Pushed (v ∷ []) j (take n W) (drop n W) tail (set (take n W) (v - 1) (cond (eqb x 0) j x)) (set (drop n W) tail v) (tail + bit (eqb x 0)))
        level_is (pushed-one R.ready v lo (omega (arith, behind_length n W R.size))))

    pub old : (w ≡ 0 → ⊥) → Moved n (v ∷ []) j W tail W tail
    old e = pushed-old R.ready v (λ z. e (sym level_is ∙ z))

-- two nodes, of which the second's word is read before the first's is written
module _ {n : ℕ} {W : List ℕ} {tail j : ℕ} (R : Lent n W tail j) {u v : ℕ} (lo : 1 ≤ u) (lt : u < v) (hi : v ≤ n) (h : tail + 1 < n) where
  abbrev x : ℕ
  x = get_or W (u - 1) 0

  abbrev y : ℕ
  y = get_or W (v - 1) 0

  abbrev t : ℕ
  t = tail + bit (eqb x 0)

  abbrev X : List ℕ
  X = set (set W (u - 1) (cond (eqb x 0) j x)) (n + tail) u

  t_in : t < n
  t_in = by_test (eqb x 0) (λ e. rw e (omega arith)) (λ e. rw e (omega arith))

  y_is : get_or X (v - 1) 0 ≡ y
  y_is =
      get_or-set_other (set W (u - 1) (cond (eqb x 0) j x)) (n + tail) (v - 1) u 0 (λ e. omega arith)
      ∙ get_or-set_other W (u - 1) (v - 1) (cond (eqb x 0) j x) 0 (λ e. omega arith)

  pub two : Moved n (u ∷ v ∷ []) j W tail (set (set X (v - 1) (cond (eqb y 0) j y)) (n + t) v) (t + bit (eqb y 0))
  two =
      let P = one R lo (omega arith) (omega arith) in
      let size : length X ≡ length W = length-set (set W (u - 1) (cond (eqb x 0) j x)) (n + tail) u ∙ length-set W (u - 1) (cond (eqb x 0) j x) in
      let R' : Lent n X t j = lent_next R (lo, omega arith, tt) size P in
      rw y_is at (pushed-append R.ready P (one R' (omega arith) hi t_in))

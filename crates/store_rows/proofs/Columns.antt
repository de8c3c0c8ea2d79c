-- The first columns, filled node after node by old number. Assumes nothing.
use mathlib.Core.Path.{◌≡◌, sym, ap, ap₂, ◌∙◌, subst}
use mathlib.Core.Logic.{◌⊎◌, inl, inr, ⊎_elim}
use mathlib.Core.Bool.{true, false}
use mathlib.Core.List.{List, ◌++◌, append_assoc}
use Prim.Native.Nat.{ℕ, suc, ◌+◌, ◌-◌, ◌*◌, ◌≤◌, ◌<◌}
use native.Mathlib.Omega.{arith}
use lib.ListN.{length, get_or, take, drop, length-drop, replicate, length-replicate, get_or-replicate}
use lib.Seq.{sets, sets-eq, drop-drop, ext_get_or, length-sets, length-take-le}
use Rattle.basis.specs.Lists.{sum}
use Rattle.basis.proofs.Logic.{eq_or_ne, lt_or_le}
use Rattle.basis.proofs.Next.{sets_before, sets_behind, sets_at}
use Rattle.spec.specs.Graph.{Graph, of_node}
use Rattle.spec.specs.Measures.{is_numbering, order_of, renumbered, first_in}
use Rattle.spec.specs.StoreMap.{first_columns}
use Rattle.spec.specs.Unknowns.{bad_counts, owners, renumbered_unknowns}
use Rattle.laws.specs.Legal.{Node, LegalGraph}
use Rattle.laws.specs.Unknowns.{unknowns_before, Owns, node_width}
use Rattle.laws.proofs.ByTest.{renumbered_legal}
use Rattle.laws.proofs.Legal.{of_node-at}
use Rattle.laws.proofs.Places.{first_le}
use Rattle.laws.proofs.Renumber.{number_node, node_of_number, number-of_node, order_node, renumbered_size}
use Rattle.laws.proofs.StoreMap.{columns_length, column_at}
use Rattle.laws.proofs.UnknownBounds.{counts_size, renumbered_unknowns_size}
use Rattle.laws.proofs.UnknownMeasures.{first_node, unknown_first}
use Rattle.laws.proofs.Unknowns.{before_mono, owner_owns, owner_is, owns_range, unknowns_size}
use Rattle.graph_envelope.specs.Aheads.{aheads}
use Rattle.graph_envelope.proofs.InUnknowns.{new_counts, new_node, big_is, new-counted, count_is, count_few, ahead_is, before_most, width_is}

-- ---- one value, some words from a place on

-- a part in the middle that was filled is a run of stores
pub filled-run : (at k v : ℕ) (W : List ℕ) {F : List ℕ} → at + k ≤ length W → F ≡ replicate (length (take k (drop at W))) v
    → take at W ++ (F ++ drop k (drop at W)) ≡ sets W at (replicate k v)
filled-run at k v W {F} h e =
    let front : length (take k (drop at W)) ≡ k = length-take-le k (drop at W) (omega (arith, length-drop at W)) in
    let rest : drop k (drop at W) ≡ drop (at + length (replicate k v)) W = drop-drop k at W ∙ ap (λ (m : ℕ). drop m W) (omega (arith, length-replicate {A = ℕ} k v)) in
    ap₂ (λ (l r : List ℕ). take at W ++ (l ++ r)) (e ∙ ap (λ (m : ℕ). replicate m v) front) rest
    ∙ sym (append_assoc (take at W) (replicate k v) (drop (at + length (replicate k v)) W))
    ∙ sym (sets-eq (replicate k v) W at (omega (arith, length-replicate {A = ℕ} k v)))

-- ---- the rows of the nodes passed

-- those of the nodes 1 .. p have their first columns
pub record Filled (g : Graph) (K x : List ℕ) (p : ℕ) (first : List ℕ) : Type 0 where
  pub size : length first ≡ sum K
  pub done : (a y : ℕ) → 1 ≤ a → a ≤ p → Owns (new_counts K x) (of_node x a) y → get_or first (y - 1) 0 ≡ first_in (renumbered_unknowns g K x) y

-- of node a: where its rows are, and how wide the first of them is
pub record Placed (g : Graph) (K x : List ℕ) (a at c w : ℕ) : Type 0 where
  pub at_is : at ≡ unknowns_before (new_counts K x) (of_node x a)
  pub low : w ≤ at
  pub low_is : at - w + 1 ≡ suc (unknowns_before (new_counts K x) (first_in (renumbered g x) (of_node x a)))
  pub small : at ≤ 6 * g.size
  pub room : at + c ≤ sum K

module _ {g : Graph} (G : LegalGraph g) (K : List ℕ) (fit : bad_counts g.size K ≡ false) (x : List ℕ) (ok : is_numbering g.size x ≡ true) where
  abbrev big : Graph
  big = renumbered_unknowns g K x

  abbrev cs : List ℕ
  cs = new_counts K x

  rows_all : sum cs ≡ sum K
  rows_all = sym (unknowns_size (renumbered g x) cs) ∙ sym (ap (λ (h : Graph). h.size) (big_is G x ok K fit)) ∙ renumbered_unknowns_size g K x (counts_size g.size K fit) ok

  -- the unknowns of node a, by the number of the node
  abbrev Of : ℕ → ℕ → Type 0
  Of a y = Owns cs (of_node x a) y

  -- the number of the first of them, less 1
  abbrev before : ℕ → ℕ
  before a = unknowns_before cs (of_node x a)

  module _ (a : ℕ) (A : Node g a) where
    abbrev f : ℕ
    f = first_in (renumbered g x) (of_node x a)

    number_is : Node (renumbered g x) (of_node x a)
    number_is = new_node G x ok (number_node G x ok a A)

    counts_long : length cs ≡ g.size
    counts_long = (new-counted G x ok K fit).size ∙ renumbered_size G x ok

    -- f is no later than the number, and so are its unknowns
    f-before : unknowns_before cs f ≤ before a
    f-before =
        let F = first_node (renumbered_legal G x) (of_node x a) number_is in
        before_mono cs f (of_node x a) F.low (first_le (renumbered g x) (of_node x a)) (omega (arith, number_is.high, counts_long, renumbered_size G x ok))

    -- the i-th of its unknowns
    own : (i : ℕ) → i < of_node K a → Of a (suc (before a + i))
    own i h = record {
      low = number_is.low;
      high = omega (arith, number_is.high, counts_long, renumbered_size G x ok);
      after = omega arith;
      upto = omega (arith, count_is G x ok K fit a A);
    }

    -- there is a row for each
    rows_room : before a + of_node K a ≤ sum K
    rows_room =
        let c = (count_few G x ok K fit a A).0 in
        let e : suc (before a + (of_node K a - 1)) ≡ before a + of_node K a = omega arith in
        omega (arith, (owns_range cs (of_node x a) (suc (before a + (of_node K a - 1))) (own (of_node K a - 1) (omega arith))).1, rows_all)

    -- as the code finds them: the words hold the unknowns ahead of each number
    pub placed : {words : List ℕ} {q at c w : ℕ} → words ≡ aheads K (order_of x) → q ≡ of_node x a → at ≡ of_node words q → c ≡ of_node K a
        → w ≡ of_node words (of_node x a) - of_node words f → Placed g K x a at c w
    unfolding node_width
    placed {words} ew eq ea ec es =
        let at_is = ea ∙ ap (of_node words) eq ∙ ap (λ (l : List ℕ). of_node l (of_node x a)) ew ∙ ahead_is G x ok K fit (of_node x a) (number_node G x ok a A) in
        let wide = es ∙ ap (λ (l : List ℕ). of_node l (of_node x a) - of_node l f) ew ∙ width_is G x ok K fit a A in
        record {
          at_is = at_is;
          low = omega (arith, at_is, wide, f-before);
          low_is = omega (arith, at_is, wide, f-before);
          small = omega (arith, at_is, before_most G x ok K fit (of_node x a) (number_node G x ok a A));
          room = omega (arith, at_is, ec, rows_room);
        }

    -- the rows of the node begin there
    low_first : (y : ℕ) → Of a y → first_in big y ≡ suc (unknowns_before cs f)
    low_first y o = ap (λ (h : Graph). first_in h y) (big_is G x ok K fit) ∙ unknown_first (renumbered_legal G x) (new-counted G x ok K fit) (of_node x a) y o

  -- the node after the first i, whose count stands at i
  pub next_node : (i : ℕ) → i < length K → Node g (i + 1)
  next_node i h = record { low = omega arith; high = omega (arith, counts_size g.size K fit) }

  pub next_count : {c : ℕ} (i : ℕ) → c ≡ get_or K i 0 → c ≡ of_node K (i + 1)
  next_count i e =
      let z : i + 1 - 1 ≡ i = omega arith in
      e ∙ sym (of_node-at K (i + 1) (omega arith) ∙ ap (λ (k : ℕ). get_or K k 0) z)

  pub filled_begin : (first : List ℕ) → length first ≡ sum K → Filled g K x 0 first
  filled_begin first e = record { size = e; done = λ a y lo hi. absurd (omega arith) }

  -- one node more
  pub filled-step : (p : ℕ) (first : List ℕ) → Filled g K x p first → p < g.size → {at c low : ℕ} {after : List ℕ}
      → at ≡ before (p + 1) → c ≡ of_node K (p + 1) → low ≡ suc (unknowns_before cs (first_in (renumbered g x) (of_node x (p + 1))))
      → after ≡ sets first at (replicate c low)
      → Filled g K x (p + 1) after
  filled-step p first I h {at} {c} {low} ea ec el e = record {
    size = ap length e ∙ length-sets first at (replicate c low) ∙ I.size;
    done = λ a y lo hi o. ap (λ (l : List ℕ). get_or l (y - 1) 0) e ∙ which a y lo hi o (eq_or_ne a (p + 1));
  }
    where
      new : Node g (p + 1)
      new = record { low = omega arith; high = omega arith }

      room : at + length (replicate c low) ≤ length first
      room = omega (arith, length-replicate {A = ℕ} c low, I.size, rows_room (p + 1) new, ea, ec)

      -- a row of this node
      here : (y : ℕ) → Of (p + 1) y → get_or (sets first at (replicate c low)) (y - 1) 0 ≡ first_in big y
      here y o =
          let u = count_is G x ok K fit (p + 1) new in
          let i : at + (y - 1 - at) ≡ y - 1 = omega (arith, ea, o.after) in
          let l : y - 1 - at < c = omega (arith, ea, ec, u, o.after, o.upto) in
          ap (λ (k : ℕ). get_or (sets first at (replicate c low)) k 0) (sym i)
          ∙ sets_at first at (replicate c low) (y - 1 - at) room (omega (arith, length-replicate {A = ℕ} c low))
          ∙ get_or-replicate c (y - 1 - at) low 0 l
          ∙ el ∙ sym (low_first (p + 1) new y o)

      -- a row of a node before it, which has another number
      there : (a y : ℕ) → 1 ≤ a → a ≤ p → Of a y → (y - 1 < at) ⊎ (at + c ≤ y - 1)
      there a y lo hi o =
          ⊎_elim (λ (l : y - 1 < at). inl l)
          (λ (l : at ≤ y - 1).
          ⊎_elim
          (λ (k : y - 1 < at + c).
          let u = count_is G x ok K fit (p + 1) new in
          let m : Of (p + 1) y = record { low = (number_is (p + 1) new).low; high = (own (p + 1) new 0 (omega (arith, (count_few G x ok K fit (p + 1) new).0))).high; after = omega (arith, ea, o.after); upto = omega (arith, ea, ec, u) } in
          let q : of_node x a ≡ of_node x (p + 1) = sym (owner_is cs (of_node x a) y o) ∙ owner_is cs (of_node x (p + 1)) y m in
          let r : a ≡ p + 1 = sym (node_of_number G x ok a (record { low = lo; high = omega arith })) ∙ ap (of_node (order_of x)) q ∙ node_of_number G x ok (p + 1) new in
          absurd (omega arith))
          (λ (k : at + c ≤ y - 1). inr k)
          (lt_or_le (y - 1) (at + c)))
          (lt_or_le (y - 1) at)

      which : (a y : ℕ) → 1 ≤ a → a ≤ p + 1 → Of a y → (a ≡ p + 1) ⊎ (a ≡ p + 1 → ⊥) → get_or (sets first at (replicate c low)) (y - 1) 0 ≡ first_in big y
      which a y lo hi o (inl z) = here y (subst (λ (k : ℕ). Of k y) z o)
      which a y lo hi o (inr ne) =
          let l : a ≤ p = omega (arith, ne) in
          ⊎_elim (λ (k : y - 1 < at). sets_before first at (replicate c low) (y - 1) k)
          (λ (k : at + c ≤ y - 1). sets_behind first at (replicate c low) (y - 1) (omega (arith, length-replicate {A = ℕ} c low)))
          (there a y lo l o)
          ∙ I.done a y lo l o

  -- all
  pub filled_done : (p : ℕ) (first : List ℕ) → Filled g K x p first → p ≡ g.size → first ≡ first_columns big
  filled_done p first I e =
      ext_get_or 0 first (first_columns big) (I.size ∙ sym rows ∙ sym (columns_length big))
      (λ i l. at i (omega (arith, I.size)) ∙ sym (column_at big i (omega (arith, rows, I.size))))
    where
      rows : big.size ≡ sum K
      rows = renumbered_unknowns_size g K x (counts_size g.size K fit) ok

      at : (i : ℕ) → i < sum K → get_or first i 0 ≡ first_in big (suc i)
      at i l =
          let o = owner_owns cs (suc i) (omega arith) (omega (arith, rows_all)) in
          let Q : Node g (of_node (owners cs) (suc i)) = record { low = o.low; high = omega (arith, o.high, (new-counted G x ok K fit).size, renumbered_size G x ok) } in
          let A = order_node G x ok (of_node (owners cs) (suc i)) Q in
          let n = number-of_node G x ok (of_node (owners cs) (suc i)) Q in
          let z : i ≡ suc i - 1 = omega arith in
          ap (λ (k : ℕ). get_or first k 0) z
          ∙ I.done (of_node (order_of x) (of_node (owners cs) (suc i))) (suc i) A.low (omega (arith, A.high)) (subst (λ (q : ℕ). Owns cs q (suc i)) (sym n) o)

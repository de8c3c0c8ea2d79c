-- Passes over elements and over lists of them: what is left to do completes what is done. Assumes nothing.
use Rattle.std.proofs.Common.{◌≡◌, ℕ, zero, suc, ◌+◌, ◌*◌, ◌<◌, ◌≤◌, Bool, false, ◌||◌, eqb, ltb, List, length, get_or, take, drop, sym, refl, ap, ◌∙◌, subst, ⊎_elim, arith, length-drop, ltb-false, ne_eqb}
use mathlib.Core.Bool.{or_assoc, or-false}
use borrow.Author.Tests.{eqb-false}
use Rattle.basis.specs.Lists.{anyb, memb}
use Rattle.basis.proofs.Index.{memb-get_or}
use Rattle.basis.proofs.Lists.{any_none}
use Rattle.basis.proofs.Logic.{or_none}
use Rattle.spec.specs.Graph.{outside}
use Rattle.spec.specs.Mesh.{node_count, elements}
use Rattle.mesh_elements.proofs.Remains.{drop_next}
use Rattle.mesh_elements.proofs.Elements.{refusal_from, refusal_none, good_fits, good_inside, elements_next, elements_over}
use Rattle.mesh_rowset.specs.Set.{has, Empty, Covered, Added}
use Rattle.mesh_incidence.specs.Cells.{share, node_in, Sound, Cells, hold_in, held, Entered, Linked, Listed}
use Rattle.mesh_incidence.proofs.Chains.{hold_same, entered_none, entered_then}

-- ---- one element

-- a node that is not outside
inside_at : (n : ℕ) (nodes : List ℕ) (j : ℕ) → anyb (outside n) nodes ≡ false → j < length nodes → (1 ≤ get_or nodes j 0) × (get_or nodes j 0 ≤ n)
inside_at n nodes j e h =
    let w = or_none (eqb (get_or nodes j 0) 0) (ltb n (get_or nodes j 0)) (any_none (outside n) nodes (get_or nodes j 0) e (memb-get_or nodes j h)) in
    let z : get_or nodes j 0 ≡ 0 → ⊥ = eqb-false (get_or nodes j 0) 0 w.0 in
    (omega arith, ltb-false n (get_or nodes j 0) w.1)

-- an element that is not refused
pub sound_of : (n : ℕ) (ws : List ℕ) (at : ℕ) → n ≤ 4096 → at < length ws → refusal_from n (drop at ws) ≡ 0 → Sound ws at
sound_of n ws at few h e =
    let r = (refusal_none n ws at h e).0 in
    record {
      within = omega (arith, good_fits n (get_or ws at 0) (drop (at + 1) ws) r, length-drop (at + 1) ws);
      nodes = λ j l. let w = inside_at n (take (node_count (get_or ws at 0)) (drop (at + 1) ws)) j (good_inside n (get_or ws at 0) (drop (at + 1) ws) r) l in (w.0, omega (arith, w.1));
    }

-- an empty set is covered by no bit
pub covered_none : (bits : List ℕ) → Empty bits → Covered 0 bits
covered_none bits E = record { at = λ i h z. E.at i h }

-- ---- the nodes of an element are entered

-- the lists of the nodes before place j were hit, and those from j on complete them
pub record Entering (at base rows : ℕ) (nodes before : List ℕ) (cell j : ℕ) (after : List ℕ) (free : ℕ) : Type 0 where
  pub hit : ℕ → Bool
  pub entered : Entered at rows hit before cell after free
  pub rest : (k : ℕ) → k < rows → hit k || memb (base + suc k) (drop j nodes) ≡ memb (base + suc k) nodes

module _ (at base rows : ℕ) (nodes before : List ℕ) (cell : ℕ) where
  pub entering_begin : Cells rows before cell → Entering at base rows nodes before cell 0 before cell
  entering_begin C = record { hit = λ k. false; entered = entered_none C (λ k h. refl); rest = λ k h. refl }

  module _ (j : ℕ) (after : List ℕ) (free : ℕ) (E : Entering at base rows nodes before cell j after free) where
    pub entering_step : j < length nodes → (row : ℕ) → ((k : ℕ) → k < rows → eqb (base + suc k) (get_or nodes j 0) ≡ eqb k row)
        → (next : List ℕ) (free' : ℕ) → Entered at rows (λ k. eqb k row) after free next free' → Entering at base rows nodes before cell (j + 1) next free'
    entering_step h row e next free' F = record {
      hit = λ k. E.hit k || eqb k row;
      entered = entered_then E.entered F;
      rest = λ k l.
          or_assoc (E.hit k) (eqb k row) (memb (base + suc k) (drop (j + 1) nodes))
          ∙ ap (λ b. E.hit k || (b || memb (base + suc k) (drop (j + 1) nodes))) (sym (e k l))
          ∙ ap (λ (x : List ℕ). E.hit k || memb (base + suc k) x) (sym (drop_next nodes j h))
          ∙ E.rest k l;
    }

    -- a node whose place is past all rows
    pub entering_past : j < length nodes → (row : ℕ) → ((k : ℕ) → k < rows → eqb (base + suc k) (get_or nodes j 0) ≡ eqb k row) → rows ≤ row
        → Entering at base rows nodes before cell (j + 1) after free
    entering_past h row e past = entering_step h row e after free (entered_none E.entered.cells (λ k l. ne_eqb k row (λ s. absurd (omega (arith, s)))))

-- ---- all elements are entered

-- the lists hold the elements before place j, completed by those from j on
pub record Listing (n : ℕ) (ws : List ℕ) (base rows j : ℕ) (words : List ℕ) (free : ℕ) : Type 0 where
  pub cells : Cells rows words free
  pub sound : (c : ℕ) → 1 ≤ c → c < free → Sound ws (get_or words (rows + 2 * c) 0)
  pub good : refusal_from n (drop j ws) ≡ 0
  pub at : (k q : ℕ) → k < rows → held (node_in ws) rows words k q || share (elements (drop j ws)) (base + suc k) q ≡ share (elements ws) (base + suc k) q

module _ (n : ℕ) (ws : List ℕ) (base rows : ℕ) where
  pub listing_begin : refusal_from n ws ≡ 0 → (words : List ℕ) → rows + 2 ≤ length words → ((k : ℕ) → k < rows → get_or words k 0 ≡ 0) → Listing n ws base rows 0 words 1
  unfolding held hold_in
  listing_begin e words room z = record {
    cells = record { some = omega arith; room = omega arith; heads = λ k l. omega (arith, z k l); down = λ c a l. absurd (omega arith) };
    sound = λ c a l. absurd (omega arith);
    good = e;
    at = λ k q l. ap (λ (x : ℕ). hold_in (node_in ws) x rows words x q || share (elements ws) (base + suc k) q) (z k l);
  }

  module _ (j : ℕ) (words : List ℕ) (free : ℕ) (L : Listing n ws base rows j words free) where
    pub listing_step : n ≤ 4096 → j < length ws → (next : List ℕ) (free' : ℕ)
        → Entered j rows (λ k. memb (base + suc k) (take (node_count (get_or ws j 0)) (drop (j + 1) ws))) words free next free'
        → Listing n ws base rows (j + 1 + node_count (get_or ws j 0)) next free'
    unfolding share node_in
    listing_step few h next free' E = record {
      cells = E.cells;
      sound = λ c a l.
          ⊎_elim (λ e. subst (Sound ws) (sym e) (sound_of n ws j few h L.good)) (λ w. subst (Sound ws) (sym w.1) (L.sound c a w.0)) (E.old c a l);
      good = (refusal_none n ws j h L.good).1;
      at = λ k q l.
          ap (λ b. b || share (elements (drop (j + 1 + node_count (get_or ws j 0)) ws)) (base + suc k) q) (E.adds (node_in ws) k q l)
          ∙ or_assoc (held (node_in ws) rows words k q) _ _
          ∙ ap (λ (els : List (List ℕ)). held (node_in ws) rows words k q || share els (base + suc k) q) (sym (elements_next ws j h))
          ∙ L.at k q l;
    }

    pub listing_done : length ws ≤ j → Listed ws base rows words
    unfolding share
    listing_done h = record {
      linked = record { free = free; cells = L.cells; sound = L.sound };
      at = λ k q l.
          sym (or-false (held (node_in ws) rows words k q))
          ∙ ap (λ (els : List (List ℕ)). held (node_in ws) rows words k q || share els (base + suc k) q) (sym (elements_over ws j h))
          ∙ L.at k q l;
    }

-- ---- a list is walked

-- the set has the nodes of the elements before this cell, completed by those from it on
pub record Walking (ws : List ℕ) (rows : ℕ) (words : List ℕ) (row : ℕ) (before : List ℕ) (free cell : ℕ) (bits : List ℕ) (mask : ℕ) : Type 0 where
  pub size : length bits ≡ 64
  pub covered : Covered mask bits
  pub low : cell < free
  pub at : (x : ℕ) → x < 4096 → has bits x || hold_in (node_in ws) cell rows words cell (suc x) ≡ has before x || held (node_in ws) rows words row (suc x)

module _ (ws : List ℕ) (rows : ℕ) (words : List ℕ) (K : Linked ws rows words) (row : ℕ) (before : List ℕ) where
  pub walking_begin : length before ≡ 64 → Empty before → row < rows → Walking ws rows words row before K.free (get_or words row 0) before 0
  unfolding held
  walking_begin s e h = record { size = s; covered = covered_none before e; low = K.cells.heads row h; at = λ x l. refl }

  -- cell by cell
  next_cell : (cell : ℕ) → 1 ≤ cell → cell < K.free → (q : ℕ)
      → hold_in (node_in ws) cell rows words cell q
      ≡ node_in ws (get_or words (rows + 2 * cell) 0) q || hold_in (node_in ws) (get_or words (rows + 2 * cell + 1) 0) rows words (get_or words (rows + 2 * cell + 1) 0) q
  unfolding hold_in
  next_cell zero a l q = absurd (omega arith)
  next_cell (suc c) a l q =
      let d = K.cells.down (suc c) a l in
      ap (λ b. node_in ws (get_or words (rows + 2 * suc c) 0) q || b)
      (hold_same (node_in ws) rows words words K.free q (λ c a l. refl) (λ c a l. refl) K.cells.down c (get_or words (rows + 2 * suc c + 1) 0) (get_or words (rows + 2 * suc c + 1) 0)
      (omega (arith, d)) (omega (arith, d)) (omega arith))

  module _ (cell : ℕ) (bits : List ℕ) (mask : ℕ) (W : Walking ws rows words row before K.free cell bits mask) where
    pub walking_step : 1 ≤ cell → (next : List ℕ) (mask' : ℕ) → length next ≡ length bits → Covered mask' next → Added (node_in ws (get_or words (rows + 2 * cell) 0)) bits next
        → Walking ws rows words row before K.free (get_or words (rows + 2 * cell + 1) 0) next mask'
    walking_step a next mask' s C A = record {
      size = s ∙ W.size;
      covered = C;
      low = omega (arith, K.cells.down cell a W.low, W.low);
      at = λ x l.
          ap (λ b. b || hold_in (node_in ws) (get_or words (rows + 2 * cell + 1) 0) rows words (get_or words (rows + 2 * cell + 1) 0) (suc x)) (A.at x l)
          ∙ or_assoc (has bits x) _ _
          ∙ ap (λ b. has bits x || b) (sym (next_cell cell a W.low (suc x)))
          ∙ W.at x l;
    }

    pub walking_done : cell ≡ 0 → Added (held (node_in ws) rows words row) before bits
    unfolding hold_in
    walking_done z = record {
      at = λ x l. sym (or-false (has bits x)) ∙ ap (λ (c : ℕ). has bits x || hold_in (node_in ws) c rows words c (suc x)) (sym z) ∙ W.at x l;
    }

-- Positions are pushed in front of lists of cells. Assumes nothing.
use Rattle.std.proofs.Common.{◌≡◌, ℕ, zero, suc, ◌+◌, ◌*◌, ◌<◌, ◌≤◌, Bool, true, false, ◌&&◌, ◌||◌, eqb, ◌⊎◌, List, length, get_or, set, sym, refl, ap, ◌∙◌, subst, ap₂, inl, inr, ⊎_elim, arith, length-set, get_or-set_other, get_or-set_same, eqb-true}
use borrow.Author.Tests.{eqb-false}
use Rattle.basis.proofs.Logic.{by_test, lt_or_le}
use Rattle.mesh_incidence.specs.Cells.{Cells, pushed, hold_in, held, Entered}

-- ---- lists that agree

module _ (t : ℕ → ℕ → Bool) (rows : ℕ) (a b : List ℕ) (free q : ℕ) (positions : (c : ℕ) → 1 ≤ c → c < free → get_or b (rows + 2 * c) 0 ≡ get_or a (rows + 2 * c) 0)
    (nexts : (c : ℕ) → 1 ≤ c → c < free → get_or b (rows + 2 * c + 1) 0 ≡ get_or a (rows + 2 * c + 1) 0)
    (down : (c : ℕ) → 1 ≤ c → c < free → get_or a (rows + 2 * c + 1) 0 < c) where
  -- the cells from c on hold the same, however many are looked at
  pub hold_same : (f g c : ℕ) → c < free → c ≤ f → c ≤ g → hold_in t f rows b c q ≡ hold_in t g rows a c q
  unfolding hold_in
  hold_same zero zero c h l m = refl
  hold_same zero (suc g) zero h l m = refl
  hold_same zero (suc g) (suc c) h l m = absurd (omega arith)
  hold_same (suc f) zero zero h l m = refl
  hold_same (suc f) zero (suc c) h l m = absurd (omega arith)
  hold_same (suc f) (suc g) zero h l m = refl
  hold_same (suc f) (suc g) (suc c) h l m =
      let d = down (suc c) (omega arith) h in
      ap₂ ◌||◌ (ap (λ (x : ℕ). t x q) (positions (suc c) (omega arith) h))
      (ap (λ (x : ℕ). hold_in t f rows b x q) (nexts (suc c) (omega arith) h)
      ∙ hold_same f g (get_or a (rows + 2 * suc c + 1) 0) (omega (arith, d)) (omega (arith, d)) (omega (arith, d)))

-- ---- one position is pushed

module _ (at rows : ℕ) (words : List ℕ) (row cell : ℕ) (C : Cells rows words cell) (h : row < rows) (room : rows + 2 * (cell + 1) ≤ length words) where
  abbrev one : List ℕ
  one = set words (rows + 2 * cell) at

  abbrev two : List ℕ
  two = set one (rows + 2 * cell + 1) (get_or words row 0)

  abbrev new : List ℕ
  new = set two row cell

  -- word by word
  size : length two ≡ length words
  size = length-set one (rows + 2 * cell + 1) (get_or words row 0) ∙ length-set words (rows + 2 * cell) at

  at_row : get_or new row 0 ≡ cell
  at_row = get_or-set_same two row cell 0 (omega (arith, size))

  at_cell : get_or new (rows + 2 * cell) 0 ≡ at
  at_cell =
      get_or-set_other two row (rows + 2 * cell) cell 0 (λ e. absurd (omega (arith, e))) ∙ get_or-set_other one (rows + 2 * cell + 1) (rows + 2 * cell) _ 0 (λ e. absurd (omega (arith, e)))
      ∙ get_or-set_same words (rows + 2 * cell) at 0 (omega arith)

  at_next : get_or new (rows + 2 * cell + 1) 0 ≡ get_or words row 0
  at_next =
      get_or-set_other two row (rows + 2 * cell + 1) cell 0 (λ e. absurd (omega (arith, e)))
      ∙ get_or-set_same one (rows + 2 * cell + 1) _ 0 (omega (arith, length-set words (rows + 2 * cell) at))

  elsewhere : (i : ℕ) → (i ≡ row → ⊥) → (i ≡ rows + 2 * cell → ⊥) → (i ≡ rows + 2 * cell + 1 → ⊥) → get_or new i 0 ≡ get_or words i 0
  elsewhere i a b c = get_or-set_other two row i cell 0 a ∙ get_or-set_other one (rows + 2 * cell + 1) i _ 0 c ∙ get_or-set_other words (rows + 2 * cell) i at 0 b

  lower : (c : ℕ) → c < cell → get_or new (rows + 2 * c) 0 ≡ get_or words (rows + 2 * c) 0
  lower c l = elsewhere (rows + 2 * c) (λ e. absurd (omega (arith, e))) (λ e. absurd (omega (arith, e))) (λ e. absurd (omega (arith, e)))

  lower_next : (c : ℕ) → c < cell → get_or new (rows + 2 * c + 1) 0 ≡ get_or words (rows + 2 * c + 1) 0
  lower_next c l = elsewhere (rows + 2 * c + 1) (λ e. absurd (omega (arith, e))) (λ e. absurd (omega (arith, e))) (λ e. absurd (omega (arith, e)))

  other_row : (k : ℕ) → k < rows → (k ≡ row → ⊥) → get_or new k 0 ≡ get_or words k 0
  other_row k l d = elsewhere k d (λ e. absurd (omega (arith, e))) (λ e. absurd (omega (arith, e)))

  cells_next : Cells rows new (cell + 1)
  cells_next = record {
    some = omega arith;
    room = omega (arith, room, length-set two row cell, size);
    heads = λ k l. by_test (eqb k row) (λ y. omega (arith, at_row, ap (λ (i : ℕ). get_or new i 0) (eqb-true k row y))) (λ y. omega (arith, other_row k l (eqb-false k row y), C.heads k l));
    down = λ c a l.
        ⊎_elim (λ (m : c < cell). omega (arith, lower_next c m, C.down c a m))
        (λ (m : cell ≤ c).
        let e : c ≡ cell = omega arith in
        omega (arith, e, ap (λ (i : ℕ). get_or new (rows + 2 * i + 1) 0) e, at_next, C.heads row h)) (lt_or_le c cell);
  }

  old_cells : (c : ℕ) → 1 ≤ c → c < cell + 1 → (get_or new (rows + 2 * c) 0 ≡ at) ⊎ ((c < cell) × (get_or new (rows + 2 * c) 0 ≡ get_or words (rows + 2 * c) 0))
  old_cells c a l =
      ⊎_elim (λ (m : c < cell). inr (m, lower c m))
      (λ (m : cell ≤ c).
      let e : c ≡ cell = omega arith in
      inl (ap (λ (i : ℕ). get_or new (rows + 2 * i) 0) e ∙ at_cell)) (lt_or_le c cell)

  -- what the lists hold, however many cells are looked at
  kept : (t : ℕ → ℕ → Bool) (q f c : ℕ) → c < cell → c ≤ f → hold_in t f rows new c q ≡ hold_in t c rows words c q
  kept t q f c l m = hold_same t rows words new cell q (λ c a l. lower c l) (λ c a l. lower_next c l) C.down f c c l m (omega arith)

swap : (a b : Bool) → a || b ≡ b || (true && a)
swap true true = refl
swap true false = refl
swap false true = refl
swap false false = refl

keep : (a b : Bool) → a ≡ a || (false && b)
keep true b = refl
keep false b = refl

-- the lists after a push
module _ (at rows : ℕ) (words : List ℕ) (row : ℕ) (h : row < rows) where
  pushes : (cell : ℕ) (C : Cells rows words cell) (room : rows + 2 * (cell + 1) ≤ length words) (t : ℕ → ℕ → Bool) (k q : ℕ) → k < rows
      → held t rows (new at rows words row cell C h room) k q ≡ held t rows words k q || (eqb k row && t at q)
  unfolding held hold_in
  pushes zero C room t k q l = absurd (omega (arith, C.some))
  pushes (suc c) C room t k q l =
      by_test (eqb k row) (λ y. here (eqb-true k row y) ∙ ap (λ b. held t rows words k q || (b && t at q)) (sym y))
      (λ y. there (eqb-false k row y) ∙ ap (λ b. held t rows words k q || (b && t at q)) (sym y))
    where
      here : k ≡ row → held t rows (new at rows words row (suc c) C h room) k q ≡ held t rows words k q || (true && t at q)
      here e =
          ap (λ (x : ℕ). hold_in t x rows (new at rows words row (suc c) C h room) x q) (ap (λ (i : ℕ). get_or (new at rows words row (suc c) C h room) i 0) e ∙ at_row at rows words row (suc c) C h room)
          ∙ ap₂ (λ (x y : ℕ). t x q || hold_in t c rows (new at rows words row (suc c) C h room) y q) (at_cell at rows words row (suc c) C h room) (at_next at rows words row (suc c) C h room)
          ∙ ap (λ b. t at q || b) (kept at rows words row (suc c) C h room t q c (get_or words row 0) (C.heads row h) (omega (arith, C.heads row h)))
          ∙ ap (λ (i : ℕ). t at q || hold_in t (get_or words i 0) rows words (get_or words i 0) q) (sym e)
          ∙ swap (t at q) (held t rows words k q)

      there : (k ≡ row → ⊥) → held t rows (new at rows words row (suc c) C h room) k q ≡ held t rows words k q || (false && t at q)
      there d =
          ap (λ (x : ℕ). hold_in t x rows (new at rows words row (suc c) C h room) x q) (other_row at rows words row (suc c) C h room k l d)
          ∙ kept at rows words row (suc c) C h room t q (get_or words k 0) (get_or words k 0) (C.heads k l) (omega arith)
          ∙ keep (held t rows words k q) (t at q)

  pub entered_push : (cell : ℕ) → Cells rows words cell → rows + 2 * (cell + 1) ≤ length words → (after : List ℕ) → after ≡ pushed rows words row cell at
      → Entered at rows (λ k. eqb k row) words cell after (cell + 1)
  unfolding pushed
  entered_push cell C room after e =
      subst (λ (w : List ℕ). Entered at rows (λ k. eqb k row) words cell w (cell + 1)) (sym e)
      (record { cells = cells_next at rows words row cell C h room; old = old_cells at rows words row cell C h room; adds = pushes cell C room })

-- ---- no list is hit, and one entry after another

pub entered_none : {at rows : ℕ} {hit : ℕ → Bool} {words : List ℕ} {cell : ℕ} → Cells rows words cell → ((k : ℕ) → k < rows → hit k ≡ false) → Entered at rows hit words cell words cell
entered_none {at = at} {rows = rows} {words = words} C z = record {
  cells = C;
  old = λ c a l. inr (l, refl);
  adds = λ t k q l. keep (held t rows words k q) (t at q) ∙ ap (λ b. held t rows words k q || (b && t at q)) (sym (z k l));
}

pub entered_by : {at rows : ℕ} {hit hit' : ℕ → Bool} {a b : List ℕ} {c f : ℕ} → Entered at rows hit a c b f → ((k : ℕ) → k < rows → hit k ≡ hit' k) → Entered at rows hit' a c b f
entered_by {at = at} {rows = rows} {a = a} E e = record {
  cells = E.cells;
  old = E.old;
  adds = λ t k q l. E.adds t k q l ∙ ap (λ b. held t rows a k q || (b && t at q)) (e k l);
}

both : (h a b e : Bool) → h || (a && e) || (b && e) ≡ h || ((a || b) && e)
both true a b e = refl
both false true true true = refl
both false true true false = refl
both false true false true = refl
both false true false false = refl
both false false b e = refl

pub entered_then : {at rows : ℕ} {hit more : ℕ → Bool} {a b d : List ℕ} {c f g : ℕ} → Entered at rows hit a c b f → Entered at rows more b f d g → Entered at rows (λ k. hit k || more k) a c d g
entered_then {at = at} {rows = rows} {hit = hit} {more = more} {a = a} E F = record {
  cells = F.cells;
  old = λ c s l.
      ⊎_elim inl
      (λ w. ⊎_elim (λ e. inl (w.1 ∙ e)) (λ v. inr (v.0, w.1 ∙ v.1)) (E.old c s w.0)) (F.old c s l);
  adds = λ t k q l. F.adds t k q l ∙ ap (λ b. b || (more k && t at q)) (E.adds t k q l) ∙ both (held t rows a k q) (hit k) (more k) (t at q);
}

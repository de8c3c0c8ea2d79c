-- The numbering within a level by a cursor: nodes behind it have no unnumbered neighbours in the level, so the lowest-numbered node that
-- has some is at the cursor or after it. Of any level. Assumes nothing.
use mathlib.Core.Path.{◌≡◌, refl, sym, ap, ◌∙◌, subst}
use mathlib.Core.Logic.{⊎_elim}
use mathlib.Core.Bool.{Bool, true, false, not, ◌&&◌}
use mathlib.Core.List.{List, [], ◌∷◌, ◌++◌, append_assoc, append-nil, map}
use Prim.Native.Nat.{ℕ, zero, suc, ◌+◌, ◌-◌, ◌≤◌, ◌<◌}
use native.Mathlib.Omega.{arith}
use lib.ListN.{length, take, drop, get_or, length-append, get_or-append}
use lib.Seq.{length-take-le, get_or-take, split_at}
use borrow.Author.Tests.{not-true}
use Rattle.basis.specs.Lists.{filterb, memb, head_or, All}
use Rattle.basis.proofs.Count.{length-filter, memb-times, times-memb}
use Rattle.basis.proofs.Index.{memb-get_or, get_or_right}
use Rattle.basis.proofs.Lists.{memb-append, filter_in, filter_make, memb_here, map-append, filter_none, filter-append}
use Rattle.basis.proofs.Logic.{by_test, and_split, clash, or_right, same, fails, or_left, lt_or_le}
use Rattle.basis.proofs.Perm.{perm_length, perm_memb}
use Rattle.spec.specs.Graph.{Graph, adjoins, sort_e, first_in_e}
use Rattle.spec.specs.Numbering.{unnumbered_by, first_filled, next_within, within}
use Rattle.laws.specs.Order.{Grown, Fresh, left_in}
use Rattle.laws.proofs.Orders.{perm_sort_e}
use Rattle.laws.proofs.LevelOrder.{grow, left_le, left_less, left-length, fresh_by, fresh_next, some_next}
use Rattle.numbering_order.specs.Model.{Spread, at-end, on}

-- ---- lists

-- empty lists in front don't count
first_skip : (ls rest : List (List ℕ)) → All (λ (l : List ℕ). l ≡ []) ls → first_filled (ls ++ rest) ≡ first_filled rest
unfolding first_filled
first_skip [] rest a = refl
first_skip ([] ∷ ls) rest a = first_skip ls rest a.1
first_skip ((x ∷ l) ∷ ls) rest a = absurd (omega (arith, ap length a.0))

first_here : (x : ℕ) (xs : List ℕ) (ls rest : List (List ℕ)) → first_filled (((x ∷ xs) ∷ ls) ++ rest) ≡ x ∷ xs
unfolding first_filled
first_here x xs ls rest = refl

sorted_none : (g : Graph) (l : List ℕ) → l ≡ [] → sort_e g l ≡ []
unfolding sort_e
sorted_none g l e = rw e

module _ (g : Graph) (level : List ℕ) where
  -- ---- nodes with no unnumbered neighbours in the level

  -- every neighbour of w in the level is numbered
  abbrev pub Quiet : List ℕ → ℕ → Type 0
  Quiet o w = (q : ℕ) → memb q level ≡ true → adjoins g w q ≡ true → memb q o ≡ true

  abbrev open_at : List ℕ → ℕ → ℕ → Bool
  open_at o w q = not (memb q o) && adjoins g w q

  quiet_none : (o : List ℕ) (w : ℕ) → Quiet o w → unnumbered_by g level o w ≡ []
  unfolding unnumbered_by
  quiet_none o w h =
      sorted_none g (filterb (open_at o w) level)
      (filter_none (open_at o w) level (λ x m. fails _ (λ e. let a = and_split (not (memb x o)) (adjoins g w x) e in clash (h x m a.1) (not-true _ a.0))))

  quiet_more : (o add : List ℕ) (w : ℕ) → Quiet o w → Quiet (o ++ add) w
  quiet_more o add w h q m a = memb-append q o add ∙ or_left _ (h q m a)

  -- once they are numbered there are none
  quiet_after : (o : List ℕ) (w : ℕ) → Quiet (o ++ unnumbered_by g level o w) w
  unfolding unnumbered_by
  quiet_after o w q m a =
      memb-append q o (sort_e g (filterb (open_at o w) level))
      ∙ by_test (memb q o) (λ e. or_left _ e)
      (λ e. or_right (memb q o) (perm_memb (perm_sort_e g (filterb (open_at o w) level)) q ∙ filter_make (open_at o w) level q m (rw (e, a))))

  -- so of every node of the level that stands before the cursor c
  abbrev pub Behind : List ℕ → ℕ → Type 0
  Behind o c = (j : ℕ) → j < c → memb (get_or o j 0) level ≡ true → Quiet o (get_or o j 0)

  behind_more : (o add : List ℕ) (c : ℕ) → c ≤ length o → Behind o c → Behind (o ++ add) c
  behind_more o add c h b j l m =
      let e : get_or (o ++ add) j 0 ≡ get_or o j 0 = get_or-append o add 0 j (omega arith) in
      rw e (quiet_more o add (get_or o j 0) (b j l (rw e at m)))

  behind_step : (o : List ℕ) (c : ℕ) → c < length o → Behind o c → Behind (o ++ unnumbered_by g level o (get_or o c 0)) (suc c)
  behind_step o c h b j l m =
      let add : List ℕ = unnumbered_by g level o (get_or o c 0) in
      ⊎_elim
      (λ (k : j < c). behind_more o add c (omega arith) b j k m)
      (λ (k : c ≤ j).
      let q : j ≡ c = omega arith in
      let e : get_or (o ++ add) j 0 ≡ get_or o c 0 = ap (λ (i : ℕ). get_or (o ++ add) i 0) q ∙ get_or-append o add 0 c h in
      rw e (quiet_after o (get_or o c 0)))
      (lt_or_le j c)

  -- ---- what is numbered next

  -- the nodes of the level among those before the cursor find nothing
  none_behind : (o l : List ℕ) → ((j : ℕ) → j < length l → memb (get_or l j 0) level ≡ true → Quiet o (get_or l j 0))
      → All (λ (a : List ℕ). a ≡ []) (map (unnumbered_by g level o) (filterb (λ w. memb w level) l))
  none_behind o [] h = tt
  none_behind o (x ∷ l) h =
      let ih = none_behind o l (λ j k. h (suc j) (omega arith)) in
      by_test (memb x level) (λ e. rw e (quiet_none o x (h 0 (omega arith) e), ih)) (λ e. rw e ih)

  rest_of : List ℕ → List (List ℕ)
  rest_of o = map (λ z. z ∷ []) (sort_e g (filterb (λ q. not (memb q o)) level))

  -- the node at the cursor, if it finds something
  next_here : (o : List ℕ) (c x : ℕ) (xs : List ℕ) → Behind o c → c < length o → memb (get_or o c 0) level ≡ true
      → unnumbered_by g level o (get_or o c 0) ≡ x ∷ xs → next_within g level o ≡ x ∷ xs
  unfolding next_within rest_of
  next_here o c x xs b h m e =
      let w : ℕ = get_or o c 0 in
      let by : ℕ → List ℕ = unnumbered_by g level o in
      let before : List ℕ = filterb (λ w. memb w level) (take c o) in
      let after : List ℕ = filterb (λ w. memb w level) (drop (suc c) o) in
      let s : filterb (λ w. memb w level) o ≡ before ++ (w ∷ after) =
      ap (filterb (λ w. memb w level)) (split_at o c 0 h) ∙ filter-append (λ w. memb w level) (take c o) (w ∷ drop (suc c) o) ∙ rw m in
      let p : map by (filterb (λ w. memb w level) o) ++ rest_of o ≡ map by before ++ ((by w ∷ map by after) ++ rest_of o) =
      rw (s, map-append by before (w ∷ after), append_assoc (map by before) (by w ∷ map by after) (rest_of o)) in
      ap first_filled p
      ∙ first_skip (map by before) ((by w ∷ map by after) ++ rest_of o) (none_behind o (take c o) here)
      ∙ rw e (first_here x xs (map by after) (rest_of o))
    where
      here : (j : ℕ) → j < length (take c o) → memb (get_or (take c o) j 0) level ≡ true → Quiet o (get_or (take c o) j 0)
      here j l m =
          let k : j < c = omega (arith, length-take-le c o (omega arith)) in
          rw (get_or-take c o j 0 k) (b j k (rw (get_or-take c o j 0 k) at m))

  -- where no numbered node finds something, the first in E that is left
  next_left : (o : List ℕ) → Behind o (length o) → next_within g level o ≡ first_filled (rest_of o)
  unfolding next_within rest_of
  next_left o b = first_skip (map (unnumbered_by g level o) (filterb (λ w. memb w level) o)) (rest_of o) (none_behind o o (λ j l m. b j l m))

  -- z is the first in E of the nodes of the level that are left, 0 where none is left
  abbrev pub left_first : List ℕ → ℕ
  left_first o = first_in_e g (filterb (λ q. not (memb q o)) level)

  first_one : (o : List ℕ) (z : ℕ) → left_first o ≡ z → 1 ≤ z → first_filled (rest_of o) ≡ z ∷ []
  unfolding first_in_e rest_of first_filled
  first_one o z e h = go (sort_e g (filterb (λ q. not (memb q o)) level)) e
    where
      go : (l : List ℕ) → head_or 0 l ≡ z → first_filled (map (λ z. z ∷ []) l) ≡ z ∷ []
      go [] e = absurd (omega arith)
      go (x ∷ l) e = ap (λ (y : ℕ). y ∷ []) e

  next_one : (o : List ℕ) (z : ℕ) → Behind o (length o) → left_first o ≡ z → 1 ≤ z → next_within g level o ≡ z ∷ []
  next_one o z b e h = next_left o b ∙ first_one o z e h

  -- 0: none is left
  left_none : (o : List ℕ) → ((q : ℕ) → memb q level ≡ true → 1 ≤ q) → left_first o ≡ 0 → left_in level o ≡ 0
  unfolding first_in_e
  left_none o low e =
      sym (length-filter (λ q. not (memb q o)) level) ∙ sym (perm_length (perm_sort_e g (filterb (λ q. not (memb q o)) level)))
      ∙ go (sort_e g (filterb (λ q. not (memb q o)) level)) e
      (λ x m. low x (filter_in (λ q. not (memb q o)) level x (sym (perm_memb (perm_sort_e g (filterb (λ q. not (memb q o)) level)) x) ∙ m)).0)
    where
      go : (l : List ℕ) → head_or 0 l ≡ 0 → ((x : ℕ) → memb x l ≡ true → 1 ≤ x) → length l ≡ 0
      go [] e h = refl
      go (x ∷ l) e h = absurd (omega (arith, h x (memb_here x l)))

  -- ---- rounds

  stays : (f : ℕ) (o : List ℕ) → left_in level o ≡ 0 → next_within g level o ≡ [] → within f g level o ≡ o
  unfolding within
  stays zero o z e = refl
  stays (suc f) o z e =
      let p : o ++ next_within g level o ≡ o = ap (λ (l : List ℕ). o ++ l) e ∙ append-nil o in
      ap (within f g level) p ∙ stays f o z e

  -- what is added where none is left is nothing
  nothing_next : (o : List ℕ) → left_in level o ≡ 0 → next_within g level o ≡ []
  nothing_next o z = go (next_within g level o) refl
    where
      go : (l : List ℕ) → next_within g level o ≡ l → next_within g level o ≡ []
      go [] e = e
      go (x ∷ l) e =
          absurd (omega (arith, left_less (fresh_next g level o) x (ap (memb x) e ∙ memb_here x l)))

  -- more rounds than nodes are left change nothing
  enough : (f h : ℕ) (o : List ℕ) → left_in level o ≤ f → left_in level o ≤ h → within f g level o ≡ within h g level o
  unfolding within
  enough zero h o a b = sym (stays h o (omega arith) (nothing_next o (omega arith)))
  enough (suc f) zero o a b = stays (suc f) o (omega arith) (nothing_next o (omega arith))
  enough (suc f) (suc h) o a b = enough f h (o ++ next_within g level o) (less f a) (less h b)
    where
      less : (f : ℕ) → left_in level o ≤ suc f → left_in level (o ++ next_within g level o) ≤ f
      less f a =
          ⊎_elim (λ (z : left_in level o ≡ 0). omega (arith, left_le level o (next_within g level o)))
          (λ w. omega (arith, left_less (fresh_next g level o) w.0 w.1)) (some_next g level o)

  -- rounds enough from o give r
  abbrev pub Settles : List ℕ → List ℕ → Type 0
  Settles o r = (f : ℕ) → left_in level o ≤ f → within f g level o ≡ r

  pub settle_start : (o : List ℕ) → Settles o (within (length level) g level o)
  settle_start o f h = enough f (length level) o h (left-length level o)

  pub settle_step : (o add r : List ℕ) → next_within g level o ≡ add → Settles o r → Settles (o ++ add) r
  unfolding within
  settle_step o add r e s f h =
      let p : o ++ next_within g level o ≡ o ++ add = ap (λ (l : List ℕ). o ++ l) e in
      enough f (left_in level o + f) (o ++ add) h (omega arith)
      ∙ ap (within (left_in level o + f) g level) (sym p)
      ∙ s (suc (left_in level o + f)) (omega arith)

  pub settle_done : (o r : List ℕ) → left_in level o ≡ 0 → Settles o r → r ≡ o
  unfolding within
  settle_done o r z s = sym (s 0 (omega arith))

  -- what the node at the cursor finds, be it nothing, leads on to the same
  settle_cursor : (o r : List ℕ) (c : ℕ) → Behind o c → c < length o → memb (get_or o c 0) level ≡ true → Settles o r
      → Settles (o ++ unnumbered_by g level o (get_or o c 0)) r
  settle_cursor o r c b h m s = go (unnumbered_by g level o (get_or o c 0)) refl
    where
      go : (l : List ℕ) → unnumbered_by g level o (get_or o c 0) ≡ l → Settles (o ++ l) r
      go [] e = rw (append-nil o) s
      go (x ∷ l) e = settle_step o (x ∷ l) r (next_here o c x l b h m e) s

  -- ---- the cursor

  -- what holds while a level grows behind `pre`: all nodes before the cursor are quiet, and rounds from here give r
  pub record Cursor (pre o : List ℕ) (c : ℕ) (r : List ℕ) : Type 0 where
    pub grown : Grown pre level o
    pub from : length pre ≤ c
    pub most : c ≤ length o
    pub quiet : Behind o c
    pub settles : Settles o r

  -- a node behind pre is of the level
  pub grown_at : (pre o : List ℕ) → Grown pre level o → (j : ℕ) → length pre ≤ j → j < length o → memb (get_or o j 0) level ≡ true
  grown_at pre o G j a b =
      let k : j - length pre < length G.cur = omega (arith, ap length G.is, length-append pre G.cur) in
      let e : get_or o j 0 ≡ get_or G.cur (j - length pre) 0 = ap (λ (l : List ℕ). get_or l j 0) G.is ∙ get_or_right 0 pre G.cur j a in
      let m : memb (get_or G.cur (j - length pre) 0) G.cur ≡ true = memb-get_or G.cur (j - length pre) k in
      rw e
      (times-memb (get_or G.cur (j - length pre) 0) level
      (omega (arith, G.few (get_or G.cur (j - length pre) 0), memb-times (get_or G.cur (j - length pre) 0) G.cur m)))

  pub cursor_step : {pre o : List ℕ} {c : ℕ} {r : List ℕ} → Cursor pre o c r → c < length o → Cursor pre (o ++ unnumbered_by g level o (get_or o c 0)) (suc c) r
  cursor_step {pre} {o} {c} {r} C h = record {
    grown = grow C.grown (fresh_by g level o (get_or o c 0));
    from = omega (arith, C.from);
    most = omega (arith, length-append o (unnumbered_by g level o (get_or o c 0)));
    quiet = behind_step o c h C.quiet;
    settles = settle_cursor o r c C.quiet h (grown_at pre o C.grown c C.from h) C.settles;
  }

  -- the cursor goes to the end; the code finds the neighbours by another way, which is the same for the nodes of the level
  pub cursor_end : {by : List ℕ → ℕ → List ℕ} → ((o : List ℕ) (w : ℕ) → memb w level ≡ true → by o w ≡ unnumbered_by g level o w)
      → {pre o o' : List ℕ} {c : ℕ} {r : List ℕ} → Spread by c o o' → Cursor pre o c r → Cursor pre o' (length o') r
  cursor_end same {o = o} {c = c} (at-end h) C = let e : c ≡ length o = omega (arith, C.most) in rw (← e) C
  cursor_end {by} same {pre} {o} {o'} {c} {r} (on h s) C =
      cursor_end same s
      (subst (λ (l : List ℕ). Cursor pre (o ++ l) (suc c) r) (sym (same o (get_or o c 0) (grown_at pre o C.grown c C.from h))) (cursor_step C h))

  -- at the end a leftover is numbered, and the cursor goes on at it
  pub cursor_left : {pre o r : List ℕ} (z : ℕ) → Cursor pre o (length o) r → left_first o ≡ z → 1 ≤ z → Cursor pre (o ++ (z ∷ [])) (length o) r
  cursor_left {pre} {o} {r} z C e h =
      let n : next_within g level o ≡ z ∷ [] = next_one o z C.quiet e h in record {
        grown = grow C.grown (subst (Fresh level o) n (fresh_next g level o));
        from = C.from;
        most = omega (arith, length-append o (z ∷ []));
        quiet = behind_more o (z ∷ []) (length o) (omega arith) C.quiet;
        settles = settle_step o (z ∷ []) r n C.settles;
      }

  -- and where none is left the level is numbered, wherever the cursor is
  pub cursor_done : {pre o r : List ℕ} {c : ℕ} → Cursor pre o c r → ((q : ℕ) → memb q level ≡ true → 1 ≤ q) → left_first o ≡ 0 → o ≡ r
  cursor_done {pre} {o} {r} C low e = sym (settle_done o r (left_none o low e) C.settles)

  -- a level begins with what `from the level before` or v has given, and no cursor yet
  pub cursor_start : (pre o : List ℕ) → Grown pre level o → ((x : ℕ) → memb x level ≡ true → memb x pre ≡ false)
      → Cursor pre o (length pre) (within (length level) g level o)
  cursor_start pre o G apart = record {
    grown = G;
    from = omega arith;
    most = omega (arith, ap length G.is, length-append pre G.cur);
    quiet = λ j l m. clash (ap (λ (x : ℕ). memb x pre) (at j l) ∙ memb-get_or pre j l) (apart (get_or o j 0) m);
    settles = settle_start o;
  }
    where
      at : (j : ℕ) → j < length pre → get_or o j 0 ≡ get_or pre j 0
      at j l = ap (λ (k : List ℕ). get_or k j 0) G.is ∙ get_or-append pre G.cur 0 j l

-- the first that is left is left
pub left_in_lem : (g : Graph) (level o : List ℕ) (z : ℕ) → left_first g level o ≡ z → 1 ≤ z → (memb z level ≡ true) × (memb z o ≡ false)
unfolding first_in_e
left_in_lem g level o z e h =
    let l : List ℕ = filterb (λ q. not (memb q o)) level in
    let w = filter_in (λ q. not (memb q o)) level z (sym (perm_memb (perm_sort_e g l) z) ∙ go (sort_e g l) e) in
    (w.0, not-true _ w.1)
  where
    go : (s : List ℕ) → head_or 0 s ≡ z → memb z s ≡ true
    go [] e = absurd (omega arith)
    go (x ∷ s) e = subst (λ (y : ℕ). memb y (x ∷ s) ≡ true) e (memb_here x s)

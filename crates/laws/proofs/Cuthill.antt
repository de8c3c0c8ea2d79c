-- The order of Cuthill and McKee (document 02, A.3): it is the numbering level by level of the levels rooted at v, where nothing is left over;
-- those levels are a level structure; and before it is turned every node but the first stands behind a neighbour. Assumes nothing.
use mathlib.Core.Path.{◌≡◌, refl, sym, ap, ◌∙◌, subst}
use mathlib.Core.Logic.{⊎_elim}
use mathlib.Core.Bool.{true, not, ◌&&◌}
use mathlib.Core.List.{List, [], ◌∷◌, ◌++◌, foldl, reverse, append-nil}
use Prim.Native.Nat.{ℕ, zero, suc, ◌-◌, ◌≤◌, ◌<◌}
use native.Mathlib.Omega.{arith}
use lib.ListN.{length, get_or}
use lib.Dec.{eqb}
use borrow.Author.Tests.{eqb-true}
use Rattle.basis.specs.Lists.{filterb, memb, up_from, position}
use Rattle.basis.specs.Perm.{Once, Perm}
use Rattle.basis.proofs.Count.{count_some, count_none, memb-times, times-memb}
use Rattle.basis.proofs.Index.{memb-get_or, position_hit, once_index}
use Rattle.basis.proofs.Lists.{memb_here, memb-append, filter_make}
use Rattle.basis.proofs.Logic.{which, clash, and_make, or_left, or_right, lt_or_le}
use Rattle.basis.proofs.Perm.{perm_memb}
use Rattle.spec.specs.Cuthill.{cuthill_mc_kee}
use Rattle.spec.specs.Ends.{Ends, depth_at}
use Rattle.spec.specs.Graph.{Graph, adjoins, of_node}
use Rattle.spec.specs.Levels.{levels, level_of, level_list, part}
use Rattle.spec.specs.Numbering.{level_nodes, unnumbered_by, next_within, within, from_before, later_level, forward_order}
use Rattle.laws.specs.Legal.{Node, LegalGraph}
use Rattle.laws.specs.Order.{Fresh, left_in, InLevels, no_level, next_level}
use Rattle.laws.specs.Structure.{EndsOf, LevelStructure}
use Rattle.laws.proofs.Combined.{out_level}
use Rattle.laws.proofs.Figures.{length-level_list}
use Rattle.laws.proofs.Legal.{edge_node}
use Rattle.laws.proofs.LevelOrder.{fresh_next, first-filled}
use Rattle.laws.proofs.Levels.{level_most, rooted, occupied, level_list-at, part_node, part-level, level-part, part_same, part_on}
use Rattle.laws.proofs.Orders.{perm_sort_e}
use Rattle.laws.proofs.PartOrder.{level_in, level_make, level_once, in_order_lem, later, forward_is, forward_perm, reverse_perm}
use Rattle.laws.proofs.Parts.{part_once}
use Rattle.laws.proofs.Rooted.{near}

-- ---- where nothing is left, nothing is numbered within the level

fresh_none_left : (level order add : List ℕ) → left_in level order ≡ 0 → Fresh level order add → add ≡ []
fresh_none_left level order [] z f = refl
fresh_none_left level order (x ∷ xs) z f =
    let m : memb x (x ∷ xs) ≡ true = memb_here x xs in
    let i : memb x level ≡ true = times-memb x level (omega (arith, f.few x, memb-times x (x ∷ xs) m)) in
    absurd (omega (arith, count_some (λ q. not (memb q order)) level x i (ap not (f.unseen x m))))

within_still : (g : Graph) (level order : List ℕ) → left_in level order ≡ 0 → (f : ℕ) → within f g level order ≡ order
unfolding within
within_still g level order z zero = refl
within_still g level order z (suc f) =
    ap (within f g level) (ap (λ (l : List ℕ). order ++ l) (fresh_none_left level order (next_within g level order) z (fresh_next g level order)) ∙ append-nil order)
    ∙ within_still g level order z f

-- ---- every node of the level that has a neighbour in the level before is numbered from there

module _ (g : Graph) (level : List ℕ) where
  abbrev step : List ℕ → ℕ → List ℕ
  step o w = o ++ unnumbered_by g level o w

  kept : (ws o : List ℕ) (q : ℕ) → memb q o ≡ true → memb q (foldl step o ws) ≡ true
  kept [] o q m = m
  kept (w ∷ ws) o q m = kept ws (step o w) q (memb-append q o (unnumbered_by g level o w) ∙ or_left _ m)

  taken : (o : List ℕ) (w q : ℕ) → memb q level ≡ true → adjoins g w q ≡ true → memb q (step o w) ≡ true
  unfolding unnumbered_by
  taken o w q m a =
      memb-append q o (unnumbered_by g level o w)
      ∙ ⊎_elim (λ e. or_left _ e)
      (λ e. or_right (memb q o) (perm_memb (perm_sort_e g (filterb (λ x. not (memb x o) && adjoins g w x) level)) q ∙ filter_make (λ x. not (memb x o) && adjoins g w x) level q m (and_make (ap not e) a)))
      (which (memb q o))

  found : (ws o : List ℕ) (w q : ℕ) → memb w ws ≡ true → memb q level ≡ true → adjoins g w q ≡ true → memb q (foldl step o ws) ≡ true
  found [] o w q i m a = clash i refl
  found (y ∷ ws) o w q i m a =
      ⊎_elim (λ e. kept ws (step o y) q (taken o y q m (ap (λ (x : ℕ). adjoins g x q) (sym (eqb-true w y e)) ∙ a)))
      (λ e. found ws (step o y) w q (rw e at i) m a) (which (eqb w y))

  -- nothing is left where each node of the level has a numbered neighbour in the level before
  pub none_left : (before o : List ℕ) → ((q : ℕ) → memb q level ≡ true → (w : ℕ) × (memb w before ≡ true) × (memb w o ≡ true) × (adjoins g w q ≡ true))
      → left_in level (from_before g before level o) ≡ 0
  unfolding from_before
  none_left before o h =
      count_none (λ q. not (memb q (foldl step o (filterb (λ w. memb w before) o)))) level
      (λ q m. let w = h q m in ap not (found (filterb (λ w. memb w before) o) o w.0 q (filter_make (λ w. memb w before) o w.0 w.2 w.1) m w.3))

-- ---- levels rooted at v

-- the last of the levels so far stands in the order
last_in : {L : ℕ → List ℕ} {i : ℕ} {o : List ℕ} → InLevels L (suc i) o → (x : ℕ) → memb x (L (suc i)) ≡ true → memb x o ≡ true
last_in (next_level {o = o} {cur = cur} r p) x m = memb-append x o cur ∙ or_right (memb x o) (perm_memb p x ∙ m)

module _ {g : Graph} (G : LegalGraph g) {v : ℕ} (Vn : Node g v) where
  -- the levels rooted at v, by old number
  abbrev rooted_list : List ℕ
  rooted_list = level_list g (levels g v)

  abbrev L : ℕ → List ℕ
  L i = level_nodes g rooted_list i

  at : (q : ℕ) → Node g q → of_node rooted_list q ≡ level_of (levels g v) q
  at q N = level_list-at g (levels g v) q N

  -- a node of a later level has a neighbour in the level before
  back : (i q : ℕ) → memb q (L (suc (suc i))) ≡ true → (w : ℕ) × (memb w (L (suc i)) ≡ true) × (adjoins g w q ≡ true)
  back i q m =
      let n = level_in g rooted_list (suc (suc i)) q m in
      let b = (rooted G Vn).back q i n.0 (sym (at q n.0) ∙ n.1) in
      let W = edge_node G b.0 q b.2 in
      (b.0, level_make g rooted_list (suc i) b.0 W (at b.0 W ∙ b.1), b.2)

  -- so a later level is numbered from the level before alone
  later_same : (i : ℕ) (o : List ℕ) → InLevels L (suc i) o → later_level g (L (suc i)) (L (suc (suc i))) o ≡ from_before g (L (suc i)) (L (suc (suc i))) o
  unfolding later_level
  later_same i o r =
      within_still g (L (suc (suc i))) (from_before g (L (suc i)) (L (suc (suc i))) o)
      (none_left g (L (suc (suc i))) (L (suc i)) o (λ q m. let w = back i q m in (w.0, w.1, last_in r w.0 w.1, w.2)))
      (length (L (suc (suc i))))

  all_same : (m i : ℕ) (o : List ℕ) → InLevels L (suc i) o
      → foldl (λ o i. from_before g (L (i - 1)) (L i) o) o (up_from (suc (suc i)) m) ≡ foldl (λ o i. later_level g (L (i - 1)) (L i) o) o (up_from (suc (suc i)) m)
  all_same zero i o r = refl
  all_same (suc m) i o r =
      let e : suc (suc i) - 1 ≡ suc i = omega arith in
      let s : from_before g (L (suc (suc i) - 1)) (L (suc (suc i))) o ≡ later_level g (L (suc (suc i) - 1)) (L (suc (suc i))) o = rw e (sym (later_same i o r)) in
      ap (λ (x : List ℕ). foldl (λ o i. from_before g (L (i - 1)) (L i) o) x (up_from (suc (suc (suc i))) m)) s
      ∙ all_same m (suc i) (later_level g (L (suc (suc i) - 1)) (L (suc (suc i))) o) (later g rooted_list r (L (suc (suc i) - 1)))

  v-first : memb v (L 1) ≡ true
  v-first = level_make g rooted_list 1 v Vn (at v Vn ∙ (rooted G Vn).root)

  -- the first level is v alone
  first-left : left_in (L 1) (v ∷ []) ≡ 0
  first-left =
      count_none (λ q. not (memb q (v ∷ []))) (L 1)
      (λ q m.
      let n = level_in g rooted_list 1 q m in
      let e : q ≡ v = (rooted G Vn).alone q n.0 (sym (at q n.0) ∙ n.1) in
      ap not (ap (λ (x : ℕ). memb x (v ∷ [])) e ∙ memb_here v []))

  first_same : within (length (L 1)) g (L 1) (v ∷ []) ≡ v ∷ []
  first_same = within_still g (L 1) (v ∷ []) first-left (length (L 1))

  first-level : InLevels L 1 (v ∷ [])
  first-level =
      let f = first-filled g (L 1) v v-first (level_once g rooted_list 1) in
      subst (InLevels L 1) (sym f.is ∙ first_same) (next_level no_level f.perm)

  -- THE ORDER IS THE NUMBERING LEVEL BY LEVEL, of the levels rooted at v
  pub cuthill_forward : cuthill_mc_kee g v ≡ forward_order g rooted_list (depth_at g v) v
  unfolding cuthill_mc_kee forward_order
  cuthill_forward =
      all_same (depth_at g v - 1) 0 (v ∷ []) first-level
      ∙ ap (λ (x : List ℕ). foldl (λ o i. later_level g (L (i - 1)) (L i) o) x (up_from 2 (depth_at g v - 1))) (sym first_same)

-- ---- a part, from any node of it

module _ {g : Graph} (G : LegalGraph g) {z : ℕ} (Z : Node g z) {e : Ends} (E : EndsOf g z e) where
  Vn : Node g e.v
  Vn = part_node G Z e.v E.v-part

  in_v : (q : ℕ) → memb q (part g z) ≡ true → memb q (part g e.v) ≡ true
  in_v q m = ap (memb q) (part_same G e.v Z E.v-part) ∙ m

  list_at : (q : ℕ) → memb q (part g z) ≡ true → of_node (level_list g (levels g e.v)) q ≡ level_of (levels g e.v) q
  list_at q m = level_list-at g (levels g e.v) q (part_node G Z q m)

  -- the levels rooted at v are a level structure
  pub rooted_structure : LevelStructure g z e.k e.v e.u (level_list g (levels g e.v))
  unfolding depth_at
  rooted_structure = record {
    size = length-level_list g (levels g e.v);
    some = λ q m. omega (arith, list_at q m, part-level G Vn q (in_v q m));
    most = λ q m. omega (arith, list_at q m, level_most g e.v q, E.k-depth);
    outside = λ q N o. level_list-at g (levels g e.v) q N ∙ out_level G Z E e.v q E.v-part o;
    occupied = λ i lo hi.
        let w = occupied G Vn i lo (omega (arith, E.k-depth)) in
        let m : memb w.0 (part g z) ≡ true = ap (memb w.0) (sym (part_same G e.v Z E.v-part)) ∙ level-part G Vn w.0 (omega (arith, w.2)) in
        (w.0, m, list_at w.0 m ∙ w.2);
    edges = λ p q m a.
        let n = near G (rooted G Vn) p q (part-level G Vn p (in_v p m)) a in
        let x = list_at p m in
        let y = list_at q (part_on G Z p q a m) in
        record { up = omega (arith, n.below); down = omega (arith, n.above) };
    v-first = list_at e.v E.v-part ∙ (rooted G Vn).root;
    u_last = list_at e.u E.u_part ∙ E.u_level;
  }

  -- the order is the levels one after the other
  same_order : cuthill_mc_kee g e.v ≡ forward_order g (level_list g (levels g e.v)) e.k e.v
  same_order = cuthill_forward G Vn ∙ ap (λ (k : ℕ). forward_order g (level_list g (levels g e.v)) k e.v) E.k-depth

  pub cuthill_levels_lem : InLevels (level_nodes g (level_list g (levels g e.v))) e.k (cuthill_mc_kee g e.v)
  cuthill_levels_lem = subst (InLevels (level_nodes g (level_list g (levels g e.v))) e.k) (sym same_order) (forward_is G Z rooted_structure E.v-part)

  -- a permutation of the part, before and after it is turned
  pub cuthill_perm : Perm (cuthill_mc_kee g e.v) (part g z)
  cuthill_perm = subst (λ (o : List ℕ). Perm o (part g z)) (sym same_order) (forward_perm G Z rooted_structure E.v-part)

  pub turned_perm : Perm (reverse (cuthill_mc_kee g e.v)) (part g z)
  turned_perm = subst (λ (o : List ℕ). Perm (reverse o) (part g z)) (sym same_order) (reverse_perm G Z rooted_structure E.v-part)

  -- a node of a later level stands behind a neighbour of the level before
  pub lower-at : (a : ℕ) → a < length (cuthill_mc_kee g e.v) → 2 ≤ of_node (level_list g (levels g e.v)) (get_or (cuthill_mc_kee g e.v) a 0)
      → (b : ℕ) × (b < a) × (adjoins g (get_or (cuthill_mc_kee g e.v) a 0) (get_or (cuthill_mc_kee g e.v) b 0) ≡ true)
      × (of_node (level_list g (levels g e.v)) (get_or (cuthill_mc_kee g e.v) a 0) ≡ suc (of_node (level_list g (levels g e.v)) (get_or (cuthill_mc_kee g e.v) b 0)))
  lower-at a l h =
      let o : List ℕ = cuthill_mc_kee g e.v in
      let x : ℕ = get_or o a 0 in
      let m : memb x (part g z) ≡ true = sym (perm_memb cuthill_perm x) ∙ memb-get_or o a l in
      let i : ℕ = level_of (levels g e.v) x - 2 in
      let f : level_of (levels g e.v) x ≡ suc (suc i) = omega (arith, list_at x m) in
      let w = (rooted G Vn).back x i (part_node G Z x m) f in
      let n : memb w.0 (part g z) ≡ true = part_on G Z x w.0 (G.both w.0 x w.2) m in
      let b = position_hit w.0 o (perm_memb cuthill_perm w.0 ∙ n) in
      let s : of_node (level_list g (levels g e.v)) x ≡ suc (of_node (level_list g (levels g e.v)) (get_or o (position w.0 o) 0)) =
      list_at x m ∙ f ∙ ap suc (sym w.1) ∙ ap suc (sym (list_at w.0 n)) ∙ ap (λ (y : ℕ). suc (of_node (level_list g (levels g e.v)) y)) (sym b.1) in
      let c : position w.0 o < a =
      ⊎_elim (λ k. k) (λ (k : a ≤ position w.0 o). absurd (omega (arith, in_order_lem g (level_list g (levels g e.v)) cuthill_levels_lem a (position w.0 o) k b.0))) (lt_or_le (position w.0 o) a) in
      (position w.0 o, c, ap (adjoins g x) b.1 ∙ G.both w.0 x w.2, s)

  -- the first is v, and no other node is of the first level
  root_at : (a : ℕ) → a < length (cuthill_mc_kee g e.v) → of_node (level_list g (levels g e.v)) (get_or (cuthill_mc_kee g e.v) a 0) < 2 → get_or (cuthill_mc_kee g e.v) a 0 ≡ e.v
  root_at a l h =
      let o : List ℕ = cuthill_mc_kee g e.v in
      let m : memb (get_or o a 0) (part g z) ≡ true = sym (perm_memb cuthill_perm (get_or o a 0)) ∙ memb-get_or o a l in
      (rooted G Vn).alone (get_or o a 0) (part_node G Z (get_or o a 0) m) (omega (arith, list_at (get_or o a 0) m, part-level G Vn (get_or o a 0) (in_v (get_or o a 0) m)))

  -- so all but the first are of later levels
  pub later_at : (a : ℕ) → 1 ≤ a → a < length (cuthill_mc_kee g e.v) → 2 ≤ of_node (level_list g (levels g e.v)) (get_or (cuthill_mc_kee g e.v) a 0)
  later_at a h l =
      let o : List ℕ = cuthill_mc_kee g e.v in
      ⊎_elim
      (λ (c : of_node (level_list g (levels g e.v)) (get_or o a 0) < 2).
      ⊎_elim
      (λ (d : of_node (level_list g (levels g e.v)) (get_or o 0 0) < 2).
      let s : a ≡ 0 = once_index o single a 0 l (omega arith) (root_at a l c ∙ sym (root_at 0 (omega arith) d)) in
      absurd (omega arith))
      (λ (d : 2 ≤ of_node (level_list g (levels g e.v)) (get_or o 0 0)). absurd (omega (arith, (lower-at 0 (omega arith) d).1)))
      (lt_or_le (of_node (level_list g (levels g e.v)) (get_or o 0 0)) 2))
      (λ c. c)
      (lt_or_le (of_node (level_list g (levels g e.v)) (get_or o a 0)) 2)
    where
      single : Once (cuthill_mc_kee g e.v)
      single x = omega (arith, cuthill_perm.alike x, part_once g z x)

-- An order level after level, as a list: what stands in it once a level is begun, and once it is numbered. Assumes nothing.
use mathlib.Core.Path.{◌≡◌, refl, sym, ap, ap₂, ◌∙◌}
use mathlib.Core.Logic.{⊎_elim, ◌⊎◌}
use mathlib.Core.Bool.{Bool, true, false}
use mathlib.Core.List.{List, [], ◌∷◌, ◌++◌, append-nil, foldl}
use Prim.Native.Nat.{ℕ, zero, suc, ◌-◌, ◌≤◌, ◌<◌}
use native.Mathlib.Omega.{arith}
use lib.ListN.{length, drop, length-append}
use lib.Seq.{take_at, drop_at}
use lib.Dec.{eqb}
use borrow.Author.Tests.{eqb-true}
use Rattle.basis.specs.Lists.{filterb, memb, up_from}
use Rattle.basis.proofs.Count.{bit-one, bit_none, memb-times, times-memb}
use Rattle.basis.proofs.Lists.{memb-append, memb-drop, memb-one, memb_here, filter_none, filter-append}
use Rattle.basis.proofs.Logic.{by_test, clash, or_split, or_right, fails}
use Rattle.basis.proofs.Perm.{perm_memb}
use Rattle.spec.specs.Graph.{Graph, of_node, nodes}
use Rattle.spec.specs.Numbering.{level_nodes, unnumbered_by, within, from_before}
use Rattle.laws.specs.Legal.{LegalGraph, Closed, Node}
use Rattle.laws.specs.Order.{Grown, Filled}
use Rattle.laws.proofs.PartOrder.{level_in, level_once}
use Rattle.laws.proofs.LevelOrder.{left-length, later_filled, first-filled, from_grown, within_grown}
use Rattle.levels_sort.specs.Nodes.{Nodes}
use Rattle.numbering_order.specs.Model.{Listed, found_by, add_by, own_levels, Levelled, Begun, filled_in, later_in}
use Rattle.numbering_order.proofs.Listed.{listed-append}
use Rattle.numbering_order.proofs.OwnLevels.{fold_same, own_member, found_same}

pub filter_every : (t : ℕ → Bool) (l : List ℕ) → ((x : ℕ) → memb x l ≡ true → t x ≡ true) → filterb t l ≡ l
filter_every t [] h = refl
filter_every t (x ∷ l) h = rw (h x (memb_here x l)) (ap (λ (k : List ℕ). x ∷ k) (filter_every t l (λ y m. h y (or_right (eqb y x) m))))

module _ (g : Graph) (ls : List ℕ) where
  -- what is filled in is nodes of the level
  filled_at : (i : ℕ) {pre o : List ℕ} (F : Filled pre (level_nodes g ls i) o) (x : ℕ) → memb x F.cur ≡ true → Node g x × (of_node ls x ≡ i)
  filled_at i F x m = level_in g ls i x (sym (perm_memb F.perm x) ∙ m)

  -- nodes of level i stand behind pre, whose levels are lower
  levelled_by : (i : ℕ) (pre cur : List ℕ) → 1 ≤ i → ((x : ℕ) → memb x pre ≡ true → (1 ≤ of_node ls x) × (of_node ls x < i))
      → ((x : ℕ) → memb x cur ≡ true → memb x (level_nodes g ls i) ≡ true) → Levelled g ls (suc i) (length pre) (pre ++ cur)
  levelled_by i pre cur h low here =
      let back : suc i - 1 ≡ i = omega arith in record {
        some = omega arith;
        inside = omega (arith, length-append pre cur);
        low = λ x m. ⊎_elim (λ a. (low x a).0) (λ a. omega (arith, (level_in g ls i x (here x a)).1)) (cases x m);
        below = λ x m. ⊎_elim (λ a. omega (arith, (low x a).1)) (λ a. omega (arith, (level_in g ls i x (here x a)).1)) (cases x m);
        last =
            rw back
            (filter-append (λ w. memb w (level_nodes g ls i)) pre cur
            ∙ ap₂ ◌++◌
            (filter_none (λ w. memb w (level_nodes g ls i)) pre (λ x m. fails _ (λ b. omega (arith, (low x m).1, (level_in g ls i x b).1))))
            (filter_every (λ w. memb w (level_nodes g ls i)) cur here)
            ∙ sym (drop_at pre cur (length pre) refl));
      }
    where
      cases : (x : ℕ) → memb x (pre ++ cur) ≡ true → (memb x pre ≡ true) ⊎ (memb x cur ≡ true)
      cases x m = or_split (memb x pre) (memb x cur) (sym (memb-append x pre cur) ∙ m)

  -- v alone
  pub levelled_one : (v : ℕ) → memb v (level_nodes g ls 1) ≡ true → Levelled g ls 2 0 (v ∷ [])
  levelled_one v k =
      levelled_by 1 [] (v ∷ []) (omega arith) (λ x m. clash m refl)
      (λ x m. ap (λ (y : ℕ). memb y (level_nodes g ls 1)) (eqb-true x v (sym (memb-one x v) ∙ m)) ∙ k)

  -- the first level
  pub begun_first : (v : ℕ) → memb v (level_nodes g ls 1) ≡ true → Begun g ls 1 0 (v ∷ [])
  begun_first v k = record {
    some = omega arith;
    inside = omega arith;
    below = λ x m. clash m refl;
    here = λ x. by_test (eqb x v)
        (λ e. omega (arith, bit-one (eqb x v) e, memb-times x (level_nodes g ls 1) (ap (λ (y : ℕ). memb y (level_nodes g ls 1)) (eqb-true x v e) ∙ k)))
        (λ e. omega (arith, bit_none (eqb x v) e));
  }

  pub levelled_first : (v : ℕ) → memb v (level_nodes g ls 1) ≡ true → Levelled g ls 2 0 (filled_in g ls 1 (v ∷ []))
  levelled_first v k =
      let F = first-filled g (level_nodes g ls 1) v k (level_once g ls 1) in
      rw F.is (levelled_by 1 [] F.cur (omega arith) (λ x m. clash m refl) (λ x m. sym (perm_memb F.perm x) ∙ m))

  pub first-listed : {n : ℕ} → n ≡ g.size → (v : ℕ) → memb v (level_nodes g ls 1) ≡ true → Listed n (filled_in g ls 1 (v ∷ []))
  first-listed q v k =
      let F = first-filled g (level_nodes g ls 1) v k (level_once g ls 1) in
      rw F.is (record { once = λ x. omega (arith, F.perm.alike x, level_once g ls 1 x); inside = λ z m. let X = (filled_at 1 F z m).0 in (X.low, rw q X.high) })

  -- a later level
  module _ {i a : ℕ} {o : List ℕ} (I : Levelled g ls i a o) where
    apart : (x : ℕ) → memb x (level_nodes g ls i) ≡ true → memb x o ≡ false
    apart x m = fails _ (λ b. omega (arith, I.below x b, (level_in g ls i x m).1))

    filled : Filled o (level_nodes g ls i) (later_in g ls o i)
    filled = later_filled g (level_nodes g ls i) o (level_once g ls i) apart (level_nodes g ls (i - 1))

    pub levelled_next : Levelled g ls (suc i) (length o) (later_in g ls o i)
    levelled_next =
        let F = filled in
        rw F.is (levelled_by i o F.cur I.some (λ x m. (I.low x m, I.below x m)) (λ x m. sym (perm_memb F.perm x) ∙ m))

    pub later_listed : {n : ℕ} → n ≡ g.size → Listed n o → Listed n (later_in g ls o i)
    later_listed q A =
        let F = filled in
        rw F.is
        (listed-append A
        (record { once = λ x. omega (arith, F.perm.alike x, level_once g ls i x); inside = λ z m. let X = (filled_at i F z m).0 in (X.low, rw q X.high) })
        (λ x m. apart x (sym (perm_memb F.perm x) ∙ m)))

    pub later_longer : length o ≤ length (later_in g ls o i)
    later_longer = omega (arith, ap length filled.is, length-append o filled.cur)

    -- once the level before has given what it finds
    grown : Grown o (level_nodes g ls i) (from_before g (level_nodes g ls (i - 1)) (level_nodes g ls i) o)
    unfolding from_before
    grown =
        from_grown g (level_nodes g ls i) o (filterb (λ w. memb w (level_nodes g ls (i - 1))) o) o
        (record { cur = []; is = sym (append-nil o); few = λ x. omega arith })

    cur_in : (x : ℕ) → memb x grown.cur ≡ true → memb x (level_nodes g ls i) ≡ true
    cur_in x m = times-memb x (level_nodes g ls i) (omega (arith, grown.few x, memb-times x grown.cur m))

    pub levelled_before : Levelled g ls (suc i) (length o) (from_before g (level_nodes g ls (i - 1)) (level_nodes g ls i) o)
    levelled_before = rw grown.is (levelled_by i o grown.cur I.some (λ x m. (I.low x m, I.below x m)) cur_in)

    pub begun_later : {b : ℕ} → b ≡ length o → Begun g ls i b (from_before g (level_nodes g ls (i - 1)) (level_nodes g ls i) o)
    begun_later {b} q =
        let e : from_before g (level_nodes g ls (i - 1)) (level_nodes g ls i) o ≡ o ++ grown.cur = grown.is in
        rw (q, e) (record {
          some = I.some;
          inside = omega (arith, length-append o grown.cur);
          below = λ x m. I.below x (ap (memb x) (sym (take_at o grown.cur (length o) refl)) ∙ m);
          here = λ x. rw (drop_at o grown.cur (length o) refl) (grown.few x);
        })

    pub before_longer : length o ≤ length (from_before g (level_nodes g ls (i - 1)) (level_nodes g ls i) o)
    before_longer = omega (arith, ap length grown.is, length-append o grown.cur)

    pub before-listed : {n : ℕ} → n ≡ g.size → Listed n o → Listed n (from_before g (level_nodes g ls (i - 1)) (level_nodes g ls i) o)
    before-listed q A =
        rw grown.is
        (listed-append A
        (record { once = λ x. omega (arith, grown.few x, level_once g ls i x); inside = λ z m. let X = (level_in g ls i z (cur_in z m)).0 in (X.low, rw q X.high) })
        (λ x m. apart x (cur_in x m)))

-- the nodes from a on are those of the level before: what they find along their rows is what they find in level i
module _ {g : Graph} (G : LegalGraph g) (P L : List ℕ) (rising : P ≡ filterb (λ q. memb q P) (nodes g)) (closed : Closed g P) where
  pub before_same : {i a : ℕ} {o : List ℕ} → Levelled g (own_levels g P L) i a o → Nodes g.size o
      → foldl (add_by (found_by g L i)) o (drop a o) ≡ from_before g (level_nodes g (own_levels g P L) (i - 1)) (level_nodes g (own_levels g P L) i) o
  unfolding from_before
  before_same {i} {a} {o} D inside =
      fold_same (found_by g L i) (unnumbered_by g (level_nodes g (own_levels g P L) i)) (drop a o) o
      (λ p w k. found_same G P L rising closed i D.some p w (member w (memb-drop w a o k)))
      ∙ ap (foldl (add_by (unnumbered_by g (level_nodes g (own_levels g P L) i))) o) (sym D.last)
    where
      member : (w : ℕ) → memb w o ≡ true → memb w P ≡ true
      member w j = let r = inside w j in own_member G P L rising closed w (record { low = r.0; high = r.1 }) (D.low w j)

pub within_longer : (g : Graph) (level o : List ℕ) → length o ≤ length (within (length level) g level o)
within_longer g level o =
    let G = (within_grown g level o (length level) o (record { cur = []; is = sym (append-nil o); few = λ x. omega arith }) (left-length level o)).0 in
    omega (arith, ap length G.is, length-append o G.cur)

-- the levels after level i, on lists
pub laters_listed : (g : Graph) (ls : List ℕ) {n : ℕ} → n ≡ g.size → (m i a : ℕ) (o : List ℕ) → Levelled g ls i a o → Listed n o
    → Listed n (foldl (later_in g ls) o (up_from i m)) × (length o ≤ length (foldl (later_in g ls) o (up_from i m)))
laters_listed g ls q zero i a o D A = (A, omega arith)
laters_listed g ls q (suc m) i a o D A =
    let r = laters_listed g ls q m (suc i) (length o) (later_in g ls o i) (levelled_next g ls D) (later_listed g ls D q A) in
    (r.0, omega (arith, r.1, later_longer g ls D))

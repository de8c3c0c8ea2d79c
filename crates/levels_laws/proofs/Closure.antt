-- A piece as it is found from its first node: what is found is what a closed set must hold, and nothing else. Assumes nothing.
use mathlib.Core.Path.{◌≡◌, refl, sym, ap, ◌∙◌, subst}
use mathlib.Core.Logic.{◌⊎◌, ⊎_elim}
use mathlib.Core.Bool.{Bool, true, false, ◌&&◌, ◌||◌, cond}
use mathlib.Core.List.{List, [], ◌∷◌, ◌++◌}
use Prim.Native.Nat.{ℕ, suc, ◌+◌, ◌-◌, ◌≤◌, ◌<◌}
use native.Mathlib.Numerals.{add-one}
use native.Mathlib.Omega.{arith}
use lib.ListN.{length, take, get_or, set, length-append, length-set}
use lib.Seq.{take-suc, take_all, take-append-le}
use lib.Dec.{eqb}
use borrow.Author.Tests.{eq-eqb, eqb-true}
use Rattle.basis.specs.Lists.{filterb, head_or, memb}
use Rattle.basis.specs.Perm.{times, Once, Perm}
use Rattle.basis.proofs.Count.{bit_most, count_append, filter_once, times_none}
use Rattle.basis.proofs.Index.{memb-get_or}
use Rattle.basis.proofs.Lists.{memb_here, memb-append, filter_in, filter_make}
use Rattle.basis.proofs.Logic.{by_test, clash, same, and_split, and_make, or_split, fails}
use Rattle.basis.proofs.Perm.{once_perm}
use Rattle.spec.specs.Graph.{Graph, adjoins, restrict}
use Rattle.spec.specs.Levels.{part}
use Rattle.laws.specs.Legal.{Node, LegalGraph}
use Rattle.laws.proofs.Legal.{row_once, restrict_in, restrict_make, restrict_node, restrict_legal}
use Rattle.laws.proofs.Levels.{part_self, part_on}
use Rattle.laws.proofs.Parts.{part_once, part-least}
use Rattle.levels_laws.specs.Model.{written}
use Rattle.levels_laws.specs.Seek.{at, one, Shut}
use Rattle.levels_laws.proofs.Written.{length-written, written_at}

head_append : (F ys : List ℕ) → 1 ≤ length F → head_or 0 (F ++ ys) ≡ head_or 0 F
head_append [] ys h = absurd (omega arith)
head_append (x ∷ F) ys h = refl

marked : (b : Bool) (x : ℕ) → eqb x 0 ≡ false → eqb (cond b 1 x) 0 ≡ false
marked true x e = refl
marked false x e = e

-- F is what is found of the piece of w so far, and the rows of its first h nodes are visited
pub record Growing (g : Graph) (t : ℕ → Bool) (w : ℕ) (L₀ L F : List ℕ) (h : ℕ) : Type 0 where
  pub room : g.size ≤ length L
  pub once : Once F
  pub first : head_or 0 F ≡ w
  pub most : h ≤ length F
  pub nodes : (q : ℕ) → memb q F ≡ true → Node g q
  pub loose : (q : ℕ) → memb q F ≡ true → t q ≡ true
  pub fresh : (q : ℕ) → memb q F ≡ true → at L₀ q ≡ 0
  pub marks : (q : ℕ) → Node g q → at L q ≡ cond (memb q F) 1 (at L₀ q)
  pub inside : (q : ℕ) → memb q F ≡ true → memb q (part (restrict g t) w) ≡ true
  pub closed : (p q : ℕ) → memb p (take h F) ≡ true → adjoins g p q ≡ true → t q ≡ true → eqb (at L q) 0 ≡ false

module _ {g : Graph} (G : LegalGraph g) {t : ℕ → Bool} {w : ℕ} {L₀ : List ℕ} (N : Node g w) where
  -- the first node
  pub growing_begin : t w ≡ true → at L₀ w ≡ 0 → g.size ≤ length L₀ → Growing g t w L₀ (set L₀ (w - 1) 1) (w ∷ []) 0
  unfolding written
  growing_begin l f r = record {
    room = omega (arith, length-set L₀ (w - 1) 1);
    once = λ x. omega (arith, bit_most (eqb x w));
    first = refl;
    most = omega arith;
    nodes = λ q m. rw (only q m) N;
    loose = λ q m. rw (only q m) l;
    fresh = λ q m. rw (only q m) f;
    marks = λ q Q. written_at one L₀ (w ∷ []) (λ z m. rw (only z m) N.low) q Q.low (omega (arith, Q.high));
    inside = λ q m. rw (only q m) (part_self (restrict_legal t G) (restrict_node t N));
    closed = λ p q m a b. clash m refl;
  }
    where
      only : (q : ℕ) → memb q (w ∷ []) ≡ true → q ≡ w
      only q m = ⊎_elim (λ e. eqb-true q w e) (λ e. clash e refl) (or_split (eqb q w) false m)

  module _ {L F : List ℕ} {h : ℕ} (I : Growing g t w L₀ L F h) where
    abbrev fresh_one : ℕ → Bool
    fresh_one q = t q && eqb (at L q) 0

    -- what is not marked is not in F
    unfound : (q : ℕ) → Node g q → at L q ≡ 0 → memb q F ≡ false
    unfound q Q e = fails (memb q F) (λ m. let a : at L q ≡ 1 = I.marks q Q ∙ rw m in omega arith)

    -- the row of the next node is visited
    pub growing_step : {p : ℕ} → h < length F → p ≡ get_or F h 0
        → Growing g t w L₀ (written one L (filterb fresh_one (g.row p))) (F ++ filterb fresh_one (g.row p)) (h + 1)
    unfolding adjoins
    growing_step {p} l e = record {
      room = omega (arith, I.room, length-written one L new);
      once = twice;
      first = head_append F new (omega arith) ∙ I.first;
      most = omega (arith, length-append F new);
      nodes = λ q m. ⊎_elim (λ a. I.nodes q a) (λ a. new_node q a) (in_either q m);
      loose = λ q m. ⊎_elim (λ a. I.loose q a) (λ a. (new-at q a).1) (in_either q m);
      fresh = λ q m. ⊎_elim (λ a. I.fresh q a) (λ a. was_fresh q a) (in_either q m);
      marks = λ q Q. level q Q ∙ ap (cond (memb q new) 1) (I.marks q Q) ∙ either (memb q F) (memb q new) (at L₀ q) ∙ sym (ap (λ (b : Bool). cond b 1 (at L₀ q)) (memb-append q F new));
      inside = λ q m. ⊎_elim (λ a. I.inside q a)
          (λ a. part_on (restrict_legal t G) (restrict_node t N) p q (restrict_make g t p q (I.loose p p_in) (new-at q a).0 (new-at q a).1) (I.inside p p_in))
          (in_either q m);
      closed = λ r q m a b. shut r q m a b;
    }
      where
        new : List ℕ
        new = filterb fresh_one (g.row p)

        p_in : memb p F ≡ true
        p_in = rw e (memb-get_or F h l)

        new-at : (q : ℕ) → memb q new ≡ true → (adjoins g p q ≡ true) × (t q ≡ true) × (at L q ≡ 0)
        new-at q m =
            let a = filter_in fresh_one (g.row p) q m in
            let b = and_split (t q) (eqb (at L q) 0) a.1 in
            (a.0, b.0, eqb-true (at L q) 0 b.1)

        new_node : (q : ℕ) → memb q new ≡ true → Node g q
        new_node q m = G.inside p q (new-at q m).0

        in_either : (q : ℕ) → memb q (F ++ new) ≡ true → (memb q F ≡ true) ⊎ (memb q new ≡ true)
        in_either q m = or_split (memb q F) (memb q new) (sym (memb-append q F new) ∙ m)

        was_fresh : (q : ℕ) → memb q new ≡ true → at L₀ q ≡ 0
        was_fresh q m =
            let Q = new_node q m in
            let z = (new-at q m).2 in
            sym (I.marks q Q ∙ rw (unfound q Q z)) ∙ z

        twice : (x : ℕ) → times x (F ++ new) ≤ 1
        twice x =
            let a = count_append (eqb x) F new in
            let b = filter_once fresh_one (g.row p) (row_once G p) x in
            by_test (memb x new)
            (λ m. let z = times_none x F (unfound x (new_node x m) (new-at x m).2) in omega arith)
            (λ m. let z = times_none x new m in omega (arith, I.once x))

        level : (q : ℕ) → Node g q → at (written one L new) q ≡ cond (memb q new) 1 (at L q)
        level q Q = written_at one L new (λ z m. (new_node z m).low) q Q.low (omega (arith, Q.high, I.room))

        either : (a b : Bool) (x : ℕ) → cond b 1 (cond a 1 x) ≡ cond (a || b) 1 x
        either true true x = refl
        either true false x = refl
        either false b x = refl

        shut : (r q : ℕ) → memb r (take (h + 1) (F ++ new)) ≡ true → adjoins g r q ≡ true → t q ≡ true → eqb (at (written one L new) q) 0 ≡ false
        shut r q m a b =
            let Q = G.inside r q a in
            let f : take (h + 1) (F ++ new) ≡ take h F ++ (p ∷ []) =
            ap (λ (j : ℕ). take j (F ++ new)) (add-one h) ∙ take-append-le (suc h) F new l ∙ take-suc F h 0 l ∙ ap (λ (x : ℕ). take h F ++ (x ∷ [])) (sym e) in
            let s = or_split (memb r (take h F)) (memb r (p ∷ [])) (sym (memb-append r (take h F) (p ∷ [])) ∙ sym (ap (memb r) f) ∙ m) in
            ap (λ (x : ℕ). eqb x 0) (level q Q) ∙ ⊎_elim
            (λ c. marked (memb q new) (at L q) (I.closed r q c a b))
            (λ c.
            let r-is : r ≡ p = ⊎_elim (λ d. eqb-true r p d) (λ d. clash d refl) (or_split (eqb r p) false c) in
            let a' : memb q (g.row p) ≡ true = ap (λ (y : ℕ). memb q (g.row y)) (sym r-is) ∙ a in
            by_test (eqb (at L q) 0)
            (λ d. let i : memb q new ≡ true = filter_make fresh_one (g.row p) q a' (and_make b d) in rw i)
            (λ d. marked (memb q new) (at L q) d))
            s

    -- once all rows are visited, F is the piece
    pub growing_done : Shut g t L₀ → length F ≤ h → Perm F (part (restrict g t) w)
    growing_done S l =
        once_perm F (part (restrict g t) w) I.once (part_once (restrict g t) w)
        (λ x. same (memb x F) (memb x (part (restrict g t) w)) (I.inside x)
        (λ m. part-least (restrict_legal t G) (restrict_node t N) (λ y. memb y F) on w_in x m))
      where
        w_in : memb w F ≡ true
        w_in = go F I.first I.nodes
          where
            go : (F : List ℕ) → head_or 0 F ≡ w → ((q : ℕ) → memb q F ≡ true → Node g q) → memb w F ≡ true
            go [] e f = absurd (omega (arith, N.low))
            go (x ∷ F) e f = subst (λ (y : ℕ). memb y (x ∷ F) ≡ true) e (memb_here x F)

        on : (x y : ℕ) → memb x F ≡ true → adjoins (restrict g t) x y ≡ true → memb y F ≡ true
        on x y m a =
            let r = restrict_in g t x y a in
            let c = I.closed x y (ap (memb x) (take_all h F l) ∙ m) r.1 r.2 in
            let Y = G.inside x y r.1 in
            by_test (memb y F) (λ i. i)
            (λ i.
            let z : at L y ≡ 0 = I.marks y Y ∙ rw i (S.on x y r.1 r.0 r.2 (I.fresh x m)) in
            clash (eq-eqb (at L y) 0 z) c)

-- The pass over the rows: for q rising, the lower neighbours of q are due. A number p that is due and below q is joined to q: (p, q) is marked, and
-- q becomes the parent of p where it has none, else that parent is due; where (p, q) was marked before, p is no longer due. A lemma for each step;
-- at the end the marks are the joined pairs. Assumes nothing.
use mathlib.Core.Path.{◌≡◌, refl, sym, ap, ◌∙◌, subst}
use mathlib.Core.Logic.{◌⊎◌, inl, inr, ⊎_elim}
use mathlib.Core.Bool.{Bool, true, false}
use mathlib.Core.List.{List, [], ◌∷◌}
use Prim.Native.Nat.{ℕ, suc, ◌≤◌, ◌<◌}
use native.Mathlib.Nat.{eq-or-lt_of_le}
use native.Mathlib.Decide.{ℕ_discrete}
use native.Mathlib.Omega.{arith}
use lib.Dec.{eqb}
use borrow.Author.Tests.{eqb-true}
use Rattle.basis.specs.Lists.{memb}
use Rattle.basis.proofs.Lists.{memb_here}
use Rattle.basis.proofs.Logic.{clash, or_split, or_right}
use Rattle.spec.specs.Graph.{Graph, adjoins}
use Rattle.spec.specs.Measures.{first_in}
use Rattle.spec.specs.Store.{joined}
use Rattle.laws.specs.Joins.{ParentShut}
use Rattle.laws.specs.Legal.{LegalGraph}
use Rattle.laws.proofs.Eliminations.{joined_node, joined-first, joined_edges, joined_shut, joined_is}
use Rattle.store_eliminate.specs.Pass.{Held, Met}

-- M' marks the pair (p, q) beside those that M marks
pub record Added (M M' : ℕ → ℕ → Bool) (p q : ℕ) : Type 0 where
  pub new : M' p q ≡ true
  pub grow : (i k : ℕ) → M i k ≡ true → M' i k ≡ true
  pub only : (i k : ℕ) → M' i k ≡ true → (M i k ≡ true) ⊎ ((i ≡ p) × (k ≡ q))

-- the first that is due, or one of the others
due_cases : (i p : ℕ) (due : List ℕ) → memb i (p ∷ due) ≡ true → (i ≡ p) ⊎ (memb i due ≡ true)
due_cases i p due m = ⊎_elim (λ (e : eqb i p ≡ true). inl (eqb-true i p e)) (λ r. inr r) (or_split (eqb i p) (memb i due) m)

module _ {h : Graph} (H : LegalGraph h) where
  joined_low : (i k : ℕ) → i < k → adjoins (joined h) i k ≡ true → first_in h k ≤ i
  unfolding joined
  joined_low i k l e = joined-first H h.size i k l e

  joined_high : (i k : ℕ) → adjoins (joined h) i k ≡ true → k ≤ h.size
  unfolding joined
  joined_high i k e = (joined_node H h.size i k e).high

  joined-edge : (i k : ℕ) → adjoins h i k ≡ true → adjoins (joined h) i k ≡ true
  unfolding joined
  joined-edge i k e = joined_edges H h.size i k e

  -- before the first row: nothing is marked, and there is no parent
  pub met_none : (M : ℕ → ℕ → Bool) (par : ℕ → ℕ) → ((i k : ℕ) → M i k ≡ false) → ((i : ℕ) → par i ≡ 0) → Met h M par 0 []
  met_none M par none empty = record {
    edges = λ i k l m a. absurd (omega arith);
    sound = λ i k l e. clash e (none i k);
    owed = λ i l m. absurd (omega arith);
    within = λ i k l e. clash e (none i k);
    seen = λ i k a b e. clash e (none i k);
    parent = λ i a. absurd (omega (arith, empty i));
    shut = λ i k a b e l. clash e (none i k);
  }

  module _ {M : ℕ → ℕ → Bool} {par : ℕ → ℕ} {q : ℕ} {due : List ℕ} where
    -- a number that is joined, or not lower, is no longer due
    pub met_drop : (p : ℕ) → Met h M par q (p ∷ due) → (p < q → M p q ≡ true) → Met h M par q due
    met_drop p v e = record {
      edges = λ i k l m a. keep i k l (v.edges i k l m a);
      sound = v.sound;
      owed = λ i l m. v.owed i l (or_right (eqb i p) m);
      within = v.within;
      seen = v.seen;
      parent = v.parent;
      shut = λ i k a b x l. keep (par i) k l (v.shut i k a b x l);
    }
      where
        keep : (i k : ℕ) → i < k → Held M q (p ∷ due) i k → Held M q due i k
        keep i k l (inl x) = inl x
        keep i k l (inr s) = ⊎_elim (λ (g : i ≡ p). inl (rw (g, s.0) (e (omega arith)))) (λ m. inr (s.0, m)) (due_cases i p due s.1)

    -- nor need one be that is not lower
    pub met_idle : (p : ℕ) → q ≤ p → Met h M par q due → Met h M par q (p ∷ due)
    met_idle p g v = record {
      edges = λ i k l m a. keep i k (v.edges i k l m a);
      sound = v.sound;
      owed = λ i l m. ⊎_elim (λ (e : i ≡ p). absurd (omega arith)) (λ d. v.owed i l d) (due_cases i p due m);
      within = v.within;
      seen = v.seen;
      parent = v.parent;
      shut = λ i k a b x l. keep (par i) k (v.shut i k a b x l);
    }
      where
        keep : (i k : ℕ) → Held M q due i k → Held M q (p ∷ due) i k
        keep i k (inl x) = inl x
        keep i k (inr s) = inr (s.0, or_right (eqb i p) s.1)

  module _ {M : ℕ → ℕ → Bool} {par : ℕ → ℕ} {q p : ℕ} {due : List ℕ} (v : Met h M par q (p ∷ due)) (less : p < q) where
    -- p is joined to q at the end
    here_joined : adjoins (joined h) p q ≡ true
    here_joined = v.owed p less (memb_here p due)

    -- so it is a number of row q
    pub met_low : first_in h q ≤ p
    met_low = joined_low p q less here_joined

    -- a parent of p is above p and at most q
    module _ (r : ℕ) (pr : par p ≡ r) (some : 1 ≤ r) where
      known : (p < r) × (M p r ≡ true)
      known = rw pr at (v.parent p (rw pr some))

      pub met_above : p < r
      met_above = known.0

      pub met_below : r ≤ q
      met_below = v.within p r known.0 known.1

      -- and, where it is lower, joined to q at the end
      next_joined : 1 ≤ p → r < q → adjoins (joined h) r q ≡ true
      next_joined low l = joined_shut H p r q low known.0 l (joined_high p q here_joined) (v.sound p r known.0 known.1) here_joined

    -- the pair is marked
    module _ (M' : ℕ → ℕ → Bool) (A : Added M M' p q) where
      sound' : (i k : ℕ) → i < k → M' i k ≡ true → adjoins (joined h) i k ≡ true
      sound' i k l e = ⊎_elim (λ o. v.sound i k l o) (λ s. rw (s.0, s.1) here_joined) (A.only i k e)

      within' : (i k : ℕ) → i < k → M' i k ≡ true → k ≤ q
      within' i k l e = ⊎_elim (λ o. v.within i k l o) (λ (s : (i ≡ p) × (k ≡ q)). omega arith) (A.only i k e)

      held : (due' : List ℕ) → ((i : ℕ) → memb i due ≡ true → memb i due' ≡ true) → (i k : ℕ) → Held M q (p ∷ due) i k → Held M' q due' i k
      held due' more i k (inl e) = inl (A.grow i k e)
      held due' more i k (inr s) = ⊎_elim (λ (e : i ≡ p). inl (rw (e, s.0) A.new)) (λ m. inr (s.0, more i m)) (due_cases i p due s.1)

      -- p has no parent: it is q
      pub met_adopt : par p ≡ 0 → (par' : ℕ → ℕ) → par' p ≡ q → ((i : ℕ) → (i ≡ p → ⊥) → par' i ≡ par i) → Met h M' par' q due
      met_adopt z par' at else = record {
        edges = λ i k l m a. held due (λ j d. d) i k (v.edges i k l m a);
        sound = sound';
        owed = λ i l m. v.owed i l (or_right (eqb i p) m);
        within = within';
        seen = λ i k a b e. seen' i k a b (ℕ_discrete i p) (A.only i k e);
        parent = λ i a. parent' i a (ℕ_discrete i p);
        shut = λ i k a b e l. shut' i k a b l (ℕ_discrete i p) (A.only i k e);
      }
        where
          -- nothing that was marked has the lower number p
          none : (i k : ℕ) → 1 ≤ i → i < k → i ≡ p → M i k ≡ true → ⊥
          none i k a b s o = omega (arith, (v.seen i k a b o).0, ap par s)

          seen' : (i k : ℕ) → 1 ≤ i → i < k → Dec (i ≡ p) → (M i k ≡ true) ⊎ ((i ≡ p) × (k ≡ q)) → (1 ≤ par' i) × (par' i ≤ k)
          seen' i k a b (yes s) (inl o) = absurd (none i k a b s o)
          seen' i k a b (no s) (inl o) = rw (else i s) (v.seen i k a b o)
          seen' i k a b d (inr s) = (omega (arith, ap par' s.0), omega (arith, ap par' s.0))

          parent' : (i : ℕ) → 1 ≤ par' i → Dec (i ≡ p) → (i < par' i) × (M' i (par' i) ≡ true)
          parent' i a (yes s) = rw (s, at) (less, A.new)
          parent' i a (no s) = let r = v.parent i (rw (else i s) at a) in rw (else i s) (r.0, A.grow i (par i) r.1)

          shut' : (i k : ℕ) → 1 ≤ i → i < k → par' i < k → Dec (i ≡ p) → (M i k ≡ true) ⊎ ((i ≡ p) × (k ≡ q)) → Held M' q due (par' i) k
          shut' i k a b l (yes s) (inl o) = absurd (none i k a b s o)
          shut' i k a b l (no s) (inl o) = rw (else i s) (held due (λ j d. d) (par i) k (v.shut i k a b o (rw (else i s) at l)))
          shut' i k a b l d (inr s) = absurd (omega (arith, ap par' s.0))

      -- p has the parent r: that is due
      pub met_climb : 1 ≤ p → (r : ℕ) → par p ≡ r → 1 ≤ r → Met h M' par q (r ∷ due)
      met_climb low r pr some = record {
        edges = λ i k l m a. more i k (v.edges i k l m a);
        sound = sound';
        owed = λ i l m. ⊎_elim (λ (e : i ≡ r). rw e (next_joined r pr some low (omega arith))) (λ d. v.owed i l (or_right (eqb i p) d)) (due_cases i r due m);
        within = within';
        seen = λ i k a b e. seen' i k a b (A.only i k e);
        parent = λ i a. let s = v.parent i a in (s.0, A.grow i (par i) s.1);
        shut = λ i k a b e l. shut' i k a b l (A.only i k e);
      }
        where
          more : (i k : ℕ) → Held M q (p ∷ due) i k → Held M' q (r ∷ due) i k
          more = held (r ∷ due) (λ j d. or_right (eqb j r) d)

          seen' : (i k : ℕ) → 1 ≤ i → i < k → (M i k ≡ true) ⊎ ((i ≡ p) × (k ≡ q)) → (1 ≤ par i) × (par i ≤ k)
          seen' i k a b (inl o) = v.seen i k a b o
          seen' i k a b (inr s) = (omega (arith, ap par s.0), omega (arith, ap par s.0, met_below r pr some))

          shut' : (i k : ℕ) → 1 ≤ i → i < k → par i < k → (M i k ≡ true) ⊎ ((i ≡ p) × (k ≡ q)) → Held M' q (r ∷ due) (par i) k
          shut' i k a b l (inl o) = more (par i) k (v.shut i k a b o l)
          shut' i k a b l (inr s) = inr (s.1, let e : par i ≡ r = ap par s.0 ∙ pr in subst (λ (x : ℕ). memb x (r ∷ due) ≡ true) (sym e) (memb_here r due))

  -- the next row: its edges are due
  pub met_next : {M : ℕ → ℕ → Bool} {par : ℕ → ℕ} {q : ℕ} → Met h M par q [] → (due : List ℕ) → ((i : ℕ) → adjoins h i (suc q) ≡ true → memb i due ≡ true)
      → ((i : ℕ) → memb i due ≡ true → adjoins h i (suc q) ≡ true) → Met h M par (suc q) due
  met_next {M} {par} {q} v due each all = record {
    edges = λ i k l m a. ⊎_elim (λ (e : k ≡ suc q). inr (e, each i (rw e at a))) (λ (g : k < suc q). keep i k (v.edges i k l (omega arith) a)) (eq-or-lt_of_le m);
    sound = v.sound;
    owed = λ i l m. joined-edge i (suc q) (all i m);
    within = λ i k l e. omega (arith, v.within i k l e);
    seen = v.seen;
    parent = v.parent;
    shut = λ i k a b e l. keep (par i) k (v.shut i k a b e l);
  }
    where
      keep : (i k : ℕ) → Held M q [] i k → Held M (suc q) due i k
      keep i k (inl e) = inl e
      keep i k (inr s) = clash s.1 refl

  -- parents that are kept elsewhere
  pub met_parents : {M : ℕ → ℕ → Bool} {par par' : ℕ → ℕ} {q : ℕ} {due : List ℕ} → Met h M par q due → ((i : ℕ) → par' i ≡ par i) → Met h M par' q due
  met_parents v alike = record {
    edges = v.edges;
    sound = v.sound;
    owed = v.owed;
    within = v.within;
    seen = λ i k a b e. rw (alike i) (v.seen i k a b e);
    parent = λ i a. rw (alike i) (v.parent i (rw (alike i) at a));
    shut = λ i k a b e l. rw (alike i) (v.shut i k a b e (rw (alike i) at l));
  }

  -- after the last row the marks are the joined pairs
  pub met_all : {M : ℕ → ℕ → Bool} {par : ℕ → ℕ} → Met h M par h.size [] → (p q : ℕ) → p < q → M p q ≡ adjoins (joined h) p q
  met_all {M} {par} v = joined_is H M (λ p q l a. sure p q (v.edges p q l (H.inside p q a).high a)) tree v.sound
    where
      sure : (i k : ℕ) → Held M h.size [] i k → M i k ≡ true
      sure i k (inl e) = e
      sure i k (inr s) = clash s.1 refl

      tree : ParentShut h.size M
      tree i j k z a b c d e none =
          let s = v.seen i j z a d in
          let t = v.parent i s.0 in
          ⊎_elim (λ (g : par i ≡ j). rw g at (sure (par i) k (v.shut i k z (omega arith) e (omega arith))))
          (λ (g : par i < j). absurd (none (par i) t.0 g t.1)) (eq-or-lt_of_le s.1)

-- Sets that grow: what is left to add completes what was added. Assumes nothing.
use mathlib.Core.Path.{◌≡◌, refl, sym, ap, subst, ◌∙◌}
use mathlib.Core.Bool.{Bool, true, false, ◌&&◌, ◌||◌, or_assoc, or-false}
use mathlib.Core.List.{List}
use Prim.Native.Nat.{ℕ, suc, ◌+◌, ◌*◌, ◌-◌, ◌≤◌, ◌<◌}
use lib.ListN.{length, get_or, take, drop, replicate, length-replicate}
use lib.Dec.{eqb}
use borrow.Author.Tests.{eqb-true, eqb-false}
use borrow.Rule.Slice.PartMut.{mid_of, put_mid}
use Rattle.basis.specs.Lists.{memb}
use Rattle.basis.proofs.Logic.{by_test}
use Rattle.spec.specs.Mesh.{node_count, elements}
use Rattle.mesh_elements.proofs.Remains.{drop_next}
use Rattle.mesh_elements.proofs.Elements.{refusal_from, refusal_none, elements_next, elements_over}
use Rattle.mesh_rowset.specs.Set.{has, Added}
use Rattle.mesh_incidence.specs.Cells.{share, Sound}
use Rattle.mesh_incidence.proofs.Passes.{sound_of}
use Rattle.mesh_gather.specs.Sets.{set_at, Grown, Gathered}
use Rattle.mesh_gather.proofs.Parts.{part-lent, put_there, put_other, none_in}

-- ---- one set is added to

module _ (xs ys : List ℕ) (row : ℕ) (size : length xs ≡ 4096) (h : row < 64) (part : length ys ≡ 64) (t : ℕ → Bool)
    (A : Added t (mid_of (64 * row) (64 * row + 64 - 64 * row) xs) ys) where
  abbrev changed : List ℕ
  changed = put_mid (64 * row) (64 * row + 64 - 64 * row) xs ys

  here : (k x : ℕ) → k ≡ row → x < 4096 → has (set_at changed k) x ≡ has (set_at xs k) x || (true && t (suc x))
  here k x e l =
      ap (λ (i : ℕ). has (set_at changed i) x) e ∙ ap (λ (w : List ℕ). has w x) (put_there xs ys row size h part) ∙ A.at x l
      ∙ ap (λ (w : List ℕ). has w x || t (suc x)) (part-lent xs row ∙ ap (set_at xs) (sym e))

  there : (k x : ℕ) → (k ≡ row → ⊥) → has (set_at changed k) x ≡ has (set_at xs k) x || (false && t (suc x))
  there k x d = ap (λ (w : List ℕ). has w x) (put_other xs ys row size h part k d) ∙ sym (or-false (has (set_at xs k) x))

  pub grown_one : Grown (λ k q. eqb k row && t q) xs changed
  grown_one = record {
    at = λ k m. record {
      at = λ x l.
          by_test (eqb k row) (λ y. here k x (eqb-true k row y) l ∙ ap (λ b. has (set_at xs k) x || (b && t (suc x))) (sym y))
          (λ y. there k x (eqb-false k row y) ∙ ap (λ b. has (set_at xs k) x || (b && t (suc x))) (sym y));
    };
  }

-- ---- what is left of the tests

-- each set, completed by what passes the test that is left, is what it was with what passes the whole test
pub record Towards (left whole : ℕ → ℕ → Bool) (before sets : List ℕ) : Type 0 where
  pub at : (k x : ℕ) → k < 64 → x < 4096 → has (set_at sets k) x || left k (suc x) ≡ has (set_at before k) x || whole k (suc x)

pub towards_begin : (t : ℕ → ℕ → Bool) (sets : List ℕ) → Towards t t sets sets
towards_begin t sets = record { at = λ k x h l. refl }

module _ {left whole : ℕ → ℕ → Bool} {before sets : List ℕ} (T : Towards left whole before sets) where
  -- part of it is added
  pub towards_step : {t left' : ℕ → ℕ → Bool} {next : List ℕ} → Grown t sets next → ((k q : ℕ) → k < 64 → left k q ≡ t k q || left' k q) → Towards left' whole before next
  towards_step {t} {left'} G e = record {
    at = λ k x h l.
        ap (λ b. b || left' k (suc x)) ((G.at k h).at x l) ∙ or_assoc (has (set_at sets k) x) (t k (suc x)) (left' k (suc x))
        ∙ ap (λ b. has (set_at sets k) x || b) (sym (e k (suc x) h)) ∙ T.at k x h l;
  }

  pub towards_done : ((k q : ℕ) → k < 64 → left k q ≡ false) → Grown whole before sets
  towards_done e = record {
    at = λ k h. record { at = λ x l. sym (or-false (has (set_at sets k) x)) ∙ ap (λ b. has (set_at sets k) x || b) (sym (e k (suc x) h)) ∙ T.at k x h l };
  }

-- ---- node by node of an element

-- q is a node, and so is row base + k + 1, from place j on
abbrev pub nodes_from : ℕ → List ℕ → ℕ → ℕ → ℕ → Bool
nodes_from base nodes j k q = memb (base + suc k) (drop j nodes) && memb q nodes

apart : (a b e : Bool) → (a || b) && e ≡ (a && e) || (b && e)
apart true true true = refl
apart true true false = refl
apart true false true = refl
apart true false false = refl
apart false b e = refl

module _ (base : ℕ) (nodes : List ℕ) (j : ℕ) (row : ℕ) (place : (k : ℕ) → k < 64 → eqb (base + suc k) (get_or nodes j 0) ≡ eqb k row) (h : j < length nodes) where
  pub node_next : (k q : ℕ) → k < 64 → nodes_from base nodes j k q ≡ (eqb k row && memb q nodes) || nodes_from base nodes (j + 1) k q
  node_next k q l =
      ap (λ (w : List ℕ). memb (base + suc k) w && memb q nodes) (drop_next nodes j h)
      ∙ ap (λ b. (b || memb (base + suc k) (drop (j + 1) nodes)) && memb q nodes) (place k l)
      ∙ apart (eqb k row) (memb (base + suc k) (drop (j + 1) nodes)) (memb q nodes)

-- ---- element by element

-- q stands in an element with row base + k + 1, from place j on
abbrev pub shared_from : ℕ → List ℕ → ℕ → ℕ → ℕ → Bool
shared_from base ws j k q = share (elements (drop j ws)) (base + suc k) q

module _ (base : ℕ) (ws : List ℕ) (j : ℕ) where
  pub element_next : j < length ws → (k q : ℕ) → k < 64
      → shared_from base ws j k q
      ≡ (memb (base + suc k) (take (node_count (get_or ws j 0)) (drop (j + 1) ws)) && memb q (take (node_count (get_or ws j 0)) (drop (j + 1) ws)))
      || shared_from base ws (j + 1 + node_count (get_or ws j 0)) k q
  unfolding share
  element_next h k q l = ap (λ (els : List (List ℕ)). share els (base + suc k) q) (elements_next ws j h)

  pub element_over : length ws ≤ j → (k q : ℕ) → k < 64 → shared_from base ws j k q ≡ false
  unfolding share
  element_over h k q l = ap (λ (els : List (List ℕ)). share els (base + suc k) q) (elements_over ws j h)

-- the sets of a pass, which was empty before, have the elements before place j, completed by those from j on
pub record Passing (ws : List ℕ) (base j : ℕ) (sets : List ℕ) : Type 0 where
  pub n : ℕ
  pub few : n ≤ 4096
  pub good : refusal_from n (drop j ws) ≡ 0
  pub size : length sets ≡ 4096
  pub towards : Towards (shared_from base ws j) (shared_from base ws 0) (replicate 4096 0) sets

module _ (ws : List ℕ) (base : ℕ) where
  pub passing_begin : {sets : List ℕ} → ((n : ℕ) × (n ≤ 4096) × (refusal_from n ws ≡ 0)) → sets ≡ replicate 4096 0 → Passing ws base 0 sets
  passing_begin {sets} g e = record {
    n = g.0;
    few = g.1;
    good = g.2;
    size = ap length e ∙ length-replicate {A = ℕ} 4096 0;
    towards = subst (Towards (shared_from base ws 0) (shared_from base ws 0) (replicate 4096 0)) (sym e) (towards_begin (shared_from base ws 0) (replicate 4096 0));
  }

  module _ (j : ℕ) (sets : List ℕ) (P : Passing ws base j sets) where
    -- the element at j
    pub passing_sound : j < length ws → Sound ws j
    passing_sound h = sound_of P.n ws j P.few h P.good

    pub passing_step : j < length ws → (nodes next : List ℕ) → nodes ≡ take (node_count (get_or ws j 0)) (drop (j + 1) ws) → length next ≡ length sets
        → Grown (nodes_from base nodes 0) sets next → Passing ws base (j + 1 + node_count (get_or ws j 0)) next
    passing_step h nodes next e s G = record {
      n = P.n;
      few = P.few;
      good = (refusal_none P.n ws j h P.good).1;
      size = s ∙ P.size;
      towards = towards_step P.towards (subst (λ (l : List ℕ). Grown (nodes_from base l 0) sets next) e G) (element_next base ws j h);
    }

    pub passing_done : length ws ≤ j → Gathered ws base sets
    passing_done h = let G = towards_done P.towards (element_over base ws j h) in
        record { at = λ k x m l. (G.at k m).at x l ∙ ap (λ b. b || share (elements ws) (base + suc k) (suc x)) (none_in k x m l) }

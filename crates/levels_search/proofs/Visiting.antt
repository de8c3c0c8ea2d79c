-- The loop of `visit`: what the rest of a row does from here is what the row does from the start. First over levels and queue as two lists,
-- for any search, then in one list. Assumes nothing.
use mathlib.Core.Path.{◌≡◌, refl, sym, ap, ◌∙◌, subst}
use mathlib.Core.Bool.{true}
use mathlib.Core.List.{List, [], ◌∷◌, ◌++◌}
use Prim.Native.Nat.{ℕ, suc, ◌+◌, ◌-◌, ◌≤◌, ◌<◌}
use native.Mathlib.Numerals.{add-one}
use native.Mathlib.Omega.{arith}
use lib.ListN.{length, take, drop, get_or, drop_of_length-le}
use lib.Seq.{drop-cons}
use lib.Dec.{ltb}
use borrow.Author.Tests.{ltb-true}
use Rattle.basis.specs.Lists.{chainb}
use Rattle.basis.proofs.Logic.{by_test, clash}
use Rattle.basis.proofs.Walk.{chain_broken}
use Rattle.levels_search.specs.Marks.{within, found}
use Rattle.levels_search.specs.Queue.{Ready, Pushed, Lent, Moved}
use Rattle.levels_search.proofs.Halves.{front_length}
use Rattle.levels_search.proofs.Pushed.{pushed_none, pushed-append, pushed_ready, pushed_size}
use Rattle.levels_search.proofs.Within.{within-at}

-- at the loop's head: `row` from k on is still to be visited
pub record Going (row : List ℕ) (n : ℕ) (L₀ Q₀ : List ℕ) (tail j : ℕ) (L Q : List ℕ) (t k : ℕ) : Type 0 where
  pub ready : Ready L Q t j
  pub size : length L ≡ n
  pub queue_size : length Q ≡ length Q₀
  pub fine : within n row
  pub most : k ≤ length row
  pub goes : {L' Q' : List ℕ} {t' : ℕ} → Pushed (drop k row) j L Q t L' Q' t' → Pushed row j L₀ Q₀ tail L' Q' t'

pub going_begin : {row L Q : List ℕ} {n tail j : ℕ} → Ready L Q tail j → length L ≡ n → within n row → Going row n L Q tail j L Q tail 0
going_begin R l w = record { ready = R; size = l; queue_size = refl; fine = w; most = omega arith; goes = λ P. P }

module _ {row : List ℕ} {n : ℕ} {L₀ Q₀ : List ℕ} {tail j : ℕ} {L Q : List ℕ} {t k : ℕ} (I : Going row n L₀ Q₀ tail j L Q t k) where
  -- the nodes vs from k up to k' are visited
  going_step : {vs L' Q' : List ℕ} {t' k' : ℕ} → drop k row ≡ vs ++ drop k' row → within n vs → k' ≤ length row → Pushed vs j L Q t L' Q' t'
      → Going row n L₀ Q₀ tail j L' Q' t' k'
  going_step {vs} r w m P = record {
    ready = pushed_ready I.ready P (subst (λ (x : ℕ). within x vs) (sym I.size) w);
    size = pushed_size I.ready P ∙ I.size;
    queue_size = P.size ∙ I.queue_size;
    fine = I.fine;
    most = m;
    goes = λ P'. I.goes (rw r (pushed-append I.ready P P'));
  }

  module _ (h : k < length row) where
    pub going_node : (1 ≤ get_or row k 0) × (get_or row k 0 ≤ n)
    going_node = within-at n row k I.fine h

    pub going_one : {L' Q' : List ℕ} {t' : ℕ} → Pushed (get_or row k 0 ∷ []) j L Q t L' Q' t' → Going row n L₀ Q₀ tail j L' Q' t' (k + 1)
    going_one P = going_step (rw add-one (drop-cons row k 0 h)) (going_node.0, going_node.1, tt) (omega arith) P

  pub going_done : length row ≤ k → Pushed row j L₀ Q₀ tail L Q t
  unfolding found
  going_done h = I.goes (pushed_none I.ready (drop k row) (ap (λ (l : List ℕ). length (found j L l)) (drop_of_length-le row h)))

-- ---- the loop of `visit`: the same in one list of 2n words, where the row rises

-- at the loop's head
pub record Visiting (row : List ℕ) (n : ℕ) (W₀ : List ℕ) (tail j : ℕ) (W : List ℕ) (t k : ℕ) : Type 0 where
  pub full : length W ≡ n + n
  pub rises : chainb ltb row ≡ true
  pub on : Going row n (take n W₀) (drop n W₀) tail j (take n W) (drop n W) t k

pub visit_begin : {row W : List ℕ} {n tail j : ℕ} → Lent n W tail j → within n row → chainb ltb row ≡ true → Visiting row n W tail j W tail 0
visit_begin {W = W} {n} R w r = record { full = R.size; rises = r; on = going_begin R.ready (front_length n W R.size) w }

module _ {row W₀ : List ℕ} {n tail j : ℕ} {W : List ℕ} {t k : ℕ} (I : Visiting row n W₀ tail j W t k) where
  pub lent : Lent n W t j
  lent = record { size = I.full; ready = I.on.ready }

  module _ (h : k < length row) where
    abbrev a : ℕ
    a = get_or row k 0

    pub a_node : (1 ≤ a) × (a ≤ n)
    a_node = going_node I.on h

    pub step-one : {W' : List ℕ} {t' : ℕ} → length W' ≡ length W → Moved n (a ∷ []) j W t W' t' → Visiting row n W₀ tail j W' t' (k + 1)
    step-one e P = record { full = e ∙ I.full; rises = I.rises; on = going_one I.on h P }

  module _ (h : k + 1 < length row) where
    abbrev b : ℕ
    b = get_or row (k + 1) 0

    b_node : (1 ≤ b) × (b ≤ n)
    b_node = within-at n row (k + 1) I.on.fine h

    pub both-nodes : within n (get_or row k 0 ∷ b ∷ [])
    both-nodes = let g : k < length row = omega arith in ((a_node g).0, (a_node g).1, (b_node.0, b_node.1, tt))

    pub a-before : get_or row k 0 < b
    a-before =
        let e : k + 1 - 1 ≡ k = omega arith in
        by_test (ltb (get_or row k 0) b)
        (λ s. ltb-true (get_or row k 0) b s)
        (λ s. clash I.rises (chain_broken 0 ltb row (k + 1) (omega arith) h (ap (λ (i : ℕ). ltb (get_or row i 0) b) e ∙ s)))

    pub step-two : {W' : List ℕ} {t' : ℕ} → length W' ≡ length W → Moved n (get_or row k 0 ∷ b ∷ []) j W t W' t' → Visiting row n W₀ tail j W' t' (k + 2)
    step-two e P =
        let two : k + 2 ≡ suc (k + 1) = omega arith in
        let g : k < length row = omega arith in
        record {
          full = e ∙ I.full;
          rises = I.rises;
          on = going_step I.on
              (drop-cons row k 0 g ∙ ap (λ (l : List ℕ). get_or row k 0 ∷ l) (ap (λ (i : ℕ). drop i row) (sym (add-one k)) ∙ drop-cons row (k + 1) 0 h
              ∙ ap (λ (i : ℕ). b ∷ drop i row) (sym two)))
              both-nodes (omega arith) P;
        }

  pub visit_done : length row ≤ k → Moved n row j W₀ tail W t
  visit_done h = going_done I.on h

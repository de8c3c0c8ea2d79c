-- Laws of `Pushed`, what visiting nodes does to levels and queue: nothing, one node, and one run of nodes after another. Assumes nothing.
use mathlib.Core.Path.{◌≡◌, refl, sym, ap, ◌∙◌}
use mathlib.Core.List.{List, [], ◌∷◌, ◌++◌, append-nil, append_assoc}
use Prim.Native.Nat.{ℕ, ◌+◌, ◌-◌, ◌≤◌, ◌<◌}
use native.Mathlib.Nat.{add-zero, le_refl}
use native.Mathlib.Numerals.{add-one}
use native.Mathlib.Omega.{arith}
use lib.ListN.{length, take, drop, set, drop_of_length-le, length-set, length-append}
use lib.Seq.{slice, drop_at, drop-set-lt, length-take-le, take-append-le, take-set-le, take-suc-set, take-take}
use mathlib.Core.Bool.{Bool, true, false, cond}
use Rattle.basis.specs.Lists.{bit, cons_if}
use Rattle.basis.specs.Perm.{times}
use Rattle.spec.specs.Graph.{of_node}
use Rattle.levels_search.specs.Marks.{within, free, marked, found}
use Rattle.levels_search.specs.Queue.{Ready, Pushed}
use Rattle.levels_search.proofs.Stores.{drop_later}
use Rattle.levels_search.proofs.Marks.{mark_is, marked_none, length_marked, marked_append, found-append, found-taken, times-mark, times_none}

-- the word where the queue ends is written, and kept where the node is new
written : (b : Bool) (Q : List ℕ) (t v : ℕ) → t < length Q → take (t + bit b) (set Q t v) ≡ take t Q ++ cons_if b v []
written true Q t v h = rw add-one (take-suc-set Q t v h)
written false Q t v h = rw add-zero (take-set-le t Q t v (le_refl t) ∙ sym (append-nil (take t Q)))

module _ {j : ℕ} {L Q : List ℕ} {t : ℕ} (R : Ready L Q t j) where
  -- no node of vs is new
  pub pushed_none : (vs : List ℕ) → length (found j L vs) ≡ 0 → Pushed vs j L Q t L Q t
  pushed_none vs h =
      let e : found j L vs ≡ [] = drop_of_length-le (found j L vs) {i = 0} (omega arith) in
      record {
        end = omega arith;
        levels = sym (marked_none j R.pos L vs h);
        size = refl;
        queue = sym (ap (λ (l : List ℕ). take t Q ++ l) e ∙ append-nil (take t Q));
        behind = refl;
      }

  pub pushed-one : (v : ℕ) → 1 ≤ v → t < length Q
      → Pushed (v ∷ []) j L Q t (set L (v - 1) (cond (free L v) j (of_node L v))) (set Q t v) (t + bit (free L v))
  unfolding found marked
  pushed-one v lo h = record {
    end = ap (λ (k : ℕ). t + k) (kept (free L v));
    levels = sym (mark_is j R.pos L v lo);
    size = length-set Q t v;
    queue = written (free L v) Q t v h;
    behind = drop-set-lt (t + bit (free L v) + 1) Q t v (omega arith);
  }
    where
      kept : (b : Bool) → bit b ≡ length (cons_if b v [])
      kept true = refl
      kept false = refl

  -- a node with no level is written where the queue ends, and there is room
  module _ {v : ℕ} (lo : 1 ≤ v) (hi : v ≤ length L) where
    pub pushed_room : of_node L v ≡ 0 → t < length Q
    pushed_room e = omega (arith, R.room, times-mark j R.pos L v (length L) refl lo hi e)

    pub pushed-new : of_node L v ≡ 0 → Pushed (v ∷ []) j L Q t (set L (v - 1) j) (set Q t v) (t + 1)
    pushed-new e = rw e at (pushed-one v lo (pushed_room e))

  -- a node that has a level stays as it is
  pub pushed-old : (v : ℕ) → (of_node L v ≡ 0 → ⊥) → Pushed (v ∷ []) j L Q t L Q t
  unfolding found
  pushed-old v e = pushed_none (v ∷ []) (ap length (found-taken j R.pos L v [] e))

  -- how far the queue goes with the nodes ys too
  pub pushed_count : {xs L' Q' : List ℕ} {t' : ℕ} → Pushed xs j L Q t L' Q' t'
      → (ys : List ℕ) → t' + length (found j L' ys) ≡ t + length (found j L (xs ++ ys))
  pushed_count {xs} {L'} P ys =
      let f : found j L (xs ++ ys) ≡ found j L xs ++ found j L' ys =
      found-append j R.pos L xs ys ∙ ap (λ (M : List ℕ). found j L xs ++ found j M ys) (sym P.levels) in
      omega (arith, P.end, ap length f, length-append (found j L xs) (found j L' ys))

  pub pushed-append : {xs ys L' Q' L'' Q'' : List ℕ} {t' t'' : ℕ} → Pushed xs j L Q t L' Q' t' → Pushed ys j L' Q' t' L'' Q'' t''
      → Pushed (xs ++ ys) j L Q t L'' Q'' t''
  pushed-append {xs} {ys} {L'} {Q'} {L''} {Q''} {t'} {t''} P P' =
      let f : found j L (xs ++ ys) ≡ found j L xs ++ found j L' ys =
      found-append j R.pos L xs ys ∙ ap (λ (M : List ℕ). found j L xs ++ found j M ys) (sym P.levels) in
      record {
        end = P'.end ∙ pushed_count P ys;
        levels = P'.levels ∙ ap (λ (M : List ℕ). marked j M ys) P.levels ∙ sym (marked_append j R.pos L xs ys);
        size = P'.size ∙ P.size;
        queue = P'.queue ∙ ap (λ (l : List ℕ). l ++ found j L' ys) P.queue ∙ append_assoc (take t Q) (found j L xs) (found j L' ys)
            ∙ ap (λ (l : List ℕ). take t Q ++ l) (sym f);
        behind = P'.behind ∙ drop_later (t' + 1) (t'' + 1) Q' Q (omega (arith, P'.end)) P.behind;
      }

  -- what follows of the lengths and the room
  module _ {vs L' Q' : List ℕ} {t' : ℕ} (P : Pushed vs j L Q t L' Q' t') where
    pub pushed_size : length L' ≡ length L
    pushed_size = ap length P.levels ∙ length_marked j R.pos L vs

    pub pushed_past : t ≤ t'
    pushed_past = omega (arith, P.end)

    pub pushed_ready : within (length L) vs → Ready L' Q' t' j
    pushed_ready w = record {
      pos = R.pos;
      room = omega (arith, R.room, P.end, P.size, ap (times 0) P.levels, times_none j R.pos (length L) L vs refl w);
    }

    until : length (take t Q) ≡ t
    until = length-take-le t Q (omega (arith, R.room))

    pub pushed_window : (b : ℕ) → b ≤ t → take b Q' ≡ take b Q
    pushed_window b h =
        sym (take-take b t' Q' (omega (arith, pushed_past))) ∙ ap (take b) P.queue
        ∙ take-append-le b (take t Q) (found j L vs) (omega (arith, until)) ∙ take-take b t Q h

    -- the nodes found stand behind those that stood there
    pub pushed-found : slice t t' Q' ≡ found j L vs
    pushed-found = ap (drop t) P.queue ∙ drop_at (take t Q) (found j L vs) t until

-- The loop of `expand`, the rows of the queue's nodes from a up to b: what the rest of the window does from here is what the window does from
-- the start. First over levels and queue as two lists, for any search, then in one list. Assumes nothing.
use mathlib.Core.Path.{◌≡◌, refl, sym, ap, ◌∙◌}
use mathlib.Core.List.{List, ◌∷◌, ◌++◌}
use Prim.Native.Nat.{ℕ, ◌+◌, ◌≤◌, ◌<◌}
use native.Mathlib.Nat.{le_refl}
use native.Mathlib.Numerals.{add-one}
use native.Mathlib.Omega.{arith}
use lib.ListN.{length, take, drop, get_or}
use lib.Seq.{slice, slice-cons, slice_empty, get_or-take, get_or-drop}
use Rattle.spec.specs.Graph.{row_of}
use Rattle.levels_search.specs.Marks.{within, found, rows}
use Rattle.levels_search.specs.Queue.{Readable, Ready, Pushed}
use Rattle.levels_search.proofs.Halves.{front_length}
use Rattle.levels_search.proofs.Pushed.{pushed_none, pushed_count, pushed-append, pushed_size, pushed_past, pushed_ready, pushed_window}

-- at the loop's head: the window from h on is still to be expanded
pub record Expanding (S N L₀ Q₀ : List ℕ) (bound a b j : ℕ) (L Q : List ℕ) (tail h : ℕ) : Type 0 where
  pub now : Ready L Q tail j
  pub legal : Readable (length L₀) S N
  pub most : h ≤ b
  pub past : b ≤ tail
  pub nodes : within (length L₀) (slice h b Q₀)
  pub same_levels : length L ≡ length L₀
  pub same_queue : length Q ≡ length Q₀
  pub window : take b Q ≡ take b Q₀
  pub few : tail + length (found j L (rows S N (slice h b Q₀))) ≤ bound
  pub goes : {L' Q' : List ℕ} {t' : ℕ} → Pushed (rows S N (slice h b Q₀)) j L Q tail L' Q' t' → Pushed (rows S N (slice a b Q₀)) j L₀ Q₀ b L' Q' t'

pub expand_begin : {S N L Q : List ℕ} {bound a b j : ℕ} → Ready L Q b j → Readable (length L) S N → a ≤ b → within (length L) (slice a b Q)
    → b + length (found j L (rows S N (slice a b Q))) ≤ bound → Expanding S N L Q bound a b j L Q b a
expand_begin {b = b} R G le w f = record {
  now = R;
  legal = G;
  most = le;
  past = le_refl b;
  nodes = w;
  same_levels = refl;
  same_queue = refl;
  window = refl;
  few = f;
  goes = λ P. P;
}

-- a round
module _ {S N L₀ Q₀ : List ℕ} {bound a b j : ℕ} {L Q : List ℕ} {tail h : ℕ} (I : Expanding S N L₀ Q₀ bound a b j L Q tail h) (l : h < b) where
  -- the node at h
  abbrev q : ℕ
  q = get_or Q h 0

  fits : b ≤ length Q₀
  fits = omega (arith, I.past, I.now.room, I.same_queue)

  pub head_in : h < length Q
  head_in = omega (arith, fits, I.same_queue)

  q_is : get_or Q₀ h 0 ≡ q
  q_is = sym (get_or-take b Q₀ h 0 l) ∙ ap (λ (m : List ℕ). get_or m h 0) (sym I.window) ∙ get_or-take b Q h 0 l

  split : slice h b Q₀ ≡ q ∷ slice (h + 1) b Q₀
  split = rw (slice-cons h b Q₀ 0 l fits, q_is, add-one)

  nodes' : within (length L₀) (q ∷ slice (h + 1) b Q₀)
  nodes' = rw split at I.nodes

  pub readable_now : Readable (length L) S N
  readable_now = rw I.same_levels I.legal

  pub head_node : (1 ≤ q) × (q ≤ length L)
  head_node = (nodes'.0, rw I.same_levels nodes'.1)

  split_rows : rows S N (slice h b Q₀) ≡ row_of S N q ++ rows S N (slice (h + 1) b Q₀)
  unfolding rows
  split_rows = ap (rows S N) split

  pub expand_step : {L' Q' : List ℕ} {tail' : ℕ} → Pushed (row_of S N q) j L Q tail L' Q' tail' → Expanding S N L₀ Q₀ bound a b j L' Q' tail' (h + 1)
  expand_step P = record {
    now = pushed_ready I.now P (readable_now.inside q);
    legal = I.legal;
    most = omega arith;
    past = omega (arith, I.past, pushed_past I.now P);
    nodes = nodes'.2;
    same_levels = pushed_size I.now P ∙ I.same_levels;
    same_queue = P.size ∙ I.same_queue;
    window = pushed_window I.now P b I.past ∙ I.window;
    few = omega (arith, I.few, pushed_count I.now P (rows S N (slice (h + 1) b Q₀)), ap (λ (l : List ℕ). length (found j L l)) split_rows);
    goes = λ P'. I.goes (rw split_rows (pushed-append I.now P P'));
  }

-- the window is through, or the queue has as many nodes as it ever has
module _ {S N L₀ Q₀ : List ℕ} {bound a b j : ℕ} {L Q : List ℕ} {tail h : ℕ} (I : Expanding S N L₀ Q₀ bound a b j L Q tail h) where
  idle : length (found j L (rows S N (slice h b Q₀))) ≡ 0 → Pushed (rows S N (slice a b Q₀)) j L₀ Q₀ b L Q tail
  idle e = I.goes (pushed_none I.now (rows S N (slice h b Q₀)) e)

  pub through : b ≤ h → Pushed (rows S N (slice a b Q₀)) j L₀ Q₀ b L Q tail
  unfolding rows found
  through l =
      let e : h ≡ b = omega (arith, I.most) in
      idle (ap (λ (w : List ℕ). length (found j L (rows S N w))) (ap (λ (k : ℕ). slice k b Q₀) e ∙ slice_empty b Q₀))

  pub all : bound ≤ tail → Pushed (rows S N (slice a b Q₀)) j L₀ Q₀ b L Q tail
  all l = idle (omega (arith, I.few))

-- ---- the loop of `expand`: the same in one list of 2n words

pub record Inside (S N : List ℕ) (n : ℕ) (W₀ : List ℕ) (bound a b j : ℕ) (W : List ℕ) (tail h : ℕ) : Type 0 where
  pub legal : Readable n S N
  pub size : length W ≡ n + n
  pub on : Expanding S N (take n W₀) (drop n W₀) bound a b j (take n W) (drop n W) tail h

module _ {S N W₀ : List ℕ} {n bound a b j : ℕ} {W : List ℕ} {tail h : ℕ} (I : Inside S N n W₀ bound a b j W tail h) (l : h < b) where
  p_is : get_or (drop n W) h 0 ≡ get_or W (n + h) 0
  p_is = get_or-drop n W h 0

  pub p_low : 1 ≤ get_or W (n + h) 0
  p_low = rw p_is at (head_node I.on l).0

  pub p_high : get_or W (n + h) 0 ≤ n
  p_high = rw (p_is, front_length n W I.size) at (head_node I.on l).1

  pub inside_step : {W' : List ℕ} {tail' : ℕ} → length W' ≡ length W → Pushed (row_of S N (get_or W (n + h) 0)) j (take n W) (drop n W) tail (take n W') (drop n W') tail'
      → Inside S N n W₀ bound a b j W' tail' (h + 1)
  inside_step {W'} {tail'} e P = record { legal = I.legal; size = e ∙ I.size; on = expand_step I.on l (rw p_is P) }

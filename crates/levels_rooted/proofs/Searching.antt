-- The loop of `search` over lists, where the words in front of the queue's last level are the sizes: where it begins, a round, and what is had
-- at its end. Assumes nothing.
use mathlib.Core.Path.{◌≡◌, refl, sym, ap, ◌∙◌}
use mathlib.Core.List.{List, [], ◌∷◌, ◌++◌, map}
use Prim.Native.Nat.{ℕ, ◌+◌, ◌-◌, ◌≤◌, ◌<◌, max}
use native.Mathlib.Nat.{le_refl}
use native.Mathlib.Numerals.{add-one}
use native.Mathlib.Omega.{arith}
use lib.ListN.{length, take, drop, set, replicate, length-set}
use lib.Seq.{slice, take-set-lt, take-suc-set, drop-set-lt}
use Rattle.basis.specs.Lists.{up_from}
use Rattle.basis.specs.Perm.{times}
use Rattle.basis.proofs.Lists.{map_cong, up_from_in}
use Rattle.basis.proofs.Next.{map_next}
use Rattle.spec.specs.Combined.{count_at}
use Rattle.spec.specs.Graph.{graph_of, size_of, graph_refusal}
use Rattle.laws.proofs.Figures.{sizes_counts}
use Rattle.laws.proofs.Refused.{not_refused}
use Rattle.levels_search.specs.Marks.{within, rows}
use Rattle.levels_search.specs.Queue.{Readable, Ready, Pushed}
use Rattle.levels_search.proofs.AfterRounds.{AfterRounds, size, w_most, kept, all, depth_is, width_is, reached_is}
use Rattle.levels_search.proofs.Pushed.{pushed_window}
use Rattle.levels_search.proofs.Within.{readable}
use Rattle.levels_search.proofs.Window.{Window, nodes_in, b_most, ready, window_step, window_begin}
use Rattle.levels_rooted.specs.Answer.{figures_of, list_of, counts_of}
use Rattle.levels_rooted.specs.declared.shape.Figures.{Figures}

-- at the loop's head: the first depth words are the sizes of the levels before the last, which stands from a up to b
pub record Searching (S N : List ℕ) (root : ℕ) (L Q : List ℕ) (a b depth width : ℕ) : Type 0 where
  pub window : Window S N root L Q a b depth width
  pub sizes : take depth Q ≡ map (count_at L) (up_from 1 depth)

pub begin : {S N : List ℕ} {root at : ℕ} {L : List ℕ} (Q : List ℕ) → graph_refusal S N ≡ 0 → (1 ≤ root) × (root ≤ size_of S) → L ≡ replicate (size_of S) 0
    → length Q ≡ size_of S → at ≡ root → Searching S N root (set L (at - 1) 1) (set Q 0 root) 0 1 0 0
begin {S} {N} {root} {at} {L} Q z r c q e =
    record { window = rw (c, e) (window_begin S N z (record { low = r.0; high = r.1 }) Q q); sizes = refl }

module _ {S N : List ℕ} {root : ℕ} {L Q : List ℕ} {a b d w : ℕ} (I : Searching S N root L Q a b d w) where
  abbrev level : AfterRounds S N root L a (b - a) d w
  level = I.window.level

  -- the nodes of the last level, and their rows
  abbrev W : List ℕ
  W = slice a b Q

  abbrev vs : List ℕ
  vs = rows S N W

  -- ---- what `expand` asks

  pub lists : Readable (length L) S N
  lists = rw (size level) (readable S N level.legal)

  pub room : Ready L Q b (d + 2)
  room = let j : d + 2 ≡ d + 1 + 1 = omega arith in rw j (ready I.window)

  pub inside : within (length L) W
  inside = rw (size level) (nodes_in I.window)

  -- ---- numbers that fit

  pub b_small : b ≤ 4096
  b_small = omega (arith, b_most I.window, (readable S N level.legal).starts.few)

  pub w_small : w ≤ 4096
  w_small = omega (arith, w_most level, (readable S N level.legal).starts.few)

  pub d_small : d ≤ b
  d_small = omega (arith, level.early, I.window.order)

  -- ---- a round: level d + 1 has its size in word d

  module _ (h : a < b) where
    d_in : d < b
    d_in = omega (arith, level.early)

    module _ {L' Q' : List ℕ} {t : ℕ} (P : Pushed vs (d + 2) L Q b L' Q' t) where
      P' : Pushed vs (d + 1 + 1) L Q b L' Q' t
      P' = let j : d + 2 ≡ d + 1 + 1 = omega arith in rw j at P

      next : Window S N root L' Q' b t (d + 1) (max w (b - a))
      next = window_step I.window h P' refl

      -- the next level stands from b up to t
      pub order : (a ≤ b) × (b ≤ t)
      order = (I.window.order, next.order)

      pub t_small : t ≤ 4096
      t_small = omega (arith, b_most next, (readable S N level.legal).starts.few)

      pub d_fits : d < length Q'
      d_fits = omega (arith, d_in, b_most I.window, next.queue_size)

      -- the counts of the levels up to d + 1 stay
      kept_count : (i : ℕ) → 0 < i → i ≤ d + 1 → count_at L i ≡ count_at L' i
      unfolding count_at
      kept_count i lo hi = sym (ap (times i) P'.levels ∙ kept level W i lo hi)

      sizes_next : (x : ℕ) → x ≡ b - a → take (d + 1) (set Q' d x) ≡ map (count_at L') (up_from 1 (d + 1))
      unfolding count_at
      sizes_next x e =
          let s : 1 + d ≡ d + 1 = omega arith in
          let c : x ≡ count_at L' (1 + d) = e ∙ sym level.now ∙ kept_count (d + 1) (omega arith) (le_refl (d + 1)) ∙ ap (count_at L') (sym s) in
          let f : take d Q' ≡ map (count_at L') (up_from 1 d) =
          pushed_window (ready I.window) P' d (omega (arith, d_in)) ∙ I.sizes
          ∙ map_cong (count_at L) (count_at L') (up_from 1 d) (λ i m. let u = up_from_in 1 d i m in kept_count i u.0 (omega (arith, u.1))) in
          ap (λ (k : ℕ). take k (set Q' d x)) (add-one d) ∙ take-suc-set Q' d x d_fits ∙ (λ i. f i ++ (c i ∷ [])) ∙ sym (map_next (count_at L') 1 d)

      pub step : {at x w' : ℕ} → at ≡ d → x ≡ b - a → w' ≡ max w (b - a) → Searching S N root L' (set Q' at x) b t (d + 1) w'
      step {x = x} e ex ew = rw (e, ew) record {
        window = record {
          level = next.level;
          queue_size = length-set Q' d x ∙ next.queue_size;
          order = next.order;
          holds = λ q. rw same (next.holds q);
        };
        sizes = sizes_next x ex;
      }
        where
          -- the last level stands behind the word that is written
          same : slice b t (set Q' d x) ≡ slice b t Q'
          same = ap (drop b) (take-set-lt t Q' d x (omega (arith, d_in, next.order))) ∙ drop-set-lt b (take t Q') d x d_in

  -- ---- the end

  module _ (h : b ≤ a) where
    empty : b - a ≡ 0
    empty = omega arith

    pub listed : L ≡ list_of (graph_of S N) root
    listed = all level empty

    pub figures : (r : Figures) → r.depth ≡ d → r.width ≡ w → r.reached ≡ b → r ≡ figures_of (graph_of S N) root
    figures r p q s =
        let e : b ≡ a = omega (arith, I.window.order) in
        λ i. record {
          depth = (p ∙ sym (depth_is level empty)) i;
          width = (q ∙ sym (width_is level empty)) i;
          reached = (s ∙ e ∙ sym (reached_is level empty)) i;
        }

    pub counts : take d Q ≡ counts_of (graph_of S N) root
    counts =
        I.sizes ∙ (λ i. map (count_at (listed i)) (up_from 1 (sym (depth_is level empty) i)))
        ∙ sym (sizes_counts (not_refused S N level.legal) level.node)

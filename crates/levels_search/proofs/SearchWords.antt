-- The 2n words of a search: where the loop of `search` begins in them, a round, and what they hold at its end. Assumes nothing.
use mathlib.Core.Path.{◌≡◌, refl, sym, ap, ◌∙◌, subst}
use mathlib.Core.List.{List}
use Prim.Native.Nat.{ℕ, ◌+◌, ◌-◌, ◌≤◌, ◌<◌, max}
use native.Mathlib.Nat.{add-zero}
use native.Mathlib.Omega.{arith}
use lib.ListN.{length, take, drop, set, replicate, length-set, length-replicate}
use lib.Seq.{slice, take-set-le, drop-set-add}
use Rattle.spec.specs.Graph.{graph_of, size_of, graph_refusal}
use Rattle.laws.specs.Legal.{Node}
use Rattle.levels_search.specs.Marks.{within, rows}
use Rattle.levels_search.specs.Queue.{Readable, Lent, Pushed}
use Rattle.levels_search.specs.Answer.{Searched}
use Rattle.levels_search.proofs.Within.{readable}
use Rattle.levels_search.proofs.AfterRounds.{w_most}
use Rattle.levels_search.proofs.Searching.{Searching, begin, step, searched}
use Rattle.levels_search.proofs.Window.{nodes_in, b_most, ready}
use Rattle.levels_search.proofs.Stores.{take-replicate, drop-replicate}
use Rattle.levels_search.proofs.Halves.{write_front, write_behind}

-- the 2n words, which were 0, once word i is 1 and the queue has the root
module _ (n : ℕ) {i : ℕ} (root : ℕ) (h : i < n) where
  first-front : take n (set (set (replicate (n + n) 0) i 1) n root) ≡ set (replicate n 0) i 1
  first-front =
      ap (λ (k : ℕ). take n (set (set (replicate (n + n) 0) i 1) k root)) (sym (add-zero n)) ∙ write_front n (replicate (n + n) 0) i 0 1 root h
      ∙ ap (λ (l : List ℕ). set l i 1) (take-replicate n n 0)

  first_behind : drop n (set (set (replicate (n + n) 0) i 1) n root) ≡ set (replicate n 0) 0 root
  first_behind =
      let m : n + n - n ≡ n = omega arith in
      ap (λ (k : ℕ). drop n (set (set (replicate (n + n) 0) i 1) k root)) (sym (add-zero n)) ∙ write_behind n (replicate (n + n) 0) i 0 1 root h
      ∙ ap (λ (l : List ℕ). set l 0 root) (drop-replicate n (n + n) 0 ∙ ap (λ (k : ℕ). replicate k 0) m)

-- at the loop's head
pub record Inside (S N : List ℕ) (root n : ℕ) (W : List ℕ) (last a b depth width : ℕ) : Type 0 where
  pub is : n ≡ size_of S
  pub full : length W ≡ n + n
  pub on : Searching S N root (take n W) (drop n W) last a b depth width

-- what is had before the loop
pub record Start (S N : List ℕ) (root : ℕ) (W : List ℕ) : Type 0 where
  pub legal : graph_refusal S N ≡ 0
  pub node : Node (graph_of S N) root
  pub zero : W ≡ replicate (size_of S + size_of S) 0

module _ {S N : List ℕ} {root : ℕ} {W₀ : List ℕ} (A : Start S N root W₀) where
  pub some : 1 ≤ size_of S
  some = (readable S N A.legal).starts.some

  pub few : size_of S ≤ 4096
  few = (readable S N A.legal).starts.few

  module _ {at : ℕ} (e : at ≡ root) where
    pub W-size : length W₀ ≡ size_of S + size_of S
    W-size = ap length A.zero ∙ length-replicate (size_of S + size_of S) 0

    pub begins : Inside S N root (length S - 1) (set (set W₀ (at - 1) 1) (length S - 1) root) 0 0 1 0 0
    begins =
        let h : root - 1 < size_of S = omega (arith, A.node.low, A.node.high) in
        record {
          is = refl;
          full = length-set (set W₀ (at - 1) 1) (size_of S) root ∙ length-set W₀ (at - 1) 1 ∙ W-size;
          on = rw (A.zero, e, first-front (size_of S) root h, first_behind (size_of S) root h) (begin S N A.legal A.node);
        }

module _ {S N : List ℕ} {root n : ℕ} {W : List ℕ} {last a b d w : ℕ} (I : Inside S N root n W last a b d w) where
  pub lent : Lent n W b (d + 1 + 1)
  lent = record {
    size = I.full;
    ready = ready I.on.window;
  }

  pub graph : Readable n S N
  graph = rw I.is (readable S N I.on.window.level.legal)

  pub window : within n (slice a b (drop n W))
  window = subst (λ (m : ℕ). within m (slice a b (drop n W))) (sym I.is) (nodes_in I.on.window)

  pub again : {W' : List ℕ} {b' w' : ℕ} → a < b → length W' ≡ length W
      → Pushed (rows S N (slice a b (drop n W))) (d + 1 + 1) (take n W) (drop n W) b (take n W') (drop n W') b' → w' ≡ max w (b - a)
      → Inside S N root n W' a b b' (d + 1) w'
  again h e P ew = record { is = I.is; full = e ∙ I.full; on = step I.on h P ew }

  pub found_all : b ≤ a → {X : List ℕ} → X ≡ set W (n + b) 0 → Searched S N root X
  found_all h {X} e =
      searched I.on h X (ap length e ∙ length-set W (n + b) 0 ∙ I.full ∙ ap (λ (m : ℕ). m + m) I.is)
      (sym (ap (take n) e ∙ take-set-le n W (n + b) 0 (omega arith)) ∙ ap (λ (m : ℕ). take m X) I.is)
      (sym (ap (drop n) e ∙ drop-set-add n W b 0) ∙ ap (λ (m : ℕ). drop m X) I.is)

  pub d_small : a < b → d < 4096
  d_small h = omega (arith, I.on.window.level.early, b_most I.on.window, (readable S N I.on.window.level.legal).starts.few)

  pub b_small : b ≤ 4096
  b_small = omega (arith, b_most I.on.window, (readable S N I.on.window.level.legal).starts.few)

  pub w_small : w ≤ 4096
  w_small = omega (arith, w_most I.on.window.level, (readable S N I.on.window.level.legal).starts.few)

  pub last_small : last ≤ 4096
  last_small = omega (arith, b_small, I.on.tail_before, I.on.window.order)

-- The loop that places the pieces in the order of their starts. Assumes nothing.
use mathlib.Core.Path.{◌≡◌, refl, sym, ap, ◌∙◌, subst}
use mathlib.Core.Bool.{Bool, true, false, cond}
use mathlib.Core.List.{List, ◌∷◌, map}
use Prim.Native.Nat.{ℕ, ◌+◌, ◌-◌, ◌*◌, ◌≤◌, ◌<◌}
use native.Mathlib.Omega.{arith}
use lib.ListN.{length, get_or}
use Rattle.basis.specs.Lists.{up_from}
use Rattle.levels_laws.specs.Tally.{tally}
use Rattle.levels_laws.specs.Model.{node_at, queued, slots, number_at, written, chosen, peak_of, goes_second, Placeable}
use Rattle.levels_laws.specs.Starts.{start_at, starts_of, size_at, Standing}
use Rattle.levels_laws.specs.Placed.{end_of, placed_words, placed_levels, words_after, levels_after, Shallow, PlaceableAll}
use Rattle.levels_laws.proofs.Tally.{Counts}
use Rattle.levels_laws.proofs.Runs.{from_cons, from_none}
use Rattle.levels_laws.proofs.Slots.{counts_tally, tally-front}
use Rattle.levels_laws.proofs.PlaceOne.{chosen_countable}
use Rattle.levels_laws.proofs.Written.{length-written}

chosen_shallow : {n b s t : ℕ} {W : List ℕ} (c : Bool) → Shallow n b s t W → (p : ℕ) → s ≤ p → p < t → number_at (cond c (2 * n) 0) W (node_at n W p) ≤ b
chosen_shallow true S = S.second
chosen_shallow false S = S.first

-- the starts from i on
abbrev pub starts_from : ℕ → ℕ → List ℕ → ℕ → List ℕ
starts_from n m W i = map (start_at n W) (up_from i (m - i))

-- at the loop's head: the pieces from i on are still to be placed
pub record PlacingAll (n m : ℕ) (narrow : Bool) (W₀ L₀ W L : List ℕ) (i : ℕ) : Type 0 where
  pub few : n ≤ 4096
  pub last : m ≤ n
  pub room : 5 * n ≤ length W
  pub most : i ≤ m
  pub counts : Counts (3 * n + m) W₀ W
  pub size : length L ≡ length L₀
  pub todo : PlaceableAll n (n - m) narrow (starts_from n m W₀ i) W L
  pub words : words_after n narrow (starts_from n m W₀ i) W L ≡ words_after n narrow (starts_from n m W₀ 0) W₀ L₀
  pub levels : levels_after n narrow (starts_from n m W₀ i) W L ≡ levels_after n narrow (starts_from n m W₀ 0) W₀ L₀

starts_all : (n m : ℕ) (W : List ℕ) → starts_from n m W 0 ≡ starts_of n m W
starts_all n m W = let e : m - 0 ≡ m = omega arith in ap (λ (k : ℕ). map (start_at n W) (up_from 0 k)) e

pub place_begin : {n m : ℕ} {narrow : Bool} {W L : List ℕ} → n ≤ 4096 → m ≤ n → 5 * n ≤ length W
    → PlaceableAll n (n - m) narrow (starts_of n m W) W L → PlacingAll n m narrow W L W L 0
place_begin {n} {m} {narrow} {W} {L} f l r P = record {
  few = f;
  last = l;
  room = r;
  most = omega arith;
  counts = record { size = refl; front = λ i h. refl };
  size = refl;
  todo = subst (λ (os : List ℕ). PlaceableAll n (n - m) narrow os W L) (sym (starts_all n m W)) P;
  words = refl;
  levels = refl;
}

module _ {n m : ℕ} {narrow : Bool} {W₀ L₀ W L : List ℕ} {i : ℕ} (I : PlacingAll n m narrow W₀ L₀ W L i) (h : i < m) {o : ℕ} (e : o ≡ get_or W (3 * n + i) 0) where
  o_is : o ≡ start_at n W₀ i
  o_is = e ∙ I.counts.front (3 * n + i) (omega arith)

  rest_is : starts_from n m W₀ i ≡ o ∷ starts_from n m W₀ (i + 1)
  rest_is = from_cons (start_at n W₀) i m h ∙ ap (λ (x : ℕ). x ∷ starts_from n m W₀ (i + 1)) (sym o_is)

  now : PlaceableAll n (n - m) narrow (o ∷ starts_from n m W₀ (i + 1)) W L
  now = subst (λ (os : List ℕ). PlaceableAll n (n - m) narrow os W L) rest_is I.todo

  pub now_stands : Standing n W L o
  unfolding PlaceableAll
  now_stands = now.0

  module _ {t : ℕ} (q : t ≡ size_at n W L o) where
    pub now_placeable : Placeable n o (o + t) W L
    unfolding PlaceableAll
    now_placeable = subst (λ (x : ℕ). Placeable n o (o + x) W L) (sym q) now.1

    pub end_fits : o + t ≤ n
    end_fits = now_placeable.first.read.most

    pub place-step : {W' L' : List ℕ}
        → W' ≡ tally W (slots n (chosen n o (o + t) narrow W) o (o + t) W)
        → L' ≡ written (number_at (chosen n o (o + t) narrow W) W) L (queued n o (o + t) W)
        → PlacingAll n m narrow W₀ L₀ W' L' (i + 1)
    unfolding PlaceableAll words_after levels_after chosen
    place-step {W'} {L'} a b =
        let u : W' ≡ placed_words n narrow o W L = a ∙ ap (λ (x : ℕ). tally W (slots n (chosen n o (o + x) narrow W) o (o + x) W)) q in
        let v : L' ≡ placed_levels n narrow o W L = b ∙ ap (λ (x : ℕ). written (number_at (chosen n o (o + x) narrow W) W) L (queued n o (o + x) W)) q in
        let C : Counts (3 * n + m) W (placed_words n narrow o W L) = counted in
        record {
          few = I.few;
          last = I.last;
          room = omega (arith, ap length u, C.size, I.room);
          most = omega arith;
          counts = record {
            size = ap length u ∙ C.size ∙ I.counts.size;
            front = λ k l. ap (λ (x : List ℕ). get_or x k 0) u ∙ C.front k l ∙ I.counts.front k l;
          };
          size = ap length v ∙ length-written (number_at (chosen n o (end_of n W L o) narrow W) W) L (queued n o (end_of n W L o) W) ∙ I.size;
          todo = subst (λ (x : List ℕ). PlaceableAll n (n - m) narrow (starts_from n m W₀ (i + 1)) x L') (sym u)
              (subst (λ (x : List ℕ). PlaceableAll n (n - m) narrow (starts_from n m W₀ (i + 1)) (placed_words n narrow o W L) x) (sym v) now.3);
          words = (λ j. words_after n narrow (starts_from n m W₀ (i + 1)) (u j) (v j)) ∙ sym (ap (λ (os : List ℕ). words_after n narrow os W L) rest_is) ∙ I.words;
          levels = (λ j. levels_after n narrow (starts_from n m W₀ (i + 1)) (u j) (v j)) ∙ sym (ap (λ (os : List ℕ). levels_after n narrow os W L) rest_is) ∙ I.levels;
        }
      where
        second : Bool
        second = goes_second (peak_of n 0 o (end_of n W L o) W) (peak_of n (2 * n) o (end_of n W L o) W) narrow

        counted : Counts (3 * n + m) W (placed_words n narrow o W L)
        counted =
            let R = (chosen_countable second now.1).read in
            record {
              size = (counts_tally R).size;
              front = λ k l. tally-front R (n - m) (chosen_shallow second now.2) k (omega (arith, I.last));
            }

pub place_done : {n m : ℕ} {narrow : Bool} {W₀ L₀ W L : List ℕ} {i : ℕ} → PlacingAll n m narrow W₀ L₀ W L i → m ≤ i
    → (W ≡ words_after n narrow (starts_of n m W₀) W₀ L₀) × (L ≡ levels_after n narrow (starts_of n m W₀) W₀ L₀)
unfolding words_after levels_after
place_done {n} {m} {narrow} {W₀} {L₀} {W} {L} {i} I h =
    let e = from_none (start_at n W₀) i m h in (
      sym (ap (λ (os : List ℕ). words_after n narrow os W L) e) ∙ I.words ∙ ap (λ (os : List ℕ). words_after n narrow os W₀ L₀) (starts_all n m W₀),
      sym (ap (λ (os : List ℕ). levels_after n narrow os W L) e) ∙ I.levels ∙ ap (λ (os : List ℕ). levels_after n narrow os W₀ L₀) (starts_all n m W₀),
    )

-- The pieces placed one after another: the words and the levels afterwards, as functions of those before. Assumes nothing.
use Rattle.std.specs.Prelude.{Bool, List, [], ◌∷◌, ℕ, ◌+◌, ◌*◌, ◌≤◌, ◌<◌}
use Rattle.levels_laws.specs.Model.{node_at, number_at, words_by, levels_by, chosen, Placeable}
use Rattle.levels_laws.specs.Starts.{size_at, Standing}

-- where the piece that starts at o ends
abbrev pub end_of : ℕ → List ℕ → List ℕ → ℕ → ℕ
end_of n W L o = o + size_at n W L o

-- the words and the levels after that piece is placed
abbrev pub placed_words : ℕ → Bool → ℕ → List ℕ → List ℕ → List ℕ
placed_words n narrow o W L = words_by n (chosen n o (end_of n W L o) narrow W) o (end_of n W L o) W

abbrev pub placed_levels : ℕ → Bool → ℕ → List ℕ → List ℕ → List ℕ
placed_levels n narrow o W L = levels_by n (chosen n o (end_of n W L o) narrow W) o (end_of n W L o) W L

-- and after the pieces that start at os are placed in turn
unfoldable pub words_after : ℕ → Bool → List ℕ → List ℕ → List ℕ → List ℕ
words_after n narrow [] W L = W
words_after n narrow (o ∷ os) W L = words_after n narrow os (placed_words n narrow o W L) (placed_levels n narrow o W L)

unfoldable pub levels_after : ℕ → Bool → List ℕ → List ℕ → List ℕ → List ℕ
levels_after n narrow [] W L = L
levels_after n narrow (o ∷ os) W L = levels_after n narrow os (placed_words n narrow o W L) (placed_levels n narrow o W L)

-- both numbers of the nodes s..t of the queue are at most b
pub record Shallow (n b s t : ℕ) (W : List ℕ) : Type 0 where
  pub first : (p : ℕ) → s ≤ p → p < t → number_at 0 W (node_at n W p) ≤ b
  pub second : (p : ℕ) → s ≤ p → p < t → number_at (2 * n) W (node_at n W p) ≤ b

-- each can be placed when its turn comes, at levels up to b
unfoldable pub PlaceableAll : ℕ → ℕ → Bool → List ℕ → List ℕ → List ℕ → Type 0
PlaceableAll n b narrow [] W L = Unit {0}
PlaceableAll n b narrow (o ∷ os) W L =
    Standing n W L o × Placeable n o (end_of n W L o) W L × Shallow n b o (end_of n W L o) W
    × PlaceableAll n b narrow os (placed_words n narrow o W L) (placed_levels n narrow o W L)

-- What lists, counts and numbering give that are not refused: as many of each, and of a node its number's f and its count. Assumes nothing.
use mathlib.Core.Path.{◌≡◌, sym, ap, ◌∙◌}
use mathlib.Core.List.{List}
use Prim.Native.Nat.{ℕ, ◌+◌, ◌-◌, ◌≤◌, ◌<◌}
use native.Mathlib.Omega.{arith}
use lib.ListN.{length, get_or}
use Rattle.spec.specs.Graph.{size_of, graph_of, of_node}
use Rattle.spec.specs.Measures.{renumbered, first_in}
use Rattle.laws.specs.Legal.{Node}
use Rattle.laws.proofs.Legal.{of_node-at}
use Rattle.laws.proofs.Numberings.{numbering_length}
use Rattle.laws.proofs.UnknownBounds.{counts_size, count_between}
use Rattle.graph_envelope.proofs.Envelope.{first_low, first_most, number_most}
use Rattle.numbering_measures.specs.Measurable.{Measurable}

module _ {S N K X : List ℕ} (M : Measurable S N K X) where
  pub numbers_size : length X ≡ size_of S
  numbers_size = numbering_length (size_of S) X M.numbered

  pub counts_long : length K ≡ size_of S
  counts_long = counts_size (size_of S) K M.counted

  pub next_node : (p : ℕ) → p < length K → Node (graph_of S N) (p + 1)
  next_node p h = record { low = omega arith; high = omega (arith, counts_long) }

  pub count_most : (a : ℕ) → 1 ≤ a → a ≤ size_of S → of_node K a ≤ 6
  count_most a lo hi = (count_between (size_of S) K M.counted a lo hi).1

  -- the count at p is that of the next node
  pub next_count : (p : ℕ) → get_or K p 0 ≡ of_node K (p + 1)
  next_count p =
      let e : p + 1 - 1 ≡ p = omega arith in
      sym (of_node-at K (p + 1) (omega arith) ∙ ap (λ (k : ℕ). get_or K k 0) e)

  pub next_few : (p : ℕ) → p < length K → get_or K p 0 ≤ 6
  next_few p h = omega (arith, next_count p, count_most (p + 1) (omega arith) (omega (arith, counts_long)))

  -- f of the number of a node is a number
  pub first_range : (a : ℕ) → Node (graph_of S N) a → {f : ℕ} → f ≡ first_in (renumbered (graph_of S N) X) (of_node X a) → (1 ≤ f) × (f ≤ size_of S)
  first_range a A e =
      omega (
        arith,
        e,
        first_low M.lists.graph X M.numbered a A,
        first_most M.lists.graph X M.numbered a A,
        number_most M.lists.graph X M.numbered a A,
      )

-- The counts from which the front is swept. Assumes nothing.
use Rattle.std.specs.Prelude.{List, map, ℕ, ◌+◌, ◌≤◌, ◌<◌, length, take, eqb}
use Rattle.basis.specs.Lists.{countb, sum, up_from}
use Rattle.spec.specs.Graph.{Graph, of_node}
use Rattle.spec.specs.Measures.{renumbered, first_in}

-- f of the new numbers of the nodes 1 .. p
unfoldable pub firsts : Graph → List ℕ → ℕ → List ℕ
firsts g x p = map (λ a. first_in (renumbered g x) (of_node x a)) (up_from 1 p)

-- how many of the nodes 1 .. p have f = i, for each number i
unfoldable pub opened : Graph → List ℕ → ℕ → List ℕ
unfolding firsts
opened g x p = map (λ i. countb (eqb i) (firsts g x p)) (up_from 1 g.size)

-- up to each number at least as many are opened as are passed, and in all no more than there are
pub record Sweeps (counts : List ℕ) : Type 0 where
  pub few : length counts ≤ 4096
  pub most : (i : ℕ) → i ≤ length counts → sum (take i counts) ≤ length counts
  pub enough : (i : ℕ) → i < length counts → i ≤ sum (take (i + 1) counts)

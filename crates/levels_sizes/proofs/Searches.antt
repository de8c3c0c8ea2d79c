-- From what a search leaves to the list of its level sizes, wherever in the scratch it stands. Assumes nothing.
use mathlib.Core.Path.{◌≡◌, sym, ap, ◌∙◌}
use mathlib.Core.List.{List}
use Prim.Native.Nat.{ℕ, ◌+◌, ◌-◌, ◌*◌, ◌≤◌}
use native.Mathlib.Omega.{arith}
use lib.ListN.{length, take, drop, replicate}
use lib.Seq.{slice, take-take, drop-drop}
use lib.Dec.{ltb}
use Rattle.basis.specs.Lists.{bit}
use Rattle.basis.specs.Perm.{times}
use Rattle.basis.proofs.Walk.{part_slice}
use Rattle.spec.specs.Combined.{width_of}
use Rattle.spec.specs.Graph.{graph_of, size_of, graph_refusal, of_node}
use Rattle.spec.specs.Levels.{levels, depth, width, reached, level_list}
use Rattle.laws.specs.Legal.{Node}
use Rattle.laws.proofs.Figures.{width_counts}
use Rattle.laws.proofs.Levels.{level_most, depth_most}
use Rattle.laws.proofs.Refused.{passed, starts_of_lem, not_refused}
use Rattle.levels_laws.specs.Areas.{tally_of}
use Rattle.levels_search.specs.Answer.{Searched}
use Rattle.levels_search.proofs.Placed.{level_of_lem}
use Rattle.levels_sizes.specs.Sizes.{levels_at, queue_at, Listable}

-- the words from base on, as many as a search has
abbrev pub search_at : ℕ → ℕ → List ℕ → List ℕ
search_at n base X = slice base (base + (n + n)) X

search_part : (n base : ℕ) (X : List ℕ) → search_at n base X ≡ take (n + n) (drop base X)
search_part n base X =
    let e : base + (n + n) - base ≡ n + n = omega arith in
    sym (part_slice base (base + (n + n)) X) ∙ ap (λ (m : ℕ). take m (drop base X)) e

levels-part : (n base : ℕ) (X : List ℕ) → take n (search_at n base X) ≡ levels_at n base X
levels-part n base X =
    let e : base + n - base ≡ n = omega arith in
    ap (take n) (search_part n base X) ∙ take-take n (n + n) (drop base X) (omega arith) ∙ ap (λ (m : ℕ). take m (drop base X)) (sym e)
    ∙ part_slice base (base + n) X

queue_part : (n base count : ℕ) (X : List ℕ) → count ≤ n → take count (drop n (search_at n base X)) ≡ queue_at n base count X
queue_part n base count X h =
    let e : n + n - n ≡ n = omega arith in
    let f : base + n + count - (base + n) ≡ count = omega arith in
    ap (λ (l : List ℕ). take count (drop n l)) (search_part n base X) ∙ ap (take count) (sym (part_slice n (n + n) (drop base X)))
    ∙ take-take count (n + n - n) (drop n (drop base X)) (omega arith) ∙ ap (take count) (drop-drop n base X)
    ∙ ap (λ (m : ℕ). take m (drop (base + n) X)) (sym f) ∙ part_slice (base + n) (base + n + count) X

module _ (S N : List ℕ) (ok : graph_refusal S N ≡ 0) {r : ℕ} (R : Node (graph_of S N) r) (base : ℕ) (X : List ℕ)
    (K : Searched S N r (search_at (size_of S) base X)) where
  abbrev n : ℕ
  n = size_of S

  -- its levels
  levels_are : levels_at n base X ≡ level_list (graph_of S N) (levels (graph_of S N) r)
  levels_are = sym (levels-part n base X) ∙ K.listed

  pub searched_listable : base + 2 * n ≤ 5 * n → 6 * n ≤ length X → tally_of n X ≡ replicate n 0
      → Listable n base (reached (levels (graph_of S N) r)) (depth (levels (graph_of S N) r)) X
  searched_listable f l e =
      let g = graph_of S N in
      let Q = K.holds in
      record {
        some = omega (arith, R.low, R.high);
        few = (starts_of_lem (passed S N ok)).few;
        room = l;
        front = f;
        most = Q.most;
        deep = depth_most g r;
        each = λ q.
            ap (times q) (sym (queue_part n base (reached (levels g r)) X Q.most)) ∙ Q.each q
            ∙ ap (λ (x : List ℕ). bit (ltb 0 (of_node x q))) (levels-part n base X);
        under = λ q. omega (arith, ap (λ (x : List ℕ). of_node x q) levels_are, level_of_lem S N ok R q, level_most g r q);
        clean = e;
      }

  -- their width
  pub searched_width : width_of (depth (levels (graph_of S N) r)) (levels_at n base X) ≡ width (levels (graph_of S N) r)
  searched_width = ap (width_of (depth (levels (graph_of S N) r))) levels_are ∙ sym (width_counts (not_refused S N ok) R)

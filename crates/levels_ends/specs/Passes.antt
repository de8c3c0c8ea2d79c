-- What the functions of the end search ask and leave, on 4n words: the search from v in the first 2n, that from an s in the second.
-- Assumes nothing.
use Rattle.std.specs.Prelude.{◌≡◌, Bool, true, false, cond, List, [], ◌∷◌, ℕ, ◌+◌, ◌-◌, ◌≤◌, ◌<◌, length, take, drop, replicate, ltb}
use Rattle.std.proofs.Math.Seq.{slice}
use Rattle.basis.specs.Lists.{chainb, filterb, memb}
use Rattle.spec.specs.Ends.{depth_at, farthest, deeper, narrower, other_end}
use Rattle.spec.specs.Graph.{graph_of, size_of, graph_refusal, before_e, of_node}
use Rattle.spec.specs.Levels.{levels, part}
use Rattle.laws.specs.Legal.{Node}
use Rattle.levels_search.specs.Answer.{rooted_of, Searched}
use Rattle.levels_search.specs.Queue.{Queued}
use Rattle.levels_search.specs.declared.shape.Rooted.{Rooted}
use Rattle.levels_sort.specs.Nodes.{Nodes}
use Rattle.levels_ends.specs.declared.shape.Tried.{Tried}

-- m is in the list, and comes before every other element of it
pub record Least (t : ℕ → ℕ → Bool) (l : List ℕ) (m : ℕ) : Type 0 where
  pub member : memb m l ≡ true
  pub before : (q : ℕ) → memb q l ≡ true → (q ≡ m → ⊥) → t m q ≡ true

-- 2n
abbrev pub half : List ℕ → ℕ
half S = size_of S + size_of S

-- the words from a up to b of the first 2n are nodes in E, of a part that has no more nodes than stand in the queue up to b, and the second
-- 2n words are 0
pub record Candidates (S N : List ℕ) (a b : ℕ) (W : List ℕ) : Type 0 where
  pub full : length W ≡ half S + half S
  pub from : size_of S ≤ a
  pub some : a < b
  pub most : b ≤ half S
  pub nodes : Nodes (size_of S) (slice a b W)
  pub few : (q : ℕ) → memb q (slice a b W) ≡ true → length (part (graph_of S N) q) ≤ b - size_of S
  pub sorted : chainb (before_e (graph_of S N)) (slice a b W) ≡ true
  pub blank : drop (half S) W ≡ replicate (half S) 0

-- the s so far of least width, after the search r from the next s: a later s must be narrower
abbrev pub narrower_of : Tried → ℕ → Rooted → Tried
narrower_of best s r = cond (ltb r.width best.search.width) (record { deeper = false; node = s; search = r }) best

-- t is the first of T that is deeper, and its search stands in the second 2n words
pub record FirstDeeper (S N T : List ℕ) (depth : ℕ) (W : List ℕ) (t : Tried) : Type 0 where
  pub others : List ℕ
  pub is : filterb (λ s. ltb depth (depth_at (graph_of S N) s)) T ≡ t.node ∷ others
  pub found : t.search ≡ rooted_of (levels (graph_of S N) t.node)
  pub kept : Searched S N t.node (drop (half S) W)

-- none of T is deeper, t is the first by width and E, and its search stands in the second 2n words
pub record Narrowest (S N T : List ℕ) (depth : ℕ) (W : List ℕ) (t : Tried) : Type 0 where
  pub none : filterb (λ s. ltb depth (depth_at (graph_of S N) s)) T ≡ []
  pub least : Least (narrower (graph_of S N)) T t.node
  pub found : t.search ≡ rooted_of (levels (graph_of S N) t.node)
  pub kept : Searched S N t.node (drop (half S) W)

-- what going through T gives; the first 2n words stay
pub record Tries (S N T : List ℕ) (depth : ℕ) (W W' : List ℕ) (t : Tried) : Type 0 where
  pub same : take (half S) W' ≡ take (half S) W
  pub deep : t.deeper ≡ true → FirstDeeper S N T depth W' t
  pub flat : t.deeper ≡ false → Narrowest S N T depth W' t

-- the search from v stands in 2n words
pub record Area (S N : List ℕ) (v : ℕ) (r : Rooted) (W : List ℕ) : Type 0 where
  pub legal : graph_refusal S N ≡ 0
  pub node : Node (graph_of S N) v
  pub found : r ≡ rooted_of (levels (graph_of S N) v)
  pub kept : Searched S N v W

-- the same with its last level in E
pub record Sorted (S N : List ℕ) (v : ℕ) (r : Rooted) (W : List ℕ) : Type 0 where
  pub kept : Searched S N v W
  pub tail : slice (size_of S + r.last) (size_of S + r.reached) W ≡ farthest (graph_of S N) v

-- the search from v stands in the first 2n words, and the second are 0
pub record At (S N : List ℕ) (v : ℕ) (r : Rooted) (W : List ℕ) : Type 0 where
  pub full : length W ≡ half S + half S
  pub area : Area S N v r (take (half S) W)
  pub blank : drop (half S) W ≡ replicate (half S) 0

-- the next v, and its search in the second 2n words
pub record Onward (S N : List ℕ) (v : ℕ) (W : List ℕ) (t : Tried) : Type 0 where
  pub others : List ℕ
  pub is : deeper (graph_of S N) v ≡ t.node ∷ others
  pub found : t.search ≡ rooted_of (levels (graph_of S N) t.node)
  pub kept : Searched S N t.node (drop (half S) W)

-- no s is deeper, t is u, and its search stands in the second 2n words
pub record Over (S N : List ℕ) (v : ℕ) (W : List ℕ) (t : Tried) : Type 0 where
  pub none : deeper (graph_of S N) v ≡ []
  pub is : other_end (graph_of S N) v ≡ t.node
  pub found : t.search ≡ rooted_of (levels (graph_of S N) t.node)
  pub kept : Searched S N t.node (drop (half S) W)

-- what a pass from v gives
pub record Passed (S N : List ℕ) (v : ℕ) (t : Tried) (W : List ℕ) : Type 0 where
  pub full : length W ≡ half S + half S
  pub kept : Searched S N v (take (half S) W)
  pub deep : t.deeper ≡ true → Onward S N v W t
  pub flat : t.deeper ≡ false → Over S N v W t

-- two searches of one part of `count` nodes
pub record OnePart (n count : ℕ) (W : List ℕ) : Type 0 where
  pub full : length W ≡ n + n + (n + n)
  pub first : Queued n count (take (n + n) W)
  pub second : Queued n count (drop (n + n) W)
  pub same : (q : ℕ) → ltb 0 (of_node (take n (take (n + n) W)) q) ≡ ltb 0 (of_node (take n (drop (n + n) W)) q)

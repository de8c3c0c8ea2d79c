-- What the functions that build the order of a part do, as functions on lists: the contracts cite these, laws take them to `spec`.
-- Assumes nothing.
use Rattle.std.specs.Prelude.{◌≡◌, Bool, true, not, ◌&&◌, cond, ℕ, suc, ◌+◌, ◌-◌, ◌≤◌, ◌<◌, length, take, drop, get_or, replicate, eqb}
use mathlib.Core.List.{List, ◌++◌, map, foldl}
use Rattle.basis.specs.Lists.{bit, filterb, memb, up_from, overwrite}
use Rattle.basis.specs.Perm.{times, Once}
use Rattle.spec.specs.Graph.{Graph, nodes, sort_e, of_node}
use Rattle.spec.specs.Numbering.{level_nodes, within, later_level, forward_order}
use Rattle.laws.specs.Legal.{Closed}
use Rattle.laws.specs.Scratch.{members_area}
use Rattle.levels_sort.specs.Nodes.{Nodes}
use Rattle.numbering_stacks.specs.Part.{members_in}
use Rattle.numbering_stacks.specs.Stacks.{Stacks}

-- ---- the working words

-- a mark for each of the nodes 1..n: 1 exactly if it is numbered
unfoldable pub marks_of : ℕ → List ℕ → List ℕ
marks_of n o = map (λ z. bit (memb z o)) (up_from 1 n)

-- the working words with the order o: n marks, the order, and behind it what R has there
unfoldable pub stand : ℕ → List ℕ → List ℕ → List ℕ
stand n o R = marks_of n o ++ (o ++ drop (length o) R)

-- the order of t nodes that stands in the working words
abbrev pub order_in : ℕ → ℕ → List ℕ → List ℕ
order_in n t W = take t (drop n W)

-- some of the nodes 1..n, none twice
pub record Listed (n : ℕ) (o : List ℕ) : Type 0 where
  pub once : Once o
  pub inside : Nodes n o

-- what a function asks that goes on with an order of t nodes: the marks are its marks, and there is room for n nodes
pub record Open (n t : ℕ) (W : List ℕ) : Type 0 where
  pub marked : take n W ≡ marks_of n (order_in n t W)
  pub listed : Listed n (order_in n t W)
  pub fits : t ≤ n
  pub room : n + n ≤ length W

-- a list by old number from `at` on lies behind the order, whatever its length
pub record Far (n at : ℕ) (W : List ℕ) : Type 0 where
  pub behind : n + n ≤ at
  pub held : at + n ≤ length W

-- what it leaves: the order o, and all else as it was
pub record Became (n : ℕ) (W o : List ℕ) (r : ℕ) (W' : List ℕ) : Type 0 where
  pub count : r ≡ length o
  pub is : W' ≡ stand n o (drop n W)

-- ---- what is numbered

-- q is an unnumbered node of level i, where L has the levels
abbrev pub free : List ℕ → ℕ → List ℕ → ℕ → Bool
free L i o q = not (memb q o) && eqb (of_node L q) i

-- the same, as the working words W say it, with the levels from `at` on
abbrev pub is_free : List ℕ → ℕ → ℕ → ℕ → Bool
is_free W at i q = eqb (get_or W (q - 1) 0) 0 && eqb (get_or W (at + (q - 1)) 0) i

-- w's unnumbered neighbours in level i, in E
unfoldable pub found_by : Graph → List ℕ → ℕ → List ℕ → ℕ → List ℕ
found_by g L i o w = sort_e g (filterb (free L i o) (g.row w))

-- the order with what w finds added
abbrev pub add_by : (List ℕ → ℕ → List ℕ) → List ℕ → ℕ → List ℕ
add_by by o w = o ++ by o w

-- the order o with its nodes after the first t sorted by E
abbrev pub tail_sorted : Graph → ℕ → List ℕ → List ℕ
tail_sorted g t o = take t o ++ sort_e g (drop t o)

-- from the order o, with a cursor at c, node after node adds what it finds, until the cursor is at the end: the order is then o'
pub data Spread (by : List ℕ → ℕ → List ℕ) : ℕ → List ℕ → List ℕ → Type 0 where
  at-end : {c : ℕ} {o : List ℕ} → length o ≤ c → Spread by c o o
  on : {c : ℕ} {o o' : List ℕ} → c < length o → Spread by (suc c) (o ++ by o (get_or o c 0)) o' → Spread by c o o'

-- the words W, with the order o, have become W', with r nodes: a cursor has gone from c to the end
pub record Spreads (n : ℕ) (by : List ℕ → ℕ → List ℕ) (c : ℕ) (o W : List ℕ) (r : ℕ) (W' : List ℕ) : Type 0 where
  pub spread : Spread by c o (order_in n r W')
  pub became : Became n W (order_in n r W') r W'

-- ---- the part

-- the levels of the part P's nodes by old number, as L has them, and 0 for all other nodes
unfoldable pub own_levels : Graph → List ℕ → List ℕ → List ℕ
own_levels g P L = map (λ z. cond (memb z P) (of_node L z) 0) (nodes g)

-- the part's levels by old number, as they stand in the words W
abbrev pub levels_in : Graph → ℕ → ℕ → ℕ → List ℕ → List ℕ
levels_in g at from m W = own_levels g (members_in from m W) (drop at W)

-- The part P's levels stand by old number from `at` on, and its nodes on the stacks of their levels, in E, in the 2n words behind the
-- order. No edge leaves the part.
pub record Standing (g : Graph) (n at : ℕ) (P W : List ℕ) : Type 0 where
  pub behind : members_area n ≤ at
  pub held : at + n ≤ length W
  pub rising : P ≡ filterb (λ q. memb q P) (nodes g)
  pub closed : Closed g P
  pub stacks : Stacks n (n + n + n) (n + n) (of_node (drop at W)) (sort_e g P) W

-- v is a node of the part, in level 1, and there are from 1 to n levels
pub record Starting (ls P : List ℕ) (k v : ℕ) : Type 0 where
  pub some : 1 ≤ k
  pub few : k ≤ length ls
  pub member : memb v P ≡ true
  pub first : of_node ls v ≡ 1

-- before level i is numbered: o has the levels below i, and the level just before i from a on
pub record Levelled (g : Graph) (ls : List ℕ) (i a : ℕ) (o : List ℕ) : Type 0 where
  pub some : 1 ≤ i
  pub inside : a ≤ length o
  pub low : (x : ℕ) → memb x o ≡ true → 1 ≤ of_node ls x
  pub below : (x : ℕ) → memb x o ≡ true → of_node ls x < i
  pub last : filterb (λ w. memb w (level_nodes g ls (i - 1))) o ≡ drop a o

-- within level i: the nodes of lower levels up to b, then some of level i
pub record Begun (g : Graph) (ls : List ℕ) (i b : ℕ) (o : List ℕ) : Type 0 where
  pub some : 1 ≤ i
  pub inside : b ≤ length o
  pub below : (x : ℕ) → memb x (take b o) ≡ true → of_node ls x < i
  pub here : (x : ℕ) → times x (drop b o) ≤ times x (level_nodes g ls i)

-- level i numbered within, after the order o
abbrev pub filled_in : Graph → List ℕ → ℕ → List ℕ → List ℕ
filled_in g ls i o = within (length (level_nodes g ls i)) g (level_nodes g ls i) o

-- a later level i numbered after the order o
abbrev pub later_in : Graph → List ℕ → List ℕ → ℕ → List ℕ
later_in g ls o i = later_level g (level_nodes g ls (i - 1)) (level_nodes g ls i) o

-- ---- what is asked of a part P whose order of t nodes stands in the words W

-- level i is begun, with the lower levels up to b
abbrev pub Fills : Graph → ℕ → ℕ → ℕ → ℕ → ℕ → List ℕ → List ℕ → Type 0
Fills g n at t i b W P = Standing g n at P W × Begun g (own_levels g P (drop at W)) i b (order_in n t W)

-- level i is next, with the level before it from a on
abbrev pub Follows : Graph → ℕ → ℕ → ℕ → ℕ → ℕ → List ℕ → List ℕ → Type 0
Follows g n at t i a W P = Standing g n at P W × Levelled g (own_levels g P (drop at W)) i a (order_in n t W)

-- nothing is numbered, and v is to be the first
abbrev pub Opens : Graph → ℕ → ℕ → ℕ → ℕ → List ℕ → List ℕ → Type 0
Opens g n at k v W P = Standing g n at P W × Starting (own_levels g P (drop at W)) P k v

-- ---- what becomes of it: the words W' have an order of r nodes

-- the rest of level i is numbered
abbrev pub RestNumbered : Graph → ℕ → ℕ → ℕ → ℕ → List ℕ → List ℕ → ℕ → List ℕ → Type 0
RestNumbered g n at t i W P r W' = Became n W (filled_in g (own_levels g P (drop at W)) i (order_in n t W)) r W'

-- level i is numbered
abbrev pub LevelNumbered : Graph → ℕ → ℕ → ℕ → ℕ → List ℕ → List ℕ → ℕ → List ℕ → Type 0
LevelNumbered g n at t i W P r W' = Became n W (later_in g (own_levels g P (drop at W)) (order_in n t W) i) r W'

-- the levels 2 to k are numbered, one after the other
abbrev pub LevelsNumbered : Graph → ℕ → ℕ → ℕ → ℕ → List ℕ → List ℕ → ℕ → List ℕ → Type 0
LevelsNumbered g n at t k W P r W' = Became n W (foldl (later_in g (own_levels g P (drop at W))) (order_in n t W) (up_from 2 (k - 1))) r W'

-- the whole order from v, before any turn
abbrev pub forward_in : Graph → ℕ → ℕ → ℕ → List ℕ → List ℕ → List ℕ
forward_in g at k v W P = forward_order g (own_levels g P (drop at W)) k v

-- the words W with the order o behind n marks that are 0 again
abbrev pub ordered : ℕ → List ℕ → List ℕ → List ℕ
ordered n o W = replicate n 0 ++ overwrite o (drop n W)

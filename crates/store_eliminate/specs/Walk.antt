-- The pass over the rows in the lent words and bytes. Assumes nothing.
use Rattle.std.specs.Prelude.{◌≡◌, Bool, true, cond, ◌&&◌, List, [], ◌∷◌, ℕ, suc, ◌+◌, ◌-◌, ◌/◌, ◌≤◌, ◌<◌, ltb, length}
use Rattle.basis.specs.Lists.{memb}
use Rattle.spec.specs.Graph.{Graph, of_node, size_of, graph_of}
use Rattle.spec.specs.Measures.{is_numbering, order_of, renumbered, first_in, profile}
use Rattle.spec.specs.Store.{Pair, start_of, has_place, place, mark_byte_count, mark_at}
use Rattle.laws.specs.Legal.{LegalGraph, Starts}
use Rattle.store_marks.specs.Marks.{marked}
use Rattle.store_eliminate.specs.Pass.{Met}
use Rattle.store_eliminate.specs.declared.legal.Row.{Row}

-- the pair p < q
abbrev pub pair : ℕ → ℕ → Pair
pair p q = record { low = p; high = q }

-- the pair p < q has a place, and is marked there
unfoldable pub stored : Graph → List ℕ → ℕ → ℕ → Bool
stored h bytes p q = has_place h (pair p q) && marked bytes (place h (pair p q))

-- the parent of i, 0 for none: the words below b hold the parents
unfoldable pub parent_in : ℕ → List ℕ → ℕ → ℕ
parent_in b words i = cond (ltb i b) (of_node words i) 0

-- the place of the pair p < q in the row of q
abbrev pub place_in : Row → ℕ → ℕ
place_in row p = row.start + (p - row.first)

-- what the pair p < q asks for: p ≥ f_q, and its place lies within so many bytes
pub record Room (row : Row) (bytes p : ℕ) : Type 0 where
  pub low : row.first ≤ p
  pub small : place_in row p < 4294967296
  pub fits : place_in row p / 8 < bytes

-- the neighbours have a number each
pub record Reach (x adjacent : List ℕ) : Type 0 where
  pub some : (b : ℕ) → memb b adjacent ≡ true → 1 ≤ b
  pub most : (b : ℕ) → memb b adjacent ≡ true → b ≤ length x

-- `row` is the row of q in the store of h
pub record IsRow (h : Graph) (row : Row) : Type 0 where
  pub low : 1 ≤ row.q
  pub high : row.q ≤ h.size
  pub first : row.first ≡ first_in h row.q
  pub start : row.start ≡ start_of h row.q

-- The pass has come to row q, where `due` is still to be joined to q: the words hold the parents of the numbers below b, and from b on the order o, the
-- node of each number.
pub record Walk (h : Graph) (o words bytes : List ℕ) (b q : ℕ) (due : List ℕ) : Type 0 where
  pub legal : LegalGraph h
  pub few : h.size ≤ 4096
  pub size : length words ≡ h.size
  pub room : length bytes ≡ mark_byte_count h
  pub spare : (t : ℕ) → profile h ≤ t → mark_at bytes t ≡ 0
  pub ahead : (j : ℕ) → b ≤ j → of_node words j ≡ of_node o j
  pub met : Met h (stored h bytes) (parent_in b words) q due

-- p is a number of the row: p < q with p ≥ f_q
pub record InRow (row : Row) (p : ℕ) : Type 0 where
  pub low : row.first ≤ p
  pub less : p < row.q

-- in every store whose row this is: one number is due in place of another
abbrev pub Risen : Row → ℕ → ℕ → List ℕ → List ℕ → List ℕ → List ℕ → Type 0
Risen row p r words bytes words' bytes' =
    (h : Graph) (o due : List ℕ) → IsRow h row → Walk h o words bytes row.q row.q (p ∷ due) → Walk h o words' bytes' row.q row.q (r ∷ due)

-- a number is no longer due
abbrev pub Climbed : Row → ℕ → List ℕ → List ℕ → List ℕ → List ℕ → Type 0
Climbed row p words bytes words' bytes' =
    (h : Graph) (o due : List ℕ) → IsRow h row → Walk h o words bytes row.q row.q (p ∷ due) → Walk h o words' bytes' row.q row.q due

-- nothing is due any longer
abbrev pub Joined : Row → List ℕ → List ℕ → List ℕ → List ℕ → List ℕ → Type 0
Joined row due words bytes words' bytes' =
    (h : Graph) (o : List ℕ) → IsRow h row → Walk h o words bytes row.q row.q due → Walk h o words' bytes' row.q row.q []

-- ---- of two lists and a numbering

-- the two lists S and N are a legal graph, and x numbers its nodes
pub record Given (S N x : List ℕ) : Type 0 where
  pub starts : Starts S N
  pub graph : LegalGraph (graph_of S N)
  pub numbering : is_numbering (size_of S) x ≡ true

-- the graph by its new numbers
abbrev pub new_graph : List ℕ → List ℕ → List ℕ → Graph
new_graph S N x = renumbered (graph_of S N) x

-- the row of q, whose start is s
abbrev pub row_at : Graph → ℕ → ℕ → Row
row_at h q s = record { q = q; first = first_in h q; start = s }

-- the rows 1 .. q are done
abbrev pub Done : List ℕ → List ℕ → List ℕ → List ℕ → List ℕ → ℕ → Type 0
Done S N x words bytes q = Walk (new_graph S N x) (order_of x) words bytes (suc q) q []

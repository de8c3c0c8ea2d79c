-- Rows laid down one after another in the two lists. Assumes nothing.
use mathlib.Core.Path.{◌≡◌, refl, sym, ap, ap₂, ◌∙◌}
use mathlib.Core.List.{List, [], ◌∷◌, ◌++◌, map}
use Prim.Native.Nat.{ℕ, zero, suc, ◌+◌, ◌*◌, ◌≤◌, ◌<◌}
use native.Mathlib.Nat.{zero-add}
use native.Mathlib.Omega.{arith}
use lib.ListN.{length, set, drop, length-map}
use lib.Seq.{sets, sets-eq}
use Rattle.basis.specs.Lists.{filterb, join_all, overwrite, up_from, sum}
use Rattle.basis.proofs.Count.{length-filter, count_length}
use Rattle.basis.proofs.Lists.{length-up_from}
use Rattle.basis.proofs.Next.{sets_append, map_next, join_next, sum_next, join_length, sum-upto}
use Rattle.spec.specs.Graph.{Graph, nodes, degree, graph_by}
use Rattle.spec.specs.Mesh.{elements, joins, mesh_graph, entry_count, start_list, neighbour_list}
use Rattle.spec.specs.CallsMesh.{graph_of_elements}
use Rattle.laws.proofs.ByTest.{graph_by-row}
use Rattle.mesh_rows.specs.Rows.{entries_to, Laid, Goes, Ready}

-- ---- the graph of a mesh

-- a row
pub mesh_row : (n : ℕ) (ws : List ℕ) (p : ℕ) → 1 ≤ p → p ≤ n → (graph_of_elements n ws).row p ≡ filterb (joins (elements ws) p) (up_from 1 n)
unfolding graph_of_elements mesh_graph
mesh_row n ws p a b = graph_by-row n (joins (elements ws)) p a b

pub mesh_size : (n : ℕ) (ws : List ℕ) → (graph_of_elements n ws).size ≡ n
unfolding graph_of_elements mesh_graph graph_by
mesh_size n ws = refl

-- ---- entries

-- the entry count is that of all rows
pub entries_all : (n : ℕ) (ws : List ℕ) → entries_to (graph_of_elements n ws) n ≡ entry_count (graph_of_elements n ws)
unfolding entries_to entry_count nodes
entries_all n ws = ap (λ (k : ℕ). sum (map (degree (graph_of_elements n ws)) (up_from 1 k))) (sym (mesh_size n ws))

pub to_none : (g : Graph) → 0 ≡ entries_to g 0
unfolding entries_to
to_none g = refl

pub to_upto : (g : Graph) (i j : ℕ) → i ≤ j → entries_to g i ≤ entries_to g j
unfolding entries_to
to_upto g i j h = sum-upto (degree g) 1 i j h

-- one row more
pub to_next : (g : Graph) (i : ℕ) → entries_to g (i + 1) ≡ entries_to g i + length (g.row (1 + i))
unfolding entries_to degree
to_next g i = sum_next (λ p. length (g.row p)) 1 i

-- the entries of the first rows are the length of these rows
to_length : (g : Graph) (i : ℕ) → entries_to g i ≡ length (join_all (map (λ p. g.row p) (up_from 1 i)))
unfolding entries_to degree
to_length g i = sym (join_length (λ p. g.row p) (up_from 1 i))

-- there are few
pub to_most : (n : ℕ) (ws : List ℕ) → n ≤ 4096 → (i : ℕ) → i ≤ n → entries_to (graph_of_elements n ws) i ≤ i * 4096
to_most n ws few zero h = omega (arith, to_none (graph_of_elements n ws))
to_most n ws few (suc i) h =
    let e : i + 1 ≡ suc i = omega arith in
    omega (
      arith,
      to_most n ws few i (omega arith),
      ap (entries_to (graph_of_elements n ws)) e,
      to_next (graph_of_elements n ws) i,
      ap length (mesh_row n ws (1 + i) (omega arith) (omega arith)),
      length-filter (joins (elements ws) (1 + i)) (up_from 1 n),
      count_length (joins (elements ws) (1 + i)) (up_from 1 n),
      length-up_from 1 n,
    )

-- ---- rows

-- a list overwritten from its front
sets_front : (vs l : List ℕ) → length vs ≤ length l → sets l 0 vs ≡ overwrite vs l
sets_front vs l h = sets-eq vs l 0 (omega (arith, zero-add (length vs))) ∙ ap (λ (k : ℕ). vs ++ drop k l) (zero-add (length vs))

pub laid_begin : (g : Graph) (S N : List ℕ) → Laid g S N 0 S N
laid_begin g S N = record { starts_are = refl; neighbours_are = refl }

pub goes_none : (g : Graph) (i : ℕ) (S N : List ℕ) (to : ℕ) → to ≡ entries_to g i → Goes g i S N i S N to
goes_none g i S N to e = record { end = e; goes = λ S₀ N₀ L. L }

pub goes_then : {g : Graph} {i j k : ℕ} {S N S' N' S'' N'' : List ℕ} {to to' : ℕ} → Goes g i S N j S' N' to → Goes g j S' N' k S'' N'' to' → Goes g i S N k S'' N'' to'
goes_then A B = record { end = B.end; goes = λ S₀ N₀ L. B.goes S₀ N₀ (A.goes S₀ N₀ L) }

-- the next row
pub goes-row : (g : Graph) (i at to : ℕ) (S N S' N' row : List ℕ) → row ≡ g.row (1 + i) → at ≡ entries_to g i → to ≡ at + length row → S' ≡ set S (i + 1) to → N' ≡ sets N at row
    → Goes g i S N (i + 1) S' N' to
goes-row g i at to S N S' N' row r a t s m = record { end = end; goes = λ S₀ N₀ L. record { starts_are = starts S₀ N₀ L; neighbours_are = rows S₀ N₀ L } }
  where
    end : to ≡ entries_to g (i + 1)
    end = t ∙ ap₂ (λ (x : ℕ) (l : List ℕ). x + length l) a r ∙ sym (to_next g i)

    place : (S₀ N₀ : List ℕ) → i + 1 ≡ 1 + length (map (entries_to g) (up_from 1 i))
    place S₀ N₀ = omega (arith, length-map (up_from 1 i) (entries_to g), length-up_from 1 i)

    same : i + 1 ≡ 1 + i
    same = omega arith

    starts : (S₀ N₀ : List ℕ) → Laid g S₀ N₀ i S N → S' ≡ sets S₀ 1 (map (entries_to g) (up_from 1 (i + 1)))
    starts S₀ N₀ L =
        s ∙ ap₂ (λ (l : List ℕ) (x : ℕ). set l (i + 1) x) L.starts_are (end ∙ ap (entries_to g) same)
        ∙ ap (λ (j : ℕ). set (sets S₀ 1 (map (entries_to g) (up_from 1 i))) j (entries_to g (1 + i))) (place S₀ N₀)
        ∙ sym (sets_append S₀ 1 (map (entries_to g) (up_from 1 i)) (entries_to g (1 + i) ∷ []))
        ∙ ap (sets S₀ 1) (sym (map_next (entries_to g) 1 i))

    rows : (S₀ N₀ : List ℕ) → Laid g S₀ N₀ i S N → N' ≡ sets N₀ 0 (join_all (map (λ p. g.row p) (up_from 1 (i + 1))))
    rows S₀ N₀ L =
        m ∙ ap₂ (λ (l : List ℕ) (x : ℕ). sets l x row) L.neighbours_are (a ∙ to_length g i ∙ sym (zero-add _))
        ∙ ap (sets (sets N₀ 0 (join_all (map (λ p. g.row p) (up_from 1 i)))) (0 + length (join_all (map (λ p. g.row p) (up_from 1 i))))) r
        ∙ sym (sets_append N₀ 0 (join_all (map (λ p. g.row p) (up_from 1 i))) (g.row (1 + i)))
        ∙ ap (sets N₀ 0) (sym (join_next (λ p. g.row p) 1 i))

-- ---- all rows: the two lists

pub laid_starts : (n : ℕ) (ws S N S' N' : List ℕ) → n < length S → Laid (graph_of_elements n ws) (set S 0 0) N n S' N' → S' ≡ overwrite (start_list (graph_of_elements n ws)) S
unfolding start_list nodes entries_to
laid_starts n ws S N S' N' h L =
    L.starts_are
    ∙ ap (λ (k : ℕ). sets S 0 (0 ∷ map ends (up_from 1 k))) (sym (mesh_size n ws))
    ∙ sets_front (0 ∷ map ends (up_from 1 (graph_of_elements n ws).size)) S
    (omega (arith, length-map (up_from 1 (graph_of_elements n ws).size) ends, length-up_from 1 (graph_of_elements n ws).size, mesh_size n ws))
  where
    ends : ℕ → ℕ
    ends p = sum (map (degree (graph_of_elements n ws)) (up_from 1 p))

pub laid_neighbours : (n : ℕ) (ws S N S' N' : List ℕ) → entry_count (graph_of_elements n ws) ≤ length N → Laid (graph_of_elements n ws) S N n S' N'
    → N' ≡ overwrite (neighbour_list (graph_of_elements n ws)) N
unfolding neighbour_list nodes
laid_neighbours n ws S N S' N' h L =
    L.neighbours_are
    ∙ ap (λ (k : ℕ). sets N 0 (join_all (map (λ p. g.row p) (up_from 1 k)))) (sym (mesh_size n ws))
    ∙ sets_front (join_all (map (λ p. g.row p) (up_from 1 g.size))) N
    (omega (arith, to_length g g.size, ap (entries_to g) (mesh_size n ws), entries_all n ws))
  where
    g : Graph
    g = graph_of_elements n ws

-- ---- rows from base on, up to i

pub record Filling (n : ℕ) (ws : List ℕ) (base : ℕ) (starts₀ neighbours₀ starts neighbours : List ℕ) (to i : ℕ) : Type 0 where
  pub ready : Ready n ws starts
  pub starts_length : length starts ≡ length starts₀
  pub neighbours_length : length neighbours ≡ length neighbours₀
  pub gone : Goes (graph_of_elements n ws) base starts₀ neighbours₀ i starts neighbours to

pub filling_begin : {n : ℕ} {ws : List ℕ} (base : ℕ) {S : List ℕ} (N : List ℕ) {to : ℕ} → Ready n ws S → to ≡ entries_to (graph_of_elements n ws) base → Filling n ws base S N S N to base
filling_begin {n} {ws} base {S} N {to} R e = record { ready = R; starts_length = refl; neighbours_length = refl; gone = goes_none (graph_of_elements n ws) base S N to e }

pub filling_step : {n : ℕ} {ws : List ℕ} {base : ℕ} {S₀ N₀ S N : List ℕ} {to i : ℕ} → Filling n ws base S₀ N₀ S N to i
    → {S' N' : List ℕ} {to' j : ℕ} → length S' ≡ length S → length N' ≡ length N → Goes (graph_of_elements n ws) i S N j S' N' to'
    → Filling n ws base S₀ N₀ S' N' to' j
filling_step F s m G =
    let R = F.ready in
    record {
      ready = record { few = R.few; good = R.good; small = λ h. R.small (omega (arith, s)) };
      starts_length = s ∙ F.starts_length;
      neighbours_length = m ∙ F.neighbours_length;
      gone = goes_then F.gone G;
    }

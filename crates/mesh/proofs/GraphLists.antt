-- The start list and the neighbour list of a legal graph: they give the graph back, and refusals 1 to 4 cannot follow. Assumes nothing.
use mathlib.Core.Path.{◌≡◌, refl, sym, ap, ap₂, fun_ext, ◌∙◌}
use mathlib.Core.Logic.{⊎_elim}
use mathlib.Core.Bool.{true, false, not, ◌||◌}
use mathlib.Core.List.{List, [], ◌∷◌, ◌++◌, map}
use Prim.Native.Nat.{ℕ, zero, suc, ◌+◌, ◌-◌, ◌≤◌, ◌<◌}
use native.Mathlib.Nat.{le_dest}
use native.Mathlib.Omega.{arith}
use lib.ListN.{length, get_or, drop, get_or-eq_default, length-map}
use lib.Seq.{slice, drop-nil, take-append-add, take-append_seam, drop-append_seam}
use lib.Dec.{leb, ltb}
use borrow.Author.Tests.{eq-eqb, ne_eqb, le-leb, le-ltb, not-true}
use Rattle.basis.specs.Lists.{anyb, chainb, memb, join_all, head_or, last_or, up_from, sum}
use Rattle.basis.proofs.Index.{get_or-map-up_from, last-at}
use Rattle.basis.proofs.Lists.{any_find, memb_here, up_from-append, length-up_from, map-append, join_append}
use Rattle.basis.proofs.Logic.{clash, fails, or_split, or_neither, lt_or_le}
use Rattle.basis.proofs.Walk.{chain_walked}
use Rattle.spec.specs.Refusal.{refuse, ◌or_else◌}
use Rattle.spec.specs.Graph.{Graph, nodes, adjoins, degree, row_of, graph_of, max_entries, bad_size, outside, refuses1, refuses2, bad_row, refuses3, refuses4, graph_refusal}
use Rattle.spec.specs.Mesh.{entry_count, start_list, neighbour_list}
use Rattle.laws.specs.Legal.{Node, LegalGraph}
use Rattle.laws.proofs.Legal.{of_row}
use Rattle.mesh_rows.specs.Rows.{entries_to}
use Rattle.basis.proofs.Next.{sum_next, join_length}
use Rattle.mesh_rows.proofs.Laying.{to_none, to_upto}

module _ (g : Graph) where
  -- ---- the two lists

  pub starts_length : length (start_list g) ≡ suc g.size
  unfolding start_list nodes
  starts_length = ap suc (length-map (up_from 1 g.size) (λ p. sum (map (degree g) (up_from 1 p))) ∙ length-up_from 1 g.size)

  pub starts_at : (i : ℕ) → i ≤ g.size → get_or (start_list g) i 0 ≡ entries_to g i
  unfolding start_list nodes entries_to
  starts_at zero h = refl
  starts_at (suc j) h =
      let e : 1 + j ≡ suc j = omega arith in
      get_or-map-up_from (λ p. sum (map (degree g) (up_from 1 p))) 1 g.size j 0 (omega arith) ∙ ap (entries_to g) e

  pub neighbours_length : length (neighbour_list g) ≡ entry_count g
  unfolding neighbour_list entry_count degree
  neighbours_length = join_length (λ p. g.row p) (nodes g)

  entries_all : entries_to g g.size ≡ entry_count g
  unfolding entries_to entry_count nodes
  entries_all = refl

  rows-length : (i : ℕ) → length (join_all (map (λ p. g.row p) (up_from 1 i))) ≡ entries_to g i
  unfolding entries_to degree
  rows-length i = join_length (λ p. g.row p) (up_from 1 i)

  -- ---- row by row

  -- a row in the middle of a list
  middle : (a r b : List ℕ) → slice (length a) (length a + length r) (a ++ (r ++ b)) ≡ r
  middle a r b =
      ap (drop (length a)) (take-append-add a (r ++ b) (length r) ∙ ap (λ (l : List ℕ). a ++ l) (take-append_seam r b))
      ∙ drop-append_seam a r

  -- the neighbour list before row i + 1, that row, and the rest
  around : (i m : ℕ) → i + suc m ≡ g.size → (b : List ℕ) × (neighbour_list g ≡ join_all (map (λ p. g.row p) (up_from 1 i)) ++ (g.row (1 + i) ++ b))
  unfolding neighbour_list nodes
  around i m e = (
    join_all (map row (up_from (suc (1 + i)) m)),
    ap (λ (k : ℕ). join_all (map row (up_from 1 k))) (sym e)
        ∙ ap (λ (l : List ℕ). join_all (map row l)) (sym (up_from-append 1 i (suc m)))
        ∙ ap join_all (map-append row (up_from 1 i) (up_from (1 + i) (suc m)))
        ∙ join_append (map row (up_from 1 i)) (map row (up_from (1 + i) (suc m))),
  )
    where
      row : ℕ → List ℕ
      row p = g.row p

  next_entries : (i : ℕ) → entries_to g (i + 1) ≡ entries_to g i + length (g.row (1 + i))
  unfolding entries_to degree
  next_entries i = sum_next (λ p. length (g.row p)) 1 i

  row_inside : (i : ℕ) → i < g.size → row_of (start_list g) (neighbour_list g) (suc i) ≡ g.row (suc i)
  unfolding row_of
  row_inside i h =
      let w = le_dest h in
      let m : i + suc w.0 ≡ g.size = omega (arith, w.1) in
      let a = around i w.0 m in
      let p : suc i - 1 ≡ i = omega arith in
      let q : suc i ≡ i + 1 = omega arith in
      let r : 1 + i ≡ suc i = omega arith in
      let front = join_all (map (λ p. g.row p) (up_from 1 i)) in
      let from : get_or (start_list g) (suc i - 1) 0 ≡ length front = ap (λ (k : ℕ). get_or (start_list g) k 0) p ∙ starts_at i (omega arith) ∙ sym (rows-length i) in
      let to : get_or (start_list g) (suc i) 0 ≡ length front + length (g.row (1 + i)) =
      starts_at (suc i) h ∙ ap (entries_to g) q ∙ next_entries i ∙ ap (λ (n : ℕ). n + length (g.row (1 + i))) (sym (rows-length i)) in
      ap (λ (l : List ℕ). slice (get_or (start_list g) (suc i - 1) 0) (get_or (start_list g) (suc i) 0) l) a.1
      ∙ ap₂ (λ (f t : ℕ). slice f t (front ++ (g.row (1 + i) ++ a.0))) from to
      ∙ middle front (g.row (1 + i)) a.0
      ∙ ap (λ (k : ℕ). g.row k) r

  -- a number that is no node has no row
  row_past : (i : ℕ) → g.size ≤ i → row_of (start_list g) (neighbour_list g) (suc i) ≡ []
  unfolding row_of
  row_past i h =
      let l : length (start_list g) ≤ suc i = omega (arith, starts_length) in
      ap (λ (t : ℕ). slice (get_or (start_list g) (suc i - 1) 0) t (neighbour_list g)) (get_or-eq_default (start_list g) 0 l)
      ∙ drop-nil (get_or (start_list g) (suc i - 1) 0)

  row_zero : row_of (start_list g) (neighbour_list g) 0 ≡ []
  unfolding row_of
  row_zero =
      ap (λ (t : ℕ). slice (get_or (start_list g) (0 - 1) 0) t (neighbour_list g)) (starts_at 0 (omega arith) ∙ none)
      ∙ drop-nil (get_or (start_list g) (0 - 1) 0)
    where
      none : entries_to g 0 ≡ 0
      none = sym (to_none g)

  -- ---- a legal graph

  module _ (G : LegalGraph g) where
    empty : (p : ℕ) → (Node g p → ⊥) → g.row p ≡ []
    empty p out = nothing (g.row p) (λ q m. out (G.inside q p (G.both p q (of_row g p q m))))
      where
        nothing : (l : List ℕ) → ((q : ℕ) → memb q l ≡ true → ⊥) → l ≡ []
        nothing [] h = refl
        nothing (x ∷ xs) h = absurd (h x (memb_here x xs))

    rows_back : (p : ℕ) → row_of (start_list g) (neighbour_list g) p ≡ g.row p
    rows_back zero = row_zero ∙ sym (empty 0 (λ n. omega (arith, n.low)))
    rows_back (suc i) =
        ⊎_elim (λ (h : i < g.size). row_inside i h) (λ (h : g.size ≤ i). row_past i h ∙ sym (empty (suc i) (λ n. omega (arith, n.high)))) (lt_or_le i g.size)

    -- the two lists are the graph
    pub graph-back : graph_of (start_list g) (neighbour_list g) ≡ g
    graph-back =
        let e : length (start_list g) - 1 ≡ g.size = omega (arith, starts_length) in
        ap₂ (λ (s : ℕ) (r : ℕ → List ℕ). record { size = s; row = r }) e (fun_ext rows_back)

    good_rows : refuses3 g ≡ false
    unfolding refuses3 bad_row
    good_rows = fails (refuses3 g) (λ e.
        let w = any_find (λ p. bad_row g.size p (g.row p)) (nodes g) e in
        ⊎_elim
        (λ f.
        ⊎_elim
        (λ o.
        let x = any_find (outside g.size) (g.row w.0) o in
        let n = G.inside w.0 x.0 (of_row g w.0 x.0 x.1) in
        clash x.2 (or_neither (ne_eqb x.0 0 (λ z. omega (arith, n.low))) (le-ltb g.size x.0 n.high)))
        (λ s. clash (of_row g w.0 w.0 s) (G.no_self w.0))
        (or_split (anyb (outside g.size) (g.row w.0)) (memb w.0 (g.row w.0)) f))
        (λ r. clash (G.rises w.0) (not-true (chainb ltb (g.row w.0)) r))
        (or_split (anyb (outside g.size) (g.row w.0) || memb w.0 (g.row w.0)) (not (chainb ltb (g.row w.0))) w.2))

    partners : refuses4 g ≡ false
    unfolding refuses4
    partners = fails (refuses4 g) (λ e.
        let w = any_find (λ p. anyb (λ q. not (adjoins g q p)) (g.row p)) (nodes g) e in
        let x = any_find (λ q. not (adjoins g q w.0)) (g.row w.0) w.2 in
        clash (G.both w.0 x.0 (of_row g w.0 x.0 x.1)) (not-true (adjoins g x.0 w.0) x.2))

    module _ (sized : bad_size g.size ≡ false) (few : entry_count g ≤ 32768) where
      starts_good : refuses1 (start_list g) ≡ false
      unfolding refuses1
      starts_good =
          let e : length (start_list g) - 1 ≡ g.size = omega (arith, starts_length) in
          or_neither (ne_eqb (length (start_list g)) 0 (λ z. omega (arith, starts_length))) (ap bad_size e ∙ sized)

      rises : chainb leb (start_list g) ≡ true
      rises = chain_walked 0 leb (start_list g) (λ i h l.
          le-leb (get_or (start_list g) (i - 1) 0) (get_or (start_list g) i 0)
          (omega (arith, starts_at (i - 1) (omega (arith, starts_length)), starts_at i (omega (arith, starts_length)), to_upto g (i - 1) i (omega arith))))

      last : last_or 0 (start_list g) ≡ entry_count g
      last =
          let e : length (start_list g) - 1 ≡ g.size = omega (arith, starts_length) in
          last-at 0 0 (start_list g) (omega (arith, starts_length)) ∙ ap (λ (k : ℕ). get_or (start_list g) k 0) e ∙ starts_at g.size (omega arith) ∙ entries_all

      first : head_or 1 (start_list g) ≡ 0
      unfolding start_list
      first = refl

      lists_good : refuses2 (start_list g) (neighbour_list g) ≡ false
      unfolding refuses2
      lists_good =
          or_neither
          (or_neither
          (or_neither (ap not (eq-eqb (head_or 1 (start_list g)) 0 first)) (ap not rises))
          (ap not (eq-eqb (last_or 0 (start_list g)) (length (neighbour_list g)) (last ∙ sym neighbours_length))))
          (le-ltb max_entries (last_or 0 (start_list g)) (omega (arith, last)))

      -- refusals 1 to 4 cannot follow
      pub not_refused : graph_refusal (start_list g) (neighbour_list g) ≡ 0
      unfolding graph_refusal
      not_refused =
          rw (starts_good, lists_good)
          (ap (λ (h : Graph). refuse (refuses3 h) 3 or_else refuse (refuses4 h) 4) graph-back ∙ all)
        where
          all : refuse (refuses3 g) 3 or_else refuse (refuses4 g) 4 ≡ 0
          all = rw (good_rows, partners)

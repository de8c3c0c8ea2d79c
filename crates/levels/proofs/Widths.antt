-- The widths at the ends, from the searches that the end search leaves. Assumes nothing.
use mathlib.Core.Path.{◌≡◌, refl, sym, ap, ◌∙◌, subst}
use mathlib.Core.Bool.{true}
use mathlib.Core.List.{List, ◌++◌}
use Prim.Native.Nat.{ℕ, ◌+◌, ◌-◌, ◌*◌, ◌≤◌}
use native.Mathlib.Omega.{arith}
use lib.ListN.{length, take, drop, replicate, length-append, length-drop}
use lib.Seq.{slice, take_all}
use Rattle.basis.specs.Lists.{memb}
use Rattle.basis.proofs.Walk.{part_slice, slice_front}
use Rattle.spec.specs.Combined.{width_of}
use Rattle.spec.specs.Ends.{Ends, ends, ends_at, depth_at, width_at}
use Rattle.spec.specs.Graph.{Graph, graph_of, size_of, graph_refusal, first_in_e}
use Rattle.spec.specs.Lent.{zeroed, words_per_node}
use Rattle.spec.specs.Levels.{levels, depth, width, reached, part}
use Rattle.laws.specs.Legal.{Node, LegalGraph}
use Rattle.laws.specs.Structure.{EndsOf}
use Rattle.laws.proofs.Ends.{ends_of_lem}
use Rattle.laws.proofs.Figures.{reached-part}
use Rattle.laws.proofs.Levels.{part_node, part_same}
use Rattle.laws.proofs.Refused.{not_refused}
use Rattle.levels_laws.specs.Areas.{tally_of}
use Rattle.levels_laws.proofs.Blank.{zeroed-length}
use Rattle.levels_search.specs.Answer.{Searched}
use Rattle.levels_search.proofs.Stores.{drop-replicate}
use Rattle.levels_ends.specs.Answer.{found_of, Ended}
use Rattle.levels_ends.specs.Passes.{half}
use Rattle.levels_ends.specs.declared.shape.Found.{Found}
use Rattle.levels_ends.proofs.Areas.{slice_shift}
use Rattle.levels_sizes.specs.Sizes.{levels_at, Listable}
use Rattle.levels_sizes.proofs.Searches.{search_at, searched_listable, searched_width}
use Rattle.levels_sizes.specs.declared.shape.Widths.{Widths}
use Rattle.levels.specs.Part.{part_ends_of}
use Rattle.levels.specs.declared.shape.PartEnds.{PartEnds}
use Rattle.levels.proofs.Firsts.{same_ends}
use Rattle.levels.proofs.Scratch.{zero_front, behind_front}

-- the widths of the ends are those of the levels rooted at them
widths_at : (g : Graph) (z : ℕ) → ((ends g z).v_width ≡ width (levels g (ends g z).v)) × ((ends g z).u_width ≡ width (levels g (ends g z).u))
unfolding ends ends_at width_at
widths_at g z = (refl, refl)

module _ (S N : List ℕ) (ok : graph_refusal S N ≡ 0) {z : ℕ} (M : Node (graph_of S N) z) {f : Found} (found : f ≡ found_of (graph_of S N) (ends (graph_of S N) z))
    {Y X : List ℕ} (R : List ℕ) (E : Ended S N (ends (graph_of S N) z) Y) (is : X ≡ Y ++ R) (room : 6 * size_of S ≤ length X)
    (clean : tally_of (size_of S) X ≡ replicate (size_of S) 0) where
  abbrev g : Graph
  g = graph_of S N

  abbrev n : ℕ
  n = size_of S

  abbrev e : Ends
  e = ends g z

  G : LegalGraph g
  G = not_refused S N ok

  O : EndsOf g z e
  O = ends_of_lem G M

  v_node : Node g e.v
  v_node = part_node G M e.v O.v-part

  u_node : Node g e.u
  u_node = part_node G M e.u O.u_part

  -- one part, so many nodes
  reaches : (x : ℕ) → memb x (part g z) ≡ true → reached (levels g x) ≡ length (part g z)
  reaches x m = reached-part G (part_node G M x m) ∙ ap length (part_same G x M m)

  first-at : search_at n 0 X ≡ take (half S) Y
  first-at =
      let b : 0 + (n + n) ≡ half S = omega arith in
      ap (search_at n 0) is ∙ ap (λ (m : ℕ). slice 0 m (Y ++ R)) b ∙ slice_front 0 (half S) Y R (omega (arith, E.full))

  second_at : search_at n (2 * n) X ≡ drop (half S) Y
  second_at =
      let a : 2 * n ≡ half S + 0 = omega arith in
      let b : 2 * n + (n + n) ≡ half S + half S = omega arith in
      ap (search_at n (2 * n)) is ∙ slice_front (2 * n) (2 * n + (n + n)) Y R (omega (arith, E.full)) ∙ (λ i. slice (a i) (b i) Y)
      ∙ slice_shift (half S) 0 (half S) Y ∙ ap (drop 0) (take_all (half S) (drop (half S) Y) (omega (arith, E.second.holds.full)))

  first : Searched S N e.v (search_at n 0 X)
  first = subst (Searched S N e.v) (sym first-at) E.first

  second : Searched S N e.u (search_at n (2 * n) X)
  second = subst (Searched S N e.u) (sym second_at) E.second

  depth-v : depth (levels g e.v) ≡ f.k
  unfolding depth_at
  depth-v = O.k-depth ∙ sym (ap (λ (x : Found). x.k) found)

  depth_u : depth (levels g e.u) ≡ f.k
  unfolding depth_at
  depth_u = O.u_depth ∙ sym (ap (λ (x : Found). x.k) found)

  count_v : reached (levels g e.v) ≡ f.reached
  count_v = sym (ap (λ (x : Found). x.reached) found)

  count_u : reached (levels g e.u) ≡ f.reached
  count_u = reaches e.u O.u_part ∙ sym (reaches e.v O.v-part) ∙ count_v

  pub widths_ask : Listable n 0 f.reached f.k X × Listable n (2 * n) f.reached f.k X
  widths_ask = (
    subst (λ (c : ℕ). Listable n 0 c f.k X) count_v
        (subst (λ (k : ℕ). Listable n 0 (reached (levels g e.v)) k X) depth-v (searched_listable S N ok v_node 0 X first (omega arith) room clean)),
    subst (λ (c : ℕ). Listable n (2 * n) c f.k X) count_u
        (subst (λ (k : ℕ). Listable n (2 * n) (reached (levels g e.u)) k X) depth_u
        (searched_listable S N ok u_node (2 * n) X second (omega arith) room clean)),
  )

  pub width-v : width_of f.k (levels_at n 0 X) ≡ e.v_width
  width-v = ap (λ (k : ℕ). width_of k (levels_at n 0 X)) (sym depth-v) ∙ searched_width S N ok v_node 0 X first ∙ sym (widths_at g z).0

  pub width_u : width_of f.k (levels_at n (2 * n) X) ≡ e.u_width
  width_u = ap (λ (k : ℕ). width_of k (levels_at n (2 * n) X)) (sym depth_u) ∙ searched_width S N ok u_node (2 * n) X second ∙ sym (widths_at g z).1

-- ---- the same in words U that were set to 0 before, as they come back

module _ (S N : List ℕ) (ok : graph_refusal S N ≡ 0) {p : ℕ} (M : Node (graph_of S N) p) {v : ℕ} (first : v ≡ first_in_e (graph_of S N) (part (graph_of S N) p))
    {f : Found} (found : f ≡ found_of (graph_of S N) (ends (graph_of S N) v)) {Y U : List ℕ} (ended : Ended S N (ends (graph_of S N) v) Y) (W : List ℕ)
    (blank : U ≡ zeroed (words_per_node * size_of S) W) (room : words_per_node * size_of S ≤ length W) where
  abbrev h : ℕ
  h = half S + half S

  abbrev X₁ : List ℕ
  X₁ = Y ++ drop h U

  back : X₁ ≡ Y ++ drop h U
  back = refl

  same : ends (graph_of S N) v ≡ ends (graph_of S N) p
  same = same_ends S N ok M first

  found_p : f ≡ found_of (graph_of S N) (ends (graph_of S N) p)
  found_p = found ∙ ap (found_of (graph_of S N)) same

  ended_p : Ended S N (ends (graph_of S N) p) Y
  ended_p = subst (λ (x : Ends). Ended S N x Y) same ended

  pub room_back : 6 * size_of S ≤ length X₁
  room_back =
      omega (arith, ap length back, length-append Y (drop h U), ended.full, length-drop h U, ap length blank, zeroed-length (words_per_node * size_of S) W room)

  clean_back : tally_of (size_of S) X₁ ≡ replicate (size_of S) 0
  clean_back =
      let n : ℕ = size_of S in
      let e : 6 * n - 5 * n ≡ n = omega arith in
      sym (part_slice (5 * n) (6 * n) X₁) ∙ ap (take (6 * n - 5 * n)) (ap (drop (5 * n)) back ∙ behind_front h (5 * n) Y U ended.full (omega arith))
      ∙ part_slice (5 * n) (6 * n) U ∙ ap (drop (5 * n)) (ap (take (6 * n)) blank ∙ zero_front (6 * n) (words_per_node * n) W (omega arith))
      ∙ drop-replicate (5 * n) (6 * n) 0 ∙ ap (λ (m : ℕ). replicate m 0) e

  pub alone_ask : Listable (size_of S) 0 f.reached f.k X₁ × Listable (size_of S) (2 * size_of S) f.reached f.k X₁
  alone_ask = widths_ask S N ok M found_p (drop h U) ended_p back room_back clean_back

  pub alone_ends : {w : Widths} → w.v ≡ width_of f.k (levels_at (size_of S) 0 X₁) → w.u ≡ width_of f.k (levels_at (size_of S) (2 * size_of S) X₁)
      → ◌≡◌ {A = PartEnds} (record { v = f.v; u = f.u; k = f.k; widthv = w.v; widthu = w.u; passes = f.passes }) (part_ends_of (ends (graph_of S N) p))
  alone_ends a b =
      let at-v = a ∙ width-v S N ok M found_p (drop h U) ended_p back room_back clean_back in
      let at-u = b ∙ width_u S N ok M found_p (drop h U) ended_p back room_back clean_back in
      (λ i. record { v = (found_p i).v; u = (found_p i).u; k = (found_p i).k; widthv = at-v i; widthu = at-u i; passes = (found_p i).passes })

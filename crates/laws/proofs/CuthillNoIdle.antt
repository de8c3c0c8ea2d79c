-- "It applies to the order of A.3 before its turning" (document 02, A.12): of the store of each part by its own numbers, and of the elimination
-- call by the numbers of the whole, of any number of parts. Where there is one part these are the numbers of A.3's call, turned back.
-- Assumes nothing.
use mathlib.Core.Path.{◌≡◌, refl, sym, ap, ◌∙◌, subst}
use mathlib.Core.Logic.{⊎_elim}
use mathlib.Core.Bool.{true}
use mathlib.Core.List.{List, [], ◌∷◌, ◌++◌, map, reverse, append-nil}
use Prim.Native.Nat.{ℕ, zero, suc, ◌+◌, ◌-◌, ◌≤◌, ◌<◌}
use native.Mathlib.Omega.{arith}
use lib.ListN.{length, get_or, take, length-map, length-append}
use lib.Dec.{eqb}
use Rattle.basis.specs.Lists.{join_all, memb, up_from}
use Rattle.basis.specs.Perm.{Once, Perm}
use Rattle.basis.proofs.Count.{count_append}
use Rattle.basis.proofs.Lists.{map-map}
use Rattle.basis.proofs.Logic.{eqb_self, lt_or_le, or_left, or_right}
use Rattle.spec.specs.CallsCuthill.{cuthill_refusal, cuthill_answer, cuthill_numbers}
use Rattle.spec.specs.Cuthill.{cuthill_mc_kee, cuthill_result_by, cuthill_result, cuthill_results, cuthill_run}
use Rattle.spec.specs.Ends.{ends}
use Rattle.spec.specs.Graph.{Graph, adjoins, of_node, size_of, graph_of, graph_refusal}
use Rattle.spec.specs.Lent.{accepted}
use Rattle.spec.specs.Levels.{leaders}
use Rattle.spec.specs.Measures.{first_in, is_numbering, in_order, numbers_of, renumbered}
use Rattle.spec_claims.specs.NoIdle.{lower_neighbours, NoIdle, Fills, before_turning, turned_back}
use Rattle.spec.specs.Numbering.{Figures, PartResult, whole_order, figures_of, run_of}
use Rattle.spec.specs.Unknowns.{ones}
use Rattle.laws.specs.Legal.{Node, LegalGraph, Closed}
use Rattle.laws.specs.Results.{AllSound, whole_of}
use Rattle.laws.proofs.ByTest.{by_make, in_order_size, order_legal}
use Rattle.laws.proofs.Claim.{numbers_front}
use Rattle.laws.proofs.Cuthill.{rooted_structure, cuthill_levels_lem, cuthill_perm, lower-at, later_at}
use Rattle.laws.proofs.CuthillRun.{cuthill_sound, cuthill_numbered, cuthill_legal}
use Rattle.laws.proofs.Ends.{ends_of_lem}
use Rattle.laws.proofs.Lent.{outcome_accepted}
use Rattle.laws.proofs.NoIdle.{lower_make, Covered, lower-covered, no_idle, covered_fills}
use Rattle.laws.proofs.Numberings.{numbers_reverse, renumbered_numbers}
use Rattle.laws.proofs.PartProfile.{left-first, right_first}
use Rattle.laws.proofs.Parts.{leaders_in}
use Rattle.laws.proofs.Refused.{not_refused}
use Rattle.laws.proofs.Results.{orders, closed_append, order_closed, orders_closed, all_perm, all_once, all_numbering}
use Rattle.laws.proofs.UnknownOrder.{levels_reach}

-- ---- one part, by its own numbers

-- the order of the part of z
abbrev unturned : Graph → ℕ → List ℕ
unturned g z = cuthill_mc_kee g (ends g z).v

module _ {g : Graph} (G : LegalGraph g) {z : ℕ} (Z : Node g z) where
  -- every number but 1 has a neighbour with a lower number: one of the level before
  pub part-lower : lower_neighbours (in_order g (unturned g z)) ≡ true
  unfolding in_order of_node
  part-lower = lower_make (in_order g (unturned g z)) (λ q N h. go q (omega (arith, N.high, in_order_size g (unturned g z))) h)
    where
      go : (q : ℕ) → q ≤ length (unturned g z) → 2 ≤ q → (p : ℕ) × (p < q) × (adjoins (in_order g (unturned g z)) q p ≡ true)
      go zero l h = absurd (omega arith)
      go (suc a) l h =
          let o : List ℕ = unturned g z in
          let w = lower-at G Z (ends_of_lem G Z) a l (later_at G Z (ends_of_lem G Z) a (omega arith) l) in
          (suc w.0, omega (arith, w.1), by_make (length o) (λ p q. adjoins g (of_node o p) (of_node o q)) (suc a) (suc w.0) (omega arith) l (omega arith) (omega (arith, w.1)) w.2)

  pub part_no_idle : NoIdle (in_order g (unturned g z))
  part_no_idle = no_idle (order_legal G (unturned g z)) part-lower

-- ---- parts one after the other: what is within a row's places is of its own part

module _ (g : Graph) (a b : List ℕ) (once : Once (a ++ b)) (ca : Closed g a) (cb : Closed g b) where
  abbrev both : Graph
  both = in_order g (a ++ b)

  left : Covered (in_order g a) → (q x : ℕ) → 1 ≤ x → q ≤ length a → first_in both q < x → x < q → first_in both x < x
  left ka zero x s l f k = absurd (omega arith)
  left ka (suc i) zero s l f k = absurd (omega arith)
  left ka (suc i) (suc j) s l f k =
      let N : Node (in_order g a) (suc i) = record { low = omega arith; high = omega (arith, in_order_size g a) } in
      omega (
        arith,
        left-first g a b once ca cb (closed_append ca cb) j (omega arith),
        ka (suc i) (suc j) N (omega (arith, left-first g a b once ca cb (closed_append ca cb) i l)) k,
      )

  right : Covered (in_order g b) → (i x : ℕ) → i < length b → first_in both (suc (length a + i)) < x → x < suc (length a + i) → first_in both x < x
  right kb i x l f k =
      let e : first_in both (suc (length a + i)) ≡ length a + first_in (in_order g b) (suc i) = right_first g a b once ca cb (closed_append ca cb) i l in
      let j : ℕ = x - suc (length a) in
      let y : x ≡ suc (length a + j) = omega arith in
      let N : Node (in_order g b) (suc i) = record { low = omega arith; high = omega (arith, in_order_size g b) } in
      omega (
        arith,
        ap (first_in both) y,
        right_first g a b once ca cb (closed_append ca cb) j (omega arith),
        kb (suc i) (suc j) N (omega arith) (omega arith),
      )

  covered-append : Covered (in_order g a) → Covered (in_order g b) → Covered both
  covered-append ka kb q x Q f k =
      ⊎_elim
      (λ (l : length a < q).
      let i : ℕ = q - suc (length a) in
      let y : q ≡ suc (length a + i) = omega arith in
      right kb i x (omega (arith, Q.high, in_order_size g (a ++ b), length-append a b)) (omega (arith, ap (first_in both) y)) (omega arith))
      (λ (l : q ≤ length a). left ka q x (omega arith) l f k)
      (lt_or_le (length a) q)

-- ---- the whole

-- "one unknown a node"
abbrev each : Graph → List ℕ
each g = ones g.size

-- what is found of a part, its order not turned: as sound as it is turned
abbrev unturned_result : Graph → ℕ → PartResult
unturned_result g z = record { levels = (cuthill_result g (each g) z).levels; order = unturned g z; report = (cuthill_result g (each g) z).report }

unturned_sound : {g : Graph} → LegalGraph g → AllSound g (each g) (unturned_result g)
unfolding cuthill_result cuthill_result_by
unturned_sound {g} G = record {
  sound = λ z Z.
      let E = ends_of_lem G Z in
      let turned = (cuthill_sound G (each g)).sound z Z in
      record {
        perm = cuthill_perm G Z E;
        reach = levels_reach G (each g) Z (rooted_structure G Z E) (cuthill_levels_lem G Z E);
        v-part = turned.v-part;
        u_part = turned.u_part;
        structure = turned.structure;
        width = turned.width;
        depth = turned.depth;
        some_pass = turned.some_pass;
        most_passes = turned.most_passes;
      };
}

module _ {g : Graph} (G : LegalGraph g) where
  leader_node : (z : ℕ) → memb z (leaders g) ≡ true → Node g z
  leader_node z m = (leaders_in g z m).0

  orders-covered : (zs : List ℕ) → ((z : ℕ) → memb z zs ≡ true → Node g z) → Once (orders (unturned_result g) zs) → Covered (in_order g (orders (unturned_result g) zs))
  orders-covered [] h o = λ q x Q f k. absurd (omega (arith, Q.low, Q.high, in_order_size g []))
  orders-covered (z ∷ zs) h o =
      let first : Node g z = h z (or_left _ (eqb_self z)) in
      let rest : (y : ℕ) → memb y zs ≡ true → Node g y = λ y m. h y (or_right (eqb y z) m) in
      covered-append g (unturned g z) (orders (unturned_result g) zs) o
      (order_closed G (unturned_result g) (unturned_sound G) first) (orders_closed G (unturned_result g) (unturned_sound G) zs rest)
      (lower-covered (order_legal G (unturned g z)) (part-lower G first)) (orders-covered zs rest tail)
    where
      tail : Once (orders (unturned_result g) zs)
      tail x = omega (arith, o x, count_append (eqb x) (unturned g z) (orders (unturned_result g) zs))

  before_is : before_turning g ≡ (whole_of g (each g) (unturned_result g)).numbers
  unfolding before_turning run_of whole_order
  before_is = ap (λ (ls : List (List ℕ)). numbers_of g.size (join_all ls)) (sym (map-map (λ r. r.order) (unturned_result g) (leaders g)))

  before_numbering : is_numbering g.size (before_turning g) ≡ true
  before_numbering = rw before_is (all_numbering G (unturned_result g) (unturned_sound G))

  before-covered : Covered (renumbered g (before_turning g))
  unfolding run_of whole_order
  before-covered =
      subst Covered (sym (ap (renumbered g) before_is ∙ renumbered_numbers g.size (all_perm G (unturned_result g) (unturned_sound G)) g))
      (orders-covered (leaders g) leader_node (all_once G (unturned_result g) (unturned_sound G)))

-- THE ORDER OF A.3 BEFORE ITS TURNING leaves no idle place: of every legal adjacency
pub cuthill_fills : (S N : List ℕ) → graph_refusal S N ≡ 0 → Fills S N (before_turning (graph_of S N))
cuthill_fills S N legal =
    let G = not_refused S N legal in
    covered_fills S N (before_turning (graph_of S N)) legal (before_numbering G) (before-covered G)

-- ---- a connected graph: the numbers that A.3's call reports, turned back

-- a list of one is its first
alone : (l : List ℕ) → length l ≡ 1 → l ≡ get_or l 0 0 ∷ []
alone [] e = absurd (omega arith)
alone (x ∷ []) e = refl
alone (x ∷ y ∷ l) e = absurd (omega arith)

module _ {g : Graph} (G : LegalGraph g) (cs : List ℕ) (one : length (leaders g) ≡ 1) where
  -- the order of the only part
  abbrev order : List ℕ
  order = unturned g (get_or (leaders g) 0 0)

  turned_is : whole_order (cuthill_results g cs) ≡ reverse order
  unfolding whole_order cuthill_results cuthill_result cuthill_result_by
  turned_is = rw (alone (leaders g) one) (append-nil (reverse order))

  unturned_is : join_all (map (unturned g) (leaders g)) ≡ order
  unturned_is = rw (alone (leaders g) one) (append-nil order)

  order_perm : Perm order (up_from 1 g.size)
  unfolding whole_order
  order_perm =
      subst (λ (o : List ℕ). Perm o (up_from 1 g.size)) (ap join_all (map-map (λ r. r.order) (unturned_result g) (leaders g)) ∙ unturned_is)
      (all_perm G (unturned_result g) (unturned_sound G))

  back_is : turned_back g.size (cuthill_run g cs).numbers ≡ before_turning g
  unfolding cuthill_run run_of before_turning
  back_is =
      ap (λ (o : List ℕ). turned_back g.size (numbers_of g.size o)) turned_is
      ∙ numbers_reverse g.size order_perm ∙ ap (numbers_of g.size) (sym unturned_is)

-- whatever counts the call was handed: the order does not depend on them
pub turned_back_lem : (S N K X L P W : List ℕ) (F : Figures) → cuthill_answer S N K X L P W ≡ accepted F → F.parts ≡ 1
    → turned_back (size_of S) (take (size_of S) (cuthill_numbers S N K X L P W)) ≡ before_turning (graph_of S N)
unfolding cuthill_answer cuthill_numbers cuthill_run cuthill_results run_of figures_of
turned_back_lem S N K X L P W F e one =
    let g : Graph = graph_of S N in
    let a = outcome_accepted (cuthill_refusal S N K X L P W) (cuthill_run g K).figures F e in
    let legal = cuthill_legal S N K X L P W a.0 in
    let single : length (leaders g) ≡ 1 = sym (length-map (leaders g) (cuthill_result g K)) ∙ ap (λ (f : Figures). f.parts) a.1 ∙ one in
    rw (numbers_front (cuthill_numbered S N K legal.0 legal.1).numbered (cuthill_refusal S N K X L P W) a.0 X) (back_is (not_refused S N legal.0) K single)

-- so the elimination call leaves no idle place by them
pub turned_fills : (S N K X L P W : List ℕ) (F : Figures) → cuthill_answer S N K X L P W ≡ accepted F → F.parts ≡ 1
    → Fills S N (turned_back (size_of S) (take (size_of S) (cuthill_numbers S N K X L P W)))
unfolding cuthill_answer
turned_fills S N K X L P W F e one =
    let a = outcome_accepted (cuthill_refusal S N K X L P W) (cuthill_run (graph_of S N) K).figures F e in
    rw (turned_back_lem S N K X L P W F e one) (cuthill_fills S N (cuthill_legal S N K X L P W a.0).0)

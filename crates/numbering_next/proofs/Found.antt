-- The parts found so far, and one part more: their order, their levels and what is summed up, of any sound results. Assumes nothing.
use mathlib.Core.Path.{◌≡◌, refl, sym, ap, ◌∙◌}
use mathlib.Core.Logic.{⊎_elim}
use mathlib.Core.Bool.{true, false, cond}
use mathlib.Core.List.{List, [], ◌∷◌, ◌++◌, map, append_assoc}
use Prim.Native.Nat.{ℕ, zero, suc, ◌+◌, ◌-◌, ◌≤◌, ◌<◌, max}
use native.Mathlib.Numerals.{add-one}
use native.Mathlib.Omega.{arith}
use lib.ListN.{length, set, take, drop, replicate, length-append, length-map, length-replicate, take-append-drop}
use lib.Seq.{take_all, take-suc, drop-cons, set-append_seam, length-take-le}
use lib.Dec.{eqb}
use Rattle.basis.specs.Lists.{join_all, memb, greatest, sum, position}
use Rattle.basis.specs.Perm.{times}
use Rattle.basis.proofs.Count.{count_append, memb-times, none_times}
use Rattle.basis.proofs.Index.{greatest_le, position-left, position_right}
use Rattle.basis.proofs.Lists.{map-map, map-append, map_cong, memb-append, memb-take, join_make, join_last, join_append, sum-append}
use Rattle.basis.proofs.Logic.{by_test, clash, fails, or_left, or_right, or_split, eqb_self}
use Rattle.basis.proofs.Perm.{perm_length, perm_memb}
use Rattle.spec.specs.Ends.{depth_at, ends}
use Rattle.spec.specs.Graph.{Graph, nodes, of_node}
use Rattle.spec.specs.Levels.{part, leaders, parts}
use Rattle.spec.specs.Numbering.{PartResult, whole_order, whole_levels, part_passes}
use Rattle.laws.specs.Legal.{Node, LegalGraph}
use Rattle.laws.specs.Results.{AllSound}
use Rattle.laws.proofs.Ends.{ends_of_lem}
use Rattle.laws.proofs.Legal.{of_node-map, node_in_lem}
use Rattle.laws.proofs.Levels.{depth_most}
use Rattle.laws.proofs.Parts.{leaders_in}
use Rattle.laws.proofs.Passes.{leaders_most}
use Rattle.laws.proofs.Results.{orders, all_once}
use Rattle.numbering_parts.specs.Walked.{Walked, leader_at}
use Rattle.numbering_parts.proofs.PartByPart.{next_node}
use Rattle.numbering_part.specs.Part.{number_from, renewed}
use Rattle.numbering_next.specs.Ran.{found_to}

-- ---- lists

greatest-last : (xs : List ℕ) (x : ℕ) → greatest (xs ++ (x ∷ [])) ≡ max (greatest xs) x
greatest-last [] x = omega arith
greatest-last (y ∷ xs) x = omega (arith, greatest-last xs x)

take-map : {A B : Type 0} (f : A → B) (j : ℕ) (l : List A) → take j (map f l) ≡ map f (take j l)
take-map f zero l = refl
take-map f (suc j) [] = refl
take-map f (suc j) (x ∷ l) = ap (λ (t : List _). f x ∷ t) (take-map f j l)

-- numbers f of some with zeros up to n words: one more stands in the first of these
fill_next : {A : Type 0} (f : A → ℕ) (n : ℕ) (rs : List A) (r : A) → length rs < n
    → set (map f rs ++ replicate (n - length rs) 0) (length rs) (f r) ≡ map f (rs ++ (r ∷ [])) ++ replicate (n - length (rs ++ (r ∷ []))) 0
fill_next {A} f n rs r h =
    let zs : List ℕ = replicate (n - length (rs ++ (r ∷ []))) 0 in
    let e : n - length rs ≡ suc (n - length (rs ++ (r ∷ []))) = omega (arith, h, length-append rs (r ∷ [])) in
    ap (λ (k : ℕ). set (map f rs ++ replicate k 0) (length rs) (f r)) e
    ∙ ap (λ (k : ℕ). set (map f rs ++ (0 ∷ zs)) k (f r)) (sym (length-map rs f))
    ∙ set-append_seam (map f rs) 0 zs (f r)
    ∙ sym (append_assoc (map f rs) (f r ∷ []) zs)
    ∙ ap (λ (l : List ℕ). l ++ zs) (sym (map-append f rs (r ∷ [])))

-- ---- the parts so far

-- no more parts than nodes
pub parts_most : (g : Graph) → length (parts g) ≤ g.size
unfolding parts
parts_most g = omega (arith, length-map (leaders g) (part g), leaders_most g)

-- a result for each
found-length : (g : Graph) (R : ℕ → PartResult) (j : ℕ) → j ≤ length (parts g) → length (found_to g R j) ≡ j
unfolding parts
found-length g R j h = length-map (take j (leaders g)) R ∙ length-take-le j (leaders g) (omega (arith, length-map (leaders g) (part g)))

-- their passes in n words
pub passes_size : (g : Graph) (R : ℕ → PartResult) (j : ℕ) → j ≤ length (parts g) → length (part_passes g (found_to g R j)) ≡ g.size
unfolding part_passes
passes_size g R j h =
    let rs : List PartResult = found_to g R j in
    omega (
      arith,
      length-append (map (λ r. r.report.passes) rs) (replicate (g.size - length rs) 0),
      length-map rs (λ r. r.report.passes),
      length-replicate {A = ℕ} (g.size - length rs) 0,
      found-length g R j h,
      parts_most g,
    )

-- ---- one part more

module _ {g : Graph} (G : LegalGraph g) (R : ℕ → PartResult) {cs : List ℕ} (ok : AllSound g cs R) {j a : ℕ} (P : Walked g j a) (h : j < length (parts g)) where
  abbrev z : ℕ
  z = leader_at g j

  abbrev zs : List ℕ
  zs = take j (leaders g)

  Z : Node g z
  Z = next_node G P h

  many : j < length (leaders g)
  unfolding parts
  many = omega (arith, length-map (leaders g) (part g))

  next_leaders : take (j + 1) (leaders g) ≡ zs ++ (z ∷ [])
  next_leaders = ap (λ (k : ℕ). take k (leaders g)) (add-one j) ∙ take-suc (leaders g) j 0 many

  found_next : found_to g R (j + 1) ≡ found_to g R j ++ (R z ∷ [])
  found_next = ap (map R) next_leaders ∙ map-append R zs (z ∷ [])

  -- ---- what is summed up

  pub sum_next : (f : PartResult → ℕ) → sum (map f (found_to g R (j + 1))) ≡ sum (map f (found_to g R j)) + f (R z)
  sum_next f =
      ap (λ (l : List PartResult). sum (map f l)) found_next ∙ ap sum (map-append f (found_to g R j) (R z ∷ []))
      ∙ sum-append (map f (found_to g R j)) (f (R z) ∷ []) ∙ omega arith

  pub greatest_next : (f : PartResult → ℕ) → greatest (map f (found_to g R (j + 1))) ≡ max (greatest (map f (found_to g R j))) (f (R z))
  greatest_next f =
      ap (λ (l : List PartResult). greatest (map f l)) found_next ∙ ap greatest (map-append f (found_to g R j) (R z ∷ []))
      ∙ greatest-last (map f (found_to g R j)) (f (R z))

  -- its passes stand in the word after those of the parts before
  pub passes_next : set (part_passes g (found_to g R j)) j (R z).report.passes ≡ part_passes g (found_to g R (j + 1))
  unfolding part_passes
  passes_next =
      ap (λ (i : ℕ). set (part_passes g (found_to g R j)) i (R z).report.passes) (sym (found-length g R j P.some))
      ∙ fill_next (λ r. r.report.passes) g.size (found_to g R j) (R z) (omega (arith, found-length g R j P.some, parts_most g, h))
      ∙ ap (part_passes g) (sym found_next)

  -- no part has more levels than the graph has nodes
  pub depth_few : (R z).report.k ≤ g.size
  unfolding depth_at
  depth_few = let E = ends_of_lem G Z in omega (arith, (ok.sound z Z).depth, E.k-depth, depth_most g (ends g z).v)

  -- ---- the order

  abbrev o : List ℕ
  o = (R z).order

  pub order_next : whole_order (found_to g R (j + 1)) ≡ whole_order (found_to g R j) ++ o
  unfolding whole_order
  order_next =
      ap (λ (l : List PartResult). join_all (map (λ r. r.order) l)) found_next
      ∙ ap join_all (map-append (λ r. r.order) (found_to g R j) (R z ∷ []))
      ∙ join_last (map (λ r. r.order) (found_to g R j)) o

  o-part : (q : ℕ) → memb q o ≡ memb q (part g z)
  o-part q = perm_memb (ok.sound z Z).perm q

  -- as many nodes as were passed
  orders-length : (ys : List ℕ) → ((y : ℕ) → memb y ys ≡ true → Node g y) → length (orders R ys) ≡ length (join_all (map (part g) ys))
  orders-length [] n = refl
  orders-length (y ∷ ys) n =
      omega (
        arith,
        length-append (R y).order (orders R ys),
        length-append (part g y) (join_all (map (part g) ys)),
        perm_length (ok.sound y (n y (or_left _ (eqb_self y)))).perm,
        orders-length ys (λ x m. n x (or_right (eqb x y) m)),
      )

  pub order_size : length (whole_order (found_to g R j)) ≡ a
  unfolding whole_order parts
  order_size =
      orders-length zs (λ y m. (leaders_in g y (memb-take y j (leaders g) m)).0)
      ∙ sym (P.nodes ∙ ap (λ (l : List (List ℕ)). length (join_all l)) (take-map (part g) j (leaders g)))

  -- no node of the part was passed
  pub order-new : (q : ℕ) → memb q (part g z) ≡ true → memb q (whole_order (found_to g R j)) ≡ false
  unfolding whole_order
  order-new q m =
      let e : orders R (leaders g) ≡ orders R zs ++ (o ++ orders R (drop (suc j) (leaders g))) =
      ap (orders R) (sym (take-append-drop j (leaders g)) ∙ ap (λ (l : List ℕ). zs ++ l) (drop-cons (leaders g) j 0 many))
      ∙ ap (λ (l : List PartResult). join_all (map (λ r. r.order) l)) (map-append R zs (z ∷ drop (suc j) (leaders g)))
      ∙ ap join_all (map-append (λ r. r.order) (map R zs) (map R (z ∷ drop (suc j) (leaders g))))
      ∙ join_append (map (λ r. r.order) (map R zs)) (map (λ r. r.order) (map R (z ∷ drop (suc j) (leaders g)))) in
      none_times q (orders R zs)
      (omega (
        arith,
        all_once G R ok q,
        ap (times q) e,
        count_append (eqb q) (orders R zs) (o ++ orders R (drop (suc j) (leaders g))),
        count_append (eqb q) o (orders R (drop (suc j) (leaders g))),
        memb-times q o (o-part q ∙ m),
      ))

  -- the part's nodes have the next free numbers
  pub numbers_next : (X : List ℕ) → ((q : ℕ) → Node g q → memb q (whole_order (found_to g R j)) ≡ true → of_node X q ≡ suc (position q (whole_order (found_to g R j))))
      → (q : ℕ) → Node g q → memb q (whole_order (found_to g R (j + 1))) ≡ true
      → of_node (renewed g z (number_from a o) X) q ≡ suc (position q (whole_order (found_to g R (j + 1))))
  unfolding renewed
  numbers_next X n q N m =
      let w : List ℕ = whole_order (found_to g R j) in
      of_node-map g (λ q. cond (memb q (part g z)) (number_from a o q) (of_node X q)) q N
      ∙ by_test (memb q (part g z))
      (λ y. rw y (omega (arith, position_right q w o (order-new q y), order_size)))
      (λ y.
      let i : memb q w ≡ true =
      ⊎_elim (λ (l : memb q w ≡ true). l) (λ (r : memb q o ≡ true). clash (sym (o-part q) ∙ r) y) (or_split (memb q w) (memb q o) (sym (memb-append q w o) ∙ sym (ap (memb q) order_next) ∙ m)) in
      rw y (n q N i ∙ ap suc (sym (position-left q w o i))))
      ∙ ap (λ (l : List ℕ). suc (position q l)) (sym order_next)

  -- ---- the levels

  abbrev lv : List ℕ
  lv = (R z).levels

  outside : (y : ℕ) → Node g y → (q : ℕ) → Node g q → memb q (part g y) ≡ false → of_node (R y).levels q ≡ 0
  outside y Y q N m = (ok.sound y Y).structure.outside q N m

  -- the earlier parts have 0 for the part's nodes
  earlier : (q : ℕ) → Node g q → memb q (part g z) ≡ true → (y : ℕ) → memb y zs ≡ true → of_node (R y).levels q ≡ 0
  unfolding whole_order
  earlier q N m y i =
      let Y : Node g y = (leaders_in g y (memb-take y j (leaders g) i)).0 in
      outside y Y q N
      (fails (memb q (part g y))
      (λ k.
      clash
      (ap (λ (l : List (List ℕ)). memb q (join_all l)) (map-map (λ r. r.order) R zs)
      ∙ join_make (λ x. (R x).order) zs y q i (perm_memb (ok.sound y Y).perm q ∙ k))
      (order-new q m)))

  -- so these have level 0 before their part comes
  none_yet : (q : ℕ) → Node g q → memb q (part g z) ≡ true → greatest (map (λ r. of_node r.levels q) (found_to g R j)) ≡ 0
  none_yet q N m =
      omega (
        arith,
        ap greatest (map-map (λ r. of_node r.levels q) R zs),
        greatest_le (λ y. of_node (R y).levels q) zs 0 (λ y i. omega (arith, earlier q N m y i)),
      )

  pub levels_next : renewed g z (of_node lv) (whole_levels g (found_to g R j)) ≡ whole_levels g (found_to g R (j + 1))
  unfolding renewed whole_levels
  levels_next =
      map_cong (λ q. cond (memb q (part g z)) (of_node lv q) (of_node (whole_levels g (found_to g R j)) q)) (λ z. greatest (map (λ r. of_node r.levels z) (found_to g R (j + 1)))) (nodes g)
      (λ q i.
      let N = node_in_lem g q i in
      let s : greatest (map (λ r. of_node r.levels q) (found_to g R (j + 1))) ≡ max (greatest (map (λ r. of_node r.levels q) (found_to g R j))) (of_node lv q) =
      greatest_next (λ r. of_node r.levels q) in
      by_test (memb q (part g z))
      (λ y. rw y (omega (arith, none_yet q N y)))
      (λ y. rw y (of_node-map g (λ z. greatest (map (λ r. of_node r.levels z) (found_to g R j))) q N ∙ omega (arith, outside z Z q N y))))

-- ---- all parts

module _ (g : Graph) (R : ℕ → PartResult) where
  pub found_all : (j : ℕ) → length (parts g) ≤ j → found_to g R j ≡ map R (leaders g)
  unfolding parts
  found_all j h = ap (map R) (take_all j (leaders g) (omega (arith, length-map (leaders g) (part g))))

  -- a result for each part
  pub found_count : length (map R (leaders g)) ≡ length (parts g)
  unfolding parts
  found_count = length-map (leaders g) R ∙ sym (length-map (leaders g) (part g))

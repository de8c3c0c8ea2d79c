-- A store with no idle place (document 02, A.12): where every number but 1 has a neighbour with a lower number, every place of the store is
-- marked after the last elimination. Of any legal graph by its own numbers: that it is connected follows. Assumes nothing.
use mathlib.Core.Path.{◌≡◌, refl, sym, ap, ◌∙◌}
use mathlib.Core.Logic.{⊎_elim}
use mathlib.Core.Bool.{true}
use mathlib.Core.List.{List, [], ◌∷◌, map}
use Prim.Native.Nat.{ℕ, zero, suc, ◌+◌, ◌-◌, ◌*◌, ◌/◌, ◌^◌, ◌≤◌, ◌<◌, min}
use native.Mathlib.Decide.{le_ind}
use native.Mathlib.Omega.{arith}
use lib.ListN.{length, get_or, replicate, length-replicate, get_or-replicate, get_or-eq_default}
use lib.Seq.{ext_get_or}
use lib.Dec.{eqb, ltb}
use borrow.Author.Tests.{eq-eqb, eqb-true, lt-ltb, le-ltb, ltb-true}
use Rattle.basis.specs.Lists.{anyb, bit, memb, overwrite, sum, up_from}
use Rattle.basis.specs.Perm.{Once}
use Rattle.basis.proofs.Count.{bit-one, bit_most}
use Rattle.basis.proofs.Lists.{allb_make, allb_use, any_find, any_make, map_cong, memb-one, sum_ones, up_from_in, up_from_make}
use Rattle.basis.proofs.Logic.{same, or_left, lt_or_le}
use Rattle.basis.proofs.Perm.{once_perm, perm_length}
use Rattle.spec.specs.CallsStore.{EliminationFigures, elimination_figures, elimination_refusal, elimination_answer, elimination_bytes}
use Rattle.spec.specs.Graph.{Graph, adjoins, size_of, graph_of, graph_refusal}
use Rattle.spec.specs.Levels.{part, leaders}
use Rattle.spec.specs.Measures.{first_in, is_numbering, renumbered, profile}
use Rattle.spec_claims.specs.NoIdle.{connected, lower_neighbours, full_bytes, NoIdle, Fills}
use Rattle.spec.specs.Unknowns.{ones, renumbered_unknowns}
use Rattle.spec.specs.Store.{Pair, has_place, placed_pairs, joined, marks, mark_count, mark_byte_count, mark_byte, mark_bytes}
use Rattle.laws.specs.Legal.{Node, LegalGraph}
use Rattle.laws.proofs.ByTest.{renumbered_legal}
use Rattle.laws.proofs.Eliminations.{joined_edges, joined_shut}
use Rattle.laws.proofs.Legal.{to_row, of_row}
use Rattle.laws.proofs.Lent.{outcome_accepted, filled_none}
use Rattle.laws.proofs.Levels.{part_self, part_on, part-back}
use Rattle.laws.proofs.Marks.{marks-length, marks-at}
use Rattle.laws.proofs.Parts.{leader, leader-leads, leaders_in, leader_unique, leaders_once}
use Rattle.laws.proofs.Places.{first_nbr, first_hit, place_split, placed-has}
use Rattle.laws.proofs.Refused.{not_refused}
use Rattle.laws.proofs.UnknownOnes.{ones-renumbered}

-- ---- the premise, used and shown

pub lower_in : (h : Graph) → lower_neighbours h ≡ true → (q : ℕ) → Node h q → 2 ≤ q → (p : ℕ) × (p < q) × (adjoins h q p ≡ true)
unfolding lower_neighbours
lower_in h e q Q l =
    let m : memb q (up_from 2 (h.size - 1)) ≡ true = up_from_make 2 (h.size - 1) q l (omega (arith, Q.high)) in
    let w = any_find (λ p. ltb p q) (h.row q) (allb_use (λ r. anyb (λ p. ltb p r) (h.row r)) (up_from 2 (h.size - 1)) e q m) in
    (w.0, ltb-true w.0 q w.2, of_row h q w.0 w.1)

pub lower_make : (h : Graph) → ((q : ℕ) → Node h q → 2 ≤ q → (p : ℕ) × (p < q) × (adjoins h q p ≡ true)) → lower_neighbours h ≡ true
unfolding lower_neighbours
lower_make h f =
    allb_make (λ q. anyb (λ p. ltb p q) (h.row q)) (up_from 2 (h.size - 1))
    (λ q m.
    let r = up_from_in 2 (h.size - 1) q m in
    let w = f q (record { low = omega arith; high = omega arith }) r.0 in
    any_make (λ p. ltb p q) (h.row q) w.0 (to_row h q w.0 w.2) (lt-ltb w.0 q w.1))

-- ---- a graph that has it is connected, so that this is no premise of its own

module _ {h : Graph} (H : LegalGraph h) (some : 1 ≤ h.size) (lower : lower_neighbours h ≡ true) where
  One : Node h 1
  One = record { low = omega arith; high = some }

  -- every number is in the part of 1
  all-parts : (m q : ℕ) → Node h q → q ≤ m → memb q (part h 1) ≡ true
  all-parts zero q Q l = absurd (omega (arith, Q.low))
  all-parts (suc m) q Q l =
      ⊎_elim
      (λ (k : q < 2). let e : q ≡ 1 = omega (arith, Q.low) in ap (λ (x : ℕ). memb x (part h 1)) e ∙ part_self H One)
      (λ (k : 2 ≤ q).
      let w = lower_in h lower q Q k in
      part_on H One w.0 q (H.both q w.0 w.2) (all-parts m w.0 (H.inside q w.0 w.2) (omega (arith, w.1))))
      (lt_or_le q 2)

  pub lower-connected : connected h ≡ true
  unfolding connected
  lower-connected = eq-eqb (length (leaders h)) 1 (perm_length (once_perm (leaders h) (leader h 1 ∷ []) (leaders_once h) alone same_leader))
    where
      alone : Once (leader h 1 ∷ [])
      alone x = omega (arith, bit_most (eqb x (leader h 1)))

      leads : (w : ℕ) → memb w (leaders h) ≡ true → w ≡ leader h 1
      leads w m =
          let W : Node h w = (leaders_in h w m).0 in
          leader_unique H w 1 m (part-back H w One (all-parts w w W (omega arith)))

      same_leader : (x : ℕ) → memb x (leaders h) ≡ memb x (leader h 1 ∷ [])
      same_leader x =
          same (memb x (leaders h)) (memb x (leader h 1 ∷ [])) (λ m. or_left _ (eq-eqb x (leader h 1) (leads x m)))
          (λ m. ap (λ (y : ℕ). memb y (leaders h)) (eqb-true x (leader h 1) (sym (memb-one x (leader h 1)) ∙ m)) ∙ leader-leads H One)

-- ---- every pair with a place is joined: all that this takes is a lower neighbour of the numbers within a row's places

first_low : {h : Graph} → LegalGraph h → (q : ℕ) → Node h q → 1 ≤ first_in h q
first_low {h} H q Q = ⊎_elim (λ (e : first_in h q ≡ q). omega (arith, Q.low)) (λ a. (H.inside q (first_in h q) a).low) (first_hit h q)

-- f_x < x where x stands between f_q and q
abbrev pub Covered : Graph → Type 0
Covered h = (q x : ℕ) → Node h q → first_in h q < x → x < q → first_in h x < x

pub lower-covered : {h : Graph} → LegalGraph h → lower_neighbours h ≡ true → Covered h
lower-covered {h} H lower q x Q a b =
    let w = lower_in h lower x (record { low = omega arith; high = omega (arith, Q.high) }) (omega (arith, first_low H q Q)) in
    omega (arith, first_nbr h w.0 x w.2, w.1)

module _ {h : Graph} (H : LegalGraph h) (covered : Covered h) where
  -- all places of row q are joined at the end
  abbrev Full : ℕ → Type 0
  Full q = (p : ℕ) → first_in h q ≤ p → p < q → adjoins (joined h) p q ≡ true

  -- a row is full where the earlier ones are: from f_q on, each number is joined to the next, and both to q
  row_full : (q : ℕ) → Node h q → ((r : ℕ) → Node h r → r < q → Full r) → Full q
  unfolding joined
  row_full q Q earlier p a b = le_ind (λ (x : ℕ). x < q → adjoins (joined h) x q ≡ true) start step p a b
    where
      start : first_in h q < q → adjoins (joined h) (first_in h q) q ≡ true
      start l =
          ⊎_elim (λ (e : first_in h q ≡ q). absurd (omega arith)) (λ e. joined_edges H h.size (first_in h q) q (H.both q (first_in h q) e)) (first_hit h q)

      step : (x : ℕ) → first_in h q ≤ x → (x < q → adjoins (joined h) x q ≡ true) → suc x < q → adjoins (joined h) (suc x) q ≡ true
      step x f t l =
          let N : Node h (suc x) = record { low = omega arith; high = omega (arith, Q.high) } in
          joined_shut H x (suc x) q (omega (arith, first_low H q Q)) (omega arith) l Q.high
          (earlier (suc x) N l x (omega (arith, covered q (suc x) Q (omega arith) l)) (omega arith)) (t (omega arith))

  rows_full : (m q : ℕ) → Node h q → q ≤ m → Full q
  rows_full zero q Q l = absurd (omega (arith, Q.low))
  rows_full (suc m) q Q l = row_full q Q (λ r R k. rows_full m r R (omega arith))

  place-joined : (pq : Pair) → has_place h pq ≡ true → pq.high ≤ h.size → adjoins (joined h) pq.low pq.high ≡ true
  place-joined pq e u =
      let w = place_split h pq e in
      rows_full pq.high pq.high (record { low = omega (arith, w.0); high = u }) (omega arith) pq.low w.1 w.0

  -- so every mark is 1
  all-marked : marks h ≡ replicate (profile h) 1
  all-marked =
      ext_get_or 0 (marks h) (replicate (profile h) 1) (marks-length h ∙ sym (length-replicate (profile h) 1))
      (λ t k. let l : t < profile h = omega (arith, marks-length h) in one t l ∙ sym (get_or-replicate (profile h) t 1 0 l))
    where
      one : (t : ℕ) → t < profile h → get_or (marks h) t 0 ≡ 1
      one t l =
          let d : Pair = record { low = 0; high = 0 } in
          let w = placed-has h t d l in
          marks-at h t d l ∙ bit-one _ (place-joined (get_or (placed_pairs h) t d) w.0 w.1)

-- ---- bytes of marks that are all 1

-- eight of the marks, of which d are there
ones_byte : (d : ℕ) → sum (map (λ t. bit (ltb t d) * 2 ^ t) (up_from 0 8)) ≡ 2 ^ min 8 d - 1
ones_byte zero = refl
ones_byte (suc zero) = refl
ones_byte (suc (suc zero)) = refl
ones_byte (suc (suc (suc zero))) = refl
ones_byte (suc (suc (suc (suc zero)))) = refl
ones_byte (suc (suc (suc (suc (suc zero))))) = refl
ones_byte (suc (suc (suc (suc (suc (suc zero)))))) = refl
ones_byte (suc (suc (suc (suc (suc (suc (suc zero))))))) = refl
ones_byte (suc (suc (suc (suc (suc (suc (suc (suc d)))))))) =
    let size : ℕ = suc (suc (suc (suc (suc (suc (suc (suc d))))))) in
    let all : min 8 size ≡ 8 = omega arith in
    ap sum (map_cong (λ t. bit (ltb t size) * 2 ^ t) (λ t. 1 * 2 ^ t) (up_from 0 8) (λ t m. ap (λ (x : ℕ). x * 2 ^ t) (ap bit (lt-ltb t size (omega (arith, up_from_in 0 8 t m))))))
    ∙ ap (λ (k : ℕ). 2 ^ k - 1) (sym all)

full_byte : (size b : ℕ) → mark_byte (replicate size 1) b ≡ 2 ^ min 8 (size - 8 * b) - 1
unfolding mark_byte
full_byte size b = ap sum (map_cong (λ t. get_or (replicate size 1) (8 * b + t) 0 * 2 ^ t) (λ t. bit (ltb t (size - 8 * b)) * 2 ^ t) (up_from 0 8) (λ t m. ap (λ (x : ℕ). x * 2 ^ t) (at t))) ∙ ones_byte (size - 8 * b)
  where
    at : (t : ℕ) → get_or (replicate size 1) (8 * b + t) 0 ≡ bit (ltb t (size - 8 * b))
    at t =
        ⊎_elim (λ (l : 8 * b + t < size). get_or-replicate size (8 * b + t) 1 0 l ∙ sym (ap bit (lt-ltb t (size - 8 * b) (omega arith))))
        (λ (l : size ≤ 8 * b + t). get_or-eq_default (replicate size 1) 0 (omega (arith, length-replicate {A = ℕ} size 1)) ∙ sym (ap bit (le-ltb t (size - 8 * b) (omega arith))))
        (lt_or_le (8 * b + t) size)

-- ---- THE STATEMENT

pub covered_full : {h : Graph} → LegalGraph h → Covered h → NoIdle h
unfolding mark_count mark_bytes mark_byte_count full_bytes
covered_full {h} H covered =
    let marked : marks h ≡ replicate (profile h) 1 = all-marked H covered in
    record {
      pairs = place-joined H covered;
      all = marked;
      bytes = ap (λ (ms : List ℕ). map (mark_byte ms) (up_from 0 ((profile h + 7) / 8))) marked
          ∙ map_cong (mark_byte (replicate (profile h) 1)) (λ b. 2 ^ min 8 (profile h - 8 * b) - 1) (up_from 0 ((profile h + 7) / 8)) (λ b m. full_byte (profile h) b);
      count = ap sum marked ∙ sum_ones (profile h);
    }

pub no_idle : {h : Graph} → LegalGraph h → lower_neighbours h ≡ true → NoIdle h
no_idle H lower = covered_full H (lower-covered H lower)

-- ---- of the elimination call

module _ (S N X : List ℕ) (legal : graph_refusal S N ≡ 0) (numbering : is_numbering (size_of S) X ≡ true) where
  abbrev h : Graph
  h = renumbered (graph_of S N) X

  abbrev refusal : List ℕ → List ℕ → ℕ
  refusal C B = elimination_refusal S N (ones (size_of S)) X C B

  H : LegalGraph h
  H = renumbered_legal (not_refused S N legal) X

  -- "one unknown a node": the unknowns are the nodes
  abbrev big : Graph
  big = renumbered_unknowns (graph_of S N) (ones (size_of S)) X

  one_each : big ≡ h
  one_each = ones-renumbered (not_refused S N legal) X numbering

  pub covered_fills : Covered h → Fills S N X
  unfolding elimination_answer elimination_bytes elimination_figures
  covered_fills covered =
      let full : NoIdle h = covered_full H covered in
      record {
        numbering = numbering;
        marked = λ C B e a.
            ap (λ (f : EliminationFigures). f.marked) (sym (outcome_accepted (refusal C B) (elimination_figures big) e a).1) ∙ ap mark_count one_each ∙ full.count;
        bytes = λ C B e a.
            filled_none (refusal C B) (mark_bytes big) B (outcome_accepted (refusal C B) (elimination_figures big) e a).0
            ∙ ap (λ (l : List ℕ). overwrite l B) (ap mark_bytes one_each ∙ full.bytes);
      }

  pub fills : lower_neighbours h ≡ true → Fills S N X
  fills lower = covered_fills (lower-covered H lower)

-- The order of a part after its combined levels, by what each of the two has ensured of the words: what `sequence` asks, that the words then
-- hold what is found of the part, and its report. Assumes nothing.
use mathlib.Core.Path.{◌≡◌, sym, ap, ◌∙◌, ap₂}
use mathlib.Core.List.{List, ◌++◌, append_assoc}
use Prim.Native.Nat.{ℕ, ◌+◌, ◌-◌, ◌*◌, ◌≤◌}
use native.Mathlib.Omega.{arith}
use lib.ListN.{length, get_or, drop, get_or-replicate}
use lib.Seq.{sets, slice, length-sets, sets-eq}
use Rattle.basis.proofs.Perm.{perm_length}
use Rattle.spec.specs.Combined.{combined}
use Rattle.spec.specs.Ends.{Ends, ends}
use Rattle.spec.specs.Graph.{Graph}
use Rattle.spec.specs.Numbering.{direction_of, part_result_by, part_result}
use Rattle.laws.specs.Results.{Sound}
use Rattle.laws.specs.Legal.{Node, LegalGraph}
use Rattle.laws.proofs.Combined.{combined-levels}
use Rattle.laws.proofs.Ends.{ends_of_lem}
use Rattle.laws.proofs.Legal.{of_node-at}
use Rattle.levels_laws.specs.Areas.{words_of}
use Rattle.levels_laws.specs.Given.{first_of, merged}
use Rattle.levels_laws.proofs.GivenEntry.{merged_alone}
use Rattle.levels.specs.Part.{PartGiven, part_levels_of}
use Rattle.levels.specs.declared.shape.PartLevels.{PartLevels}
use Rattle.numbering_sequence.specs.Answer.{sequence_of, Sequenceable}
use Rattle.numbering_sequence.specs.declared.shape.Sequence.{Sequence}
use Rattle.numbering_part.specs.Part.{found_meaning}
use Rattle.numbering_sequence.proofs.Stored.{stored_swap, stored_again}
use Rattle.laws.proofs.Whole.{part_sound}
use Rattle.numbering_part.proofs.Given.{room, z_node, part_size, stored-first, stored-areas, stored-part, stored-levels}

module _ {g : Graph} (G : LegalGraph g) (few : g.size ≤ 4096) {from to : ℕ} (X : List ℕ)
    (P : PartGiven g from to (words_of g.size X) (slice (5 * g.size) (6 * g.size) X)) where
  abbrev n : ℕ
  n = g.size

  abbrev L : List ℕ
  L = slice (5 * g.size) (6 * g.size) X

  abbrev z : ℕ
  z = first_of g.size from (words_of g.size X)

  abbrev e : Ends
  e = ends g z

  abbrev m : ℕ
  m = to - from

  abbrev C : List ℕ
  C = combined g e

  Z : Node g z
  Z = z_node G few X P

  -- the area held no other levels
  levels_are : merged g z e L ≡ C
  levels_are = merged_alone G Z (ends_of_lem G Z) L
      (λ q N o. of_node-at L q N.low ∙ ap (λ (l : List ℕ). get_or l (q - 1) 0) P.clean ∙ get_or-replicate n (q - 1) 0 0 (omega (arith, N.low, N.high)))

  C-size : length C ≡ n
  C-size = (combined-levels G Z).size

  module _ {W₁ : List ℕ} (w₁ : W₁ ≡ words_of n X ++ (merged g z e L ++ drop (6 * g.size) X)) where
    one_is : W₁ ≡ sets X (5 * n) C
    one_is =
        let k : 6 * n ≡ 5 * n + length C = omega (arith, C-size) in
        w₁ ∙ ap₂ (λ (l : List ℕ) (x : ℕ). words_of n X ++ (l ++ drop x X)) levels_are k
        ∙ sym (sets-eq C X (5 * n) (omega (arith, C-size, room G few X P)) ∙ append_assoc (words_of n X) C (drop (5 * n + length C) X))

    first_is : get_or W₁ (4 * n + from) 0 ≡ z
    first_is = stored-first G few X P C C-size one_is

    pub sequence_ok : {k v u : ℕ} → k ≡ e.k → v ≡ e.v → u ≡ e.u → Sequenceable g (5 * n) (4 * n + from) m k v u W₁
    sequence_ok pk pv pu =
        let back : e ≡ ends g (get_or W₁ (4 * n + from) 0) = ap (ends g) (sym first_is) in
        record {
          areas = stored-areas G few X P C C-size one_is;
          part = stored-part G few X P C C-size one_is;
          levels = stored-levels G few X P C C-size one_is ∙ ap (combined g) back;
          k_is = pk ∙ ap (λ (x : Ends). x.k) back;
          v_is = pv ∙ ap (λ (x : Ends). x.v) back;
          u_is = pu ∙ ap (λ (x : Ends). x.u) back;
        }

    -- from what the combined levels return
    pub sequence_ready : {r : PartLevels} → r ≡ part_levels_of g e → Sequenceable g (5 * n) (4 * n + from) m r.k r.v r.u W₁
    sequence_ready p = sequence_ok (ap (λ (x : PartLevels). x.k) p) (ap (λ (x : PartLevels). x.v) p) (ap (λ (x : PartLevels). x.u) p)

    module _ (cs : List ℕ) where
      -- the order and the levels as now named are there, and all else is as it was
      pub sequence_done : {W₂ : List ℕ}
          → W₂ ≡ sets (sets W₁ n (part_result g cs (get_or W₁ (4 * n + from) 0)).order) (5 * n) (part_result g cs (get_or W₁ (4 * n + from) 0)).levels
          → W₂ ≡ sets (sets X n (part_result g cs z).order) (5 * n) (part_result g cs z).levels
      sequence_done w₂ =
          let R : Sound g cs z (part_result g cs z) = (part_sound G cs).sound z Z in
          let o : List ℕ = (part_result g cs z).order in
          let lv : List ℕ = (part_result g cs z).levels in
          let s : length o ≡ m = perm_length R.perm ∙ part_size G few X P in
          w₂ ∙ ap₂ (λ (l : List ℕ) (x : ℕ). sets (sets l n (part_result g cs x).order) (5 * n) (part_result g cs x).levels) one_is first_is
          ∙ ap (λ (l : List ℕ). sets l (5 * n) lv) (stored_swap C X n o (5 * n) (omega (arith, P.most)))
          ∙ stored_again (sets X n o) (5 * n) C lv (C-size ∙ sym R.structure.size) (omega (arith, R.structure.size, length-sets X n o, room G few X P))

      -- what is returned
      pub depth_done : {r : PartLevels} → r ≡ part_levels_of g e → r.k ≡ (part_result g cs z).report.k
      unfolding part_result part_result_by
      depth_done p = ap (λ (x : PartLevels). x.k) p

      pub found_done : {r : PartLevels} → r ≡ part_levels_of g e → {s : Sequence} → s ≡ sequence_of g cs (ends g (get_or W₁ (4 * n + from) 0))
          → {w : ℕ} → w ≡ (part_result g cs z).report.width
          → found_meaning (record { v = s.v; u = s.u; k = r.k; width = w; passes = r.passes; turned = s.turned }) ≡ (part_result g cs z).report
      unfolding part_result part_result_by
      found_done p {s} q h =
          let q' : s ≡ sequence_of g cs e = q ∙ ap (λ (x : ℕ). sequence_of g cs (ends g x)) first_is in
          λ i. record { v = (q' i).v; u = (q' i).u; k = (p i).k; width = h i; passes = (p i).passes; direction = direction_of (q' i).turned }

-- The order of a part after the levels rooted at v, by what each of the two has ensured of the words: what the order asks, that the words then
-- hold what is found of the part, and its figures. Assumes nothing.
use mathlib.Core.Path.{◌≡◌, sym, ap, ap₂, ◌∙◌}
use mathlib.Core.List.{List}
use Prim.Native.Nat.{ℕ, ◌+◌, ◌-◌, ◌*◌, ◌≤◌}
use native.Mathlib.Omega.{arith}
use lib.ListN.{length, get_or}
use lib.Seq.{sets}
use Rattle.basis.proofs.Perm.{perm_length}
use Rattle.spec.specs.Cuthill.{cuthill_result_by, cuthill_result}
use Rattle.spec.specs.Ends.{Ends, ends}
use Rattle.spec.specs.Graph.{Graph}
use Rattle.laws.specs.Results.{Sound}
use Rattle.laws.specs.Legal.{Node, LegalGraph}
use Rattle.laws.proofs.Cuthill.{rooted_structure, turned_perm}
use Rattle.laws.proofs.CuthillRun.{cuthill_sound}
use Rattle.laws.proofs.Ends.{ends_of_lem}
use Rattle.levels_laws.specs.Areas.{words_of, tally_of}
use Rattle.levels_laws.specs.Given.{first_of}
use Rattle.levels.specs.Part.{PartGiven}
use Rattle.numbering_sequence.specs.Answer.{with_result}
use Rattle.numbering_sequence.proofs.Stored.{stored_swap}
use Rattle.numbering_part.specs.Part.{part_figures_of}
use Rattle.numbering_part.proofs.Given.{z_node, part_size, stored-first, stored-areas, stored-part, stored-levels}
use Rattle.numbering_cuthill.specs.Part.{part_root_of, rooted_by, turned_by, Orderable}
use Rattle.numbering_cuthill.specs.declared.shape.PartRoot.{PartRoot}

module _ {g : Graph} (G : LegalGraph g) (few : g.size ≤ 4096) {from to : ℕ} (X : List ℕ)
    (P : PartGiven g from to (words_of g.size X) (tally_of g.size X)) where
  abbrev n : ℕ
  n = g.size

  abbrev z : ℕ
  z = first_of g.size from (words_of g.size X)

  abbrev e : Ends
  e = ends g z

  abbrev m : ℕ
  m = to - from

  abbrev lv : List ℕ
  lv = rooted_by g e

  Z : Node g z
  Z = z_node G few X P

  -- ---- the order

  module _ {W₁ : List ℕ} (w₁ : W₁ ≡ sets X (5 * g.size) (rooted_by g (ends g (first_of g.size from (words_of g.size X))))) where
    size : length lv ≡ n
    size = (rooted_structure G Z (ends_of_lem G Z)).size

    first_is : get_or W₁ (4 * n + from) 0 ≡ z
    first_is = stored-first G few X P lv size w₁

    pub order-ok : {r : PartRoot} → r ≡ part_root_of e → Orderable g (5 * n) (4 * n + from) m r.k r.v W₁
    order-ok p = record {
      areas = stored-areas G few X P lv size w₁;
      part = stored-part G few X P lv size w₁;
      levels = stored-levels G few X P lv size w₁ ∙ ap (λ (x : ℕ). rooted_by g (ends g x)) (sym first_is);
      k_is = ap (λ (x : PartRoot). x.k) p ∙ ap (λ (x : ℕ). (ends g x).k) (sym first_is);
      v_is = ap (λ (x : PartRoot). x.v) p ∙ ap (λ (x : ℕ). (ends g x).v) (sym first_is);
    }

    pub order_there : (cs : List ℕ) {W₂ : List ℕ} → W₂ ≡ sets W₁ n (turned_by g (ends g (get_or W₁ (4 * n + from) 0))) → W₂ ≡ with_result n (5 * n) (cuthill_result g cs z) X
    unfolding cuthill_result cuthill_result_by
    order_there cs w₂ =
        let o : List ℕ = turned_by g e in
        let s : length o ≡ m = perm_length (turned_perm G Z (ends_of_lem G Z)) ∙ part_size G few X P in
        w₂ ∙ ap₂ (λ (l : List ℕ) (x : ℕ). sets l n (turned_by g (ends g x))) w₁ first_is ∙ stored_swap lv X n o (5 * n) (omega (arith, P.most))

  -- ---- what is found

  module _ (cs : List ℕ) where
    pub result : Sound g cs (first_of g.size from (words_of g.size X)) (cuthill_result g cs (first_of g.size from (words_of g.size X)))
    result = (cuthill_sound G cs).sound _ Z

    pub depth_done : {r : PartRoot} → r ≡ part_root_of e → r.k ≡ (cuthill_result g cs z).report.k
    unfolding cuthill_result cuthill_result_by
    depth_done p = ap (λ (x : PartRoot). x.k) p

    pub figures_done : {r : PartRoot} → r ≡ part_root_of e → {w : ℕ} → w ≡ (cuthill_result g cs z).report.width
        → record { k = r.k; width = w; passes = r.passes } ≡ part_figures_of (cuthill_result g cs z).report
    unfolding cuthill_result cuthill_result_by
    figures_done p h = λ i. record { k = (p i).k; width = h i; passes = (p i).passes }

-- What a file is refused by after its header and its counts, test by test, and its graph. Assumes nothing.
use mathlib.Core.Path.{◌≡◌, sym, ap, ◌∙◌, subst}
use mathlib.Core.Bool.{Bool, true, false}
use mathlib.Core.List.{List, [], ◌∷◌}
use Prim.Native.Nat.{ℕ, zero, suc, ◌+◌, ◌*◌, ◌≤◌}
use native.Mathlib.Omega.{arith}
use lib.ListN.{length, take, drop}
use lib.Dec.{eqb, ltb}
use borrow.Author.Tests.{ltb-false}
use Rattle.basis.proofs.Logic.{or_none}
use Rattle.spec.specs.Refusal.{refuse, ◌or_else◌}
use Rattle.spec.specs.Lent.{refused, accepted, outcome}
use Rattle.spec.specs.Graph.{Graph, bad_size}
use Rattle.spec.specs.Mesh.{node_count, bad_nodes, element_refusal, elements_refusal, mesh_graph, refuses11}
use Rattle.spec.specs.CallsMesh.{graph_of_elements}
use Rattle.spec.specs.File.{file_nodes, file_elements, count_words, body, bad_header, cut_counts, bad_file_counts, counted_refusal, words_taken, left_over, file_graph, header_refusal, counts_refusal, body_refusal, file_refusal}
use Rattle.laws.proofs.Lent.{outcome_accepted, outcome_refused, answer_refused}
use Rattle.laws.proofs.Refused.{or_else_zero, refuse_zero, or_else_first, or_else_has, refuse-has}
use Rattle.mesh_elements.proofs.Elements.{in_order_lem}
use Rattle.file_reading.specs.Words.{words_refusal}
use Rattle.file_reading.proofs.Bytes.{body-length, header_whole}
use Rattle.file_reading.proofs.Counted.{all-taken, taken_most}

-- ---- the header

-- a header that is not refused
pub header_passed : (bs : List ℕ) → header_refusal bs ≡ 0 → (bad_header bs ≡ false) × (bad_size (file_nodes bs) ≡ false)
unfolding header_refusal
header_passed bs e =
    let a = or_else_zero (refuse (bad_header bs) 12) (refuse (bad_size (file_nodes bs)) 1) e in
    (refuse_zero (bad_header bs) 12 (omega arith) a.0, refuse_zero (bad_size (file_nodes bs)) 1 (omega arith) a.1)

-- is whole, and has few nodes
pub header_good : (bs : List ℕ) → header_refusal bs ≡ 0 → (9 ≤ length bs) × (file_nodes bs ≤ 4096)
header_good bs e =
    let a = header_passed bs e in
    ((header_whole bs a.0).0, ltb-false 4096 (file_nodes bs) (or_none (eqb (file_nodes bs) 0) (ltb 4096 (file_nodes bs)) a.1).1)

-- and the words after it are no more than 32,763
pub body_most : (bs : List ℕ) → header_refusal bs ≡ 0 → length (body bs) ≤ 32763
body_most bs e = omega (arith, body-length bs, (header_whole bs (header_passed bs e).0).1)

-- ---- the words

module _ (bs : List ℕ) where
  abbrev counted : ℕ
  counted = counted_refusal (file_elements bs) (file_nodes bs) (body bs)

  abbrev taken : ℕ
  taken = words_taken (file_elements bs) (body bs)

  -- an element is refused
  pub by_element : (r : ℕ) → refused r ≡ outcome (counted_refusal (file_elements bs) (file_nodes bs) (body bs)) (words_taken (file_elements bs) (body bs))
      → refused r ≡ outcome (words_refusal bs) (length (body bs))
  unfolding words_refusal
  by_element r e =
      let w = outcome_refused counted r taken (sym e) in
      let first = or_else_first counted (refuse (left_over bs) 12) (omega (arith, w.0, w.1)) in
      answer_refused (words_refusal bs) r (length (body bs)) (first ∙ w.0) w.1

  module _ (t : ℕ) (e : accepted t ≡ outcome (counted_refusal (file_elements bs) (file_nodes bs) (body bs)) (words_taken (file_elements bs) (body bs))) where
    both : (counted_refusal (file_elements bs) (file_nodes bs) (body bs) ≡ 0) × (words_taken (file_elements bs) (body bs) ≡ t)
    both = outcome_accepted counted taken t (sym e)

    -- what they take is there
    pub taken_small : t ≤ length (body bs)
    taken_small = omega (arith, both.1, taken_most (file_elements bs) (file_nodes bs) (body bs) both.0)

    -- bytes are left over
    pub by_left : ltb (9 + 2 * count_words bs + 2 * t) (length bs) ≡ true → refused 12 ≡ outcome (words_refusal bs) (length (body bs))
    unfolding words_refusal left_over outcome
    by_left h = rw (both.0, both.1, h)

    -- none are
    pub by_none : ltb (9 + 2 * count_words bs + 2 * t) (length bs) ≡ false → accepted (length (body bs)) ≡ outcome (words_refusal bs) (length (body bs))
    unfolding words_refusal left_over outcome
    by_none h = rw (both.0, both.1, h)

-- ---- after the words: 11 or none

-- one of the table's numbers, or 0, but not 11
record Told (c : ℕ) : Type 0 where
  pub most : c ≤ 12
  pub other : c ≡ 11 → ⊥

told : (t : Bool) (c : ℕ) → c ≤ 12 → (c ≡ 11 → ⊥) → Told (refuse t c)
told t c h l = refuse-has Told t c (record { most = h; other = l }) (record { most = omega arith; other = λ e. omega arith })

element_told : (n k : ℕ) (ws : List ℕ) → Told (element_refusal 12 n k ws)
unfolding element_refusal
element_told n k ws =
    or_else_has Told (refuse (eqb (node_count k) 0) 9) (refuse (ltb (length ws) (node_count k)) 12 or_else refuse (bad_nodes n (take (node_count k) ws)) 10)
    (told (eqb (node_count k) 0) 9 (omega arith) (λ e. omega arith))
    (or_else_has Told (refuse (ltb (length ws) (node_count k)) 12) (refuse (bad_nodes n (take (node_count k) ws)) 10)
    (told (ltb (length ws) (node_count k)) 12 (omega arith) (λ e. omega arith)) (told (bad_nodes n (take (node_count k) ws)) 10 (omega arith) (λ e. omega arith)))

counted_told : (c n : ℕ) (ws : List ℕ) → Told (counted_refusal c n ws)
unfolding counted_refusal
counted_told zero n ws = record { most = omega arith; other = λ e. omega arith }
counted_told (suc c) n [] = record { most = omega arith; other = λ e. omega arith }
counted_told (suc c) n (k ∷ ws) =
    or_else_has Told (element_refusal 12 n k ws) (counted_refusal c n (drop (node_count k) ws)) (element_told n k ws) (counted_told c n (drop (node_count k) ws))

module _ (bs : List ℕ) where
  words_told : Told (words_refusal bs)
  unfolding words_refusal
  words_told =
      or_else_has Told (counted_refusal (file_elements bs) (file_nodes bs) (body bs)) (refuse (left_over bs) 12) (counted_told (file_elements bs) (file_nodes bs) (body bs))
      (told (left_over bs) 12 (omega arith) (λ e. omega arith))

  body_split : body_refusal bs ≡ words_refusal bs or_else refuse (refuses11 (file_graph bs)) 11
  unfolding body_refusal words_refusal
  body_split = sym (in_order_lem (counted_refusal (file_elements bs) (file_nodes bs) (body bs)) (refuse (left_over bs) 12) (refuse (refuses11 (file_graph bs)) 11))

  -- no number of the program's is above 15
  pub file_refusal_most : file_refusal bs ≤ 15
  unfolding file_refusal header_refusal counts_refusal
  file_refusal_most =
      let P : ℕ → Type 0 = λ c. c ≤ 15 in
      let eleven : ℕ = refuse (refuses11 (file_graph bs)) 11 in
      let one : ℕ = refuse (bad_size (file_nodes bs)) 1 in
      let header : P (refuse (bad_header bs) 12 or_else one) = or_else_has P (refuse (bad_header bs) 12) one (few (bad_header bs) 12 (omega arith)) (few (bad_size (file_nodes bs)) 1 (omega arith)) in
      let fifteen : ℕ = refuse (bad_file_counts bs) 15 in
      let counts : P (refuse (cut_counts bs) 12 or_else fifteen) = or_else_has P (refuse (cut_counts bs) 12) fifteen (few (cut_counts bs) 12 (omega arith)) (few (bad_file_counts bs) 15 (omega arith)) in
      let whole : P (words_refusal bs or_else eleven) = or_else_has P (words_refusal bs) eleven (omega (arith, words_told.most)) (few (refuses11 (file_graph bs)) 11 (omega arith)) in
      or_else_has P (refuse (bad_header bs) 12 or_else one) ((refuse (cut_counts bs) 12 or_else fifteen) or_else body_refusal bs) header
      (or_else_has P (refuse (cut_counts bs) 12 or_else fifteen) (body_refusal bs) counts (subst P (sym body_split) whole))
    where
      few : (b : Bool) (c : ℕ) → c ≤ 15 → refuse b c ≤ 15
      few b c h = refuse-has (λ d. d ≤ 15) b c h (omega arith)

  -- the words are refused, so the file is, by the same number
  pub words_refused : (r : ℕ) → refused r ≡ outcome (words_refusal bs) (length (body bs)) → (body_refusal bs ≡ r) × (1 ≤ r) × (r ≡ 11 → ⊥)
  words_refused r e =
      let w = outcome_refused (words_refusal bs) r (length (body bs)) (sym e) in
      let first = or_else_first (words_refusal bs) (refuse (refuses11 (file_graph bs)) 11) (omega (arith, w.0, w.1)) in
      (body_split ∙ first ∙ w.0, w.1, λ z. words_told.other (w.0 ∙ z))

  module _ (t : ℕ) (e : accepted t ≡ outcome (words_refusal bs) (length (body bs))) where
    passed : (words_refusal bs ≡ 0) × (length (body bs) ≡ t)
    passed = outcome_accepted (words_refusal bs) (length (body bs)) t (sym e)

    pub words-all : t ≡ length (body bs)
    words-all = sym passed.1

    parts : (counted_refusal (file_elements bs) (file_nodes bs) (body bs) ≡ 0) × (left_over bs ≡ false)
    unfolding words_refusal
    parts =
        let a = or_else_zero (counted_refusal (file_elements bs) (file_nodes bs) (body bs)) (refuse (left_over bs) 12) passed.0 in
        (a.0, refuse_zero (left_over bs) 12 (omega arith) a.1)

    every : words_taken (file_elements bs) (body bs) ≡ length (body bs)
    unfolding left_over
    every =
        let l = ltb-false (9 + 2 * count_words bs + 2 * words_taken (file_elements bs) (body bs)) (length bs) parts.1 in
        omega (arith, l, body-length bs, taken_most (file_elements bs) (file_nodes bs) (body bs) parts.0)

    -- the elements are those of the word list
    pub words_good : elements_refusal (length (body bs)) (file_nodes bs) (body bs) ≡ 0
    words_good = (all-taken (file_elements bs) (file_nodes bs) (body bs) parts.0 every).0

    pub words-graph : file_graph bs ≡ graph_of_elements (file_nodes bs) (body bs)
    unfolding file_graph graph_of_elements
    words-graph = ap (mesh_graph (file_nodes bs)) (all-taken (file_elements bs) (file_nodes bs) (body bs) parts.0 every).1

    pub words_pass : body_refusal bs ≡ refuse (refuses11 (graph_of_elements (file_nodes bs) (body bs))) 11
    words_pass =
        body_split ∙ ap (λ (r : ℕ). r or_else refuse (refuses11 (file_graph bs)) 11) passed.0
        ∙ ap (λ (g : Graph). refuse (refuses11 g) 11) words-graph

-- a file that is not refused: its graph is that of its word list, and 11 does not refuse it
module _ (bs : List ℕ) (e : body_refusal bs ≡ 0) where
  tests : (words_refusal bs ≡ 0) × (refuse (refuses11 (file_graph bs)) 11 ≡ 0)
  tests = or_else_zero (words_refusal bs) (refuse (refuses11 (file_graph bs)) 11) (sym (body_split bs) ∙ e)

  pub file_graph_lem : file_graph bs ≡ graph_of_elements (file_nodes bs) (body bs)
  unfolding outcome
  file_graph_lem = words-graph bs (length (body bs)) (sym (ap (λ (c : ℕ). outcome c (length (body bs))) tests.0))

  pub file_few : refuses11 (file_graph bs) ≡ false
  file_few = refuse_zero (refuses11 (file_graph bs)) 11 (omega arith) tests.1

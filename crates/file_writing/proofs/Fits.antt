-- The listing of a run is `listed` of its figures, numbers, levels and passes, and 104 bytes and 15 for each row hold it. Assumes nothing.
use mathlib.Core.Bool.{false}
use mathlib.Core.Path.{◌≡◌, refl, sym, ap, ap₂, ◌∙◌}
use mathlib.Core.List.{List, [], ◌∷◌, ◌++◌, map, append_assoc, append-nil}
use Prim.Native.String.{String}
use Prim.Native.Nat.{ℕ, zero, suc, ◌+◌, ◌*◌, ◌≤◌, ◌<◌}
use native.Mathlib.Numerals.{add-one}
use native.Mathlib.Omega.{arith}
use lib.ListN.{length, get_or, length-append}
use Rattle.basis.specs.Lists.{join_all, up_from, sum}
use Rattle.basis.proofs.Lists.{join_append}
use Rattle.spec.specs.Text.{ascii, decimal, newline}
use Rattle.spec.specs.Graph.{Graph, nodes, of_node}
use Rattle.spec.specs.Numbering.{Figures, Run, run}
use Rattle.spec.specs.Unknowns.{bad_counts}
use Rattle.spec.specs.File.{item, figures_line, node_line, listing}
use Rattle.laws.specs.Legal.{Node, LegalGraph}
use Rattle.laws.proofs.Numberings.{numbering_length}
use Rattle.laws.proofs.Whole.{run_numbering}
use Rattle.file_writing.specs.Listed.{first_items, last_items, row_items, rows, listed, output_room}
use Rattle.file_writing.proofs.Bounds.{nodes_is, parts_most, levels_most, passes_most, width_most, bandwidth_most, front_most, profile_few, number_most, level_most}
use Rattle.file_writing.proofs.Decimals.{four_digits, five_digits, nine_digits}
use Rattle.file_writing.proofs.Rows.{rows_suc}

-- ---- the same text

node_line_lem : (r : Run) (z : ℕ) → node_line r z ≡ join_all (row_items z (of_node r.numbers z) (of_node r.levels z))
unfolding node_line newline
node_line_lem r z =
    let d = decimal z in
    let a = item " " (of_node r.numbers z) in
    let b = item " " (of_node r.levels z) in
    append_assoc (d ++ a) b (10 ∷ []) ∙ append_assoc d a (b ++ (10 ∷ []))

node_lines : (r : Run) (zs : List ℕ) → join_all (map (node_line r) zs) ≡ join_all (map (λ z. join_all (row_items z (of_node r.numbers z) (of_node r.levels z))) zs)
node_lines r [] = refl
node_lines r (z ∷ zs) = ap₂ ◌++◌ (node_line_lem r z) (node_lines r zs)

first_line : (f : Figures) (total : ℕ) → figures_line f total ≡ join_all (first_items f) ++ join_all (last_items f total)
unfolding figures_line
first_line f total = join_append (first_items f) (last_items f total)

-- the first line and the rows
listing_split : (g : Graph) (r : Run) → listing g r ≡ figures_line r.figures (sum r.passes) ++ rows r.numbers r.levels g.size
unfolding listing rows nodes
listing_split g r = ap (λ (l : List ℕ). figures_line r.figures (sum r.passes) ++ l) (node_lines r (up_from 1 g.size))

-- what `write_listing` writes is the listing
pub listing_is : (g : Graph) (r : Run) → length r.numbers ≡ g.size → listing g r ≡ listed r.figures r.numbers r.levels r.passes
unfolding listed
listing_is g r e =
    let a = join_all (first_items r.figures) in
    let b = join_all (last_items r.figures (sum r.passes)) in
    let t = rows r.numbers r.levels (length r.numbers) in
    listing_split g r
    ∙ ap₂ ◌++◌ (first_line r.figures (sum r.passes)) (ap (rows r.numbers r.levels) (sym e))
    ∙ append_assoc a b t
    ∙ ap (λ (l : List ℕ). a ++ (b ++ l)) (sym (append-nil t))

-- ---- its length

-- at most k bytes
record Within (s : List ℕ) (k : ℕ) : Type 0 where
  within : length s ≤ k

joined : {s t : List ℕ} {a b : ℕ} → Within s a → Within t b → Within (s ++ t) (a + b)
joined {s} {t} p q = record { within = omega (arith, length-append s t) }

item-within : (label : String) (x k : ℕ) → length (decimal x) ≤ k → Within (item label x) (length (ascii label) + k)
unfolding item
item-within label x k h = record { within = omega (arith, length-append (ascii label) (decimal x)) }

line_end_lem : Within (newline ++ []) 1
unfolding newline
line_end_lem = record { within = omega arith }

number-within : (x : ℕ) → x < 10000 → Within (decimal x) 4
number-within x h = record { within = four_digits x h }

four : (label : String) (x : ℕ) → x < 10000 → Within (item label x) (length (ascii label) + 4)
four label x h = item-within label x 4 (four_digits x h)

five : (label : String) (x : ℕ) → x < 100000 → Within (item label x) (length (ascii label) + 5)
five label x h = item-within label x 5 (five_digits x h)

-- figures in nodes and a sum of passes of four digits, figures in unknowns of five, and a profile of nine
record Short (f : Figures) (total : ℕ) : Type 0 where
  nodes : f.nodes < 10000
  parts : f.parts < 10000
  bandwidth : f.bandwidth < 100000
  profile : f.profile < 1000000000
  front : f.front < 100000
  levels : f.levels < 10000
  width : f.width < 100000
  passes : total < 10000

line_within : (f : Figures) (total : ℕ) → Short f total → Within (figures_line f total) 104
unfolding figures_line ascii
line_within f total h =
    joined (four "nodes " f.nodes h.nodes)
    (joined (four " parts " f.parts h.parts)
    (joined (five " bandwidth " f.bandwidth h.bandwidth)
    (joined (item-within " profile " f.profile 9 (nine_digits f.profile h.profile))
    (joined (five " front " f.front h.front)
    (joined (four " levels " f.levels h.levels)
    (joined (five " width " f.width h.width)
    (joined (four " passes " total h.passes) line_end_lem)))))))

row_within : (z a b : ℕ) → z < 10000 → a < 10000 → b < 10000 → Within (join_all (row_items z a b)) 15
unfolding ascii
row_within z a b p q r = joined (number-within z p) (joined (four " " a q) (joined (four " " b r) line_end_lem))

rows_fit : (xs ls : List ℕ) (k : ℕ) → k < 10000 → ((i : ℕ) → i < k → (get_or xs i 0 < 10000) × (get_or ls i 0 < 10000)) → length (rows xs ls k) ≤ 15 * k
unfolding rows
rows_fit xs ls zero s h = omega arith
rows_fit xs ls (suc k) s h =
    let w = h k (omega arith) in
    omega (
      arith,
      ap (λ (j : ℕ). length (rows xs ls j)) (add-one k),
      ap length (rows_suc xs ls k),
      length-append (rows xs ls k) (join_all (row_items (k + 1) (get_or xs k 0) (get_or ls k 0))),
      (row_within (k + 1) (get_or xs k 0) (get_or ls k 0) (omega arith) w.0 w.1).within,
      rows_fit xs ls k (omega arith) (λ i l. h i (omega arith)),
    )

module _ {g : Graph} (G : LegalGraph g) (cs : List ℕ) where
  -- what `write_listing` writes of a run
  pub run-listing : listing g (run g cs) ≡ listed (run g cs).figures (run g cs).numbers (run g cs).levels (run g cs).passes
  run-listing = listing_is g (run g cs) (numbering_length g.size (run g cs).numbers (run_numbering G cs))

  module _ (few : g.size ≤ 4096) (ok : bad_counts g.size cs ≡ false) where
    short : Short (run g cs).figures (sum (run g cs).passes)
    short = record {
      nodes = omega (arith, nodes_is g cs);
      parts = omega (arith, parts_most G cs);
      bandwidth = omega (arith, bandwidth_most G cs ok);
      profile = omega (arith, profile_few G cs ok few);
      front = omega (arith, front_most G cs ok);
      levels = omega (arith, levels_most G cs);
      width = omega (arith, width_most G cs ok);
      passes = omega (arith, passes_most G cs);
    }

    entries : (i : ℕ) → i < g.size → (get_or (run g cs).numbers i 0 < 10000) × (get_or (run g cs).levels i 0 < 10000)
    unfolding of_node
    entries i l =
        let N : Node g (suc i) = record { low = omega arith; high = omega arith } in
        (omega (arith, number_most G cs (suc i) N), omega (arith, level_most G cs (suc i) N))

    -- it has room
    pub listing_fits : length (listing g (run g cs)) ≤ output_room g.size
    listing_fits =
        omega (
          arith,
          ap length (listing_split g (run g cs)),
          length-append (figures_line (run g cs).figures (sum (run g cs).passes)) (rows (run g cs).numbers (run g cs).levels g.size),
          (line_within (run g cs).figures (sum (run g cs).passes) short).within,
          rows_fit (run g cs).numbers (run g cs).levels g.size (omega arith) entries,
        )

-- The passes of each part (document 02, A.9): "each count is at least 1 and at most its own part's depth", and the sum that the program prints
-- is the single counter that it had. Assumes nothing.
use mathlib.Core.Path.{◌≡◌, refl, ap, ◌∙◌}
use mathlib.Core.List.{List, ◌++◌, map}
use Prim.Native.Nat.{ℕ, zero, suc, ◌-◌, ◌≤◌, ◌<◌}
use native.Mathlib.Omega.{arith}
use lib.ListN.{length, get_or, replicate, get_or-append, length-append, length-map, length-replicate}
use Rattle.basis.specs.Lists.{join_all, sum}
use Rattle.basis.proofs.Count.{length-filter, count_length}
use Rattle.basis.proofs.Index.{get_d_map, get_or_right, zeros-at, memb-get_or}
use Rattle.basis.proofs.Lists.{sum-append, sum_zeros}
use Rattle.spec.specs.File.{figures_line, node_line, listing, output, file_refusal, file_graph, file_counts, program_output}
use Rattle.spec.specs.Graph.{Graph, nodes}
use Rattle.spec.specs.Levels.{leads, leaders}
use Rattle.spec.specs.Numbering.{PartResult, part_results, part_passes, run_of, run}
use Rattle.laws.specs.Results.{AllSound, whole_of}
use Rattle.laws.specs.Passes.{one_count, output_before, program_before}
use Rattle.laws.proofs.Legal.{length-nodes}
use Rattle.laws.proofs.Parts.{leaders_in}

-- there are at most n parts
pub leaders_most : (g : Graph) → length (leaders g) ≤ g.size
unfolding leaders
leaders_most g = omega (arith, length-filter (leads g) (nodes g), count_length (leads g) (nodes g), length-nodes g)

-- ---- of any results of the parts

module _ (g : Graph) (cs : List ℕ) (R : ℕ → PartResult) where
  abbrev rs : List PartResult
  rs = map R (leaders g)

  -- the passes of the j-th part
  one_pass : (j : ℕ) → j < length (leaders g) → get_or (whole_of g cs R).passes j 0 ≡ (R (get_or (leaders g) j 0)).report.passes
  unfolding run_of part_passes
  one_pass j h =
      get_or-append (map (λ r. r.report.passes) rs) (replicate (g.size - length rs) 0) 0 j
      (omega (arith, length-map rs (λ r. r.report.passes), length-map (leaders g) R))
      ∙ get_d_map (λ r. r.report.passes) rs j (R 0) 0 (omega (arith, length-map (leaders g) R))
      ∙ ap (λ r. r.report.passes) (get_d_map R (leaders g) j 0 (R 0) h)

  -- the list has n words
  pub passes_length : length (whole_of g cs R).passes ≡ g.size
  unfolding run_of part_passes
  passes_length =
      omega (
        arith,
        length-append (map (λ r. r.report.passes) rs) (replicate (g.size - length rs) 0),
        length-map rs (λ r. r.report.passes),
        length-map (leaders g) R,
        length-replicate {A = ℕ} (g.size - length rs) 0,
        leaders_most g,
      )

  -- "zeros after the last part"
  pub passes_behind : (j : ℕ) → length (leaders g) ≤ j → get_or (whole_of g cs R).passes j 0 ≡ 0
  unfolding run_of part_passes
  passes_behind j h =
      get_or_right 0 (map (λ r. r.report.passes) rs) (replicate (g.size - length rs) 0) j
      (omega (arith, length-map rs (λ r. r.report.passes), length-map (leaders g) R))
      ∙ zeros-at (g.size - length rs) (j - length (map (λ r. r.report.passes) rs))

-- "For every graph each count is at least 1 and at most its own part's depth", of sound results: of the run and of A.3's call
pub passes_within : {g : Graph} {cs : List ℕ} (R : ℕ → PartResult) → AllSound g cs R → (j : ℕ) → j < length (leaders g)
    → (1 ≤ get_or (whole_of g cs R).passes j 0) × (get_or (whole_of g cs R).passes j 0 ≤ (R (get_or (leaders g) j 0)).report.k)
passes_within {g} {cs} R ok j h =
    let r = ok.sound (get_or (leaders g) j 0) (leaders_in g (get_or (leaders g) j 0) (memb-get_or (leaders g) j h)).0 in
    (omega (arith, one_pass g cs R j h, r.some_pass), omega (arith, one_pass g cs R j h, r.most_passes))

-- ---- the sum

-- "prints their sum under the old label": the single counter
pub passes_sum : (g : Graph) (cs : List ℕ) → sum (run g cs).passes ≡ one_count g cs
unfolding run run_of part_passes
passes_sum g cs =
    let ps : List ℕ = map (λ r. r.report.passes) (part_results g cs) in
    let zs : List ℕ = replicate (g.size - length (part_results g cs)) 0 in
    omega (arith, sum-append ps zs, sum_zeros (g.size - length (part_results g cs)))

-- so the program prints what it printed, for every file
same_output : (c : ℕ) (g : Graph) (cs : List ℕ) → output c g cs ≡ output_before c g cs
unfolding output listing
same_output zero g cs = ap (λ (k : ℕ). figures_line (run g cs).figures k ++ join_all (map (node_line (run g cs)) (nodes g))) (passes_sum g cs)
same_output (suc c) g cs = refl

pub output_unchanged : (file : List ℕ) → program_output file ≡ program_before file
unfolding program_output
output_unchanged file = same_output (file_refusal file) (file_graph file) (file_counts file)

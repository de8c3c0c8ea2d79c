-- The run, A.3's call and the program as they stood before the unknowns (document 02, A.6): a part turned by the profile of its nodes, figures in
-- nodes, and files of version 1 alone. With one unknown each nothing has changed. Assumes nothing.
use Rattle.std.specs.Prelude.{ℕ, zero, suc, ◌+◌, ◌*◌, Bool, not, ◌||◌, cond, List, map, reverse, length, eqb, ltb}
use Rattle.basis.specs.Lists.{greatest, sum}
use Rattle.spec.specs.Combined.{width_of}
use Rattle.spec.specs.Cuthill.{cuthill_mc_kee}
use Rattle.spec.specs.Ends.{Ends, ends}
use Rattle.spec.specs.File.{max_file, header_size, has_mark, file_version, file_nodes, file_elements, body_words, counted_refusal, words_taken, listing, refused_line}
use Rattle.spec.specs.Graph.{Graph, bad_size}
use Rattle.spec.specs.Levels.{levels, level_list, leaders}
use Rattle.spec.specs.Measures.{in_order, numbers_of, bandwidth, profile, front}
use Rattle.spec.specs.Mesh.{elements_in, mesh_graph, refuses11}
use Rattle.spec.specs.Numbering.{Reversed, direction_of, start_node, finish_node, part_levels, forward_order, PartResult, Figures, Run, whole_order, whole_levels, part_passes}
use Rattle.spec.specs.Refusal.{refuse, ◌or_else◌}

-- ---- a part

-- "turned end for end exactly if that makes its profile less"
abbrev pub turns_in_nodes : Graph → List ℕ → Bool
turns_in_nodes g order = ltb (profile (in_order g (reverse order))) (profile (in_order g order))

-- what was found of the part with these ends and levels
unfoldable pub part_in_nodes_by : Graph → Ends → List ℕ → PartResult
part_in_nodes_by g e ls =
    let o : List ℕ = forward_order g ls e.k (start_node g e) in
    let turned : Bool = turns_in_nodes g o in
    record {
      levels = ls;
      order = cond turned (reverse o) o;
      report = record {
        v = start_node g e;
        u = finish_node g e;
        k = e.k;
        width = width_of e.k ls;
        passes = e.passes;
        direction = direction_of turned;
      };
    }

-- of the part of z, by the run
unfoldable pub part_in_nodes : Graph → ℕ → PartResult
part_in_nodes g z = let e : Ends = ends g z in part_in_nodes_by g e (part_levels g e)

-- by A.3's call
unfoldable pub cuthill_in_nodes : Graph → ℕ → PartResult
cuthill_in_nodes g z =
    let e : Ends = ends g z in
    let ls : List ℕ = level_list g (levels g e.v) in
    record {
      levels = ls;
      order = reverse (cuthill_mc_kee g e.v);
      report = record { v = e.v; u = e.u; k = e.k; width = width_of e.k ls; passes = e.passes; direction = Reversed };
    }

-- ---- the whole

unfoldable pub figures_in_nodes : Graph → List PartResult → Figures
figures_in_nodes g rs =
    let h : Graph = in_order g (whole_order rs) in
    record {
      nodes = g.size;
      parts = length rs;
      bandwidth = bandwidth h;
      profile = profile h;
      front = front h;
      levels = sum (map (λ r. r.report.k) rs);
      width = greatest (map (λ r. r.report.width) rs);
    }

-- over what was found of each part
unfoldable pub whole_in_nodes : Graph → List PartResult → Run
whole_in_nodes g rs = record {
  numbers = numbers_of g.size (whole_order rs);
  levels = whole_levels g rs;
  passes = part_passes g rs;
  figures = figures_in_nodes g rs;
}

-- the run
abbrev pub run_in_nodes : Graph → Run
run_in_nodes g = whole_in_nodes g (map (part_in_nodes g) (leaders g))

-- A.3's
abbrev pub cuthill_run_in_nodes : Graph → Run
cuthill_run_in_nodes g = whole_in_nodes g (map (cuthill_in_nodes g) (leaders g))

-- ---- the program

-- "length, mark and version for 12 first": there was version 1
abbrev pub header_before : List ℕ → Bool
header_before bs = ltb max_file (length bs) || ltb (length bs) header_size || not (has_mark bs) || not (eqb (file_version bs) 1)

-- "bytes left over"
abbrev pub left_before : List ℕ → Bool
left_before bs = ltb (header_size + 2 * words_taken (file_elements bs) (body_words bs)) (length bs)

-- the graph of the file's mesh: its elements stood right after the header
abbrev pub graph_before : List ℕ → Graph
graph_before bs = mesh_graph (file_nodes bs) (elements_in (file_elements bs) (body_words bs))

-- what a file was refused by, 0 for none
unfoldable pub refusal_before : List ℕ → ℕ
refusal_before bs =
    (refuse (header_before bs) 12 or_else refuse (bad_size (file_nodes bs)) 1)
    or_else counted_refusal (file_elements bs) (file_nodes bs) (body_words bs)
    or_else refuse (left_before bs) 12
    or_else refuse (refuses11 (graph_before bs)) 11

-- the listing, or the line of a refusal
unfoldable pub listed_before : ℕ → Graph → List ℕ
listed_before zero g = listing g (run_in_nodes g)
listed_before (suc c) g = refused_line (suc c)

-- what was printed of a file
unfoldable pub printed_before : List ℕ → List ℕ
printed_before bs = listed_before (refusal_before bs) (graph_before bs)

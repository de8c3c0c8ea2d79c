-- One name for every definition of `specs/`: a theorem by computation says `unfolding computes` and unfolds them all.
-- A contract and its proof name what they need one by one instead.
-- Assumes nothing.
use Rattle.spec.specs.Graph.{nodes, adjoins, degree, before_e, sort_e, first_in_e, graph_by, restrict, row_of, refuses1, refuses2}
use Rattle.spec.specs.Graph.{bad_row, refuses3, refuses4, graph_refusal, of_node}
use Rattle.spec.specs.Levels.{next_level, levels_from, levels, depth, sizes, width, reached, size_list, level_counted, level_of, level_list, part}
use Rattle.spec.specs.Levels.{leads, leaders, parts}
use Rattle.spec.specs.Ends.{depth_at, width_at, farthest, deeper, roots_from, roots, narrower, other_end, ends_at, ends}
use Rattle.spec.specs.Combined.{mirrored, level_pairs, settled, settled_levels, larger_piece, pieces, count_at, added, raised, peak}
use Rattle.spec.specs.Combined.{place_by, by_second, place_piece, combined, width_of}
use Rattle.spec.specs.Measures.{is_numbering, order_of, numbers_of, in_order, renumbered, first_in, row_span, bandwidth, profile}
use Rattle.spec.specs.Measures.{front_at, fronts, front}
use Rattle.spec.specs.Unknowns.{bad_counts, counts_in, owners_from, owners, touches, in_unknowns, order_unknowns, renumbered_unknowns}
use Rattle.spec.specs.Unknowns.{unknowns_at, unknown_width}
use Rattle.spec.specs.Numbering.{renames, start_node, finish_node, part_levels, level_nodes, unnumbered_by, first_filled, next_within}
use Rattle.spec.specs.Numbering.{within, from_before, later_level, forward_order, direction_of, turns, part_result_by, part_result}
use Rattle.spec.specs.Numbering.{part_results, whole_order, whole_levels, part_passes, figures_of, run_of, run}
use Rattle.spec.specs.Cuthill.{cuthill_mc_kee, cuthill_result_by, cuthill_result, cuthill_results, cuthill_run}
use Rattle.spec.specs.Store.{start_of, has_place, place, placed_pairs, eliminate, joined_after, joined, marks, mark_count, new_count}
use Rattle.spec.specs.Store.{mark_byte_count, mark_byte, mark_bytes, mark_at}
use Rattle.spec.specs.Mesh.{kind_table, node_count, distinct, bad_nodes, element_refusal, elements_refusal, elements_in, elements, joins}
use Rattle.spec.specs.Mesh.{mesh_graph, entry_count, start_list, neighbour_list, refuses11}
use Rattle.spec.specs.Text.{ascii, digits_before, decimal, newline}
use Rattle.spec.specs.File.{words_of, has_mark, file_words, file_version, file_nodes, file_elements, body_words, body, bad_header, counted_refusal}
use Rattle.spec.specs.File.{has_counts, count_words, file_counts, cut_counts, bad_file_counts, counts_refusal}
use Rattle.spec.specs.File.{words_taken, left_over, file_graph, header_refusal, body_refusal, file_refusal, item, figures_line, node_line}
use Rattle.spec.specs.File.{listing, refused_line, output, program_output}
use Rattle.spec.specs.Lent.{outcome, filled, zeroed, scratch_after}
use Rattle.spec.specs.CallsLevels.{adjacency_answer, level_figures, rooted_refusal, rooted_answer, rooted_levels, rooted_sizes, part_scratch}
use Rattle.spec.specs.CallsLevels.{part_refusal, ends_answer, ends_scratch, combined_figures, combined_refusal, combined_answer}
use Rattle.spec.specs.CallsLevels.{combined_levels, combined_scratch}
use Rattle.spec.specs.CallsNumbering.{measure_figures, measures_refusal, measures_answer, measures_scratch, report_refusal, report_answer}
use Rattle.spec.specs.CallsNumbering.{report_scratch, run_refusal, run_answer, run_numbers, run_levels, run_passes, run_scratch}
use Rattle.spec.specs.CallsCuthill.{cuthill_refusal, cuthill_answer, cuthill_numbers, cuthill_levels, cuthill_passes, cuthill_scratch}
use Rattle.spec.specs.CallsStore.{elimination_figures, elimination_refusal, elimination_answer, elimination_scratch, elimination_bytes}
use Rattle.spec.specs.CallsStore.{then_eliminate_answer, then_eliminate_bytes, run_eliminate_answer, run_eliminate_bytes}
use Rattle.spec.specs.CallsCuthill.{cuthill_eliminate_answer, cuthill_eliminate_bytes}
use Rattle.spec.specs.StoreMap.{first_columns, row_starts, has_place_in, place_in}
use Rattle.spec.specs.CallsMap.{map_figures, store_map_refusal, store_map_answer, store_map_scratch, store_map_first, store_map_place}
use Rattle.spec.specs.CallsMesh.{graph_of_elements, mesh_refusal, mesh_answer, mesh_starts, mesh_neighbours, mesh_scratch}

-- unfolds every definition that is named below
unfoldable pub computes : Unit {0}
unfolding nodes adjoins degree before_e sort_e first_in_e graph_by restrict row_of refuses1 refuses2 bad_row refuses3 refuses4 graph_refusal of_node next_level levels_from levels depth sizes width reached size_list level_counted level_of level_list part leads leaders parts depth_at width_at farthest deeper roots_from roots narrower other_end ends_at ends mirrored level_pairs settled settled_levels larger_piece pieces count_at added raised peak place_by by_second place_piece combined width_of is_numbering order_of numbers_of in_order renumbered first_in row_span bandwidth profile front_at fronts front bad_counts counts_in owners_from owners touches in_unknowns order_unknowns renumbered_unknowns unknowns_at unknown_width renames start_node finish_node part_levels level_nodes unnumbered_by first_filled next_within within from_before later_level forward_order direction_of turns part_result_by part_result part_results whole_order whole_levels part_passes figures_of run_of run cuthill_mc_kee cuthill_result_by cuthill_result cuthill_results cuthill_run start_of has_place place placed_pairs eliminate joined_after joined marks mark_count new_count mark_byte_count mark_byte mark_bytes mark_at kind_table node_count distinct bad_nodes element_refusal elements_refusal elements_in elements joins mesh_graph entry_count start_list neighbour_list refuses11 ascii digits_before decimal newline words_of has_mark file_words file_version file_nodes file_elements body_words body has_counts count_words file_counts cut_counts bad_file_counts counts_refusal bad_header counted_refusal words_taken left_over file_graph header_refusal body_refusal file_refusal item figures_line node_line listing refused_line output program_output outcome filled zeroed scratch_after adjacency_answer level_figures rooted_refusal rooted_answer rooted_levels rooted_sizes part_scratch part_refusal ends_answer ends_scratch combined_figures combined_refusal combined_answer combined_levels combined_scratch measure_figures measures_refusal measures_answer measures_scratch report_refusal report_answer report_scratch run_refusal run_answer run_numbers run_levels run_passes run_scratch cuthill_refusal cuthill_answer cuthill_numbers cuthill_levels cuthill_passes cuthill_scratch elimination_figures elimination_refusal elimination_answer elimination_scratch elimination_bytes then_eliminate_answer then_eliminate_bytes run_eliminate_answer run_eliminate_bytes cuthill_eliminate_answer cuthill_eliminate_bytes first_columns row_starts has_place_in place_in map_figures store_map_refusal store_map_answer store_map_scratch store_map_first store_map_place graph_of_elements mesh_refusal mesh_answer mesh_starts mesh_neighbours mesh_scratch
computes = tt

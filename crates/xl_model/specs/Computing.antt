-- One word that opens every definition, for proofs that compute with them all.
use Rattle.std.specs.Prelude.{⊤}
use Rattle.std.specs.Fmt.{digits}
use Rattle.xl_model.specs.Addresses.{is_canonical, page_of}
use Rattle.xl_model.specs.Caches.{caches_purged, caches_fenced, opening_caches}
use Rattle.xl_model.specs.Chains.{chain_of, with_tag, only_used_tags}
use Rattle.xl_model.specs.Changes.{changed, with_both}
use Rattle.xl_model.specs.Frames.{lowest}
use Rattle.xl_model.specs.Hashes.{mix, way_hash}
use Rattle.xl_model.specs.Image.{leaf_in, word_at, image}
use Rattle.xl_model.specs.Items.{referenced, state_after, run}
use Rattle.xl_model.specs.Lines.{hex16, with_verdicts, with_refusals, with_walks, with_moves, with_fences, with_tlb, row_line, answer_line, command_line, image_line}
use Rattle.xl_model.specs.Mapping.{leaf_at_page, meets_any, leaf_named, without_leaf, flat}
use Rattle.xl_model.specs.Nodes.{in_nodes, number_of, with_node, with_leaf_nodes, leaf_nodes_missing, only_needed, opening_nodes}
use Rattle.xl_model.specs.Placing.{attempt, forced, placing, place, settled, insertion}
use Rattle.xl_model.specs.Ranges.{ranges_of, range_reads}
use Rattle.xl_model.specs.Report.{tail, report}
use Rattle.xl_model.specs.Scenes.{scene_after, item_lines}
use Rattle.xl_model.specs.Room.{has_room}
use Rattle.xl_model.specs.RowRun.{opening, looked, reply_to, accessed, fenced, served, after_event, outcome_of}
use Rattle.xl_model.specs.Rules.{rule, change_of}
use Rattle.xl_model.specs.Sections.{section_of}
use Rattle.xl_model.specs.Shapes.{shape_after, opening_shape}
use Rattle.xl_model.specs.Structures.{verdict, table_made, table_answer, table_after, walk_answer, table_walked, fence_answer, table_fenced}
use Rattle.xl_model.specs.Tally.{no_counts, count_refusal, count_reply, count_walk, count_fills, count_look, count_work, count_accepted, count_invalidated, count_fence}
use Rattle.xl_model.specs.Tlb.{array_hit, array_touched, array_filled, arrays_hit, arrays_filled, arrays_without, leaf_count, opening_arrays}
use Rattle.xl_model.specs.Walks.{walked}
use Rattle.xl_model.specs.Ways.{slot, occupant, swapped, with_word, without_entry, advanced, begun, opening_way}
use Rattle.xl_model.specs.Words.{pointer_word, leaf_word}

-- Every definition is open.
unfoldable pub computing : ⊤
unfolding digits is_canonical page_of caches_purged caches_fenced opening_caches chain_of with_tag only_used_tags changed with_both lowest mix way_hash leaf_in word_at image referenced state_after run hex16 with_verdicts with_refusals with_walks with_moves with_fences with_tlb row_line answer_line command_line image_line leaf_at_page meets_any leaf_named without_leaf flat in_nodes number_of with_node with_leaf_nodes leaf_nodes_missing only_needed opening_nodes attempt forced placing place settled insertion ranges_of range_reads tail report scene_after item_lines has_room opening looked reply_to accessed fenced served after_event outcome_of rule change_of section_of shape_after opening_shape verdict table_made table_answer table_after walk_answer table_walked fence_answer table_fenced no_counts count_refusal count_reply count_walk count_fills count_look count_work count_accepted count_invalidated count_fence array_hit array_touched array_filled arrays_hit arrays_filled arrays_without leaf_count opening_arrays walked slot occupant swapped with_word without_entry advanced begun opening_way pointer_word leaf_word
computing = tt

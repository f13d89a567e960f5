-- `unfolding computes` opens every definition of the specification, for a proof that computes with it.
use Rattle.base.specs.Test.{◌and◌, ◌or◌, ◌⇒◌}
use Rattle.base.specs.Below.{all_below, any_below, count_below}
use Rattle.base.specs.First.{some_if, ◌or_else◌, there, first, least, nth_lowest}
use Rattle.base.specs.Lists.{list, list_from, joined}
use Rattle.base.specs.Digits.{bytes_of, number_at}
use Rattle.model.specs.Map.{field_at, table_of}
use Rattle.model.specs.WellFormed as W
use Rattle.model.specs.Reach.{next, rounds, paths}
use Rattle.model.specs.Bytes.{names_second, hookless, names_donors, dimension_of, has_donor, node_at, donor_of, hook_bytes, second_of}
use Rattle.model.specs.Arc.{far_end}
use Rattle.model.specs.Codes.{placed, targets_of}
use Rattle.model.specs.Scheme as S
use Rattle.model.specs.Conditions as C
use Rattle.model.specs.Orbit as O
use Rattle.model.specs.Count as N
use Rattle.model.specs.Match as M
use Rattle.model.specs.Edit as E
use Rattle.model.specs.File as F
use Rattle.model.specs.Calls as A

unfoldable pub computes : Unit {0}
unfolding ◌and◌ ◌or◌ ◌⇒◌ some_if ◌or_else◌ there all_below any_below count_below first least nth_lowest list list_from joined field_at table_of next rounds
    paths W.all_pairs W.link_ok W.square_ok W.dart_ok W.well_formed names_second hookless names_donors dimension_of has_donor node_at donor_of hook_bytes
    second_of S.orbit_form S.word_form S.word_empty S.node_form S.donor_form S.second_form S.arc_form S.arcs_form S.in_form
    far_end S.words_of placed targets_of S.arcs_of S.scheme_of C.arcs_of_dim C.arc_at C.left_arc C.path_from C.path_to S.is_hook C.hook_ok C.hook_fault
    C.incidence_ok C.incidence_fault C.four_arcs C.one_arc C.both_implicit C.on_cycle C.cycle_ok C.cycle_fault C.scheme_fault O.leads O.orbit_path O.orbit
    N.smallest N.reached_below N.cells N.sizes_below N.all_but N.counts
    M.walk M.second_dart_of M.image M.arc_holds M.each_pair M.only_pair M.matches E.freed E.is_free E.left_word E.after_deletion E.free_slot E.rank
    E.orbit_size E.added_darts E.deleted_darts E.room_of E.dart_of E.pair_of E.new_link E.new_word E.edited
    bytes_of number_at F.live_darts F.section F.file_in F.slot_in F.tag_in F.link_in F.place_in F.form_in F.map_in F.file_map
    A.map_fault A.table_fault A.check_table A.bytes_fault A.check_scheme A.fit_fault
    A.site_fault A.edit_fault_at A.site_done A.edit_fault A.edit_answer A.edit_table A.edit_store
    A.output_fault_at A.count_fault A.count_answer A.count_store A.count_out A.load_fault_at A.load_fault A.load_answer A.loaded A.load_table
    A.write_fault A.write_answer A.write_out
computes = tt

-- `report::feed` meets its contract, state by state.
use Rattle.report.proofs.FeedLaws.{fed_in, worked_in, ready_in, end-fed, start-worked, end-worked}
use Rattle.report.proofs.feed.Goals as goal

pub begin-requires : goal.begin-requires
begin-requires c =
    record { sums_value = ready_in _ _ c.in-Start.is _ c.requires.ready; longest_line_in_bounds = c.requires.longest_line_in_bounds }

pub file-requires : goal.file-requires
file-requires c =
    let ready = ready_in _ _ c.in-File.is _ c.requires.ready in
    record {
      sums_room = ready.1;
      long_le_longest_file = ready.0;
      table_len = c.requires.table_len;
      store_len = c.requires.store_len;
      longest_line_in_bounds = c.requires.longest_line_in_bounds;
    }

pub returns-in-Start : goal.returns-in-Start
returns-in-Start c =
    let e = c.in-Start.is in record { fed_as = fed_in _ _ e _ _ _ _ _ c.begin.ensures; worked = worked_in _ _ e _ _ _ _ _ (start-worked _ _ _) }

pub returns-in-File : goal.returns-in-File
returns-in-File c =
    let e = c.in-File.is in record { fed_as = fed_in _ _ e _ _ _ _ _ c.file.ensures.fed_as; worked = worked_in _ _ e _ _ _ _ _ c.file.ensures.worked }

pub returns-in-End : goal.returns-in-End
returns-in-End c =
    let e = c.in-End.is in record { fed_as = fed_in _ _ e _ _ _ _ _ (end-fed _ _ _); worked = worked_in _ _ e _ _ _ _ _ (end-worked _ _ _) }

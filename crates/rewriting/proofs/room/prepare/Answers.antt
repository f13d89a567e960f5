-- `rewriting::room::prepare` meets its contract.
use Rattle.rewriting.proofs.RoomLaws.{donating_of, doomed, roomy}
use Rattle.rewriting.proofs.room.prepare.Goals as goal

pub gather-requires : goal.gather-requires
gather-requires c = record { donating = donating_of c.requires.before_room }

pub clear-requires-clause-deleted_rows : goal.clear-requires-clause-deleted_rows
clear-requires-clause-deleted_rows c = doomed c.requires.before_room c.gather.ensures

pub returns : goal.returns
returns c = λ R. roomy R c.gather.ensures _ c.clear.ensures

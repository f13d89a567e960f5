-- `rewriting::room::gather` meets its contract.
use Rattle.rewriting.proofs.RoomLaws.{gathered_none, gathered_more, giver-slots}
use Rattle.rewriting.proofs.room.gather.Goals as goal

pub loop-a-init : goal.loop-a-init
loop-a-init c = gathered_none c.requires.donating _

pub note-requires-clause-holds_slots : goal.note-requires-clause-holds_slots
note-requires-clause-holds_slots c =
    rw (c.from-donor.ensures, c.from-node.ensures) (giver-slots c.requires.donating _ c.loop-a-test.true c.loop-a.invariant)

pub loop-a-preserved : goal.loop-a-preserved
loop-a-preserved c =
    gathered_more c.requires.donating _ c.loop-a-test.true c.loop-a.invariant (rw (c.from-donor.ensures, c.from-node.ensures) at c.note.ensures)

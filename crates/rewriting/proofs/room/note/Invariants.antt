-- The loop's invariant: the tags of the first r darts are noted.
use Rattle.table.specs.Seen.{map_of}
use Rattle.rewriting.specs.Room.{Noted}
use Rattle.rewriting.proofs.room.note.Given as goal

abbrev pub invariant-loop-r : goal.invariant-loop-r
invariant-loop-r l = Noted (map_of l.table).tag l.initial.store l.from l.to l.r l.store

-- The loop's invariant: the tags for the first a added nodes are gathered.
use Rattle.table.specs.Seen.{map_of}
use Rattle.rewriting.specs.Room.{Gathered}
use Rattle.rewriting.proofs.room.gather.Given as goal

abbrev pub invariant-loop-a : goal.invariant-loop-a
invariant-loop-a l = Gathered l.table.slots (map_of l.table).tag l.initial.store l.size l.added l.a l.donors l.rows l.store

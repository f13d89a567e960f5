-- The loop's invariant: the first r darts of the row have their places.
use Rattle.table.specs.Seen.{map_of}
use Rattle.matching.specs.Images.{Row}
use Rattle.matching.proofs.images.row.Given as goal

abbrev pub invariant-loop-r : goal.invariant-loop-r
invariant-loop-r l = Row l.table.slots ((map_of l.table).link l.i) l.from l.initial.store l.store l.end l.r

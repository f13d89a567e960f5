-- The loop's invariant is `Counting`.
use lib.ListN.{length, get_or}
use Rattle.table.specs.Seen.{map_of}
use Rattle.count.proofs.OrbitsLaws.{Counting}
use Rattle.count.proofs.orbits.Given as goal

abbrev pub invariant-loop-x : goal.invariant-loop-x
invariant-loop-x g l = Counting (map_of l.table) (length l.dims) (λ p. get_or l.dims p 0) l.x l.store l.end l.found

-- The loop's invariant: the links of the darts for the first `head` places were followed.
use Rattle.std.proofs.Common.{◌≡◌, ◌*◌, length, Some}
use Rattle.table.specs.Seen.{map_of}
use Rattle.orbit.specs.At.{site}
use Rattle.matching.specs.Retrace.{Retracing, Retraced}
use Rattle.matching.proofs.retrace.retrace.Given as goal

abbrev pub invariant-loop-head : goal.invariant-loop-head
invariant-loop-head l =
    (length l.store ≡ 16 * l.table.slots)
    × ((T : Retracing (map_of l.table) l.initial.store l.size l.dims l.k 0 l.tail)
    → Retraced (site T.at) l.initial.store l.store l.size l.tail l.head (Some l.end))

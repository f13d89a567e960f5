-- The loop's invariant: the links at the first p positions were followed.
use Rattle.std.proofs.Common.{◌≡◌, ◌+◌, ◌*◌, ◌≤◌, length}
use Rattle.table.specs.Seen.{map_of}
use Rattle.orbit.specs.At.{site}
use Rattle.matching.specs.Retrace.{Longer, Standing, Retracing}
use Rattle.matching.proofs.retrace.expand.Given as goal

abbrev pub invariant-loop-p : goal.invariant-loop-p
invariant-loop-p l =
    (l.p ≤ l.k) × (l.tail ≤ l.end) × (length l.store ≡ 16 * l.table.slots)
    × ((T : Retracing (map_of l.table) l.initial.store l.size l.dims l.k l.head l.tail)
    → Standing (site T.at) l.store l.size (4 * l.head + l.p) l.end × Longer l.table.slots l.initial.store l.store (l.size + l.tail))

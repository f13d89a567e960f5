-- The loop's invariant is the contract itself, at the first p links.
use Prim.Native.Nat.{◌≤◌}
use lib.ListN.{length, get_or}
use Rattle.table.specs.Seen.{map_of}
use Rattle.orbit.specs.Walk.{Expanded}
use Rattle.orbit.proofs.expand.Given as goal

abbrev pub invariant-loop-p : goal.invariant-loop-p
invariant-loop-p l = Expanded (map_of l.table) l.p (λ q. get_or l.dims q 0) l.head l.initial.store l.tail l.store l.end × (l.p ≤ length l.dims)

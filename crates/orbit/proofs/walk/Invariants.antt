-- The loop's invariant is `Walking`, over the store in which d took its place; the measure is
-- the slots less `head`, which is below `tail`, and there are no more places than slots.
use Prim.Native.Nat.{◌-◌}
use lib.ListN.{length, get_or}
use Rattle.table.specs.Seen.{map_of}
use Rattle.orbit.proofs.WalkLaws.{Walking}
use Rattle.orbit.proofs.walk.Given as goal

abbrev pub invariant-loop-head : goal.invariant-loop-head
invariant-loop-head l = Walking (map_of l.table) (length l.dims) (λ p. get_or l.dims p 0) l.d l.initial.store l.begin l.store l.head l.tail

abbrev pub decreases-loop-head : goal.decreases-loop-head
decreases-loop-head l = l.table.slots - l.head

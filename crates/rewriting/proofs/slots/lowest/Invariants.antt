-- The loop's invariant is `Scanned`: no slot from `from` to before y is unused. Each test that fails
-- takes it one slot on.
use Prim.Native.Nat.{◌-◌}
use Rattle.table.specs.Seen.{map_of}
use Rattle.rewriting.proofs.SlotTurnLaws.{Scanned}
use Rattle.rewriting.proofs.slots.lowest.Given as goal

abbrev pub invariant-loop-from : goal.invariant-loop-from
invariant-loop-from l = Scanned (map_of l.table).state l.from l.y

abbrev pub decreases-loop-from : goal.decreases-loop-from
decreases-loop-from l = l.table.slots - l.y

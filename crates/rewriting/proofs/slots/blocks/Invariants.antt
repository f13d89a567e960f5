-- The loop's invariant: the pairs of the orbit darts below 64 × w have their slots.
use Prim.Native.Nat.{◌*◌}
use Rattle.base.specs.Below.{count_below}
use Rattle.model.specs.Map.{view}
use Rattle.table.specs.Words.{Sized}
use Rattle.orbit.specs.At.{site}
use Rattle.rewriting.specs.Slots.{Granting, BeforeBlocks}
use Rattle.rewriting.proofs.slots.blocks.Given as goal

abbrev pub invariant-loop-w : goal.invariant-loop-w
invariant-loop-w l =
    Sized l.slots l.table
    × ((R : BeforeBlocks l.slots (view l.slots l.initial.table) l.initial.store l.size l.many)
    → Granting R.at l.initial.store l.size (count_below (64 * l.w) (site R.at).orbit * l.many) l.free (view l.slots l.table) l.store)

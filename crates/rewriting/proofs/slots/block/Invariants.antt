-- The loop's invariant is `Passed`: the darts whose digits are gone have their pairs.
use Rattle.model.specs.Map.{view}
use Rattle.table.specs.Words.{Sized}
use Rattle.rewriting.specs.Slots.{Block}
use Rattle.rewriting.proofs.SlotBlockLaws.{Passed}
use Rattle.rewriting.proofs.slots.block.Given as goal

abbrev pub invariant-loop-rest : goal.invariant-loop-rest
invariant-loop-rest l =
    Sized l.slots l.table × ((B : Block l.slots (view l.slots l.initial.table) l.initial.store l.size l.many l.w l.digits l.free)
    → Passed B.at B.store l.size l.many l.w l.rest l.from (view l.slots l.table) l.store)

abbrev pub decreases-loop-rest : goal.decreases-loop-rest
decreases-loop-rest l = l.rest

-- The loop's invariant: the records of the first r darts are zero.
use Rattle.model.specs.Map.{view}
use Rattle.table.specs.Writes.{zeroed}
use Rattle.orbit.specs.Store.{dart_at}
use Rattle.table.proofs.StageLaws.{Stage}
use Rattle.rewriting.proofs.room.erase.Given as goal

abbrev pub invariant-loop-r : goal.invariant-loop-r
invariant-loop-r l = Stage l.slots (view l.slots) l.initial.table (λ k. zeroed (dart_at l.store l.base k)) l.size l.r l.table

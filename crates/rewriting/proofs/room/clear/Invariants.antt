-- The loop's invariant: the first v nodes are cleared where they are deleted.
use lib.ListN.{get_or}
use Rattle.model.specs.Map.{view}
use Rattle.rewriting.specs.Room.{cleared_by}
use Rattle.table.proofs.StageLaws.{Stage}
use Rattle.rewriting.proofs.room.clear.Given as goal

abbrev pub invariant-loop-v : goal.invariant-loop-v
invariant-loop-v l = Stage l.slots (view l.slots) l.initial.table (λ k. cleared_by l.store l.size (get_or l.rows k 0) (get_or l.kinds k 0)) l.c l.v l.table

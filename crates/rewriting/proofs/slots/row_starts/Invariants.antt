-- The loop's invariant: the first a added nodes have their rows.
use Rattle.rewriting.specs.Slots.{RowsBegin}
use Rattle.rewriting.proofs.slots.row_starts.Given as goal

abbrev pub invariant-loop-a : goal.invariant-loop-a
invariant-loop-a l = RowsBegin l.slots l.size l.added l.a l.initial.rows l.rows

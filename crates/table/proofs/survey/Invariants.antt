-- The loop's invariant: the slots below x are right, and their live darts are counted.
use Rattle.table.specs.Seen.{map_of}
use Rattle.table.proofs.SlotLaws.{Passed}
use Rattle.table.proofs.survey.Given as goal

abbrev pub invariant-loop-x : goal.invariant-loop-x
invariant-loop-x l = Passed l.n (map_of l.table) l.x l.live

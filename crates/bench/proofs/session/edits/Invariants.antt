-- The loop's invariant: the first k darts are edited, and their lines printed.
use Rattle.bench.proofs.SessionLaws.{Going}
use Rattle.bench.proofs.session.edits.Given as goal

abbrev pub invariant-loop-k : goal.invariant-loop-k
invariant-loop-k l = Going l.input l.layout l.slots l.k l.table l.store l.initial.out l.out l.at

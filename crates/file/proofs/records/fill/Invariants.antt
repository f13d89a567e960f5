-- The loop's invariant: the first k darts of the file are entered.
use Rattle.file.proofs.FillLaws.{Filled}
use Rattle.file.proofs.records.fill.Given as goal

abbrev pub invariant-loop-k : goal.invariant-loop-k
invariant-loop-k g l = Filled g.row.W l.n l.slots l.b l.k l.table

-- The loop's invariant: what the section has of the live darts below x is put.
use Rattle.table.specs.Seen.{map_of}
use Rattle.numbers.specs.Places.{Put}
use Rattle.file.specs.Sections.{darts_bytes}
use Rattle.file.proofs.sections.section.Given as goal

abbrev pub invariant-loop-x : goal.invariant-loop-x
invariant-loop-x g l = Put l.initial.out l.initial.at.at (darts_bytes g.row.W l.n (map_of l.table) l.part l.x) l.out l.at.at

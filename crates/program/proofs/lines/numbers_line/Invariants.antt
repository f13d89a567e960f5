-- The loop's invariant: so many numbers after the first are put.
use Rattle.numbers.specs.Places.{Put}
use Rattle.program.specs.Lines.{fields}
use Rattle.program.proofs.lines.numbers_line.Given as goal

abbrev pub invariant-loop-value : goal.invariant-loop-value
invariant-loop-value l = Put l.initial.out l.initial.next (fields l.values l.value-index) l.out l.next

-- The loop's invariant: the darts at the first r places have their digits.
use Rattle.rewriting.specs.Slots.{Digits}
use Rattle.rewriting.proofs.slots.mark_bits.Given as goal

abbrev pub invariant-loop-r : goal.invariant-loop-r
invariant-loop-r l = Digits l.slots l.initial.store l.r l.store

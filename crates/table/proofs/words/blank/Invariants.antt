-- The loop's invariant: the first c words of the record are zero.
use Prim.Native.Nat.{◌+◌, ◌*◌}
use lib.ListN.{set}
use Rattle.model.specs.Map.{record_size}
use Rattle.table.proofs.StageLaws.{Stage}
use Rattle.table.proofs.words.blank.Given as goal

abbrev pub invariant-loop-c : goal.invariant-loop-c
invariant-loop-c l = Stage l.slots (λ t. t) l.initial.table (λ k t. set t (record_size * l.x + k) 0) record_size l.c l.table

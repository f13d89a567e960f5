-- `bench::session::edits` meets its contract.
use native.Mathlib.Omega.{arith}
use Rattle.bench.proofs.SessionLaws.{going_none, going_more, line-room}
use Rattle.bench.proofs.session.edits.Goals as goal

pub loop-k-init : goal.loop-k-init
loop-k-init c = going_none _ _ _ _ _ _ c.requires.stands

pub dart_line-at-requires : goal.dart_line-at-requires
dart_line-at-requires c =
    line-room _ _ c.requires.laid _ _ c.requires.map_open _ _ _ _ _ _ c.loop-k.invariant _ c.number-dart.ensures.value _ c.edit-answer.ensures.value
    c.number-dart.ensures.small c.loop-k-test.true (omega arith)

pub loop-k-preserved : goal.loop-k-preserved
loop-k-preserved c =
    going_more _ _ c.requires.laid _ _ c.requires.map_open _ _ _ _ _ _ c.loop-k.invariant _ c.number-dart.ensures.value _ c.edit-answer.ensures.value
    c.number-dart.ensures.small _ _ _ _ c.edit-answer.ensures.table_after c.edit-answer.ensures.store_after c.dart_line-at.ensures

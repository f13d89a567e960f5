-- `file::sections::section` meets its contract.
use native.Mathlib.Omega.{arith}
use Rattle.table.specs.Seen.{map_of}
use Rattle.numbers.proofs.PlaceLaws.{put-room}
use Rattle.file.proofs.SectionLaws.{darts-none, darts-dead, darts-live, darts-room, darts-all, few-live}
use Rattle.file.proofs.sections.section.Goals as goal
use Rattle.file.proofs.sections.section.Goals.{then-state-eq1, else-state-eq1}

pub overflow_cast-live : goal.overflow_cast-live
overflow_cast-live g c = omega (arith, few-live c.args.n (map_of c.args.table.now) _ c.requires.live_value)

pub loop-x-init : goal.loop-x-init
loop-x-init g c = darts-none _ _ _ _ _ _

pub dart-at-requires-clause-dart_in_bounds : goal.dart-at-requires-clause-dart_in_bounds
dart-at-requires-clause-dart_in_bounds g c =
    let room = put-room _ _ _ _ _ _ c.put-at.ensures _ (omega arith) in (
      c.loop-x-test.true,
      darts-room _ _ _ _ _ _ _ _ _ c.loop-x.invariant _ c.state.ensures c.if-state-eq1.true c.loop-x-test.true _ c.requires.live_value room,
    )

pub loop-x-preserved : goal.loop-x-preserved
loop-x-preserved g c =
    let inv = c.loop-x.invariant in
    elim c.if-state-eq1.branch [
      | then-state-eq1 y ↦ rw (y.out-is, y.at-is) (darts-live _ _ _ _ _ _ _ _ _ inv _ c.state.ensures y.if-state-eq1.true _ _ y.dart-at.ensures)
      | else-state-eq1 y ↦ rw (y.out-is, y.at-is) (darts-dead _ _ _ _ _ _ _ _ _ inv _ c.state.ensures y.if-state-eq1.false)
    ]

pub returns : goal.returns
returns g c = darts-all _ _ _ _ _ _ _ _ _ _ _ _ c.requires.live_value (omega arith) c.put-at.ensures c.loop-x.invariant

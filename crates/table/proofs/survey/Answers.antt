-- `table::survey` meets its contract.
use mathlib.Core.Path.{◌∙◌}
use native.Mathlib.Omega.{arith}
use Rattle.table.proofs.SlotLaws.{pass-none, pass-few, pass-unused, pass-live, slot-bad, slot-live, stops, passes}
use Rattle.table.proofs.survey.Goals as goal
use Rattle.table.proofs.survey.Goals.{then-s-ne0+else-s-ne1+else-not-dart, else-s-ne0, then-s-ne1-via-then-s-ne1, then-s-ne1-via-else-s-ne1+then-not-dart}

pub loop-x-init : goal.loop-x-init
loop-x-init c = pass-none _ _

pub returns-then-s-ne1 : goal.returns-then-s-ne1
returns-then-s-ne1 c =
    stops _ _ _ c.loop-x-test.true (elim c.then-s-ne1.branch [
      | then-s-ne1-via-then-s-ne1 w ↦ slot-bad _ _ _ _ c.state-s.ensures c.if-s-ne0.true w.if-s-ne1.true
      | then-s-ne1-via-else-s-ne1+then-not-dart w ↦
          slot-live _ _ _ _ c.state-s.ensures _ w.if-s-ne1.false w.dart.ensures ∙ w.if-not-dart.true
    ])

pub overflow_add-live : goal.overflow_add-live
overflow_add-live c = omega (arith, pass-few _ _ _ _ c.loop-x.invariant)

pub loop-x-preserved : goal.loop-x-preserved
loop-x-preserved c =
    let inv = c.loop-x.invariant in
    let b = c.loop-x-test.true in
    elim c.if-s-ne0.branch [
      | then-s-ne0+else-s-ne1+else-not-dart w ↦
          rw w.live-is (pass-live _ _ _ _ c.state-s.ensures _ inv b _ w.if-s-ne1.false w.dart.ensures w.if-not-dart.false)
      | else-s-ne0 w ↦ rw w.live-is (pass-unused _ _ _ _ c.state-s.ensures _ inv b w.if-s-ne0.false)
    ]

pub returns : goal.returns
returns c = passes _ _ _ _ c.loop-x.invariant (omega arith)

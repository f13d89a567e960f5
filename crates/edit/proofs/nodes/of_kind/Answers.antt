-- `edit::nodes::of_kind` meets its contract.
use Rattle.std.proofs.Common.{arith}
use Rattle.edit.proofs.NodeLaws.{listed-none, listed-few, listed_skip, listed_more}
use Rattle.edit.proofs.nodes.of_kind.Goals as goal
use Rattle.edit.proofs.nodes.of_kind.Goals.{then-kinds-s, else-kinds-s}

pub loop-s-init : goal.loop-s-init
loop-s-init c = listed-none _ _

pub bounds-node-size : goal.bounds-node-size
bounds-node-size c = omega (arith, listed-few _ _ _ _ _ c.loop-s.invariant)

pub overflow_add-size : goal.overflow_add-size
overflow_add-size c = omega (arith, listed-few _ _ _ _ _ c.loop-s.invariant)

pub loop-s-preserved : goal.loop-s-preserved
loop-s-preserved c =
    let l = c.loop-s.invariant in
    elim c.if-kinds-s.branch [
      | then-kinds-s w ↦ rw (w.node-is, w.size-is) (listed_more _ _ _ _ _ l (omega arith) w.if-kinds-s.true)
      | else-kinds-s w ↦ rw (w.node-is, w.size-is) (listed_skip _ _ _ _ _ l w.if-kinds-s.false)
    ]

pub returns-clause-inside : goal.returns-clause-inside
returns-clause-inside c = omega (arith, listed-few _ _ _ _ _ c.loop-s.invariant)

-- The loop's invariant is the contract at the nodes passed.
use Rattle.edit.specs.Nodes.{Listed}
use Rattle.edit.proofs.nodes.of_kind.Given as goal

abbrev pub invariant-loop-s : goal.invariant-loop-s
invariant-loop-s l = Listed l.s l.kinds l.kind l.node l.size

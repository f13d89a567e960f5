-- The loop's invariant: the cursor is at the node of this turn, within the bytes.
use Rattle.frame.specs.Nodes.{NodePlace}
use Rattle.frame.proofs.nodes.past_nodes.Given as goal

abbrev pub invariant-loop : goal.invariant-loop
invariant-loop l = NodePlace l.bytes l.counter l.next.at

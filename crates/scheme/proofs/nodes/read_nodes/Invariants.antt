-- The loop's invariant: the first s nodes are in the form and are held, and the cursor is at node s.
use Rattle.scheme.specs.Nodes.{Passed}
use Rattle.scheme.proofs.nodes.read_nodes.Given as goal

abbrev pub invariant-loop-s : goal.invariant-loop-s
invariant-loop-s l = Passed l.bytes l.s l.next.at l.kinds l.lwords l.rwords l.ltargets l.rtargets

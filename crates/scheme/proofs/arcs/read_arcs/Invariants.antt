-- The loop's invariant: the arcs of the turns before are in the form and give the targets, and the cursor is past them.
use Rattle.scheme.specs.Words.{side_of}
use Rattle.scheme.proofs.ArcLaws.{Joined}
use Rattle.scheme.proofs.arcs.read_arcs.Given as goal

abbrev pub invariant-loop : goal.invariant-loop
invariant-loop l = Joined l.bytes (side_of l.side) l.counter l.next.at l.low l.targets l.twice

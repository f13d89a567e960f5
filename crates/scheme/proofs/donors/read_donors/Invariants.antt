-- The loop's invariant: the donors of the first s nodes are in the form and are held, and the cursor is at node s.
use Rattle.scheme.specs.Donors.{Donated}
use Rattle.scheme.proofs.donors.read_donors.Given as goal

abbrev pub invariant-loop-s : goal.invariant-loop-s
invariant-loop-s l = Donated l.bytes l.s l.next.at l.donors

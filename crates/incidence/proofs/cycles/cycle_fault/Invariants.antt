-- Each invariant: nothing is found at what the loops have passed, and so far no fault is.
use mathlib.Core.Path.{◌≡◌}
use Rattle.std.specs.Prelude.{None, Ok}
use Rattle.base.specs.First.{first}
use Rattle.incidence.specs.Cycles.{at_node}
use Rattle.incidence.proofs.CycleSearchLaws.{Passed}
use Rattle.incidence.proofs.cycles.cycle_fault.Given as goal

abbrev pub invariant-loop-i : goal.invariant-loop-i
invariant-loop-i l = Passed l.scheme.orbit l.scheme.kinds l.scheme.ltargets l.scheme.rtargets l.s l.i l.j × (l.found ≡ Ok tt)

abbrev pub invariant-loop-j : goal.invariant-loop-j
invariant-loop-j l = Passed l.scheme.orbit l.scheme.kinds l.scheme.ltargets l.scheme.rtargets l.s 0 l.j × (l.found ≡ Ok tt)

abbrev pub invariant-nodes : goal.invariant-nodes
invariant-nodes l =
    (first l.s (at_node l.scheme.orbit l.scheme.kinds l.scheme.ltargets l.scheme.rtargets l.scheme.n) ≡ None) × (l.found ≡ Ok tt)

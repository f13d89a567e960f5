-- The loop's invariant is the contract.
use Rattle.conditions.specs.Tree.{Reaching}
use Rattle.conditions.proofs.tree.Tree.spread.Given as goal

abbrev pub invariant-loop-i : goal.invariant-loop-i
invariant-loop-i l = Reaching l.scheme.ltargets l.scheme.second l.self l.s

-- The loop's invariant is the contract at the arcs passed.
use Rattle.conditions.specs.Tree.{TreeGrown}
use Rattle.conditions.proofs.tree.Tree.grow.Given as goal

abbrev pub invariant-loop-a : goal.invariant-loop-a
invariant-loop-a l = TreeGrown l.scheme.larcs l.scheme.lcount l.a l.scheme.second l.fn.self.size l.self

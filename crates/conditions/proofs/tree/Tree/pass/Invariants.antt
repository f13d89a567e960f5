-- The loop's invariant: if the last pass added nothing, no arc leads out of the trees.
use Prim.Native.Nat.{◌-◌}
use Rattle.conditions.specs.Tree.{TreeGrown}
use Rattle.conditions.proofs.tree.Tree.pass.Given as goal

abbrev pub invariant-loop-last : goal.invariant-loop-last
invariant-loop-last l = TreeGrown l.scheme.larcs l.scheme.lcount l.scheme.lcount l.scheme.second l.last l.self

abbrev pub decreases-loop-last : goal.decreases-loop-last
decreases-loop-last l = 16 - l.last

-- The loop's invariant: the entries are trees over targets.
use Prim.Native.Nat.{◌-◌}
use Rattle.conditions.specs.Tree.{ByTarget, TreeBy}
use Rattle.conditions.proofs.tree.Tree.walk.Given as goal

abbrev pub invariant-loop-k : goal.invariant-loop-k
invariant-loop-k l = TreeBy (ByTarget l.scheme.ltargets) l.scheme.second l.self

abbrev pub decreases-loop-k : goal.decreases-loop-k
decreases-loop-k l = 16 - l.k

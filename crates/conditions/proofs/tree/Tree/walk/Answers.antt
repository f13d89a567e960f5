-- `conditions::tree::Tree::walk` meets its contract.
use native.Mathlib.Omega.{arith}
use Rattle.conditions.proofs.TreeLaws.{few}
use Rattle.conditions.proofs.tree.Tree.walk.Goals as goal

pub bounds-self-k : goal.bounds-self-k
bounds-self-k c = omega (arith, few _ _ _ c.loop-k.invariant)

-- `conditions::tree::Tree::pass` meets its contract.
use native.Mathlib.Omega.{arith}
use Rattle.conditions.proofs.TreeLaws.{few}
use Rattle.conditions.proofs.tree.Tree.pass.Goals as goal

pub loop-last-smaller : goal.loop-last-smaller
loop-last-smaller c =
    let h = few _ _ _ c.loop-last.invariant.spans in
    omega (arith, c.loop-last-test.true)

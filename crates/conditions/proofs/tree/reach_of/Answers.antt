-- `conditions::tree::reach_of` meets its contract: if the walk leaves no left node out, no arc leads out of its trees.
use native.Mathlib.Omega.{arith}
use Rattle.std.proofs.lemmas.Grind.{common_steps}
use Rattle.conditions.proofs.TreeLaws.{tree-aimed, closed-walk}
use Rattle.conditions.proofs.tree.reach_of.Goals as goal

pub walk-requires : goal.walk-requires
walk-requires c = rw c.from.ensures at (c.hooks-tree.ensures c.args.scheme.now.ltargets)

pub pass-requires-clause-spans : goal.pass-requires-clause-spans
pass-requires-clause-spans c = tree-aimed _ _ _ c.requires.aimed _ _ c.walk.ensures

pub returns-else-is_some-clause-spanning : goal.returns-else-is_some-clause-spanning
returns-else-is_some-clause-spanning c =
    closed-walk _ _ _ _ _ _ (tree-aimed _ _ _ c.requires.aimed _ _ c.walk.ensures) c.requires.lefts (grind (arith, common_steps))

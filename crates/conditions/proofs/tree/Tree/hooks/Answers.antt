-- `conditions::tree::Tree::hooks` meets its contract.
use mathlib.Core.Path.{◌≡◌, sym, ◌∙◌}
use Rattle.conditions.specs.Tree.{roots_of}
use Rattle.conditions.proofs.TreeLaws.{one_root, two_roots, tree-start}
use Rattle.conditions.proofs.tree.Tree.hooks.Goals as goal
use Rattle.conditions.proofs.tree.Tree.hooks.Goals.{then-second-eq0, else-second-eq0}

pub returns : goal.returns
returns c =
    let roots : c.if-second-eq0.roots ≡ roots_of c.args.second =
    elim c.if-second-eq0.branch [
      | then-second-eq0 w ↦ w.roots-is ∙ sym (one_root _ w.if-second-eq0.true)
      | else-second-eq0 w ↦ w.roots-is ∙ sym (two_roots _ w.if-second-eq0.false)
    ] in
    λ targets. tree-start _ _ _ c.requires roots

-- `conditions::hook::unreached` meets its contract.
use borrow.Author.Rules.{rules}
use Rattle.base.specs.Test.{◌and◌}
use Rattle.conditions.specs.Hook.{left_out}
use Rattle.base.proofs.RangeLaws.{find-least}
use Rattle.conditions.proofs.hook.unreached.Goals as goal

pub returns : goal.returns
unfolding left_out ◌and◌
returns c = find-least c.from.ensures _ _ c.find.ensures.ran (λ x b q k. search rules)

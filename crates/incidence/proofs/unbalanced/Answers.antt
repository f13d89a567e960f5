-- `incidence::unbalanced` meets its contract.
use borrow.Author.Rules.{rules}
use Rattle.base.specs.Test.{◌or◌}
use Rattle.incidence.specs.Incidence.{offends}
use Rattle.base.proofs.RangeLaws.{find-least}
use Rattle.incidence.proofs.unbalanced.Goals as goal

pub returns : goal.returns
unfolding offends ◌or◌
returns c = find-least c.from.ensures _ _ c.find.ensures.ran (λ x b q k. search rules)

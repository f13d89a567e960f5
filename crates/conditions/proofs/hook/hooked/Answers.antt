-- `conditions::hook::hooked` meets its contract.
use lib.ListN.{get_or}
use borrow.Author.Rules.{rules}
use borrow.Author.Tests.{eq-eqb, ne_eqb}
use Rattle.base.specs.Test.{◌and◌}
use Rattle.conditions.specs.Hook.{hooked_by}
use Rattle.base.proofs.RangeLaws.{all-below}
use Rattle.conditions.proofs.hook.hooked.Goals as goal

pub returns-then-not-added : goal.returns-then-not-added
unfolding hooked_by ◌and◌
returns-then-not-added c =
    rw (ne_eqb (get_or c.args.scheme.now.kinds c.args.h 0) 3 c.if-not-added.true)
    (all-below c.from.ensures _ _ c.all.ensures.ran (λ x b q k. search rules))

pub returns-else-not-added : goal.returns-else-not-added
unfolding hooked_by ◌and◌
returns-else-not-added c = rw (eq-eqb (get_or c.args.scheme.now.kinds c.args.h 0) 3 c.if-not-added.false)

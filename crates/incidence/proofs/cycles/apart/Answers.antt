-- `incidence::cycles::apart` meets its contract.
use borrow.Author.Rules.{rules}
use Rattle.base.specs.Test.{◌or◌}
use Rattle.incidence.specs.Cycles.{far_apart}
use Rattle.incidence.proofs.cycles.apart.Goals as goal

pub returns-then-p-q : goal.returns-then-p-q
unfolding far_apart ◌or◌
returns-then-p-q c = search rules

pub returns-else-p-q : goal.returns-else-p-q
unfolding far_apart ◌or◌
returns-else-p-q c = search rules

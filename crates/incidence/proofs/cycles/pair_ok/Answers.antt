-- `incidence::cycles::pair_ok` meets its contract.
use borrow.Author.Rules.{rules}
use Rattle.base.specs.Test.{◌and◌}
use Rattle.incidence.specs.Cycles.{pair_by}
use Rattle.incidence.proofs.cycles.pair_ok.Goals as goal

pub returns-then-code : goal.returns-then-code
unfolding pair_by ◌and◌
returns-then-code c = search rules

pub returns-else-code : goal.returns-else-code
unfolding pair_by ◌and◌
returns-else-code c = search rules

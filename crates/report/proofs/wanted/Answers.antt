-- `report::wanted` meets its contract: a file that is wanted is within its limit.
use mathlib.Core.Path.{sym, ap}
use native.Mathlib.Omega.{arith}
use Rattle.report.specs.Steps.{wants}
use Rattle.report.proofs.FeedLaws.{within-file}
use Rattle.report.proofs.wanted.Goals as goal

pub overflow_add-result : goal.overflow_add-result
overflow_add-result c = let few = within-file _ _ _ c.in-File.is c.requires in omega (arith, few)

pub returns-in-File : goal.returns-in-File
returns-in-File c = sym (ap wants c.in-File.is)

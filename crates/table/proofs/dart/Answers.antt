-- `table::dart` meets its contract: a 3-link that leads to no slot refutes `corners_ok`.
use mathlib.Core.Path.{◌∙◌}
use native.Mathlib.Omega.{arith}
use borrow.Author.Tests.{le-ltb}
use Rattle.table.proofs.SlotLaws.{no_link}
use Rattle.table.proofs.dart.Goals as goal

pub returns-else-link-table : goal.returns-else-link-table
returns-else-link-table c =
    let outside = c.if-link-table.false in
    le-ltb _ _ outside ∙ no_link _ _ _ 3 _ (omega arith) c.link.ensures outside

-- `edit::site::is_dart` meets its contract.
use mathlib.Core.Path.{◌∙◌}
use borrow.Author.Tests.{le-ltb}
use Rattle.table.specs.Seen.{map_of}
use Rattle.edit.proofs.SiteLaws.{dart-out, dart_in}
use Rattle.edit.proofs.site.is_dart.Goals as goal

pub returns-then-x-table : goal.returns-then-x-table
returns-then-x-table c = dart_in (map_of c.args.table.now) _ c.if-x-table.true _ c.state.ensures

pub returns-else-x-table : goal.returns-else-x-table
returns-else-x-table c = le-ltb _ _ c.if-x-table.false ∙ dart-out (map_of c.args.table.now) _ c.if-x-table.false

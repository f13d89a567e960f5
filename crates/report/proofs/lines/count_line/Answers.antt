-- `report::lines::count_line` meets its contract: the six numbers are those of the line.
use mathlib.Core.Path.{◌≡◌}
use native.Mathlib.Omega.{arith}
use lib.ListN.{length}
use borrow.Author.Rules.{rules}
use Rattle.report.proofs.LineLaws.{count_room, count-put}
use Rattle.report.proofs.lines.count_line.Goals as goal

pub numbers_line-requires : goal.numbers_line-requires
numbers_line-requires c =
    let six : length c.args.c ≡ 6 = search rules in
    record { not_empty = omega (arith, six); line_in_bounds = count_room _ (six) _ _ c.requires }

pub returns : goal.returns
returns c =
    let six : length c.args.c ≡ 6 = search rules in
    count-put _ (six) _ _ _ _ c.numbers_line.ensures

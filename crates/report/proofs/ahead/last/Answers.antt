-- `report::ahead::last` meets its contract: a byte that comes after the last map is refused, and else the totals are printed.
use native.Mathlib.Omega.{arith}
use Rattle.report.proofs.AheadLaws.{last_extra, last_totals}
use Rattle.report.proofs.LineLaws.{room-short}
use Rattle.report.proofs.ahead.last.Goals as goal

pub returns-then-tail-ne0 : goal.returns-then-tail-ne0
returns-then-tail-ne0 c = last_extra _ _ _ _ _ _ c.if-tail-ne0.true c.refuse.ensures

pub count_line-requires : goal.count_line-requires
count_line-requires c = omega (arith, c.requires.longest_line_in_bounds, room-short 0 c.args.sums c.requires.sums_room)

pub returns : goal.returns
returns c = last_totals _ _ _ _ _ _ c.requires.sums_room c.if-tail-ne0.false c.count_line.ensures

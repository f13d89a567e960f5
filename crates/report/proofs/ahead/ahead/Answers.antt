-- `report::ahead::ahead` meets its contract: the totals if no map is left, else the length of the next map, or a fault.
use Prim.Native.Nat.{◌≤◌, ◌<◌}
use mathlib.Core.Path.{◌≡◌}
use native.Mathlib.Omega.{arith}
use lib.ListN.{length}
use Rattle.base.specs.Digits.{number_at}
use Rattle.program.specs.Opening.{longest_file}
use Rattle.report.proofs.AheadLaws.{none_left, room-left, ahead_missing, ahead-long, ahead-file}
use Rattle.report.proofs.ahead.ahead.Goals as goal

pub last-requires : goal.last-requires
last-requires c =
    record { sums_room = room-left _ _ c.if-left-eq0.true c.requires.sums_room; longest_line_in_bounds = c.requires.longest_line_in_bounds }

pub returns-then-left-eq0 : goal.returns-then-left-eq0
returns-then-left-eq0 c = none_left _ _ _ _ _ _ _ c.if-left-eq0.true c.last.ensures

pub returns-then-tail-lt2 : goal.returns-then-tail-lt2
returns-then-tail-lt2 c =
    let short : length c.args.tail.now < 2 = omega (arith, c.if-tail-lt2.true) in
    ahead_missing _ c.if-left-eq0.false _ _ _ _ short _ _ c.refuse.ensures

pub returns-then-long-gt-LONGEST_FILE : goal.returns-then-long-gt-LONGEST_FILE
returns-then-long-gt-LONGEST_FILE c =
    let long-is : c.number-long.result.0 ≡ number_at 2 c.args.tail.now 0 = c.number-long.ensures.value in
    let over : longest_file < c.number-long.result.0 = omega (arith, c.if-long-gt-LONGEST_FILE.true) in
    ahead-long _ c.if-left-eq0.false _ _ _ _ _ (long-is) over _ _ c.refuse-then-long-gt-LONGEST_FILE.ensures

pub returns : goal.returns
returns c =
    let long-is : c.number-long.result.0 ≡ number_at 2 c.args.tail.now 0 = c.number-long.ensures.value in
    let two : 2 ≤ length c.args.tail.now = omega (arith, c.if-tail-lt2.false) in
    let within : c.number-long.result.0 ≤ longest_file = omega (arith, c.if-long-gt-LONGEST_FILE.false) in
    ahead-file _ c.if-left-eq0.false _ _ _ _ _ (long-is) c.requires.sums_room two within

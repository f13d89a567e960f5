-- `report::begin` meets its contract: the number of maps is missing, or what comes after it is read.
use Prim.Native.Nat.{◌≤◌}
use native.Mathlib.Omega.{arith}
use Rattle.report.specs.Promises.{most_maps}
use Rattle.report.proofs.FeedLaws.{behind, room-none, start-short, start-ahead}
use Rattle.report.proofs.begin.Goals as goal

pub returns-then-size-lt2 : goal.returns-then-size-lt2
returns-then-size-lt2 c = start-short _ _ _ _ _ c.if-size-lt2.true c.refuse.ensures

pub ahead-requires : goal.ahead-requires
ahead-requires c =
    let few : c.number-maps.result.0 ≤ most_maps = omega (arith, c.number-maps.ensures.small) in
    record { sums_room = room-none _ _ c.requires.sums_value few; longest_line_in_bounds = omega (arith, c.requires.longest_line_in_bounds) }

pub returns : goal.returns
returns c =
    start-ahead _ _ _ _ _ _ _ c.if-size-lt2.false c.number-maps.ensures.value
    (behind c.args.piece.now 2) c.ahead.ensures

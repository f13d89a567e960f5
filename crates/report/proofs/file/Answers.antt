-- `report::file` meets its contract: the file is not whole, or its map is counted and what comes after it is read.
use mathlib.Core.Path.{refl, sym}
use native.Mathlib.Omega.{arith}
use lib.Seq.{length-take-le}
use Rattle.report.proofs.FeedLaws.{behind, file-short, unworked, worked, room-one, room-file, file-ahead}
use Rattle.report.proofs.file.Goals as goal

pub returns-then-size-long : goal.returns-then-size-long
returns-then-size-long c =
    let short = c.if-size-long.true in
    record { fed_as = file-short _ _ _ _ _ short _ _ c.refuse.ensures; worked = unworked _ _ _ short _ _ }

pub slice_bounds-map_line-end : goal.slice_bounds-map_line-end
slice_bounds-map_line-end c = sym (length-take-le _ c.args.piece.now c.if-size-long.false)

pub map_line-line-requires : goal.map_line-line-requires
map_line-line-requires c =
    record {
      sums_room = room-one _ _ c.requires.sums_room;
      table_len = c.requires.table_len;
      store_len = c.requires.store_len;
      longest_line_in_bounds = omega (arith, c.requires.longest_line_in_bounds);
    }

pub ahead-requires : goal.ahead-requires
ahead-requires c =
    let x = c.map_line-line.ensures.lined in
    record {
      sums_room = room-file _ _ _ _ _ _ x c.requires.sums_room;
      longest_line_in_bounds = omega (arith, x.short, c.map_line-line.auto.out, c.requires.longest_line_in_bounds);
    }

pub returns : goal.returns
returns c =
    let whole = c.if-size-long.false in
    let tail = behind c.args.piece.now c.args.long in
    record {
      fed_as = file-ahead _ _ _ _ _ _ _ _ c.map_line-line.ensures.lined _ _ _ whole refl tail c.ahead.ensures;
      worked = worked _ _ _ whole _ _ _ _ _ refl c.map_line-line.ensures.map_worked;
    }

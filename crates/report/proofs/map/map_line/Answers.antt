-- `report::map::map_line` meets its contract: the line of the refusal, or the counts of the map that is open.
use Prim.Native.Nat.{◌*◌, ◌≤◌}
use mathlib.Core.Path.{refl, sym}
use native.Mathlib.Omega.{arith}
use lib.ListN.{length}
use lib.Seq.{length-take-le}
use Rattle.program.proofs.OpeningLaws.{refused_of}
use Rattle.report.specs.Promises.{Few}
use Rattle.report.proofs.LineLaws.{few-short}
use Rattle.report.proofs.MapLaws.{refused-room, refused_lined, refused-worked, map-well, map-few, map_lined, map-worked}
use Rattle.report.proofs.map.map_line.Goals as goal

-- ---- the parts of table and store for the map's slots

pub slice_bounds-counts-end : goal.slice_bounds-counts-end
slice_bounds-counts-end c =
    omega (arith, c.size-words.ensures, c.in-Ok.ensures.opened_as.few, c.«open».auto.table, c.requires.table_len)

pub slice_bounds-counts-end-in-Ok : goal.slice_bounds-counts-end-in-Ok
slice_bounds-counts-end-in-Ok c =
    let within : c.size-words.result ≤ length c.«open».new.table =
    omega (arith, c.size-words.ensures, c.in-Ok.ensures.opened_as.few, c.«open».auto.table, c.requires.table_len) in
    sym (length-take-le _ c.«open».new.table within)

pub slice_bounds-counts-end-in-Ok-2 : goal.slice_bounds-counts-end-in-Ok-2
slice_bounds-counts-end-in-Ok-2 c = omega (arith, c.in-Ok.ensures.opened_as.few, c.requires.store_len)

pub counts-c-requires : goal.counts-c-requires
counts-c-requires c =
    let m = c.in-Ok.ensures.opened_as in
    let places : 16 * c.in-Ok.map.slots ≤ length c.args.store.now = omega (arith, m.few, c.requires.store_len) in
    record {
      table_value = map-well _ _ _ m _ _ c.requires.table_len c.«open».ensures.table_after _ c.size-words.ensures;
      store_len = length-take-le _ c.args.store.now places;
    }

-- ---- the lines

pub refused_line-requires : goal.refused_line-requires
refused_line-requires c =
    refused-room _ _ (refused_of _ _ _ _ _ refl refl c.in-Err.ensures.opened_as c.number.ensures) c.args.out.now c.requires.longest_line_in_bounds

pub returns-in-Err : goal.returns-in-Err
returns-in-Err c =
    let refused = refused_of _ _ _ _ _ refl refl c.in-Err.ensures.opened_as c.number.ensures in
    record {
      lined = refused_lined _ _ refused _ _ _ _ c.refused_line.ensures;
      map_worked = refused-worked _ _ refused _ _ _ c.in-Err.ensures.table_after;
    }

pub count_line-requires : goal.count_line-requires
count_line-requires c =
    let few : Few c.counts-c.result = map-few _ _ _ c.in-Ok.ensures.opened_as _ _ c.requires.table_len c.«open».ensures.table_after
    _ c.size-words.ensures _ c.counts-c.ensures.value in
    omega (arith, c.requires.longest_line_in_bounds, few-short c.counts-c.result few)

pub sum-requires : goal.sum-requires
sum-requires c =
    record {
      sums_room = c.requires.sums_room;
      few = map-few _ _ _ c.in-Ok.ensures.opened_as _ _ c.requires.table_len c.«open».ensures.table_after
          _ c.size-words.ensures _ c.counts-c.ensures.value;
    }

pub returns-in-Ok : goal.returns-in-Ok
returns-in-Ok c =
    let m = c.in-Ok.ensures.opened_as in
    let long = c.requires.table_len in
    let after = c.«open».ensures.table_after in
    record {
      lined = map_lined _ _ _ m _ _ long after _ c.size-words.ensures _ c.counts-c.ensures.value _ _ _ _ _ c.count_line.ensures c.sum.ensures;
      map_worked = map-worked _ _ _ m _ _ long after _ c.size-words.ensures _ _ c.counts-c.ensures.store_after;
    }

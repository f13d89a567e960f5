-- `matching::images::row` meets its contract.
use Rattle.std.proofs.Common.{◌<◌, arith}
use Rattle.matching.proofs.ImageRowLaws.{mark-read, row-slot, row_below, row-clash, row_more}
use Rattle.matching.proofs.images.row.Goals as goal

pub link-y-requires : goal.link-y-requires
link-y-requires c =
    (row-slot _ _ _ _ _ _ _ c.loop-r.invariant c.requires.row_before.0 (omega arith) _ c.word.ensures, c.requires.dimension)

pub word-requires-in-loop-r : goal.word-requires-in-loop-r
word-requires-in-loop-r c =
    let below : c.link-y.result < c.args.table.now.slots =
    row_below _ _ _ _ _ _ _ c.loop-r.invariant c.requires.row_before.0 (omega arith) _ _ c.word.ensures c.link-y.ensures _ c.loop-r-test.true
    c.requires.row_linked in
    omega (arith, c.loop-r.invariant.taken.long)

pub returns-then-word-ne0 : goal.returns-then-word-ne0
returns-then-word-ne0 c =
    row-clash _ _ _ _ _ _ _ c.loop-r.invariant c.requires.row_before.0 (omega arith) _ _ c.word.ensures c.link-y.ensures _ _
    c.loop-r-test.true c.word-in-loop-r.ensures c.if-word-ne0.true

pub push-requires-clause-slot_without_place : goal.push-requires-clause-slot_without_place
push-requires-clause-slot_without_place c = (
  row_below _ _ _ _ _ _ _ c.loop-r.invariant c.requires.row_before.0 (omega arith) _ _ c.word.ensures c.link-y.ensures _ c.loop-r-test.true
      c.requires.row_linked,
  mark-read _ _ _ c.word-in-loop-r.ensures c.if-word-ne0.false,
)

pub loop-r-preserved : goal.loop-r-preserved
loop-r-preserved c =
    let before = c.requires.row_before.0 in
    let below : c.link-y.result < c.args.table.now.slots =
    row_below _ _ _ _ _ _ _ c.loop-r.invariant before (omega arith) _ _ c.word.ensures c.link-y.ensures _ c.loop-r-test.true
    c.requires.row_linked in
    row_more _ _ _ _ _ _ _ c.loop-r.invariant before (omega arith) _ _ c.word.ensures c.link-y.ensures _ below c.push.ensures

-- `matching::images::rows` meets its contract.
use Rattle.std.proofs.Common.{refl, arith}
use Rattle.matching.proofs.RowTreeLaws.{grown-hooks, parent-fits, row_asks, rows_more, rows-clash, rows-done}
use Rattle.matching.proofs.images.rows.Goals as goal

pub loop-k-init : goal.loop-k-init
loop-k-init c = (refl, rw c.begin.ensures (grown-hooks c.requires.before_matching c.args.rows.now c.requires.rows_len _ refl))

pub bounds-rows-from : goal.bounds-rows-from
bounds-rows-from c = parent-fits c.requires.before_matching c.loop-k-test.true c.loop-k.auto.k c.from.ensures

pub row-requires-clause-row_before : goal.row-requires-clause-row_before
row-requires-clause-row_before c =
    let inv = c.loop-k.invariant in
    let asks = row_asks inv.1 c.loop-k.auto.k c.loop-k-test.true c.from.ensures c.from-in-loop-k.ensures inv.0 c.requires.before_matching in
    (asks.1.0.2, asks.1.0.3)

pub row-requires-clause-row_linked : goal.row-requires-clause-row_linked
row-requires-clause-row_linked c =
    let inv = c.loop-k.invariant in
    (row_asks inv.1 c.loop-k.auto.k c.loop-k-test.true c.from.ensures c.from-in-loop-k.ensures inv.0 c.requires.before_matching).1.1

pub returns-in_err-row : goal.returns-in_err-row
returns-in_err-row c =
    let inv = c.loop-k.invariant in
    rw c.from_residual.ensures
    (rows-clash inv.1 c.loop-k.auto.k c.loop-k-test.true c.from.ensures c.from-in-loop-k.ensures inv.0 _ c.in_err-row.ensures)

pub loop-k-preserved : goal.loop-k-preserved
loop-k-preserved c =
    let inv = c.loop-k.invariant in (
      omega arith,
      rows_more inv.1 c.loop-k.auto.k c.loop-k-test.true c.from.ensures c.from-in-loop-k.ensures inv.0 c.requires.before_matching
          _ _ c.from-in-loop-k-2.ensures c.in_ok-row.ensures,
    )

pub returns : goal.returns
returns c = rows-done (omega (arith, c.loop-k.auto.k-end, c.requires.before_matching.rooted.some)) c.loop-k.invariant.1

-- `count::orbits` meets its contract.
use mathlib.Core.Path.{sym, ◌∙◌}
use native.Mathlib.Omega.{arith}
use Rattle.count.proofs.OrbitsLaws.{counting-none, counting-begun, fresh-live, counting_more, counting-idle, counting-done}
use Rattle.count.proofs.orbits.Goals as goal
use Rattle.count.proofs.orbits.Goals.{then-fresh, else-fresh}

pub loop-x-init : goal.loop-x-init
loop-x-init g c = counting-none _ _ _ _ _ c.requires.store_len c.unmark.ensures

pub walk-end-requires-clause-live_dart : goal.walk-end-requires-clause-live_dart
walk-end-requires-clause-live_dart g c =
    let r = c.requires.before_walking in
    let h = c.loop-x-test.true in
    (h, fresh-live _ _ _ r.n r.well r.dim _ _ _ _ c.loop-x.invariant h (sym c.fresh.ensures ∙ c.if-fresh.true))

pub walk-end-requires-clause-begun : goal.walk-end-requires-clause-begun
walk-end-requires-clause-begun g c =
    let r = c.requires.before_walking in
    counting-begun _ _ _ r.n r.well r.dim _ _ _ _ c.loop-x.invariant c.loop-x-test.true (sym c.fresh.ensures ∙ c.if-fresh.true)

pub loop-x-preserved : goal.loop-x-preserved
loop-x-preserved g c =
    let r = c.requires.before_walking in
    let v = c.loop-x.invariant in
    let h = c.loop-x-test.true in
    elim c.if-fresh.branch [
      | then-fresh w ↦ rw (w.store-is, w.found-is, w.end-is)
          (counting_more _ _ _ r.n r.well r.dim _ _ _ _ v h (sym c.fresh.ensures ∙ w.if-fresh.true) _ _ w.walk-end.ensures.orbit_added)
      | else-fresh w ↦ rw (w.store-is, w.found-is, w.end-is) (counting-idle _ _ _ r.n r.well r.dim _ _ _ _ v h (sym c.fresh.ensures ∙ w.if-fresh.false))
    ]

pub returns : goal.returns
returns g c = counting-done _ _ _ _ _ _ _ c.loop-x.invariant (omega arith)

-- `rewriting::links::join` meets its contract.
use mathlib.Core.Path.{ap, ◌∙◌}
use native.Mathlib.Omega.{arith}
use Rattle.model.specs.Map.{Link}
use Rattle.table.proofs.StageLaws.{stage_none, stage_more, stage_done}
use Rattle.table.proofs.WriteLaws.{put_view, links-steps}
use Rattle.orbit.specs.Store.{dart_at}
use Rattle.rewriting.specs.Links.{overwritten}
use Rattle.rewriting.proofs.LinkLaws.{put-at, slot_at, place-below}
use Rattle.rewriting.proofs.links.join.Goals as goal

pub loop-r-init : goal.loop-r-init
loop-r-init c = stage_none c.requires.sized

pub place-q-requires : goal.place-q-requires
place-q-requires c =
    λ h.
    let t = c.requires.turnable h in
    omega (arith, t.long, t.fits, t.position, c.loop-r-test.true)

pub overflow_add-to : goal.overflow_add-to
overflow_add-to c = omega (arith, c.place-q.ensures, place-below _ _ _ _ _ c.requires.turnable c.loop-r-test.true)

pub offset_bounds-store-to : goal.offset_bounds-store-to
offset_bounds-store-to c = omega (arith, c.place-q.ensures, place-below _ _ _ _ _ c.requires.turnable c.loop-r-test.true)

pub bounds-store-to : goal.bounds-store-to
bounds-store-to c = omega (arith, c.place-q.ensures, place-below _ _ _ _ _ c.requires.turnable c.loop-r-test.true)

pub put_link-requires-clause-link_in_table : goal.put_link-requires-clause-link_in_table
put_link-requires-clause-link_in_table c =
    (slot_at c.requires.holds_slots _ _ c.loop-r-test.true c.word-x.ensures, c.requires.dimension)

pub loop-r-preserved : goal.loop-r-preserved
unfolding dart_at
loop-r-preserved c =
    let a = c.args in
    let slot = slot_at c.requires.holds_slots _ _ c.loop-r-test.true c.word-x.ensures in
    stage_more c.loop-r.invariant c.loop-r-test.true c.put_link.auto.table
    (put-at _ _ _ _ _ _ _ (put_view c.loop-r.invariant.sized (Link a.i) c.requires.dimension _ _ slot c.put_link.ensures)
    c.word-x.ensures (ap (dart_at a.store.now a.to) c.place-q.ensures))

pub returns : goal.returns
unfolding overwritten
returns c = stage_done c.loop-r.invariant c.loop-r-test.false ∙ links-steps _ _ _ _

-- `orbit::walk` meets its contract.
use Rattle.orbit.proofs.WalkLaws.{walking-first, walking-more, walking-live, walking-done}
use Rattle.orbit.proofs.walk.Goals as goal

pub loop-head-init : goal.loop-head-init
loop-head-init c = walking-first _ _ _ _ _ _ _ c.requires.begun.taken c.requires.live_dart.0 c.push.ensures

pub expand-tail-requires-clause-live_dart_at_head : goal.expand-tail-requires-clause-live_dart_at_head
expand-tail-requires-clause-live_dart_at_head c =
    let v = c.loop-head.invariant in
    let r = c.requires.before_walking in
    let d = c.requires.live_dart in
    (c.loop-head-test.true, walking-live _ _ _ _ _ _ r.n r.well r.dim d.0 d.1 _ _ _ _ v v.begun c.loop-head-test.true)

pub loop-head-preserved : goal.loop-head-preserved
loop-head-preserved c =
    walking-more _ _ _ _ _ _ _ _ _ _ _ c.requires.before_walking.few c.loop-head-test.true c.loop-head.invariant c.expand-tail.ensures

pub returns : goal.returns
returns c =
    let r = c.requires.before_walking in
    let d = c.requires.live_dart in
    let done = walking-done _ _ _ _ _ _ r.n r.well r.dim d.0 d.1 _ c.requires.begun c.push.ensures _ _ _ c.loop-head.invariant c.loop-head-test.false in
    record { orbit_added = done.0; walked = done.1 }

-- `orbit::expand` meets its contract.
use mathlib.Core.Path.{◌≡◌, ap, ◌∙◌}
use Prim.Native.Nat.{ℕ, ◌<◌}
use native.Mathlib.Omega.{arith}
use lib.ListN.{length}
use Rattle.table.specs.Seen.{map_of}
use Rattle.orbit.specs.Store.{place}
use Rattle.orbit.proofs.WalkLaws.{expanded_more}
use Rattle.orbit.proofs.expand.Goals as goal

pub returns-in_default : goal.returns-in_default
returns-in_default c =
    let e : c.loop-p.p ≡ length c.args.dims.now = omega (arith, c.loop-p.invariant.1, c.in_default.ensures.lookup) in
    rw (← e) c.loop-p.invariant.0

pub link-y-requires : goal.link-y-requires
unfolding place
link-y-requires c =
    let r = c.requires.before_walking in
    let item = c.in-Some.ensures.lookup.3 in (
      omega (arith, c.word-x.ensures, c.requires.taken.slot c.args.head c.requires.live_dart_at_head.0),
      omega (arith, c.from.ensures, item.1 0, r.dim c.loop-p.p item.0, r.small),
    )

pub follow-end-requires-clause-slot_in_table : goal.follow-end-requires-clause-slot_in_table
unfolding place
follow-end-requires-clause-slot_in_table c =
    let a = c.args in
    let r = c.requires.before_walking in
    let item = c.in-Some.ensures.lookup.3 in
    let x_slot : c.word-x.result < a.table.now.slots = omega (arith, c.word-x.ensures, c.requires.taken.slot a.head c.requires.live_dart_at_head.0) in
    let y_slot : (map_of a.table.now).link c.from.result c.word-x.result < a.table.now.slots =
    r.well.below c.word-x.result x_slot (ap (map_of a.table.now).state c.word-x.ensures ∙ c.requires.live_dart_at_head.1) _
    (omega (arith, c.from.ensures, item.1 0, r.dim c.loop-p.p item.0)) in
    omega (arith, y_slot, c.link-y.ensures)

pub loop-p-preserved : goal.loop-p-preserved
unfolding place
loop-p-preserved c =
    let item = c.in-Some.ensures.lookup.3 in
    let led = c.link-y.ensures ∙ ap (λ (i : ℕ). (map_of c.args.table.now).link i c.word-x.result) (c.from.ensures ∙ item.1 0) in
    (expanded_more _ _ _ _ _ _ _ _ _ _ _ _ (omega arith) c.word-x.ensures led c.loop-p.invariant.0 c.follow-end.ensures, omega (arith, item.0))

pub returns : goal.returns
returns c =
    let e : c.loop-p.p ≡ length c.args.dims.now = omega (arith, c.loop-p.invariant.1, c.requires.before_walking.few) in
    rw (← e) c.loop-p.invariant.0

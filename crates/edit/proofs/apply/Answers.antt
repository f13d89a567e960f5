-- `edit::apply` meets its contract.
use Prim.Native.Nat.{◌≤◌}
use Rattle.std.proofs.Common.{refl, length, arith}
use Rattle.model.specs.Map.{view}
use Rattle.orbit.specs.At.{At}
use Rattle.orbit.proofs.StoreLaws.{unmarked-blank}
use Rattle.orbit.proofs.WalkLaws.{blank-begun, lent-ready, lent-walked}
use Rattle.edit.proofs.ApplyLaws.{at-site, no_match_lem, walk-ready, walking, match-ready, settle_ready}
use Rattle.edit.proofs.apply.Goals as goal

pub walk-size-requires : goal.walk-size-requires
walk-size-requires c =
    let here : At (view c.args.slots c.args.table.now) = at-site c.requires.sized.few c.requires.sound in
    let d = c.requires.sound.dart in
    let few : c.args.s.now.places ≤ length c.args.s.now.orbit = omega arith in
    record {
      before_walking = rw c.from-k.ensures (lent-ready c.args.s.now.orbit _ few (walk-ready here));
      live_dart = (d.slot, d.alive);
      begun = rw c.unmark.ensures (blank-begun _ _ _ _ _ (unmarked-blank _ _ c.requires.store_len) d.slot);
    }

pub assign-requires : goal.assign-requires
assign-requires c =
    let here : At (view c.args.slots c.args.table.now) = at-site c.requires.sized.few c.requires.sound in
    let found = lent-walked c.args.s.now.orbit _ (omega arith) (c.walk-size.ensures.walked refl) in
    let w = walking here c.from-k.ensures found c.walk-size.ensures.orbit_added.taken in
    record { posed = match-ready here w c.requires.tree_of c.from-k.ensures }

pub returns-in_default : goal.returns-in_default
returns-in_default c =
    let here : At (view c.args.slots c.args.table.now) = at-site c.requires.sized.few c.requires.sound in
    let found = lent-walked c.args.s.now.orbit _ (omega arith) (c.walk-size.ensures.walked refl) in
    let w = walking here c.from-k.ensures found c.walk-size.ensures.orbit_added.taken in
    no_match_lem (c.in_default.ensures.at (match-ready here w c.requires.tree_of c.from-k.ensures))

pub settle-requires-clause-settling : goal.settle-requires-clause-settling
settle-requires-clause-settling c =
    let here : At (view c.args.slots c.args.table.now) = at-site c.requires.sized.few c.requires.sound in
    let found = lent-walked c.args.s.now.orbit _ (omega arith) (c.walk-size.ensures.walked refl) in
    let w = walking here c.from-k.ensures found c.walk-size.ensures.orbit_added.taken in
    let m = c.in-Some.ensures.at (match-ready here w c.requires.tree_of c.from-k.ensures) in
    settle_ready here w c.requires.tree_of m c.from-c.ensures c.requires.room_value

pub returns : goal.returns
returns c =
    let here : At (view c.args.slots c.args.table.now) = at-site c.requires.sized.few c.requires.sound in
    let found = lent-walked c.args.s.now.orbit _ (omega arith) (c.walk-size.ensures.walked refl) in
    let w = walking here c.from-k.ensures found c.walk-size.ensures.orbit_added.taken in
    let m = c.in-Some.ensures.at (match-ready here w c.requires.tree_of c.from-k.ensures) in
    c.settle.ensures (settle_ready here w c.requires.tree_of m c.from-c.ensures c.requires.room_value)

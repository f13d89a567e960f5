-- `rewriting::slots::turn` meets its contract.
use Rattle.std.proofs.Common.{refl, arith}
use native.Mathlib.Nat.{add-zero}
use Rattle.table.proofs.WordLaws.{sized_same}
use Rattle.rewriting.proofs.SlotTurnLaws.{turn-place, turn-size, turn-done, turn-cell, turn-room, turn_more}
use Rattle.rewriting.proofs.slots.turn.Goals as goal

pub overflow_add-i : goal.overflow_add-i
overflow_add-i c = let T = c.requires.turn in omega (arith, turn-place T, turn-size T)

pub loop-init : goal.loop-init
loop-init c = (omega arith, c.requires.sized, λ T. rw add-zero T.granting)

pub lowest-y-requires : goal.lowest-y-requires
lowest-y-requires c = record { slot_left = let T = c.requires.turn in turn-room T _ c.loop-test.true (c.loop.invariant.2 T) }

pub offset_bounds-store-i : goal.offset_bounds-store-i
offset_bounds-store-i c = omega (arith, c.loop.invariant.0, turn-cell c.requires.turn c.loop.counter c.loop-test.true)

pub bounds-store-i : goal.bounds-store-i
bounds-store-i c =
    let T = c.requires.turn in
    let v = c.loop.invariant in
    omega (arith, v.0, turn-cell T c.loop.counter c.loop-test.true, (v.2 T).store_long)

pub keep-requires : goal.keep-requires
keep-requires c =
    let T = c.requires.turn in
    let v = c.loop.invariant in
    (omega (arith, v.0, turn-cell T c.loop.counter c.loop-test.true, (v.2 T).store_long), omega (arith, c.lowest-y.ensures.fits))

pub overflow_add-i-in-loop : goal.overflow_add-i-in-loop
overflow_add-i-in-loop c =
    let T = c.requires.turn in omega (arith, c.loop.invariant.0, turn-cell T c.loop.counter c.loop-test.true, turn-size T)

pub loop-preserved : goal.loop-preserved
loop-preserved c =
    let v = c.loop.invariant in (
      omega (arith, v.0),
      sized_same v.1 c.revive.auto.table,
      λ T. turn_more T _ c.loop-test.true (v.2 T) _ _ _ _ _ v.0 c.lowest-y.ensures refl c.revive.ensures c.keep.ensures,
    )

pub returns : goal.returns
returns c = λ T. turn-done T (omega arith) (c.loop.invariant.2 T)

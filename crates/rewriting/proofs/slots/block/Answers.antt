-- `rewriting::slots::block` meets its contract.
use mathlib.Core.Path.{refl}
use native.Mathlib.Omega.{arith}
use Rattle.table.proofs.WordLaws.{sized_same}
use Rattle.rewriting.proofs.SlotBlockLaws.{passed_none, passed-more, passed-all, digit-less, dart-fits, mark-some, turn_of}
use Rattle.rewriting.proofs.slots.block.Goals as goal

pub loop-rest-init : goal.loop-rest-init
loop-rest-init c = (c.requires.sized, passed_none)

pub overflow_sub-rest : goal.overflow_sub-rest
overflow_sub-rest c =
    let B = c.requires.block in (digit-less B.before B.grant (c.loop-rest.invariant.1 B) c.loop-rest-test.true _ refl).0

pub overflow_mul-u : goal.overflow_mul-u
overflow_mul-u c =
    let B = c.requires.block in omega (arith, dart-fits B.before B.grant (c.loop-rest.invariant.1 B) c.loop-rest-test.true _ refl, B.at.few)

pub overflow_add-u : goal.overflow_add-u
overflow_add-u c =
    let B = c.requires.block in omega (arith, dart-fits B.before B.grant (c.loop-rest.invariant.1 B) c.loop-rest-test.true _ refl, B.at.few)

pub word-r-requires : goal.word-r-requires
word-r-requires c =
    let B = c.requires.block in
    let p = c.loop-rest.invariant.1 B in
    omega (arith, dart-fits B.before B.grant p c.loop-rest-test.true _ refl, p.granting.store_long, B.grant.long)

pub overflow_sub-r : goal.overflow_sub-r
overflow_sub-r c =
    let B = c.requires.block in
    mark-some B.before B.grant (c.loop-rest.invariant.1 B) c.loop-rest-test.true _ refl _ c.word-r.ensures

pub turn-from-requires : goal.turn-from-requires
turn-from-requires c =
    let B = c.requires.block in
    let v = c.loop-rest.invariant in
    record { sized = v.0; turn = turn_of B.before B.grant (v.1 B) c.loop-rest-test.true _ refl _ c.word-r.ensures }

pub loop-rest-smaller : goal.loop-rest-smaller
loop-rest-smaller c =
    let B = c.requires.block in (digit-less B.before B.grant (c.loop-rest.invariant.1 B) c.loop-rest-test.true _ refl).1

pub loop-rest-preserved : goal.loop-rest-preserved
loop-rest-preserved c =
    let v = c.loop-rest.invariant in (
      sized_same v.0 c.turn-from.auto.table,
      λ B. passed-more B.before B.grant (v.1 B) c.loop-rest-test.true _ refl _ _ _ _ _ c.word-r.ensures refl c.turn-from.ensures,
    )

pub returns : goal.returns
returns c = λ B. passed-all B.before B.grant (c.loop-rest.invariant.1 B) c.loop-rest-test.false

-- `rewriting::slots::mark_bits` meets its contract.
use Rattle.std.proofs.Common.{arith}
use Rattle.rewriting.proofs.SlotBlockLaws.{digits-none, mark-word, mark-room, mark-more}
use Rattle.rewriting.proofs.slots.mark_bits.Goals as goal

pub loop-r-init : goal.loop-r-init
loop-r-init c = digits-none _ _ _ c.requires.no_digits

pub word-old-requires : goal.word-old-requires
word-old-requires c = mark-word _ _ _ c.requires.places_marked _ c.loop-r-test.true _ c.loop-r.invariant _ c.word-u.ensures

pub overflow_add-old : goal.overflow_add-old
overflow_add-old c =
    omega (arith, mark-room _ _ _ c.requires.places_marked _ c.loop-r-test.true _ c.loop-r.invariant _ c.word-u.ensures _ c.word-old.ensures)

pub keep-requires : goal.keep-requires
keep-requires c = (
  mark-word _ _ _ c.requires.places_marked _ c.loop-r-test.true _ c.loop-r.invariant _ c.word-u.ensures,
  mark-room _ _ _ c.requires.places_marked _ c.loop-r-test.true _ c.loop-r.invariant _ c.word-u.ensures _ c.word-old.ensures,
)

pub loop-r-preserved : goal.loop-r-preserved
loop-r-preserved c =
    mark-more _ _ _ c.requires.places_marked _ c.loop-r-test.true _ c.loop-r.invariant _ c.word-u.ensures
    _ c.word-old.ensures _ c.keep.ensures

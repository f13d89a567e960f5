-- `rewriting::room::note` meets its contract.
use native.Mathlib.Omega.{arith}
use Rattle.rewriting.proofs.RoomLaws.{noted_more, noted-slot}
use Rattle.rewriting.proofs.room.note.Goals as goal

pub tag-requires : goal.tag-requires
tag-requires c =
    noted-slot c.requires.holds_slots c.requires.row_before c.loop-r-test.true c.loop-r.invariant _ c.word-x.ensures

pub loop-r-preserved : goal.loop-r-preserved
loop-r-preserved c =
    noted_more c.loop-r.invariant (omega arith) (omega (arith, c.loop-r.invariant.long)) _ _ c.word-x.ensures c.tag.ensures

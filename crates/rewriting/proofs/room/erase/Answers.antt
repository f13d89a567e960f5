-- `rewriting::room::erase` meets its contract.
use Rattle.table.proofs.StageLaws.{stage_none, stage_more, stage_done}
use Rattle.table.proofs.WriteLaws.{blank-view}
use Rattle.orbit.specs.Store.{dart_at}
use Rattle.rewriting.specs.Room.{erased}
use Rattle.rewriting.proofs.LinkLaws.{slot_at}
use Rattle.rewriting.proofs.ClearLaws.{zeroed-at}
use Rattle.rewriting.proofs.room.erase.Goals as goal

pub loop-r-init : goal.loop-r-init
loop-r-init c = stage_none c.requires.sized

pub blank-requires-clause-slot_in_table : goal.blank-requires-clause-slot_in_table
blank-requires-clause-slot_in_table c = slot_at c.requires.holds_slots _ _ c.loop-r-test.true c.word-x.ensures

pub loop-r-preserved : goal.loop-r-preserved
unfolding dart_at
loop-r-preserved c =
    let v = c.loop-r.invariant in
    let slot = slot_at c.requires.holds_slots _ _ c.loop-r-test.true c.word-x.ensures in
    stage_more v c.loop-r-test.true c.blank.auto.table
    (zeroed-at _ _ _ _ (blank-view v.sized _ slot c.blank.ensures) c.word-x.ensures)

pub returns : goal.returns
unfolding erased
returns c = stage_done c.loop-r.invariant c.loop-r-test.false

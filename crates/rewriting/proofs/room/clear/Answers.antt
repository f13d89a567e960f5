-- `rewriting::room::clear` meets its contract.
use Rattle.std.proofs.Common.{ap, ◌∙◌}
use Rattle.model.specs.Map.{view}
use Rattle.table.proofs.StageLaws.{stage_none, stage_more, stage_done}
use Rattle.rewriting.specs.Room.{cleared}
use Rattle.rewriting.proofs.ClearLaws.{by-deleted, by-other}
use Rattle.rewriting.proofs.room.clear.Goals as goal
use Rattle.rewriting.proofs.room.clear.Goals.{then-deleted, else-deleted}

pub loop-v-init : goal.loop-v-init
loop-v-init c = stage_none c.requires.sized

pub loop-v-preserved : goal.loop-v-preserved
loop-v-preserved c =
    let shown = view c.args.slots in
    stage_more c.loop-v.invariant c.loop-v-test.true c.if-deleted.auto.table
    (elim c.if-deleted.branch [
      | then-deleted w ↦ by-deleted _ _ _ _ _ _ w.if-deleted.true (ap shown w.table-is ∙ w.erase.ensures)
      | else-deleted w ↦ by-other _ _ _ _ _ _ w.if-deleted.false (ap shown w.table-is)
    ])

pub returns : goal.returns
unfolding cleared
returns c = stage_done c.loop-v.invariant c.loop-v-test.false

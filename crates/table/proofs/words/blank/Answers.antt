-- `table::words::blank` meets its contract.
use native.Mathlib.Omega.{arith}
use Rattle.table.specs.Words.{blanked}
use Rattle.table.proofs.StageLaws.{stage_none, stage_more, stage_done}
use Rattle.table.proofs.words.blank.Goals as goal

pub loop-c-init : goal.loop-c-init
loop-c-init c = stage_none c.requires.sized

pub loop-c-preserved : goal.loop-c-preserved
loop-c-preserved c = stage_more c.loop-c.invariant (omega arith) c.put_at.auto.table c.put_at.ensures

pub returns : goal.returns
unfolding blanked
returns c = stage_done c.loop-c.invariant (omega arith)

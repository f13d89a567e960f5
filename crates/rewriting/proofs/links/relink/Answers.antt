-- `rewriting::links::relink` meets its contract.
use native.Mathlib.Omega.{arith}
use Rattle.table.proofs.StageLaws.{stage_none, stage_more, stage_done}
use Rattle.rewriting.specs.Links.{relinked}
use Rattle.rewriting.proofs.LinkLaws.{followed-at}
use Rattle.rewriting.proofs.links.relink.Goals as goal

pub loop-k-init : goal.loop-k-init
loop-k-init c = stage_none c.requires.sized

pub follow-requires : goal.follow-requires
follow-requires c = record {
  sized = c.loop-k.invariant.sized;
  holds_slots = c.requires.rows.at _ (omega arith);
  legible = rw c.from-code.ensures (c.requires.codes.at _ (omega arith));
  dimension = omega arith;
}

pub loop-k-preserved : goal.loop-k-preserved
loop-k-preserved c =
    stage_more c.loop-k.invariant c.loop-k-test.true c.follow.auto.table
    (followed-at _ _ _ _ _ _ _ _ _ _ c.follow.ensures c.from-code.ensures)

pub returns : goal.returns
unfolding relinked
returns c = stage_done c.loop-k.invariant c.loop-k-test.false

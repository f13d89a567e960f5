-- `incidence::cycles::cycle_fault` meets its contract.
use mathlib.Core.Path.{refl, ap, ◌∙◌}
use mathlib.Core.Bool.{not}
use native.Mathlib.Omega.{arith}
use Rattle.base.specs.First.{first}
use Rattle.base.proofs.FirstLaws.{first_more}
use Rattle.incidence.proofs.CycleSearchLaws.{passed_none, passed-pair, passed-dimension, passed-node}
use Rattle.incidence.proofs.CycleSearchLaws.{found-at-node, found-pair, found_no_pair}
use Rattle.incidence.proofs.cycles.cycle_fault.Goals as goal

pub nodes-init : goal.nodes-init
unfolding first
nodes-init c = (refl, refl)

pub loop-j-init : goal.loop-j-init
loop-j-init c = (passed_none, c.nodes.invariant.1)

pub loop-i-preserved : goal.loop-i-preserved
loop-i-preserved c = let v = c.loop-i.invariant in (passed-pair v.0 _ c.pair_ok.ensures c.if-not-pair_ok.false, v.1)

pub loop-j-preserved : goal.loop-j-preserved
loop-j-preserved c = let v = c.loop-i.invariant in (passed-dimension v.0 (omega arith), v.1)

pub nodes-preserved : goal.nodes-preserved
nodes-preserved c = let v = c.loop-j.invariant in (first_more _ _ c.nodes.invariant.0 (passed-node v.0 _ (omega arith)), v.1)

pub returns-then-not-pair_ok : goal.returns-then-not-pair_ok
returns-then-not-pair_ok c =
    found-pair _ _ _ _ _ _ _ c.nodes.invariant.0 _ (omega arith)
    (found-at-node c.loop-i.invariant.0 _ (omega arith) (omega arith) (omega arith) _ c.pair_ok.ensures (ap not c.if-not-pair_ok.true))

pub returns-after-nodes : goal.returns-after-nodes
returns-after-nodes c = let v = c.nodes.invariant in v.1 ∙ found_no_pair _ _ _ _ _ _ _ v.0 (omega arith) (omega arith)

-- `incidence::arcs_fault` meets its contract.
use Rattle.incidence.proofs.FaultLaws.{fault-incidence, fault_cycle}
use Rattle.incidence.proofs.arcs_fault.Goals as goal

pub returns-in-Some : goal.returns-in-Some
returns-in-Some c = fault-incidence _ _ _ _ _ _ _ _ _ c.unbalanced.ensures _ c.in-Some.is

pub returns : goal.returns
returns c = fault_cycle _ _ _ _ _ _ _ _ _ c.unbalanced.ensures c.in_default.is _ c.cycle_fault.ensures

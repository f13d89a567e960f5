-- `conditions::fault` meets its contract.
use Rattle.model.specs.Scheme.{left, right}
use Rattle.model.proofs.CodeLaws.{coded}
use Rattle.conditions.proofs.FaultLaws.{fault_asks, fault-hook, fault-arcs}
use Rattle.conditions.proofs.fault.Goals as goal

pub returns-in-Some : goal.returns-in-Some
returns-in-Some c = fault-hook _ _ _ _ _ _ _ _ _ _ _ _ _ c.hook_fault.ensures _ c.in-Some.is

pub arcs_fault-requires-clause-coding : goal.arcs_fault-requires-clause-coding
arcs_fault-requires-clause-coding c =
    let f = c.requires in
    (fault_asks _ f _ _ (coded _ f left) (coded _ f right)).1

pub returns : goal.returns
returns c = fault-arcs _ _ _ _ _ _ _ _ _ _ _ _ _ c.hook_fault.ensures c.in_default.is _ c.arcs_fault.ensures

-- Incidence, over the codes of arcs and the nodes with two arcs of one dimension; and the first fault of incidence and cycles.
use Rattle.std.specs.Prelude.{ℕ, suc, Bool, false, not, cond, List, get_or, eqb}
use Rattle.std.specs.Prelude.{Result, ⊤}
use Rattle.base.specs.Test.{◌or◌}
use Rattle.base.specs.Below.{all_below}
use Rattle.base.specs.First.{least, first, ◌or_else◌}
use Rattle.model.specs.Codes.{entry}
use Rattle.model.specs.Conditions.{noted}
use Rattle.model.specs.Answer.{fault_of}
use Rattle.model.specs.declared.Refusal.{Refusal}
use Rattle.model.specs.declared.Refusal.TheVariants.{BadIncidence}
use Rattle.incidence.specs.Cycles.{at_node}

-- a node of this kind may have these codes at a dimension: l on the left and r on the right, 255 for no arc; a second arc there is found apart
unfoldable pub paired : ℕ → ℕ → ℕ → Bool
paired kind l r = cond (eqb kind 1) (not (eqb l 255)) (cond (eqb kind 3) (not (eqb r 255)) (cond (eqb l 255) (eqb r 255) (not (eqb r 255))))

-- node s, of this kind, has at every dimension the arcs that its kind requires
unfoldable pub incident_by : ℕ → ℕ → List ℕ → List ℕ → ℕ → Bool
incident_by n kind lefts rights s = all_below (suc n) (λ i. paired kind (entry lefts s i) (entry rights s i))

-- s has two arcs of one dimension on a side, or lacks one that its kind requires
unfoldable pub offends : ℕ → List ℕ → List ℕ → List ℕ → List Bool → List Bool → ℕ → Bool
offends n kinds lefts rights left_twice right_twice s =
    get_or left_twice s false or (get_or right_twice s false or not (incident_by n (get_or kinds s 0) lefts rights s))

-- the fault of incidence, else that of the cycles
unfoldable pub arcs_fault : ℕ → ℕ → List ℕ → List ℕ → List ℕ → List ℕ → List Bool → List Bool → Result ⊤ Refusal
arcs_fault n nodes orbit kinds lefts rights left_twice right_twice =
    fault_of (noted BadIncidence (least nodes (offends n kinds lefts rights left_twice right_twice))
    or_else first nodes (at_node orbit kinds lefts rights n))

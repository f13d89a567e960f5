-- What judging a scheme finds: its first fault, if there is one.
use Rattle.std.specs.Prelude.{ℕ, Bool, List}
use Rattle.std.specs.Prelude.{Option, Some, None, Result, Err, ⊤}
use Rattle.model.specs.declared.Refusal.{Refusal}
use Rattle.model.specs.declared.Refusal.TheVariants.{BadHook}
use Rattle.conditions.specs.Hook.{hook_by}
use Rattle.incidence.specs.Incidence.{arcs_fault}

-- the hook's fault if there is one, else f
abbrev pub hook_else : Option ℕ → Result ⊤ Refusal → Result ⊤ Refusal
hook_else None f = f
hook_else (Some x) f = Err (BadHook x)

-- the first fault of a scheme, over its lists: the hook's, else that of the arcs
unfoldable pub fault_by : ℕ → ℕ → ℕ → List ℕ → List ℕ → List ℕ → ℕ → Option ℕ → List ℕ → List ℕ → List Bool → List Bool → Result ⊤ Refusal
fault_by n places nodes orbit kinds words second out lefts rights left_twice right_twice =
    hook_else (hook_by places orbit kinds words second out) (arcs_fault n nodes orbit kinds lefts rights left_twice right_twice)

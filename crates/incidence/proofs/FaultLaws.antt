-- The fault of incidence, then that of the cycles.
use Prim.Native.Nat.{ℕ}
use mathlib.Core.Path.{◌≡◌, sym, ◌∙◌}
use mathlib.Core.Bool.{Bool}
use mathlib.Core.List.{List}
use Rattle.std.specs.Prelude.{Option, Some, None, Result, Err, ⊤}
use Rattle.base.specs.First.{least, ◌or_else◌}
use Rattle.model.specs.declared.Refusal.{Refusal}
use Rattle.model.specs.declared.Refusal.TheVariants.{BadIncidence}
use Rattle.incidence.specs.Incidence.{offends, arcs_fault}
use Rattle.incidence.specs.Cycles.{cycles_fault}

module _ (n nodes : ℕ) (orbit kinds lefts rights : List ℕ) (ltwice rtwice : List Bool)
    (k : Option ℕ) (ek : k ≡ least nodes (offends n kinds lefts rights ltwice rtwice)) where
  pub fault-incidence : (x : ℕ) → k ≡ Some x → Err (BadIncidence x) ≡ arcs_fault n nodes orbit kinds lefts rights ltwice rtwice
  unfolding arcs_fault ◌or_else◌
  fault-incidence x e = rw (sym ek ∙ e)

  pub fault_cycle : k ≡ None → (r : Result ⊤ Refusal) → r ≡ cycles_fault orbit kinds lefts rights n nodes
      → r ≡ arcs_fault n nodes orbit kinds lefts rights ltwice rtwice
  unfolding arcs_fault cycles_fault ◌or_else◌
  fault_cycle e r g = rw (sym ek ∙ e) g

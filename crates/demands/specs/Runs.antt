-- Sequences of calls of a kernel, and what demand 3 says of them; its words as definitions for one call are in crates/model/specs/Sequence.antt.
use Rattle.std.specs.Prelude.{ℕ, Bool, true}
use mathlib.Core.List.{List, [], ◌∷◌, Forall₂}
use Rattle.model.specs.Map.{view}
use Rattle.model.specs.Alike.{Alike}
use Rattle.model.specs.Sequence.{BothHold, SameCall, Event, known_of, AlikeEvents}
use Rattle.demands.specs.Kernel.{Kernel}

-- a sequence of calls from the table t on, each with an outcome that the kernel allows; a call finds the table that the call before it left
pub data Run (K : Kernel) (n N : ℕ) : List ℕ → List Event → Type 0 where
  end : {t : List ℕ} → Run K n N t []
  next : {t : List ℕ} {e : Event} {s : List Event} → K.Does n N t e.call.request e.call.lent e.outcome
      → Run K n N e.outcome.table s → Run K n N t (e ∷ s)

-- two sequences side by side, alike after every call; `known` says whether the maps are known to be well-formed before the first call
pub data AlikeFrom (n N : ℕ) : Bool → List Event → List Event → Type 0 where
  alike_end : {known : Bool} → AlikeFrom n N known [] []
  alike_next : {known : Bool} {e e' : Event} {s s' : List Event} → AlikeEvents n N (known_of known e) e e' → AlikeFrom n N (known_of known e) s s'
      → AlikeFrom n N known (e ∷ s) (e' ∷ s')

-- from well-formed maps on that are alike, the same sequence of calls leaves alike maps after every call, with equal answers and equal files, and the
-- maps are well-formed from the start and from each table check that answers 0 until the next load
abbrev pub AlikeRuns : Kernel → Type 0
AlikeRuns K = (n N : ℕ) (t t' : List ℕ) → BothHold n N t t' → Alike (view N t) (view N t') → (s s' : List Event) → Run K n N t s → Run K n N t' s'
    → Forall₂ (λ e e'. SameCall e.call e'.call) s s' → AlikeFrom n N true s s'

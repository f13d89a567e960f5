-- Sequences of calls: what one call does to alike maps, a whole sequence does.
use Prim.Native.Nat.{ℕ}
use mathlib.Core.Path.{◌≡◌}
use mathlib.Core.Bool.{Bool, true}
use mathlib.Core.List.{List, Forall₂}
use Rattle.model.specs.Sequence.{AlikeTables, BothHold, SameCall, Event, known_of, AlikeEvents}
use Rattle.model.proofs.SequenceLaws.{alike-tables}
use Rattle.demands.specs.Kernel.{Kernel}
use Rattle.demands.specs.Runs.{Run, end, next, AlikeFrom, alike_end, alike_next, AlikeRuns}

-- the same call of alike maps, which are well-formed where they are known to be, leaves such maps
abbrev pub AlikeCall : Kernel → Type 0
AlikeCall K = (n N : ℕ) (t t' : List ℕ) → AlikeTables n N t t' → (known : Bool) → (known ≡ true → BothHold n N t t') → (e e' : Event)
    → SameCall e.call e'.call → K.Does n N t e.call.request e.call.lent e.outcome
    → K.Does n N t' e'.call.request e'.call.lent e'.outcome → AlikeEvents n N (known_of known e) e e'

module _ (K : Kernel) (call : AlikeCall K) where
  alike_from : (n N : ℕ) (t t' : List ℕ) → AlikeTables n N t t' → (known : Bool) → (known ≡ true → BothHold n N t t') → (s s' : List Event)
      → Run K n N t s → Run K n N t' s' → Forall₂ (λ e e'. SameCall e.call e'.call) s s' → AlikeFrom n N known s s'
  alike_from n N t t' a known k s s' end end Forall₂.nil = alike_end
  alike_from n N t t' a known k s s' end (next p q) lists = elim lists [ ]
  alike_from n N t t' a known k s s' (next p q) end lists = elim lists [ ]
  alike_from n N t t' a known k s s' (next {e = e} {s = r} p q) (next {e = e'} {s = r'} p' q') (Forall₂.cons same rest) =
      let now : AlikeEvents n N (known_of known e) e e' = call n N t t' a known k e e' same p p' in
      alike_next now (alike_from n N _ _ now.tables (known_of known e) now.well r r' q q' rest)

  pub alike_runs : AlikeRuns K
  alike_runs n N t t' h a = alike_from n N t t' (alike-tables n N t t' h a) true (λ e. h)

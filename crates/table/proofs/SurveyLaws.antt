-- What a survey tells: whether the map is well-formed, and how many darts are live.
use Prim.Native.Nat.{ℕ}
use mathlib.Core.Path.{◌≡◌, sym, ◌∙◌}
use mathlib.Core.Bool.{true, false}
use Rattle.std.specs.Prelude.{Option, Some, None}
use Rattle.base.specs.Below.{count_below}
use Rattle.base.proofs.FirstLaws.{when-at, when-none}
use Rattle.model.specs.Map.{Map, live}
use Rattle.model.specs.WellFormed.{well_formed}
use Rattle.table.specs.Slots.{surveyed}

module _ (n : ℕ) (m : Map) (f : Option ℕ) (s : f ≡ surveyed n m) where
  pub survey_live : (k : ℕ) → f ≡ Some k → (well_formed n m ≡ true) × (k ≡ count_below m.slots (live m))
  unfolding surveyed
  survey_live k e = let found = when-at _ (sym s ∙ e) in (found.0, sym found.1)

  pub survey_broken : f ≡ None → well_formed n m ≡ false
  unfolding surveyed
  survey_broken e = when-none _ _ (sym s ∙ e)

-- A loop over a table, step by step. `see` is what is seen in the table, its words or its map. After i steps it is what these steps make of what was
-- seen at first.
use Prim.Native.Nat.{ℕ, ◌+◌, ◌≤◌, ◌<◌}
use mathlib.Core.Path.{◌≡◌, refl, sym, ap, ◌∙◌}
use mathlib.Core.List.{List}
use native.Mathlib.Omega.{arith}
use lib.ListN.{length}
use Rattle.base.specs.Steps.{steps}
use Rattle.base.proofs.StepLaws.{steps-step}
use Rattle.table.specs.Words.{Sized}

module _ {A : Type 0} where
  -- the table t after i of `end` steps from t₀
  pub record Stage (N : ℕ) (see : List ℕ → A) (t₀ : List ℕ) (f : ℕ → A → A) (end i : ℕ) (t : List ℕ) : Type 0 where
    pub fits : i ≤ end
    pub sized : Sized N t
    pub made : see t ≡ steps i f (see t₀)

  module _ {N : ℕ} {see : List ℕ → A} {t₀ : List ℕ} {f : ℕ → A → A} {end : ℕ} where
    pub stage_none : Sized N t₀ → Stage N see t₀ f end 0 t₀
    unfolding steps
    stage_none s = record { fits = omega arith; sized = s; made = refl }

    module _ {i : ℕ} {t : List ℕ} (g : Stage N see t₀ f end i t) where
      pub stage_more : {t' : List ℕ} → i < end → length t' ≡ length t → see t' ≡ f i (see t) → Stage N see t₀ f end (i + 1) t'
      stage_more h l e = record {
        fits = omega arith;
        sized = record { few = g.sized.few; long = l ∙ g.sized.long };
        made = e ∙ ap (f i) g.made ∙ sym (steps-step f i (see t₀));
      }

      pub stage_length : Sized N t₀ → length t ≡ length t₀
      stage_length s = g.sized.long ∙ sym s.long

      pub stage_done : end ≤ i → see t ≡ steps end f (see t₀)
      stage_done h =
          let same : i ≡ end = omega (arith, g.fits) in
          g.made ∙ ap (λ (k : ℕ). steps k f (see t₀)) same

-- Laws of steps: what no step changes stays, and what one step alone changes is as that step makes it.
use Prim.Native.Nat.{ℕ, zero, suc, ◌+◌, ◌<◌}
use mathlib.Core.Path.{◌≡◌, refl, sym, ap, ◌∙◌}
use mathlib.Core.Logic.{⊎_elim}
use native.Mathlib.Nat.{not-suc-le-zero}
use native.Mathlib.Numerals.{add-one}
use native.Mathlib.Omega.{arith}
use Rattle.base.specs.Steps.{steps}
use Rattle.base.proofs.BelowLaws.{below_suc}

module _ {A : Type 0} (f : ℕ → A → A) where
  pub steps-step : (i : ℕ) (a : A) → steps (i + 1) f a ≡ f i (steps i f a)
  unfolding steps
  steps-step i a = rw add-one refl

  -- what each step keeps true
  module _ (Ok : A → Type 0) (keeps : (k : ℕ) (a : A) → Ok a → Ok (f k a)) where
    pub steps_keep : (n : ℕ) (a : A) → Ok a → Ok (steps n f a)
    unfolding steps
    steps_keep zero a o = o
    steps_keep (suc n) a o = keeps n (steps n f a) (steps_keep n a o)

    module _ {B : Type 0} (see : A → B) where
      -- what no step changes
      pub steps_leave : (n : ℕ) → ((k : ℕ) (a : A) → k < n → Ok a → see (f k a) ≡ see a) → (a : A) → Ok a → see (steps n f a) ≡ see a
      unfolding steps
      steps_leave zero h a o = refl
      steps_leave (suc n) h a o =
          h n (steps n f a) (omega arith) (steps_keep n a o) ∙ steps_leave n (λ k b l p. h k b (omega arith) p) a o

      -- what step k alone changes
      pub steps-one : (n k : ℕ) → k < n → ((j : ℕ) (a : A) → j < n → (j ≡ k → ⊥) → Ok a → see (f j a) ≡ see a)
          → (g : B → B) → ((a : A) → Ok a → see (f k a) ≡ g (see a)) → (a : A) → Ok a → see (steps n f a) ≡ g (see a)
      unfolding steps
      steps-one zero k l h g e a o = absurd (not-suc-le-zero l)
      steps-one (suc n) k l h g e a o = ⊎_elim
          (λ w. ap (λ (j : ℕ). see (f j (steps n f a))) (sym w)
          ∙ e (steps n f a) (steps_keep n a o)
          ∙ ap g (steps_leave n (λ j b m p. h j b (omega arith) (λ q. omega arith) p) a o))
          (λ w. h n (steps n f a) (omega arith) (λ q. omega arith) (steps_keep n a o)
          ∙ steps-one n k w (λ j b m q p. h j b (omega arith) q p) g e a o)
          (below_suc l)

-- the same, where nothing has to be kept true
module _ {A B : Type 0} (f : ℕ → A → A) (see : A → B) where
  pub steps-untouched : (n : ℕ) → ((k : ℕ) (a : A) → k < n → see (f k a) ≡ see a) → (a : A) → see (steps n f a) ≡ see a
  steps-untouched n h a = steps_leave f (λ b. b ≡ b) (λ k b o. refl) see n (λ k b l o. h k b l) a refl

  pub steps-alone : (n k : ℕ) → k < n → ((j : ℕ) (a : A) → j < n → (j ≡ k → ⊥) → see (f j a) ≡ see a)
      → (g : B → B) → ((a : A) → see (f k a) ≡ g (see a)) → (a : A) → see (steps n f a) ≡ g (see a)
  steps-alone n k l h g e a = steps-one f (λ b. b ≡ b) (λ j b o. refl) see n k l (λ j b m ne o. h j b m ne) g (λ b o. e b) a refl

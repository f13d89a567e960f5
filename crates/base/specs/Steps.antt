-- Steps that are taken one after the other, as by a loop that counts.
use Rattle.std.specs.Prelude.{ℕ, zero, suc}

module _ {A : Type 0} where
  -- from a, step 0, then step 1, .., step n - 1
  unfoldable pub steps : ℕ → (ℕ → A → A) → A → A
  steps zero f a = a
  steps (suc n) f a = f n (steps n f a)

-- What is found first: the first of several that is there, the least number below a bound, the k-th lowest.
use Rattle.std.specs.Prelude.{ℕ, zero, suc, Bool, true, false, eqb}
use Rattle.std.specs.Prelude.{Option, Some, None}
use Rattle.base.specs.Test.{◌and◌}
use Rattle.base.specs.Below.{count_below}

module _ {A : Type 0} where
  -- a, where the test holds
  unfoldable pub some_if : Bool → A → Option A
  some_if true a = Some a
  some_if false a = None

  -- the first of two that is there
  infixr 25 ◌or_else◌
  unfoldable pub ◌or_else◌ : Option A → Option A → Option A
  Some a or_else o = Some a
  None or_else o = o

  unfoldable pub there : Option A → Bool
  there None = false
  there (Some a) = true

  -- what f gives at the least number below n at which it gives anything
  unfoldable pub first : ℕ → (ℕ → Option A) → Option A
  first zero f = None
  first (suc n) f = first n f or_else f n

-- the least number below n that has p
unfoldable pub least : ℕ → (ℕ → Bool) → Option ℕ
least n p = first n (λ x. some_if (p x) x)

-- the k-th lowest number below n that has p, counted from 0
unfoldable pub nth_lowest : ℕ → (ℕ → Bool) → ℕ → Option ℕ
nth_lowest n p k = least n (λ x. p x and eqb (count_below x p) k)

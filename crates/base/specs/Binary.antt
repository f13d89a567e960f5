-- A set of numbers below a bound as the digits of one number.
use Rattle.std.specs.Prelude.{ℕ, zero, suc, ◌+◌, ◌*◌, Bool}
use Rattle.base.specs.Test.{bit}

-- the number of n binary digits whose k-th digit, counted from the lowest, is set where p k
unfoldable pub binary : ℕ → (ℕ → Bool) → ℕ
binary zero p = 0
binary (suc n) p = bit (p 0) + 2 * binary n (λ k. p (suc k))

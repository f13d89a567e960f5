-- Keys in strictly ascending order: it is enough to compare each with the one before it, and keys below a bound are at most as many.
use Prim.Native.Nat.{ℕ, zero, suc, ◌+◌, ◌≤◌, ◌<◌}
use mathlib.Core.Path.{◌≡◌, refl}
use mathlib.Core.Logic.{⊎_elim}
use mathlib.Core.Bool.{true, false}
use native.Mathlib.Numerals.{add-one}
use native.Mathlib.Omega.{arith}
use lib.Dec.{ltb}
use borrow.Author.Tests.{lt-ltb, le-ltb, ltb-true}
use Rattle.base.specs.Below.{all_below}
use Rattle.base.proofs.TestLaws.{refuted}
use Rattle.base.proofs.BelowLaws.{below_suc, all-at, all_of}

module _ (key : ℕ → ℕ) where
  -- one more than the key before a, 0 where there is none
  unfoldable pub above : ℕ → ℕ
  above zero = 0
  above (suc a) = key a + 1

  pub above_step : (a : ℕ) → above (a + 1) ≡ key a + 1
  unfolding above
  above_step a = rw (add-one a) refl

  -- where the keys below a ascend, one that is above the last is above them all
  pub ascends : (a : ℕ) → ((p : ℕ) → p < a → all_below p (λ o. ltb (key o) (key p)) ≡ true) → above a ≤ key a → all_below a (λ o. ltb (key o) (key a)) ≡ true
  unfolding above
  ascends zero up h = all_of 0 _ (λ k l. absurd (omega arith))
  ascends (suc a) up h = all_of (suc a) _ (λ k l. ⊎_elim
      (λ w. lt-ltb (key k) (key (suc a)) (rw w (omega arith)))
      (λ w. let u : key k < key a = ltb-true (key k) (key a) (all-at a _ (up a (omega arith)) k w) in lt-ltb (key k) (key (suc a)) (omega arith))
      (below_suc l))

  pub descends : (a : ℕ) → key a < above a → all_below a (λ o. ltb (key o) (key a)) ≡ false
  unfolding above
  descends zero h = absurd (omega arith)
  descends (suc a) h = refuted (λ q. all-at (suc a) _ q a (omega arith)) (le-ltb (key a) (key (suc a)) (omega arith))

  -- in ascending order a key is at least its place
  ascending_far : (n : ℕ) → ((o a : ℕ) → o < a → a < n → key o < key a) → (a : ℕ) → a < n → a ≤ key a
  ascending_far n up zero h = omega arith
  ascending_far n up (suc a) h = omega (arith, ascending_far n up a (omega arith), up a (suc a) (omega arith) h)

  -- there are at most as many keys in ascending order as there are numbers below their bound
  pub ascending_few : (n bound : ℕ) → ((o a : ℕ) → o < a → a < n → key o < key a) → ((a : ℕ) → a < n → key a < bound) → n ≤ bound
  ascending_few zero bound up low = omega arith
  ascending_few (suc n) bound up low = omega (arith, ascending_far (suc n) up n (omega arith), low n (omega arith))

-- Lists made from the numbers below a bound.
use Rattle.std.specs.Prelude.{ℕ, zero, suc, List, [], ◌∷◌, ◌++◌}

module _ {ℓ} {A : Type ℓ} where
  -- f k, f (k + 1), .., n of them
  unfoldable pub list_from : ℕ → ℕ → (ℕ → A) → List A
  list_from k zero f = []
  list_from k (suc n) f = f k ∷ list_from (suc k) n f

  -- f 0, .., f (n - 1)
  unfoldable pub list : ℕ → (ℕ → A) → List A
  list n f = list_from 0 n f

  -- one list after the other: f 0 ++ .. ++ f (n - 1)
  unfoldable pub joined : ℕ → (ℕ → List A) → List A
  joined zero f = []
  joined (suc n) f = joined n f ++ f n

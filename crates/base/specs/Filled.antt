-- Lists that are filled from their start, and lists into which a part of another is stored.
use Rattle.std.specs.Prelude.{ℕ, zero, suc, ◌+◌, cond, List, get_or, set, ltb}
use Rattle.base.specs.Lists.{list}

-- n long: the f k for k below j, then z
unfoldable pub filled : ℕ → ℕ → (ℕ → ℕ) → ℕ → List ℕ
filled n j f z = list n (λ k. cond (ltb k j) (f k) z)

-- l with the m words of s from `at` on stored from `base` on
unfoldable pub stored : List ℕ → ℕ → List ℕ → ℕ → ℕ → List ℕ
stored l base s at zero = l
stored l base s at (suc m) = set (stored l base s at m) (base + m) (get_or s (at + m) 0)

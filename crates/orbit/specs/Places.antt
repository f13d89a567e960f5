-- The store after a slot took a place, and after all marks were cleared.
use Rattle.std.specs.Prelude.{ℕ, ◌+◌, ◌*◌, ◌<◌, ◌≡◌, List, ◌++◌, length, set, drop, replicate}
use Rattle.orbit.specs.Store.{mark, Taken}

-- slot y takes the place `end`
unfoldable pub pushed : ℕ → List ℕ → ℕ → ℕ → List ℕ
pushed N s end y = set (set s y (end + 1)) (N + end) y

pub record Pushed (N : ℕ) (s : List ℕ) (end y : ℕ) (s' : List ℕ) : Type 0 where
  pub is : s' ≡ pushed N s end y
  pub taken : Taken N s' (end + 1)

-- no slot is marked, and every word behind the marks is as it was
unfoldable pub unmarked : ℕ → List ℕ → List ℕ
unmarked N s = replicate N 0 ++ drop N s

-- a store for N slots of which none is marked
pub record Blank (N : ℕ) (s : List ℕ) : Type 0 where
  pub long : length s ≡ 16 * N
  pub none : (x : ℕ) → x < N → mark s x ≡ 0

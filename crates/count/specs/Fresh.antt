-- Where a walk begins.
use Rattle.std.specs.Prelude.{ℕ, Bool, not, List}
use Rattle.base.specs.Test.{◌and◌}
use Rattle.model.specs.Map.{Map, live}
use Rattle.orbit.specs.Store.{marked}

-- x is a live dart, and no walk has given it a place
unfoldable pub is_fresh : Map → List ℕ → ℕ → Bool
is_fresh m s x = not (marked s x) and live m x

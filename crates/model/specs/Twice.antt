-- Which nodes have two arcs of a dimension. No rule of document 01 uses this by itself: who reads a scheme notes it, for the test of incidence.
use Rattle.std.specs.Prelude.{ℕ, Bool, List, leb}
use Rattle.base.specs.Below.{any_below}
use Rattle.base.specs.Lists.{list}
use Rattle.model.specs.Scheme.{Side}
use Rattle.model.specs.Conditions.{arcs_of_dim}
use Rattle.model.specs.declared.Scheme.{Scheme}

-- s has two arcs of a dimension, explicit and implicit together
unfoldable pub twice_at : Scheme → Side → ℕ → Bool
twice_at S side s = any_below 4 (λ i. leb 2 (arcs_of_dim S side s i))

-- of each of sixteen nodes
unfoldable pub twice_of : Scheme → Side → List Bool
twice_of S side = list 16 (twice_at S side)

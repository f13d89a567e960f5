-- The cells of a map, counted: "A cell is counted by its smallest dart. Vertices are orbits of all links but 0, edges all but 1, faces all but 2,
-- volumes all but 3, pieces all links." An orbit type is given by its count k and its dimensions, as in Orbit.antt.
use Rattle.std.specs.Prelude.{ℕ, zero, suc, ◌+◌, Bool, not, cond, List, [], ◌∷◌, eqb, ltb}
use Rattle.base.specs.Test.{◌and◌}
use Rattle.base.specs.Below.{any_below, count_below}
use Rattle.model.specs.Map.{Map, live}
use Rattle.model.specs.Orbit.{orbit}

module _ (m : Map) (k : ℕ) (dim : ℕ → ℕ) where
  -- x is a live dart, and no smaller one is in its orbit
  unfoldable pub smallest : ℕ → Bool
  smallest x = live m x and not (any_below x (orbit m k dim x))

  -- y is in the orbit of a live dart below x: what a loop that walks each orbit from its smallest dart has reached before x
  unfoldable pub reached_below : ℕ → ℕ → Bool
  reached_below x y = any_below x (λ z. live m z and orbit m k dim z y)

  -- how many orbits there are
  unfoldable pub cells : ℕ
  cells = count_below m.slots smallest

  -- the sum of the sizes of those orbits whose smallest dart is below x; over all slots it is the live darts (`cells_cover` of proofs/CountLaws.antt)
  unfoldable pub sizes_below : ℕ → ℕ
  sizes_below zero = 0
  sizes_below (suc x) = sizes_below x + cond (smallest x) (count_below m.slots (orbit m k dim x)) 0

-- the dimensions without i, ascending
unfoldable pub all_but : ℕ → ℕ → ℕ
all_but i p = cond (ltb p i) p (p + 1)

-- all dimensions, ascending
abbrev pub all : ℕ → ℕ
all p = p

-- live darts, vertices, edges, faces, pieces, volumes, where volumes are 0 with n = 2
unfoldable pub counts : ℕ → Map → List ℕ
counts n m = count_below m.slots (live m) ∷ cells m n (all_but 0) ∷ cells m n (all_but 1) ∷ cells m n (all_but 2) ∷ cells m (n + 1) all
    ∷ cond (eqb n 3) (cells m n (all_but 3)) 0 ∷ []

-- Writing in a map: the map once the words of one field, or of one slot, are replaced. Nothing here knows how a table holds them.
use Rattle.std.specs.Prelude.{ℕ, cond, eqb}
use Rattle.model.specs.Map.{Map, Field, State, Link, Tag}

-- the words of a field with v at slot x
unfoldable pub set_at : (ℕ → ℕ) → ℕ → ℕ → ℕ → ℕ
set_at l x v y = cond (eqb y x) v (l y)

-- m with l as the words of a field
unfoldable pub with_field : Map → Field → (ℕ → ℕ) → Map
with_field m State l = record { slots = m.slots; state = l; link = m.link; tag = m.tag }
with_field m (Link i) l = record { slots = m.slots; state = m.state; link = λ j. cond (eqb j i) l (m.link j); tag = m.tag }
with_field m Tag l = record { slots = m.slots; state = m.state; link = m.link; tag = l }

-- m with zeros as the words of slot x
unfoldable pub zeroed : ℕ → Map → Map
zeroed x m = record { slots = m.slots; state = set_at m.state x 0; link = λ i. set_at (m.link i) x 0; tag = set_at m.tag x 0 }

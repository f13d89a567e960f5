-- 'The dart table': a map looked at through a view, the state, links and tag of each slot. All rules are over the view.
-- The table's layout is `record_size`, `offset` and `record_of`; beside the crate `table`, nothing else knows it.
use Rattle.std.specs.Prelude.{ℕ, ◌+◌, ◌*◌, Bool, cond, List, [], ◌∷◌, get_or, set, eqb, leb}
use Rattle.base.specs.Lists.{joined}

-- the greatest number of slots
abbrev pub max_slots : ℕ
max_slots = 1024

-- `link i x` is αi(x)
pub record Map : Type 0 where
  pub slots : ℕ
  pub state : ℕ → ℕ
  pub link : ℕ → ℕ → ℕ
  pub tag : ℕ → ℕ

-- the words of a record by name
pub data Field : Type 0 where
  State : Field
  Link : ℕ → Field
  Tag : Field

abbrev pub field_of : Map → Field → ℕ → ℕ
field_of m State x = m.state x
field_of m (Link i) x = m.link i x
field_of m Tag x = m.tag x

-- a record has the fields of a dimension up to 3
abbrev pub dimension : Field → ℕ
dimension State = 0
dimension (Link i) = i
dimension Tag = 0

-- ---- the layout

-- how many words a record has
abbrev pub record_size : ℕ
record_size = 6

-- which of them a field is
abbrev pub offset : Field → ℕ
offset State = 0
offset (Link i) = 1 + i
offset Tag = 5

-- the words of a slot
abbrev pub record_of : Map → ℕ → List ℕ
record_of m x = m.state x ∷ m.link 0 x ∷ m.link 1 x ∷ m.link 2 x ∷ m.link 3 x ∷ m.tag x ∷ []

-- how many words a table of N slots has
abbrev pub table_size : ℕ → ℕ
table_size N = record_size * N

-- the word of a slot in a table; 0 for a link that a record has not
unfoldable pub field_at : List ℕ → Field → ℕ → ℕ
field_at t f x = cond (leb (dimension f) 3) (get_or t (record_size * x + offset f) 0) 0

-- the table with v as the word of a slot
unfoldable pub put : List ℕ → Field → ℕ → ℕ → List ℕ
put t f x v = set t (record_size * x + offset f) v

-- the map in a table of N slots
abbrev pub view : ℕ → List ℕ → Map
view N t = record { slots = N; state = field_at t State; link = λ i. field_at t (Link i); tag = field_at t Tag }

-- the table of a map
unfoldable pub table_of : Map → List ℕ
table_of m = joined m.slots (record_of m)

-- "State 1 is live and 0 unused."
abbrev pub live : Map → ℕ → Bool
live m x = eqb (m.state x) 1

abbrev pub unused : Map → ℕ → Bool
unused m x = eqb (m.state x) 0

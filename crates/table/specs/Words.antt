-- A table of a size that the kernel takes, and a table in which a record became zeros.
use Rattle.std.specs.Prelude.{ℕ, ◌+◌, ◌*◌, ◌≤◌, ◌≡◌, List, length, set}
use Rattle.base.specs.Steps.{steps}
use Rattle.model.specs.Map.{record_size, table_size, max_slots}

-- t has the size of a table for `slots` slots, and the kernel takes that number
pub record Sized (slots : ℕ) (t : List ℕ) : Type 0 where
  pub few : slots ≤ max_slots
  pub long : length t ≡ table_size slots

-- the table with zeros as the record of slot x
unfoldable pub blanked : ℕ → List ℕ → List ℕ
blanked x = steps record_size (λ c t. set t (record_size * x + c) 0)

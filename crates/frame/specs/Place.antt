-- What the cursor's methods answer at a place of the bytes.
use Rattle.std.specs.Prelude.{ℕ, ◌+◌, ◌*◌, ◌≡◌, Bool, cond, List, length, ltb, leb, Option, Some, None}
use Rattle.base.specs.Test.{◌and◌}
use Rattle.model.specs.Bytes.{byte}
use Rattle.frame.specs.declared.cursor.Cursor.{Cursor}
use Rattle.frame.specs.declared.cursor.Arc.{Arc}

-- r is the byte of b at `at`, and the place after it
pub record TakenAt (b : List ℕ) (at : ℕ) (r : ℕ × Cursor) : Type 0 where
  pub value_is : r.0 ≡ byte b at
  pub next_is : r.1.at ≡ at + 1

-- r is the three bytes of b from `at` on, and the place after them
pub record ArcAt (b : List ℕ) (at : ℕ) (r : Arc × Cursor) : Type 0 where
  pub dim_is : r.0.dim ≡ byte b at
  pub near_is : r.0.near ≡ byte b (at + 1)
  pub far_is : r.0.far ≡ byte b (at + 2)
  pub next_is : r.1.at ≡ at + 3

unfoldable pub step_at : List ℕ → ℕ → Option (ℕ × Cursor)
step_at b at = cond (ltb at (length b)) (Some (byte b at, record { at = at + 1 })) None

-- the place after a section whose count is at `at` and whose items have `size` bytes each
unfoldable pub after : List ℕ → ℕ → ℕ → ℕ
after b at size = at + 1 + byte b at * size

-- the count at `at` is from `least` to `most`, and its items lie within the bytes
unfoldable pub fits : List ℕ → ℕ → ℕ → ℕ → ℕ → Bool
fits b at least most size = leb least (byte b at) and leb (byte b at) most and leb (after b at size) (length b)

unfoldable pub section_at : List ℕ → ℕ → ℕ → ℕ → ℕ → Option (ℕ × Cursor)
section_at b at least most size =
    cond (fits b at least most size) (Some (byte b at, record { at = after b at size })) None

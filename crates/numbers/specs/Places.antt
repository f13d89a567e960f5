-- What is between two places of a list of bytes: a number that was read there, or bytes that were put there.
use Rattle.std.specs.Prelude.{ℕ, ◌+◌, ◌^◌, ◌<◌, ◌≡◌, ◌⊎◌, List, length}
use Rattle.std.proofs.lemmas.List.Edits.{sets}
use Rattle.base.specs.Digits.{number_at}
use Rattle.numbers.specs.declared.Cursor.{Cursor}

-- the widths that the numbers of a file may have
abbrev pub Width : ℕ → Type 0
Width w = (w ≡ 2) ⊎ (w ≡ 4)

-- r is the number in the `width` bytes of b from `at` on, and the place after them
pub record NumberRead (width : ℕ) (b : List ℕ) (at : ℕ) (r : ℕ × Cursor) : Type 0 where
  pub value : r.0 ≡ number_at width b at
  pub small : r.0 < 256 ^ width
  pub next : r.1.at ≡ at + width

-- l' is l with the bytes vs from `at` on, and `next` is the place after them
pub record Put (l : List ℕ) (at : ℕ) (vs l' : List ℕ) (next : ℕ) : Type 0 where
  pub bytes : l' ≡ sets l at vs
  pub after : next ≡ at + length vs

-- The form of a file whose numbers have w bytes, test by test. It stands for `form_in` (proofs/FormLaws.antt).
use Rattle.std.specs.Prelude.{ℕ, ◌+◌, ◌≡◌, ◌⊎◌, Bool, Option, List, length, eqb, ltb}
use Rattle.base.specs.Test.{◌and◌}
use Rattle.base.specs.Below.{all_below}
use Rattle.base.specs.First.{some_if}
use Rattle.base.specs.Digits.{number_at}
use Rattle.model.specs.File.{width, tags_from, links_from, size_in, darts_in, slot_in}
use Rattle.numbers.specs.Places.{Width}

-- the numbers have two bytes or four, and n is 2 or 3
pub record Kind (w n : ℕ) : Type 0 where
  pub width : Width w
  pub dimension : (n ≡ 2) ⊎ (n ≡ 3)

unfoldable pub head_ok : ℕ → ℕ → ℕ → List ℕ → Bool
head_ok w n N b = eqb (number_at 1 b 0) n and eqb (number_at w b 1) N

unfoldable pub counts_ok : ℕ → List ℕ → ℕ → Bool
counts_ok w b L = eqb (number_at w b (tags_from w L)) L and eqb (number_at w b (links_from w L)) L

-- how many bytes a map file of L darts has
abbrev pub file_size : ℕ → ℕ → ℕ
file_size n L = size_in width n L

-- all but the slots of the darts
unfoldable pub frame_ok : ℕ → ℕ → ℕ → List ℕ → Bool
frame_ok w n N b = head_ok w n N b and counts_ok w b (darts_in w b) and eqb (length b) (size_in w n (darts_in w b))

-- how many darts the frame has room for
unfoldable pub framed : ℕ → ℕ → ℕ → List ℕ → Option ℕ
framed w n N b = some_if (frame_ok w n N b) (darts_in w b)

-- each of the first k slots is below the one after it
unfoldable pub rises : ℕ → List ℕ → ℕ → Bool
rises w b k = all_below k (λ o. ltb (slot_in w b o) (slot_in w b (o + 1)))

unfoldable pub slots_ok : ℕ → ℕ → List ℕ → ℕ → Bool
slots_ok w N b L = all_below L (λ k. ltb (slot_in w b k) N and all_below k (λ o. ltb (slot_in w b o) (slot_in w b k)))

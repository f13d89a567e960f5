-- The words of the nodes by their place in the bytes and by their place in the value.
use Rattle.std.specs.Prelude.{ℕ, ◌+◌, ◌/◌, ◌%◌, ◌≤◌, ◌<◌, ◌≡◌, Bool, false, List, length, eqb, leb}
use Rattle.base.specs.Test.{◌and◌, ◌or◌, ◌⇒◌}
use Rattle.base.specs.Below.{all_below}
use Rattle.model.specs.Bytes.{byte, dimension_of, places_of, node_at, kind_at, word_at, up_to}
use Rattle.model.specs.Scheme.{Side, left, right}
use Rattle.scheme.specs.declared.side.Side.{Side as Named}
use Rattle.scheme.specs.declared.side.Side.TheVariants.{Left, Right}

-- the side that the reader names
abbrev pub side_of : Named → Side
side_of Left = left
side_of Right = right

-- the kind of node that may not occur on a side: 3 (added) on the left, 1 (deleted) on the right
abbrev pub barred : Side → ℕ
barred left = 3
barred right = 1

-- where the word of node s on a side begins
abbrev pub word_place : List ℕ → Side → ℕ → ℕ
word_place b left s = node_at b s + 1
word_place b right s = node_at b s + 1 + places_of b

-- entry k of a side's words: byte k % 4 of the word of node k / 4, and 255 past the end of the word
unfoldable pub row : List ℕ → Side → ℕ → ℕ
row b side k = up_to (places_of b) (k % 4) (word_at b side (k / 4) (k % 4)) 255

-- what `word_form` and `word_empty` test of a word that begins at `at`
module _ (b : List ℕ) where
  unfoldable pub fresh_at : ℕ → ℕ → ℕ → Bool
  fresh_at at d o = eqb (byte b (at + o)) d ⇒ false

  unfoldable pub empty_at : ℕ → ℕ → Bool
  empty_at at p = eqb (byte b (at + p)) 255

  unfoldable pub fits_at : ℕ → ℕ → ℕ → Bool
  fits_at n at p = eqb (byte b (at + p)) 255 or leb (byte b (at + p)) n and all_below p (fresh_at at (byte b (at + p)))

-- what is known before the word of node s on a side is read
pub record Placed (b : List ℕ) (side : Side) (s kind n places at : ℕ) : Type 0 where
  pub kind_is : kind ≡ kind_at b s
  pub kind_some : 1 ≤ kind
  pub kind_few : kind ≤ 3
  pub n_is : n ≡ dimension_of b
  pub dim : n ≤ 3
  pub places_is : places ≡ places_of b
  pub few : places_of b ≤ 4
  pub small : s < 16
  pub at_is : at ≡ word_place b side s
  pub inside : at + places ≤ length b

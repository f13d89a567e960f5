-- The records of a file's darts, word by word.
use Rattle.std.specs.Prelude.{ℕ, zero, suc, ◌+◌, ◌*◌, ◌<◌, ◌≡◌, cond, List, length, get_or, eqb, leb}
use Rattle.base.specs.First.{least}
use Rattle.base.specs.Lists.{list}
use Rattle.base.specs.Digits.{number_at}
use Rattle.model.specs.File.{size_in, at_place, darts_in, slot_in, tag_in, link_in}
use Rattle.model.specs.Map.{Field, State, Link, Tag, put}

-- what the form says of the darts
pub record Formed (w n N : ℕ) (b : List ℕ) : Type 0 where
  pub size : length b ≡ size_in w n (darts_in w b)
  pub below : (k : ℕ) → k < darts_in w b → slot_in w b k < N
  pub ascends : (j k : ℕ) → j < k → k < darts_in w b → slot_in w b j < slot_in w b k

-- αi of x, where its links stand from `at` on
unfoldable pub link_word : ℕ → ℕ → List ℕ → ℕ → ℕ → ℕ → ℕ
link_word w n b at x i = cond (leb i n) (number_at w b (at + w * i)) x

abbrev pub link_of : List ℕ → ℕ → ℕ
link_of l i = get_or l i 0

-- l has the links of x
abbrev pub LinksOf : (w n : ℕ) (b : List ℕ) (at x : ℕ) (l : List ℕ) → Type 0
LinksOf w n b at x l = l ≡ list 4 (link_word w n b at x)

-- the words of the k-th dart
unfoldable pub row_of : ℕ → ℕ → List ℕ → ℕ → Field → ℕ
row_of w n b k State = 1
row_of w n b k (Link i) = cond (leb i n) (link_in w b n k i) (slot_in w b k)
row_of w n b k Tag = tag_in w b k

-- t with g 0 to g (k - 1) as the first k links of x
unfoldable pub put_links : List ℕ → ℕ → (ℕ → ℕ) → ℕ → List ℕ
put_links t x g zero = t
put_links t x g (suc k) = put (put_links t x g k) (Link k) x (g k)

-- t with g f as each word f of x
unfoldable pub put_row : List ℕ → ℕ → (Field → ℕ) → List ℕ
put_row t x g = put (put_links (put t State x (g State)) x (λ i. g (Link i)) 4) Tag x (g Tag)

-- a word of x once the first k darts of the file are entered
unfoldable pub word_of : ℕ → ℕ → List ℕ → ℕ → ℕ → Field → ℕ
word_of w n b k x f = at_place (least k (λ o. eqb (slot_in w b o) x)) (λ o. row_of w n b o f)

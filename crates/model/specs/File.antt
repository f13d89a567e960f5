-- 'The map file': the bytes that are written for a map, when bytes are a map file, and the map that is loaded from them.
-- What ends in `In` is over the width w of a file's numbers. A map file is the instance at `width`, which stands nowhere else.
use Rattle.std.specs.Prelude.{ℕ, suc, ◌+◌, ◌*◌, Bool, cond, List, [], ◌++◌, length, eqb, ltb, leb}
use Rattle.std.specs.Prelude.{Option, Some, None}
use Rattle.base.specs.Test.{◌and◌, bit}
use Rattle.base.specs.Below.{all_below, count_below}
use Rattle.base.specs.First.{least, there}
use Rattle.base.specs.Lists.{joined}
use Rattle.base.specs.Digits.{bytes_of, number_at}
use Rattle.model.specs.Map.{Map, live}

-- how many bytes N, a count, a slot and a link have
abbrev pub width : ℕ
width = 2

-- ---- the places, in a file of L darts

-- where the sections of the slots, the tags and the links begin, each with its count
abbrev pub slots_from : ℕ → ℕ
slots_from w = 1 + w

abbrev pub tags_from : ℕ → ℕ → ℕ
tags_from w L = 1 + 2 * w + w * L

abbrev pub links_from : ℕ → ℕ → ℕ
links_from w L = 1 + 3 * w + (w + 4) * L

-- how many bytes it has: 9 + L × (6 + 2 × (n + 1)) with numbers of two bytes
abbrev pub size_in : ℕ → ℕ → ℕ → ℕ
size_in w n L = 1 + 4 * w + L * (4 + w + w * (n + 1))

-- ---- written

-- "the number L of live darts"
unfoldable pub live_darts : Map → ℕ
live_darts m = count_below m.slots (live m)

-- a section: its count, then f x for each live x, ascending
unfoldable pub section : ℕ → Map → (ℕ → List ℕ) → List ℕ
section w m f = bytes_of w (live_darts m) ++ joined m.slots (λ x. cond (live m x) (f x) [])

-- "One byte n; two bytes N; then three sections": slots, tags of four bytes, links α0 to αn. "Numbers are little-endian"
unfoldable pub file_in : ℕ → ℕ → Map → List ℕ
file_in w n m = bytes_of 1 n ++ bytes_of w m.slots
    ++ section w m (bytes_of w)
    ++ section w m (λ x. bytes_of 4 (m.tag x))
    ++ section w m (λ x. joined (suc n) (λ i. bytes_of w (m.link i x)))

abbrev pub file : ℕ → Map → List ℕ
file n m = file_in width n m

-- ---- loaded

-- f of a place in the file, or 0 where there is none
abbrev pub at_place : Option ℕ → (ℕ → ℕ) → ℕ
at_place None f = 0
at_place (Some k) f = f k

module _ (w : ℕ) (b : List ℕ) where
  -- L, and the slot and the tag of the k-th dart of the file
  abbrev pub darts_in : ℕ
  darts_in = number_at w b (slots_from w)

  unfoldable pub slot_in : ℕ → ℕ
  slot_in k = number_at w b (slots_from w + w + w * k)

  unfoldable pub tag_in : ℕ → ℕ
  tag_in k = number_at 4 b (tags_from w darts_in + w + 4 * k)

  -- αi of the k-th dart of the file, which has n + 1 links for each
  unfoldable pub link_in : ℕ → ℕ → ℕ → ℕ
  link_in n k i = number_at w b (links_from w darts_in + w + w * ((n + 1) * k) + w * i)

  -- where slot x stands in the file
  unfoldable pub place_in : ℕ → Option ℕ
  place_in x = least darts_in (λ k. eqb (slot_in k) x)

module _ (w n N : ℕ) (b : List ℕ) where
  -- refusal 11 is given where this is false: "n or N isn't the caller's", a count that is not L, a length that is not exact, a slot of N or more or
  -- out of order
  unfoldable pub form_in : Bool
  form_in = eqb (number_at 1 b 0) n and eqb (number_at w b 1) N
      and eqb (number_at w b (tags_from w (darts_in w b))) (darts_in w b) and eqb (number_at w b (links_from w (darts_in w b))) (darts_in w b)
      and eqb (length b) (size_in w n (darts_in w b))
      and all_below (darts_in w b) (λ k. ltb (slot_in w b k) N and all_below k (λ o. ltb (slot_in w b o) (slot_in w b k)))

  -- "Unused records read as zeros; with n = 2 a live α3 reads as its own slot."
  unfoldable pub map_in : Map
  map_in = record {
    slots = N;
    state = λ x. bit (there (place_in w b x));
    link = λ i x. at_place (place_in w b x) (λ k. cond (leb i n) (link_in w b n k i) x);
    tag = λ x. at_place (place_in w b x) (tag_in w b);
  }

abbrev pub file_form : ℕ → ℕ → List ℕ → Bool
file_form n N b = form_in width n N b

unfoldable pub file_map : ℕ → ℕ → List ℕ → Map
unfolding map_in
file_map n N b = map_in width n N b

-- the numbers of a map file
module _ (b : List ℕ) where
  abbrev pub darts : ℕ
  darts = darts_in width b

  abbrev pub slot_at : ℕ → ℕ
  slot_at k = slot_in width b k

  abbrev pub tag_at : ℕ → ℕ
  tag_at k = tag_in width b k

  abbrev pub place_of : ℕ → Option ℕ
  place_of x = place_in width b x

abbrev pub link_at : ℕ → List ℕ → ℕ → ℕ → ℕ
link_at n b k i = link_in width b n k i

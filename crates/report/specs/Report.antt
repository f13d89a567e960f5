-- The report program: what it prints for the bytes of its standard input, a two-byte number of maps and each map file after a two-byte length.
use Rattle.std.specs.Prelude.{ℕ, zero, suc, ◌+◌, Bool, cond, List, ◌++◌, length, get_or, take, drop, replicate, eqb, leb}
use Rattle.base.specs.Test.{◌and◌}
use Rattle.base.specs.Lists.{list}
use Rattle.base.specs.Digits.{number_at}
use Rattle.model.specs.Answer.{number}
use Rattle.model.specs.Map.{view}
use Rattle.model.specs.Count.{counts}
use Rattle.model.specs.Calls.{count_size}
use Rattle.program.specs.Lines.{numbers_line, refused_line}
use Rattle.program.specs.Opening.{longest_file, file_dimension, file_slots, file_table, open_answer}

-- ---- lines

-- live darts, vertices, edges, faces, pieces, volumes
unfoldable pub count_line : List ℕ → List ℕ
count_line c = numbers_line (list count_size (λ i. get_or c i 0))

-- six numbers added to six, one by one
unfoldable pub sum : List ℕ → List ℕ → List ℕ
sum a c = list count_size (λ i. get_or a i 0 + get_or c i 0)

-- ---- a map, by the bytes of its file

module _ (f : List ℕ) where
  -- the bench program would not refuse the map
  unfoldable pub accepted : Bool
  accepted = eqb (number (open_answer f)) 0

  unfoldable pub file_counts : List ℕ
  file_counts = counts (file_dimension f) (view (file_slots f) (file_table f))

  -- its counts, or the bench's refusal line
  unfoldable pub map_line : List ℕ
  map_line = cond accepted (count_line file_counts) (refused_line (number (open_answer f)))

  -- the sums with the counts of this map; a map that is refused adds nothing
  unfoldable pub summed : List ℕ → List ℕ
  summed sums = cond accepted (sum sums file_counts) sums

-- ---- the input

module _ (b : List ℕ) where
  -- the input starts with a length within its limit, and that many bytes come after it
  unfoldable pub whole : Bool
  whole = leb 2 (length b) and leb (number_at 2 b 0) longest_file and leb (2 + number_at 2 b 0) (length b)

  unfoldable pub first_file : List ℕ
  first_file = take (number_at 2 b 0) (drop 2 b)

  unfoldable pub behind_first : List ℕ
  behind_first = drop (2 + number_at 2 b 0) b

-- What is printed for the last k maps, after which nothing may come. `sums` are those of the maps before. A fault ends the report, and the lines
-- before it stay.
unfoldable pub maps_from : ℕ → List ℕ → List ℕ → List ℕ
maps_from zero sums b = cond (eqb (length b) 0) (count_line sums) (refused_line 11)
maps_from (suc k) sums b = cond (whole b) (map_line (first_file b) ++ maps_from k (summed (first_file b) sums) (behind_first b)) (refused_line 11)

unfoldable pub reported : List ℕ → List ℕ
reported b = cond (leb 2 (length b)) (maps_from (number_at 2 b 0) (replicate count_size 0) (drop 2 b)) (refused_line 11)

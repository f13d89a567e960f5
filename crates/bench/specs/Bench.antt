-- The bench program: what it prints for the bytes of its standard input.
use Rattle.std.specs.Prelude.{ℕ, zero, suc, ◌+◌, ◌*◌, Bool, cond, List, [], ◌∷◌, ◌++◌, length, get_or, take, drop, replicate, eqb, leb}
use Rattle.base.specs.Test.{◌and◌}
use Rattle.base.specs.Below.{count_below}
use Rattle.base.specs.Lists.{joined}
use Rattle.base.specs.Digits.{number_at}
use Rattle.model.specs.Answer.{Answer, number, values}
use Rattle.model.specs.Map.{view, live, unused}
use Rattle.model.specs.Calls.{edit_answer, edit_table}
use Rattle.model.specs.declared.Darts.TheVariants.{One}
use Rattle.program.specs.Lines.{decimal, space, line_feed, numbers_line, refused_line}
use Rattle.program.specs.Opening.{longest_file, file_dimension, file_slots, file_table, open_answer}

-- ---- lines

-- the words live and unused
abbrev pub live_word : List ℕ
live_word = 108 ∷ 105 ∷ 118 ∷ 101 ∷ []

abbrev pub unused_word : List ℕ
unused_word = 117 ∷ 110 ∷ 117 ∷ 115 ∷ 101 ∷ 100 ∷ []

-- value f of an edit that is done, and 0 on refusal
abbrev pub shown : Answer → ℕ → ℕ
shown a f = cond (eqb (number a) 0) (get_or (values a) f 0) 0

-- dart, answer number, size of O, added, deleted
unfoldable pub dart_line : ℕ → Answer → List ℕ
dart_line d a = numbers_line (d ∷ number a ∷ shown a 0 ∷ shown a 1 ∷ shown a 2 ∷ [])

unfoldable pub last_line : ℕ → ℕ → List ℕ
last_line lives rest = live_word ++ space ++ decimal lives ++ space ++ unused_word ++ space ++ decimal rest ++ line_feed

-- ---- the input: map file, scheme and dart list, each after a two-byte count

-- the greatest length of a scheme
abbrev pub longest_scheme : ℕ
longest_scheme = 552

-- the greatest number of darts in the list
abbrev pub most_darts : ℕ
most_darts = 1024

-- the greatest length of an input that is framed
abbrev pub longest_input : ℕ
longest_input = 6 + longest_file + longest_scheme + 2 * most_darts

module _ (b : List ℕ) where
  abbrev pub map_length : ℕ
  map_length = number_at 2 b 0

  abbrev pub scheme_length : ℕ
  scheme_length = number_at 2 b (2 + map_length)

  abbrev pub dart_count : ℕ
  dart_count = number_at 2 b (4 + map_length + scheme_length)

  unfoldable pub map_bytes : List ℕ
  map_bytes = take map_length (drop 2 b)

  unfoldable pub scheme_bytes : List ℕ
  scheme_bytes = take scheme_length (drop (4 + map_length) b)

  unfoldable pub dart_at : ℕ → ℕ
  dart_at k = number_at 2 b (6 + map_length + scheme_length + 2 * k)

  -- the counts are within their limits, and nothing is missing or left over
  unfoldable pub framed : Bool
  framed = leb map_length longest_file and leb scheme_length longest_scheme and leb dart_count most_darts
      and eqb (length b) (6 + map_length + scheme_length + 2 * dart_count)

  -- ---- the run

  -- n and N as the map file names them
  abbrev pub map_dimension : ℕ
  map_dimension = file_dimension map_bytes

  abbrev pub map_slots : ℕ
  map_slots = file_slots map_bytes

  -- what the opening of the map answers
  abbrev pub map_answer : Answer
  map_answer = open_answer map_bytes

  -- the table after the first k edits
  unfoldable pub table_after : ℕ → List ℕ
  table_after zero = file_table map_bytes
  table_after (suc k) = edit_table map_dimension map_slots (table_after k) (replicate (16 * map_slots) 0) scheme_bytes (One (dart_at k))

  unfoldable pub answer_at : ℕ → Answer
  answer_at k = edit_answer map_dimension map_slots (table_after k) (replicate (16 * map_slots) 0) scheme_bytes (One (dart_at k))

  unfoldable pub run_lines : List ℕ
  run_lines = joined dart_count (λ k. dart_line (dart_at k) (answer_at k))
      ++ last_line (count_below map_slots (live (view map_slots (table_after dart_count))))
      (count_below map_slots (unused (view map_slots (table_after dart_count))))

  unfoldable pub printed : List ℕ
  printed = cond framed (cond (eqb (number map_answer) 0) run_lines (refused_line (number map_answer))) (refused_line 11)

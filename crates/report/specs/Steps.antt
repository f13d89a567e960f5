-- The report as steps. In each state the program wants some bytes of the input, and gets fewer if the input ends. What it gets brings it to the next
-- state. What the steps print is the report (`steps_report` of proofs/StepLaws.antt).
use Rattle.std.specs.Prelude.{ℕ, zero, suc, ◌+◌, ◌*◌, Bool, cond, List, [], ◌++◌, length, take, drop, replicate, eqb, leb}
use Rattle.base.specs.Test.{◌and◌}
use Rattle.base.specs.Digits.{number_at}
use Rattle.program.specs.Lines.{refused_line}
use Rattle.program.specs.Opening.{longest_file, file_slots, open_table}
use Rattle.report.specs.Report.{count_line, accepted, map_line, summed}
use Rattle.report.specs.declared.State.{State}
use Rattle.report.specs.declared.State.TheVariants.{Start, File, End}

-- How many bytes a state wants:
-- - at the start, the number of maps and the length of the first file;
-- - before a file, that file and the length of the next;
-- - at the end, none.
abbrev pub wants : State → ℕ
wants Start = 4
wants (File left long) = long + 2
wants End = 0

-- ---- what comes ahead: `left` maps are to come, and `tail` follows the part of the piece that was used

-- the length of the next file is there, and within its limit
unfoldable pub length_ahead : List ℕ → Bool
length_ahead tail = leb 2 (length tail) and leb (number_at 2 tail 0) longest_file

unfoldable pub state_ahead : ℕ → List ℕ → State
state_ahead zero tail = End
state_ahead (suc left) tail = cond (length_ahead tail) (File left (number_at 2 tail 0)) End

unfoldable pub lines_ahead : ℕ → List ℕ → List ℕ → List ℕ
lines_ahead zero sums tail = cond (eqb (length tail) 0) (count_line sums) (refused_line 11)
lines_ahead (suc left) sums tail = cond (length_ahead tail) [] (refused_line 11)

-- ---- a step that got the piece p of the input

unfoldable pub state_after : State → List ℕ → State
state_after Start p = cond (leb 2 (length p)) (state_ahead (number_at 2 p 0) (drop 2 p)) End
state_after (File left long) p = cond (leb long (length p)) (state_ahead left (drop long p)) End
state_after End p = End

-- what the step prints; `sums` are those of the maps before it
unfoldable pub lines_after : State → List ℕ → List ℕ → List ℕ
lines_after Start p sums = cond (leb 2 (length p)) (lines_ahead (number_at 2 p 0) sums (drop 2 p)) (refused_line 11)
lines_after (File left long) p sums = cond (leb long (length p))
    (map_line (take long p) ++ lines_ahead left (summed (take long p) sums) (drop long p)) (refused_line 11)
lines_after End p sums = []

-- what a step makes of `a`: a map file changes it, if it was got whole
unfoldable pub with_file : (List ℕ → List ℕ → List ℕ) → State → List ℕ → List ℕ → List ℕ
with_file becomes Start p a = a
with_file becomes (File left long) p a = cond (leb long (length p)) (becomes (take long p) a) a
with_file becomes End p a = a

abbrev pub sums_after : State → List ℕ → List ℕ → List ℕ
sums_after s p sums = with_file summed s p sums

-- the table after a step: the map was opened in it
abbrev pub table_after : State → List ℕ → List ℕ → List ℕ
table_after s p t = with_file open_table s p t

-- the store after the file f: if the map was counted, the part that its slots ask for is zero
unfoldable pub store_counted : List ℕ → List ℕ → List ℕ
store_counted f store = cond (accepted f) (replicate (16 * file_slots f) 0 ++ drop (16 * file_slots f) store) store

abbrev pub store_after : State → List ℕ → List ℕ → List ℕ
store_after s p store = with_file store_counted s p store

-- ---- all steps

-- what k steps print from a state on; each gets as much of the input b as it wants, or what is left of it
unfoldable pub steps_from : ℕ → State → List ℕ → List ℕ → List ℕ
steps_from zero s sums b = []
steps_from (suc k) s sums b =
    let p = take (wants s) b in
    lines_after s p sums ++ steps_from k (state_after s p) (sums_after s p sums) (drop (wants s) b)

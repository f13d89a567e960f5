-- What each step of the report promises, and what a run of steps prints.
use Rattle.std.specs.Prelude.{ℕ, ◌+◌, ◌*◌, ◌≤◌, ◌≡◌, List, [], ◌++◌, length, get_or, take, drop, replicate}
use Rattle.model.specs.Calls.{count_size}
use Rattle.numbers.specs.Places.{Put}
use Rattle.program.specs.Lines.{refused_line}
use Rattle.program.specs.Opening.{most_slots, longest_file, open_table}
use Rattle.report.specs.Report.{map_line, summed}
use Rattle.report.specs.Steps.{wants, state_ahead, lines_ahead, state_after, lines_after, sums_after, table_after, store_counted, store_after}
use Rattle.report.specs.declared.State.{State}
use Rattle.report.specs.declared.State.TheVariants.{Start, File, End}
use Rattle.report.specs.declared.Fed.{Fed}
use Rattle.report.specs.declared.map.Line.{Line}

-- ---- totals

-- the greatest number of maps, since two bytes name it
abbrev pub most_maps : ℕ
most_maps = 65535

-- the sums before any map is counted
abbrev pub none : List ℕ
none = replicate count_size 0

-- Six sums with room for `left` more maps. A map adds no more than its slots, so no total is above 65,535 × 1,024.
pub record SumsRoom (left : ℕ) (sums : List ℕ) : Type 0 where
  pub six : length sums ≡ count_size
  pub few : (i : ℕ) → get_or sums i 0 + most_slots * left ≤ most_slots * most_maps

-- the six counts of a map, none of them above the greatest number of slots
pub record Few (c : List ℕ) : Type 0 where
  pub six : length c ≡ count_size
  pub few : (i : ℕ) → get_or c i 0 ≤ most_slots

-- if the state wants a file, the file's length is within its limit
abbrev pub Within : State → Type 0
Within Start = Unit
Within (File left long) = long ≤ longest_file
Within End = Unit

-- a state to which a report comes, with its sums
abbrev pub Ready : State → List ℕ → Type 0
Ready Start sums = sums ≡ none
Ready (File left long) sums = (long ≤ longest_file) × SumsRoom (left + 1) sums
Ready End sums = Unit

-- the greatest number of steps from a state on
abbrev pub most_steps : State → ℕ
most_steps Start = most_maps + 1
most_steps (File left long) = left + 1
most_steps End = 0

-- ---- what each step promises

-- the greatest length of a line: six numbers of eight digits
abbrev pub longest_line : ℕ
longest_line = 54

-- the line of the map whose file is f, and the sums with it
pub record Lined (f sums out : List ℕ) (r : Line) (out' : List ℕ) : Type 0 where
  pub total : r.sums ≡ summed f sums
  pub line : Put out 0 (map_line f) out' r.printed
  pub short : r.printed ≤ longest_line

-- the report ends with refusal 11, printed from the place `at` on
pub record RefusedAs (sums out : List ℕ) (at : ℕ) (r : Fed) (out' : List ℕ) : Type 0 where
  pub state : r.state ≡ End
  pub total : r.sums ≡ sums
  pub lines : Put out at (refused_line 11) out' r.printed
  pub short : r.printed ≤ at + longest_line

-- what comes ahead: the next state, the sums, and the lines printed from the place `at` on
pub record AheadAs (left : ℕ) (sums tail out : List ℕ) (at : ℕ) (r : Fed) (out' : List ℕ) : Type 0 where
  pub state : r.state ≡ state_ahead left tail
  pub total : r.sums ≡ sums
  pub ready : Ready r.state r.sums
  pub lines : Put out at (lines_ahead left sums tail) out' r.printed
  pub short : r.printed ≤ at + longest_line

-- the promise of a step: the next state, the sums, and the lines printed at the start of the output
pub record FedAs (s : State) (sums p out : List ℕ) (r : Fed) (out' : List ℕ) : Type 0 where
  pub state : r.state ≡ state_after s p
  pub total : r.sums ≡ sums_after s p sums
  pub ready : Ready r.state r.sums
  pub lines : Put out 0 (lines_after s p sums) out' r.printed
  pub short : r.printed ≤ 2 * longest_line

-- what the file f leaves in table and store
pub record MapWorked (f t u t' u' : List ℕ) : Type 0 where
  pub table : t' ≡ open_table f t
  pub store : u' ≡ store_counted f u

-- what a step leaves in table and store
pub record Worked (s : State) (p t u t' u' : List ℕ) : Type 0 where
  pub table : t' ≡ table_after s p t
  pub store : u' ≡ store_after s p u

-- ---- a run

-- A run: steps from a state to the end of the report, and what they print together. Each step gets as much of the input b as it wants, or what is
-- left of it.
pub data ReportRun : State → List ℕ → List ℕ → List ℕ → Type 0 where
  ended : {sums b : List ℕ} → ReportRun End sums b []
  fed : {s : State} {sums b out : List ℕ} {r : Fed} {out' l : List ℕ} → 2 * longest_line ≤ length out → FedAs s sums (take (wants s) b) out r out'
      → ReportRun r.state r.sums (drop (wants s) b) l → ReportRun s sums b (take r.printed out' ++ l)

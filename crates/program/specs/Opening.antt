-- Opening a map file, which itself names its n and N: the answer, and what the table holds afterwards.
use Rattle.std.specs.Prelude.{ℕ, ◌≤◌, ◌≡◌, cond, List, ◌++◌, length, get_or, take, drop, replicate, eqb, leb}
use Rattle.std.specs.Prelude.{Result, Ok, Err}
use Rattle.base.specs.Test.{◌and◌}
use Rattle.base.specs.Digits.{number_at}
use Rattle.model.specs.Answer.{Answer, number}
use Rattle.model.specs.Map.{table_size}
use Rattle.model.specs.Calls.{check_table, load_answer, load_table}
use Rattle.model.specs.declared.Refusal.{Refusal}
use Rattle.model.specs.declared.Refusal.TheVariants.{BadCall, BadFile}
use Rattle.program.specs.declared.opening.Opened.{Opened}

-- the greatest number of slots that the programs take
abbrev pub most_slots : ℕ
most_slots = 1024

-- the greatest length of a map file that they take
abbrev pub longest_file : ℕ
longest_file = 14345

-- the empty table of N slots: all zeros
abbrev pub empty_table : ℕ → List ℕ
empty_table N = replicate (table_size N) 0

module _ (f : List ℕ) where
  -- n and N as the file names them
  unfoldable pub file_dimension : ℕ
  file_dimension = get_or f 0 0

  unfoldable pub file_slots : ℕ
  file_slots = number_at 2 f 1

  -- what a load into an empty table answers, and the table that it leaves
  unfoldable pub file_loaded : Answer
  file_loaded = load_answer file_dimension file_slots (empty_table file_slots) f

  unfoldable pub file_table : List ℕ
  file_table = load_table file_dimension file_slots (empty_table file_slots) f

  -- What the opening answers:
  -- - refusal 11, if the file is too short to name n and N;
  -- - refusal 1, if the programs do not take its N;
  -- - what the load answers, if it is refused;
  -- - else what the check of the table answers.
  unfoldable pub open_answer : Answer
  open_answer = cond (leb 3 (length f)) (cond (leb file_slots most_slots)
      (cond (eqb (number file_loaded) 0) (check_table file_dimension file_slots file_table) file_loaded) (Err BadCall)) (Err BadFile)

  -- What a table t of `most_slots` slots holds afterwards. If the file names an N that the programs take, the first N records are what the load
  -- leaves, and the rest is unchanged. Else all of t is unchanged.
  unfoldable pub open_table : List ℕ → List ℕ
  open_table t = cond (leb 3 (length f) and leb file_slots most_slots)
      (load_table file_dimension file_slots (take (table_size file_slots) t) f ++ drop (table_size file_slots) t) t

-- the file is long enough to name an n and an N, and these are they
pub record Named (f : List ℕ) (n N : ℕ) : Type 0 where
  pub long : 3 ≤ length f
  pub dimension : n ≡ file_dimension f
  pub slots : N ≡ file_slots f

-- the file's map is open: it was loaded and checked
pub record MapOpen (f : List ℕ) (n N : ℕ) : Type 0 where
  pub named : Named f n N
  pub few : N ≤ most_slots
  pub done : number (open_answer f) ≡ 0

-- r is what the opening of the file finds: its map, or the refusal
abbrev pub OpenedAs : List ℕ → Result Opened Refusal → Type 0
OpenedAs f (Ok map) = MapOpen f map.n map.slots
OpenedAs f (Err r) = open_answer f ≡ Err r

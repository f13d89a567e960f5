-- A run of the bench program, from its input b to its output.
use Rattle.std.specs.Prelude.{ℕ, ◌*◌, ◌≤◌, ◌≡◌, List, ◌++◌, length, drop, replicate}
use Rattle.base.specs.Lists.{joined}
use Rattle.bench.specs.Bench.{dart_line, dart_at, answer_at, table_after, printed}
use Rattle.numbers.specs.Places.{Put}

-- the greatest length of an output: 1,024 lines of at most 23 bytes each, and a last one of at most 22
abbrev pub longest : ℕ
longest = 23574

-- t and s are the table and the store after the first k edits
pub record Stands (b : List ℕ) (N k : ℕ) (t s : List ℕ) : Type 0 where
  pub table : t ≡ table_after b k
  pub store : s ≡ replicate (16 * N) 0

-- the lines of the first k darts
unfoldable pub dart_lines : List ℕ → ℕ → List ℕ
dart_lines b k = joined k (λ j. dart_line (dart_at b j) (answer_at b j))

-- the promise of a run: the output begins with the r bytes that the bench program prints for b, and is unchanged behind them
pub record Printed (b out : List ℕ) (r : ℕ) (out' : List ℕ) : Type 0 where
  pub count : r ≡ length (printed b)
  pub output : out' ≡ printed b ++ drop r out
  pub few : r ≤ longest

-- the same, as a run of stores into the output
pub record Wrote (b out : List ℕ) (r : ℕ) (out' : List ℕ) : Type 0 where
  pub bytes : Put out 0 (printed b) out' r
  pub short : r ≤ longest

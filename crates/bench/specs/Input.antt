-- The framing of the input as the counts that it was read into.
use Rattle.std.specs.Prelude.{ℕ, ◌+◌, ◌*◌, ◌≤◌, ◌≡◌, false, Option, Some, None, List, length}
use Rattle.base.specs.Digits.{number_at}
use Rattle.program.specs.Opening.{longest_file}
use Rattle.bench.specs.Bench.{framed, longest_scheme, most_darts}
use Rattle.bench.specs.declared.framing.Layout.{Layout}

-- l has the counts of b; they are within their limits, and nothing is missing or left over
pub record Laid (b : List ℕ) (l : Layout) : Type 0 where
  pub map : l.map ≡ number_at 2 b 0
  pub scheme : l.scheme ≡ number_at 2 b (2 + l.map)
  pub darts : l.darts ≡ number_at 2 b (4 + l.map + l.scheme)
  pub map_fits : l.map ≤ longest_file
  pub scheme_fits : l.scheme ≤ longest_scheme
  pub darts_fit : l.darts ≤ most_darts
  pub size : length b ≡ 6 + l.map + l.scheme + 2 * l.darts

-- r is how the input b is framed, or that it is not
abbrev pub FramingOf : List ℕ → Option Layout → Type 0
FramingOf b (Some l) = Laid b l
FramingOf b None = framed b ≡ false

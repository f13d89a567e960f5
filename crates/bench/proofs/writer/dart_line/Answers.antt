-- `bench::writer::dart_line` meets its contract: the numbers that it gets are those of the line.
use native.Mathlib.Omega.{arith}
use Rattle.bench.proofs.LineLaws.{dart-room, dart-put}
use Rattle.bench.proofs.writer.dart_line.Goals as goal

pub numbers_line-requires : goal.numbers_line-requires
numbers_line-requires c =
    record { not_empty = omega arith; line_in_bounds = dart-room c.args.dart c.args.a _ _ _ _ c.number.ensures c.shown-values.ensures _ _ c.requires }

pub returns : goal.returns
returns c = dart-put _ _ _ _ _ _ c.number.ensures c.shown-values.ensures _ _ _ _ c.numbers_line.ensures

-- The loop's invariant: the slots below x are counted.
use mathlib.Core.Path.{◌≡◌}
use lib.Dec.{eqb}
use Rattle.base.specs.Below.{count_below}
use Rattle.table.specs.Seen.{map_of}
use Rattle.bench.proofs.session.tally.Given as goal

abbrev pub invariant-loop-x : goal.invariant-loop-x
invariant-loop-x l = l.found ≡ count_below l.x (λ y. eqb ((map_of l.table).state y) l.s)

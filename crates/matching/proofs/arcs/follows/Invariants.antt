-- The loop's invariant: the arc holds at the places below r.
use Rattle.std.proofs.Common.{◌≡◌, ℕ, ◌<◌, true}
use Rattle.table.specs.Seen.{map_of}
use Rattle.matching.specs.ArcTests.{follows}
use Rattle.matching.proofs.arcs.follows.Given as goal

abbrev pub invariant-loop-r : goal.invariant-loop-r
invariant-loop-r g l = (next : ℕ → ℕ) → ((r q : ℕ) → r < l.size → goal.F-post g l.to r q → q ≡ next r)
    → follows ((map_of l.table).link l.i) l.store l.r l.from l.base next ≡ true

-- The loop's invariant: the first p bytes fit, are stored and are marked, and the cursor is past them.
use Prim.Native.Nat.{◌+◌}
use mathlib.Core.Path.{◌≡◌}
use mathlib.Core.Bool.{true}
use Rattle.base.specs.Below.{all_below}
use Rattle.base.specs.Filled.{stored}
use Rattle.scheme.specs.Words.{fits_at}
use Rattle.scheme.specs.Targets.{rowed}
use Rattle.scheme.proofs.nodes.read_word.Given as goal

abbrev pub invariant-loop-p : goal.invariant-loop-p
invariant-loop-p l =
    let from = l.initial.next.at in
    (l.next.at ≡ from + l.p) × (all_below l.p (fits_at l.bytes l.n from) ≡ true)
    × (l.words ≡ stored l.initial.words l.base l.bytes from l.p) × (l.targets ≡ rowed l.initial.targets l.base l.bytes from l.p)

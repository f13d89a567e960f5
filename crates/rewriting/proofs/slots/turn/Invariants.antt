-- The loop's invariant: whatever was given before, the first pairs of the dart have their slots too, as many as the counter says, and `i` is the word
-- of the next.
use Rattle.std.proofs.Common.{◌≡◌, ◌+◌, ◌*◌}
use Rattle.base.specs.Below.{count_below}
use Rattle.model.specs.Map.{view}
use Rattle.table.specs.Words.{Sized}
use Rattle.orbit.specs.At.{site}
use Rattle.rewriting.specs.Slots.{Turn, Granting}
use Rattle.rewriting.proofs.slots.turn.Given as goal

abbrev pub invariant-loop : goal.invariant-loop
invariant-loop l =
    (l.i ≡ 2 * l.slots + l.counter * l.size + l.r)
    × Sized l.slots l.table × ((T : Turn l.slots (view l.slots l.initial.table) l.initial.store l.size l.many l.r l.free)
    → Granting T.at T.store l.size (count_below T.dart (site T.at).orbit * l.many + l.counter) l.from (view l.slots l.table) l.store)

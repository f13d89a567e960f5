-- The loop's invariant: the bytes from the i-th on are read.
use Prim.Native.Nat.{◌+◌, ◌-◌}
use Rattle.numbers.specs.Places.{NumberRead}
use Rattle.numbers.proofs.Cursor.number.Given as goal

abbrev pub invariant-loop-i : goal.invariant-loop-i
invariant-loop-i g l = NumberRead (g.row.W - l.i) l.b (l.self.at + l.i) (l.value, record { at = l.self.at + g.row.W })

-- The loop's invariant: the first i bytes are put.
use Prim.Native.Nat.{◌+◌, ◌/◌, ◌^◌}
use mathlib.Core.Path.{◌≡◌}
use Rattle.base.specs.Digits.{bytes_of}
use Rattle.numbers.specs.Places.{Put}
use Rattle.numbers.proofs.Cursor.put.Given as goal

abbrev pub invariant-loop-i : goal.invariant-loop-i
invariant-loop-i g l = (l.left ≡ l.v / 256 ^ l.i) × Put l.initial.out l.self.at (bytes_of l.i l.v) l.out (l.self.at + l.i)

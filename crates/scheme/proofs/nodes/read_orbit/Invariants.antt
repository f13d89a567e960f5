-- The loop's invariant: the first p dimensions rise and are held, and the cursor is past them.
use Prim.Native.Nat.{◌+◌}
use mathlib.Core.Path.{◌≡◌}
use Rattle.scheme.proofs.OrbitLaws.{Risen}
use Rattle.scheme.proofs.nodes.read_orbit.Given as goal

abbrev pub invariant-loop-p : goal.invariant-loop-p
invariant-loop-p l = (l.next.at ≡ 2 + l.p) × Risen l.bytes l.p l.low l.orbit

-- What a search for the least node finds where it stops.
use Prim.Native.Nat.{ℕ, ◌≤◌, ◌<◌}
use mathlib.Core.Path.{◌≡◌}
use mathlib.Core.Bool.{Bool, true}
use Rattle.std.specs.Prelude.{Some, None}
use native.Mathlib.Omega.{arith}
use Rattle.base.specs.First.{least}
use Rattle.base.proofs.FirstLaws.{least_hit}

pub found_none : (n k : ℕ) (p : ℕ → Bool) → k ≤ n → n ≤ k → least k p ≡ None → None ≡ least n p
found_none n k p l h e = let same : k ≡ n = omega arith in let f : least n p ≡ None = rw same at e in rw f

pub found_at : (n k : ℕ) (p : ℕ → Bool) → k < n → least k p ≡ None → p k ≡ true → Some k ≡ least n p
found_at n k p h e f = rw (least_hit n p k h e f)

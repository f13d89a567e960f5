-- The laws of `fresh`: what its two tests tell.
use Prim.Native.Nat.{ℕ}
use mathlib.Core.Path.{◌≡◌, sym, ap}
use mathlib.Core.Bool.{Bool, false, not}
use mathlib.Core.List.{List}
use native.Mathlib.Omega.{arith}
use lib.ListN.{get_or}
use lib.Dec.{ltb}
use borrow.Author.Tests.{lt-ltb, le-ltb}
use Rattle.base.specs.Test.{◌and◌}
use Rattle.base.proofs.TestLaws.{and_no_left}
use Rattle.model.specs.Map.{Map, live}
use Rattle.orbit.specs.Store.{mark, marked}
use Rattle.count.specs.Fresh.{is_fresh}

module _ (m : Map) (s : List ℕ) (x : ℕ) where
  -- a slot with a mark is not fresh
  pub fresh-marked : (w : ℕ) → w ≡ get_or s x 0 → (w ≡ 0 → ⊥) → false ≡ is_fresh m s x
  unfolding is_fresh marked mark
  fresh-marked w e ne = sym (and_no_left _ (ap not (lt-ltb 0 (get_or s x 0) (omega arith))))

  -- a slot without a mark is fresh just if it is live
  pub fresh-free : (w : ℕ) → w ≡ get_or s x 0 → w ≡ 0 → {b : Bool} → b ≡ live m x → b ≡ is_fresh m s x
  unfolding is_fresh marked mark ◌and◌
  fresh-free w e z f = let none : ltb 0 (get_or s x 0) ≡ false = le-ltb 0 (get_or s x 0) (omega arith) in rw none f

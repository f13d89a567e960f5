-- Alike well-formed maps have the same counts: what their unused records hold counts for nothing.
use Prim.Native.Nat.{ℕ, ◌+◌, ◌≤◌, ◌<◌}
use mathlib.Core.Path.{◌≡◌, refl, ap, ◌∙◌}
use mathlib.Core.Bool.{Bool, not}
use native.Mathlib.Omega.{arith}
use borrow.Author.Tests.{eqb-true}
use Rattle.base.specs.Test.{◌and◌}
use Rattle.base.specs.Below.{any_below, count_below}
use Rattle.base.proofs.TestLaws.{and_same}
use Rattle.base.proofs.BelowLaws.{count_same}
use Rattle.model.specs.Map.{Map, live}
use Rattle.model.specs.WellFormed.{WellFormed}
use Rattle.model.specs.Orbit.{orbit}
use Rattle.model.specs.Count.{smallest, cells, all_but, all, counts}
use Rattle.model.specs.Alike.{Alike}
use Rattle.model.proofs.CountLaws.{all_but_small}
use Rattle.model.proofs.AlikeLaws.{same_live, same-orbit}

module _ (n : ℕ) (low : n ≤ 3) (m m' : Map) (a : Alike m m') (w : WellFormed n m) (w' : WellFormed n m') where
  -- a count of slots, which are as many in both
  same_number : (p q : ℕ → Bool) → ((x : ℕ) → x < m.slots → p x ≡ q x) → count_below m.slots p ≡ count_below m'.slots q
  same_number p q e = count_same m.slots p q e ∙ ap (λ (z : ℕ). count_below z q) a.slots

  module _ (k : ℕ) (dim : ℕ → ℕ) (dims : (p : ℕ) → p < k → dim p ≤ n) where
    -- a live dart has one orbit in both, so it is the smallest there in both
    same-smallest : (x : ℕ) → x < m.slots → smallest m k dim x ≡ smallest m' k dim x
    unfolding smallest
    same-smallest x h =
        and_same (live m x) (λ l. ap (λ (o : ℕ → Bool). not (any_below x o)) (same-orbit n low k dim dims x m m' a w w' h (eqb-true _ _ l)))
        ∙ ap (λ (b : Bool). b and not (any_below x (orbit m' k dim x))) (same_live m m' a x h)

    -- so there are as many orbits in both
    pub same-cells : cells m k dim ≡ cells m' k dim
    unfolding cells
    same-cells = same_number _ _ same-smallest

  -- the cells of each dimension are as many
  same_kind : (i : ℕ) → cells m n (all_but i) ≡ cells m' n (all_but i)
  same_kind i = same-cells n (all_but i) (all_but_small n i)

  -- all six counts are equal
  pub same-counts : counts n m ≡ counts n m'
  unfolding counts
  same-counts =
      let darts = same_number (live m) (live m') (same_live m m' a) in
      let pieces = same-cells (n + 1) all (λ p h. omega arith) in
      rw (darts, pieces, same_kind 0, same_kind 1, same_kind 2, same_kind 3) refl

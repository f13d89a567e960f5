-- The search over nodes and pairs of dimensions: what is known while it finds nothing, and what it has found when it stops. At a node it takes the
-- pairs by their second dimension. Up to dimension 3 that is the order of the pairs.
use Prim.Native.Nat.{ℕ, suc, ◌+◌, ◌≤◌, ◌<◌}
use mathlib.Core.Path.{◌≡◌, sym, ap, ◌∙◌}
use mathlib.Core.Logic.{⊎_elim}
use mathlib.Core.Bool.{Bool, true, false, not}
use Rattle.std.specs.Prelude.{Some, None, Ok, Err}
use mathlib.Core.List.{List}
use native.Mathlib.Omega.{arith}
use lib.ListN.{get_or}
use lib.Dec.{leb}
use borrow.Author.Count.{below_none, below_more}
use borrow.Author.Tests.{not-true, le-leb, lt-leb}
use Rattle.base.specs.Test.{◌and◌}
use Rattle.base.specs.First.{first, some_if}
use Rattle.base.proofs.TestLaws.{not_both}
use Rattle.base.proofs.BelowLaws.{le_or_lt}
use Rattle.base.proofs.FirstLaws.{first-none_of, first_hit}
use Rattle.model.specs.declared.Refusal.{Refusal}
use Rattle.model.specs.declared.Refusal.TheVariants.{BadCycle}
use Rattle.incidence.specs.Cycles.{pair_by, at_pair, at_node, cycles_fault}

module _ (orbit kinds lefts rights : List ℕ) (s i j : ℕ) where
  no_pair_lem : j < i + 2 → at_pair orbit kinds lefts rights s i j ≡ None
  unfolding at_pair some_if ◌and◌
  no_pair_lem h = rw (lt-leb (i + 2) j h)

  pair_fine : pair_by (get_or kinds s 0) orbit lefts rights s i j ≡ true → at_pair orbit kinds lefts rights s i j ≡ None
  unfolding at_pair some_if
  pair_fine e = ap (λ (t : Bool). some_if t (BadCycle s i j)) (not_both (leb (i + 2) j) _ (λ h. e))

  pair-bad : pair_by (get_or kinds s 0) orbit lefts rights s i j ≡ false → i + 2 ≤ j → at_pair orbit kinds lefts rights s i j ≡ Some (BadCycle s i j)
  unfolding at_pair some_if ◌and◌
  pair-bad e h = rw (le-leb (i + 2) j h, e)

-- nothing is found at the pairs of node s with a second dimension below j, nor at those with j and a first below i
pub record Passed (orbit kinds lefts rights : List ℕ) (s i j : ℕ) : Type 0 where
  pub lower : (h k : ℕ) → k < j → at_pair orbit kinds lefts rights s h k ≡ None
  pub before : (h : ℕ) → h < i → at_pair orbit kinds lefts rights s h j ≡ None

module _ {orbit kinds lefts rights : List ℕ} {s : ℕ} where
  pub passed_none : Passed orbit kinds lefts rights s 0 2
  passed_none = record { lower = λ h k l. no_pair_lem _ _ _ _ s h k (omega arith); before = below_none _ }

  module _ {i j : ℕ} (p : Passed orbit kinds lefts rights s i j) where
    pub passed-pair : (b : Bool) → b ≡ pair_by (get_or kinds s 0) orbit lefts rights s i j → b ≡ true → Passed orbit kinds lefts rights s (i + 1) j
    passed-pair b e f = record { lower = p.lower; before = below_more _ i p.before (pair_fine _ _ _ _ s i j (sym e ∙ f)) }

    -- no pair with j is left
    pub passed-dimension : j < i + 2 → Passed orbit kinds lefts rights s 0 (j + 1)
    passed-dimension l = record { lower = λ h. below_more _ j (p.lower h) (at_all h); before = below_none _ }
      where
        at_all : (h : ℕ) → at_pair orbit kinds lefts rights s h j ≡ None
        at_all h = ⊎_elim (λ (ge : i ≤ h). no_pair_lem _ _ _ _ s h j (omega arith)) (p.before h) (le_or_lt i h)

    pub passed-node : (n : ℕ) → n < j → at_node orbit kinds lefts rights n s ≡ None
    unfolding at_node
    passed-node n l = first-none_of (suc n) _ (λ h m. first-none_of (suc n) _ (λ k o. p.lower h k (omega arith)))

    module _ (n : ℕ) (few : n ≤ 3) (h : i + 2 ≤ j) (l : j ≤ n) where
      -- a pair with a lower first dimension is passed: j is 3 then, and no second dimension is above it
      earlier : (x : ℕ) → x < i → (y : ℕ) → y < suc n → at_pair orbit kinds lefts rights s x y ≡ None
      earlier x m y o = below_more _ j (p.lower x) (p.before x m) y (omega arith)

      pub found-at-node : (b : Bool) → b ≡ pair_by (get_or kinds s 0) orbit lefts rights s i j → not b ≡ true
          → at_node orbit kinds lefts rights n s ≡ Some (BadCycle s i j)
      unfolding at_node
      found-at-node b e f =
          let here = pair-bad _ _ _ _ s i j (sym e ∙ not-true b f) h in
          first_hit (suc n) _ i _ (omega arith) (first-none_of i _ (λ x m. first-none_of (suc n) _ (earlier x m)))
          (first_hit (suc n) _ j _ (omega arith) (first-none_of j _ (p.lower i)) here)

module _ (orbit kinds lefts rights : List ℕ) (n nodes s : ℕ) (e : first s (at_node orbit kinds lefts rights n) ≡ None) where
  pub found-pair : (a : Refusal) → s < nodes → at_node orbit kinds lefts rights n s ≡ Some a → Err a ≡ cycles_fault orbit kinds lefts rights n nodes
  unfolding cycles_fault
  found-pair a l f = rw (first_hit nodes (at_node orbit kinds lefts rights n) s a l e f)

  pub found_no_pair : s ≤ nodes → nodes ≤ s → Ok tt ≡ cycles_fault orbit kinds lefts rights n nodes
  unfolding cycles_fault
  found_no_pair h l =
      let same : s ≡ nodes = omega arith in
      let f : first nodes (at_node orbit kinds lefts rights n) ≡ None = rw same at e in
      rw f

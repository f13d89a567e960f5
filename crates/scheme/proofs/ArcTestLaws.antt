-- The test of one arc, one condition after the other.
use Prim.Native.Nat.{ℕ, ◌≤◌, ◌<◌}
use mathlib.Core.Path.{◌≡◌, refl, sym, ap₂, ◌∙◌}
use mathlib.Core.Bool.{Bool, true, false, not}
use mathlib.Core.List.{List}
use lib.ListN.{get_or}
use lib.Dec.{eqb}
use borrow.Author.Tests.{eq-eqb, ne_eqb, lt-ltb, le-ltb, le-leb, lt-leb}
use Rattle.base.specs.Test.{◌⇒◌}
use Rattle.base.proofs.TestLaws.{and_left, and_right, and_of, refuted, same_test}
use Rattle.model.specs.Scheme.{Side}
use Rattle.scheme.specs.Words.{barred}
use Rattle.scheme.specs.Arcs.{key_of, arc_test}

-- a test that is denied
pub denies : (x : Bool) → not x ≡ (x ⇒ false)
unfolding ◌⇒◌
denies true = refl
denies false = refl

-- a kind at the place of a node
lacks : (kinds : List ℕ) {near s other : ℕ} → near ≡ s → get_or kinds near 0 ≡ other → (eqb (get_or kinds s 0) other ⇒ false) ≡ false
unfolding ◌⇒◌
lacks kinds e q = rw (← e, eq-eqb _ _ q)

has : (kinds : List ℕ) {near s other : ℕ} → near ≡ s → (get_or kinds near 0 ≡ other → ⊥) → (eqb (get_or kinds s 0) other ⇒ false) ≡ true
unfolding ◌⇒◌
has kinds e q = rw (← e, ne_eqb _ _ q)

module _ (n nodes : ℕ) (kinds : List ℕ) (side : Side) (low d s t : ℕ) where
  pub no_dimension : n < d → false ≡ arc_test n nodes kinds side low d s t
  unfolding arc_test
  no_dimension h = sym (refuted (λ q. and_left _ _ (and_left _ _ (and_left _ _ (and_left _ _ (and_left _ _ q))))) (lt-leb _ _ h))

  pub no_order : t < s → false ≡ arc_test n nodes kinds side low d s t
  unfolding arc_test
  no_order h = sym (refuted (λ q. and_right _ _ (and_left _ _ (and_left _ _ (and_left _ _ (and_left _ _ q))))) (lt-leb _ _ h))

  pub no_node : nodes ≤ t → false ≡ arc_test n nodes kinds side low d s t
  unfolding arc_test
  no_node h = sym (refuted (λ q. and_right _ _ (and_left _ _ (and_left _ _ (and_left _ _ q)))) (le-ltb _ _ h))

  pub no_near : {near other : ℕ} → near ≡ s → other ≡ barred side → get_or kinds near 0 ≡ other → false ≡ arc_test n nodes kinds side low d s t
  unfolding arc_test
  no_near e o h = sym (refuted (λ q. and_right _ _ (and_left _ _ (and_left _ _ q))) (lacks kinds e (h ∙ o)))

  pub no_key : {k : ℕ} → k ≡ key_of d s t → k < low → false ≡ arc_test n nodes kinds side low d s t
  unfolding arc_test
  no_key e h = sym (refuted (λ q. and_right _ _ q) (lt-leb _ _ (rw e at h)))

  pub far-last : {near far other k : ℕ} → k ≡ key_of d s t → low ≤ k → d ≤ n → s ≤ t → t < nodes → near ≡ s → other ≡ barred side
      → (get_or kinds near 0 ≡ other → ⊥) → far ≡ t → not (eqb (get_or kinds far 0) other) ≡ arc_test n nodes kinds side low d s t
  unfolding arc_test ◌⇒◌
  far-last {far = far} e h₀ h₁ h₂ h₃ e₁ o q₁ e₂ =
      ap₂ (λ (x y : ℕ). not (eqb (get_or kinds x 0) y)) e₂ o ∙ denies (eqb (get_or kinds t 0) (barred side)) ∙ same_test _ _
      (λ q. and_of (and_of (and_of (and_of (and_of (le-leb _ _ h₁) (le-leb _ _ h₂)) (lt-ltb _ _ h₃)) (has kinds e₁ (λ w. q₁ (w ∙ sym o)))) q)
      (le-leb _ _ (rw e at h₀)))
      (λ q. and_right _ _ (and_left _ _ q))

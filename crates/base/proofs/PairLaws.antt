-- How many numbers the pairs of two ranges give, where different pairs give different numbers: as many as there are pairs.
use Prim.Native.Nat.{ℕ, zero, suc, ◌+◌, ◌*◌, ◌<◌}
use mathlib.Core.Path.{◌≡◌, refl, sym, ap₂, ◌∙◌}
use mathlib.Core.Bool.{Bool, true, false}
use native.Mathlib.Omega.{arith}
use lib.Dec.{eqb}
use borrow.Author.Tests.{eqb-true, eq-eqb, ne_eqb}
use Rattle.base.specs.Test.{◌and◌, bit}
use Rattle.base.specs.Below.{any_below, count_below}
use Rattle.base.proofs.TestLaws.{and_left, and_right}
use Rattle.base.proofs.BelowLaws.{any_at, count-zero, count-one-more, count_or}

-- one number, or none
count-here : (M : ℕ) (b : Bool) (y : ℕ) → (b ≡ true → y < M) → count_below M (λ x. b and eqb y x) ≡ bit b
unfolding ◌and◌
count-here M false y h = count-zero M _ (λ k l. refl)
count-here M true y h =
    let none : count_below M (λ x. false) ≡ 0 = count-zero M _ (λ k l. refl) in
    let one : count_below M (λ x. true and eqb y x) ≡ count_below M (λ x. false) + 1 =
    count-one-more M (λ x. false) (λ x. true and eqb y x) y (h refl) refl (eq-eqb y y refl) (λ j l ne. ne_eqb y j (λ e. ne (sym e))) in
    omega arith

module _ (M c : ℕ) (D : ℕ → Bool) where
  -- the numbers f s, for each s of D
  count-row : (f : ℕ → ℕ) (k : ℕ) → ((s : ℕ) → s < k → D s ≡ true → f s < M)
      → ((s t : ℕ) → s < k → t < k → D s ≡ true → D t ≡ true → f s ≡ f t → s ≡ t)
      → count_below M (λ x. any_below k (λ s. D s and eqb (f s) x)) ≡ count_below k D
  unfolding any_below count_below
  count-row f zero slot once = count-zero M _ (λ k l. refl)
  count-row f (suc k) slot once =
      count_or M (λ x. any_below k (λ s. D s and eqb (f s) x)) (λ x. D k and eqb (f k) x)
      (λ x b p q.
      let r = any_at k _ p in
      let e = once r.0 k (omega (arith, r.1)) (omega arith) (and_left _ _ r.2) (and_left _ _ q)
      (eqb-true _ _ (and_right _ _ r.2) ∙ sym (eqb-true _ _ (and_right _ _ q))) in
      omega (arith, r.1, e))
      ∙ ap₂ (λ (a z : ℕ). a + z)
      (count-row f k (λ s h. slot s (omega arith)) (λ s t h l. once s t (omega arith) (omega arith)))
      (count-here M (D k) (f k) (slot k (omega arith)))

  -- the numbers of one row, or none
  count_row_if : (b : Bool) (p : ℕ → Bool) (k : ℕ) → (b ≡ true → count_below M p ≡ k) → count_below M (λ x. b and p x) ≡ bit b * k
  unfolding ◌and◌
  count_row_if true p k h = let e = h refl in omega arith
  count_row_if false p k h = let e : count_below M (λ x. false) ≡ 0 = count-zero M _ (λ k l. refl) in omega arith

  -- the numbers f u s, for each u of O and s of D
  pub count-pairs : (O : ℕ → Bool) (f : ℕ → ℕ → ℕ) (N : ℕ) → ((u s : ℕ) → u < N → O u ≡ true → s < c → D s ≡ true → f u s < M)
      → ((u s v t : ℕ) → u < N → O u ≡ true → s < c → D s ≡ true → v < N → O v ≡ true → t < c → D t ≡ true → f u s ≡ f v t → (u ≡ v) × (s ≡ t))
      → count_below M (λ x. any_below N (λ u. O u and any_below c (λ s. D s and eqb (f u s) x))) ≡ count_below N O * count_below c D
  unfolding any_below count_below
  count-pairs O f zero slot once = let e : count_below M (λ x. false) ≡ 0 = count-zero M _ (λ k l. refl) in omega arith
  count-pairs O f (suc N) slot once =
      let k = count_below c D in
      let both = count_or M (λ x. any_below N (λ u. O u and any_below c (λ s. D s and eqb (f u s) x))) (λ x. O N and any_below c (λ s. D s and eqb (f N s) x))
      (λ x b p q.
      let r = any_at N _ p in
      let i = any_at c _ (and_right _ _ r.2) in
      let j = any_at c _ (and_right _ _ q) in
      let e = once r.0 i.0 N j.0 (omega (arith, r.1)) (and_left _ _ r.2) i.1 (and_left _ _ i.2)
      (omega arith) (and_left _ _ q) j.1 (and_left _ _ j.2)
      (eqb-true _ _ (and_right _ _ i.2) ∙ sym (eqb-true _ _ (and_right _ _ j.2))) in
      omega (arith, r.1, e.0)) in
      let old : count_below M (λ x. any_below N (λ u. O u and any_below c (λ s. D s and eqb (f u s) x))) ≡ count_below N O * count_below c D =
      count-pairs O f N (λ u s h. slot u s (omega arith)) (λ u s v t h e b d l. once u s v t (omega arith) e b d (omega arith)) in
      let new : count_below M (λ x. O N and any_below c (λ s. D s and eqb (f N s) x)) ≡ bit (O N) * count_below c D =
      count_row_if (O N) _ k (λ e. count-row (f N) c (λ s h d. slot N s (omega arith) e h d)
      (λ s t h l d g q. (once N s N t (omega arith) e h d (omega arith) e l g q).1)) in
      both ∙ ap₂ (λ (a z : ℕ). a + z) old new ∙ product (count_below N O) (bit (O N)) k
    where
      product : (a b k : ℕ) → a * k + b * k ≡ (a + b) * k
      product a b k = omega arith

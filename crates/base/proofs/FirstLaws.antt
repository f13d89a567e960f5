-- Laws of `first`, `least` and `nth_lowest`: what is found is there, and nothing is before it.
use Prim.Native.Nat.{ℕ, zero, suc, ◌+◌, ◌<◌}
use mathlib.Core.Path.{◌≡◌, refl, sym, ap, ap₂, ◌∙◌}
use mathlib.Core.Logic.{◌⊎◌, inl, inr, ⊎_elim}
use mathlib.Core.Bool.{Bool, true, false, false≢true, true≢false}
use Rattle.std.specs.Prelude.{Option, Some, None}
use native.Mathlib.Nat.{not-suc-le-zero}
use native.Mathlib.Numerals.{add-one}
use native.Mathlib.Omega.{arith}
use lib.Dec.{eqb}
use borrow.Author.Tests.{eqb-true, eq-eqb}
use Rattle.base.specs.Test.{◌and◌}
use Rattle.base.specs.Below.{count_below}
use Rattle.base.specs.First.{some_if, ◌or_else◌, there, first, least, nth_lowest}
use Rattle.base.proofs.TestLaws.{and_left, and_right, and_of}
use Rattle.base.proofs.BelowLaws.{below_suc, count_same, count_injective, count_reaches}

module _ {A : Type 0} where
  pub or_else_cases : (o r : Option A) (a : A) → o or_else r ≡ Some a → (o ≡ Some a) ⊎ ((o ≡ None) × (r ≡ Some a))
  unfolding ◌or_else◌
  or_else_cases None r a e = inr (refl, e)
  or_else_cases (Some b) r a e = inl e

  pub some_not_none : {o : Option A} {a : A} → o ≡ Some a → o ≡ None → ⊥
  unfolding there
  some_not_none {o} {a} p q = let z : ◌≡◌ {A = Bool} true false = ap there (sym p) ∙ ap there q in true≢false z

  pub there-at : (o : Option A) → there o ≡ true → (a : A) × (o ≡ Some a)
  unfolding there
  there-at None e = absurd (false≢true e)
  there-at (Some a) e = (a, refl)

  pub there_of : {o : Option A} {a : A} → o ≡ Some a → there o ≡ true
  unfolding there
  there_of e = rw e

  pub there-none : {o : Option A} → o ≡ None → there o ≡ false
  unfolding there
  there-none e = rw e

  -- where one of two is there, the first that is there is
  pub there-first : (o r : Option A) → there o ≡ true → there (o or_else r) ≡ true
  unfolding there ◌or_else◌
  there-first None r e = absurd (true≢false (sym e))
  there-first (Some a) r e = refl

  pub there-second : (o r : Option A) → there r ≡ true → there (o or_else r) ≡ true
  unfolding there ◌or_else◌
  there-second None r e = e
  there-second (Some a) r e = refl

  pub when-at : (b : Bool) {a c : A} → some_if b a ≡ Some c → (b ≡ true) × (a ≡ c)
  unfolding some_if
  when-at true e = (refl, cc)
  when-at false e = absurd (some_not_none e refl)

  pub when-none : (b : Bool) (a : A) → some_if b a ≡ None → b ≡ false
  unfolding some_if
  when-none true a e = absurd (some_not_none {o = Some a} {a = a} refl e)
  when-none false a e = refl

  pub or_else_none : (o r : Option A) → o or_else r ≡ None → (o ≡ None) × (r ≡ None)
  unfolding ◌or_else◌
  or_else_none None r e = (refl, e)
  or_else_none (Some b) r e = absurd (some_not_none {o = Some b} {a = b} refl e)

  -- what comes second is asked only where the first is not there
  pub or_else_same : {o u : Option A} (r v : Option A) → o ≡ u → (o ≡ None → r ≡ v) → o or_else r ≡ u or_else v
  unfolding ◌or_else◌
  or_else_same {o} {u} r v e f = go o f ∙ ap (λ (z : Option A). z or_else v) e
    where
      go : (o : Option A) → (o ≡ None → r ≡ v) → o or_else r ≡ o or_else v
      go None f = f refl
      go (Some a) f = refl

  pub or_else_last : (o : Option A) → o or_else None ≡ o
  unfolding ◌or_else◌
  or_else_last None = refl
  or_else_last (Some a) = refl

  -- where `first` gives nothing, no number does
  pub first-none : (n : ℕ) (f : ℕ → Option A) → first n f ≡ None → (k : ℕ) → k < n → f k ≡ None
  unfolding first
  first-none zero f e k h = absurd (not-suc-le-zero h)
  first-none (suc n) f e k h =
      let r = or_else_none (first n f) (f n) e in
      ⊎_elim (λ w. ap f w ∙ r.1) (λ w. first-none n f r.0 k w) (below_suc h)

  pub first-none_of : (n : ℕ) (f : ℕ → Option A) → ((k : ℕ) → k < n → f k ≡ None) → first n f ≡ None
  unfolding first ◌or_else◌
  first-none_of zero f g = refl
  first-none_of (suc n) f g = rw (first-none_of n f (λ k h. g k (omega arith))) (g n (omega arith))

  -- what is given at each number decides what is given first
  pub first-same : (n : ℕ) (f g : ℕ → Option A) → ((k : ℕ) → k < n → f k ≡ g k) → first n f ≡ first n g
  unfolding first
  first-same zero f g h = refl
  first-same (suc n) f g h = ap₂ ◌or_else◌ (first-same n f g (λ k l. h k (omega arith))) (h n (omega arith))

  -- what `first` gives is given by some number, and by none below it
  pub first-at : (n : ℕ) (f : ℕ → Option A) (a : A) → first n f ≡ Some a
      → (k : ℕ) × (k < n) × (f k ≡ Some a) × ((j : ℕ) → j < k → f j ≡ None)
  unfolding first
  first-at zero f a e = absurd (some_not_none {o = None} {a = a} e refl)
  first-at (suc n) f a e =
      ⊎_elim
      (λ w. let r = first-at n f a w in (r.0, omega arith, r.2, r.3))
      (λ w. (n, omega arith, w.1, first-none n f w.0))
      (or_else_cases (first n f) (f n) a e)

  pub first_of : (n : ℕ) (f : ℕ → Option A) (k : ℕ) (a : A) → k < n → f k ≡ Some a → (b : A) × (first n f ≡ Some b)
  first_of n f k a h e = go (first n f) refl
    where
      go : (o : Option A) → first n f ≡ o → (b : A) × (first n f ≡ Some b)
      go None q = absurd (some_not_none e (first-none n f q k h))
      go (Some b) q = (b, q)

  -- where all that is given is one value, `first` gives it
  pub first-only : (n : ℕ) (f : ℕ → Option A) (k : ℕ) (a : A) → k < n → f k ≡ Some a
      → ((j : ℕ) (b : A) → j < n → f j ≡ Some b → b ≡ a) → first n f ≡ Some a
  first-only n f k a h e only =
      let r = first_of n f k a h e in
      let q = first-at n f r.0 r.1 in
      r.1 ∙ ap {B = Option A} Some (only q.0 r.0 q.1 q.2)

pub least_at : (n : ℕ) (p : ℕ → Bool) (k : ℕ) → least n p ≡ Some k → (k < n) × (p k ≡ true) × ((j : ℕ) → j < k → p j ≡ false)
unfolding least
least_at n p k e =
    let q = first-at n (λ x. some_if (p x) x) k e in
    let w = when-at (p q.0) q.2 in
    let same : q.0 ≡ k = w.1 in (
      rw (← same) q.1,
      ap p (sym same) ∙ w.0,
      (λ j h. when-none (p j) j (q.3 j (omega arith))),
    )

pub least-none : (n : ℕ) (p : ℕ → Bool) → least n p ≡ None → (k : ℕ) → k < n → p k ≡ false
unfolding least
least-none n p e k h = when-none (p k) k (first-none n (λ x. some_if (p x) x) e k h)

pub least-none_of : (n : ℕ) (p : ℕ → Bool) → ((k : ℕ) → k < n → p k ≡ false) → least n p ≡ None
unfolding least some_if
least-none_of n p f = first-none_of n (λ x. some_if (p x) x) (λ k h. rw (f k h))

pub least-only : (n : ℕ) (p : ℕ → Bool) (k : ℕ) → k < n → p k ≡ true → ((j : ℕ) → j < n → p j ≡ true → j ≡ k) → least n p ≡ Some k
unfolding least some_if
least-only n p k h e only =
    first-only n (λ x. some_if (p x) x) k k h (rw e refl) (λ j b l q. let w = when-at (p j) q in sym w.1 ∙ only j l w.0)

pub least-same : (n : ℕ) (p q : ℕ → Bool) → ((k : ℕ) → k < n → p k ≡ q k) → least n p ≡ least n q
unfolding least
least-same n p q f = first-same n (λ x. some_if (p x) x) (λ x. some_if (q x) x) (λ k h. ap (λ (b : Bool). some_if b k) (f k h))

module _ {A : Type 0} where
  pub first_step : (i : ℕ) (f : ℕ → Option A) → first (i + 1) f ≡ first i f or_else f i
  unfolding first
  first_step i f = rw add-one refl

-- ---- a search that counts up: what it knows while it finds nothing, and what it has found where it stops

module _ {A : Type 0} where
  pub first_more : (k : ℕ) (f : ℕ → Option A) → first k f ≡ None → f k ≡ None → first (k + 1) f ≡ None
  unfolding ◌or_else◌
  first_more k f e h = first_step k f ∙ rw e h

  pub first_hit : (n : ℕ) (f : ℕ → Option A) (k : ℕ) (a : A) → k < n → first k f ≡ None → f k ≡ Some a → first n f ≡ Some a
  unfolding first ◌or_else◌
  first_hit zero f k a h e q = absurd (not-suc-le-zero h)
  first_hit (suc n) f k a h e q = ⊎_elim
      (λ w. let z : first n f ≡ None = ap (λ (y : ℕ). first y f) (sym w) ∙ e in rw z (ap f (sym w) ∙ q))
      (λ w. let z : first n f ≡ Some a = first_hit n f k a w e q in rw z)
      (below_suc h)

pub least_more : (k : ℕ) (p : ℕ → Bool) → least k p ≡ None → p k ≡ false → least (k + 1) p ≡ None
unfolding least some_if
least_more k p e f = first_more k (λ x. some_if (p x) x) e (rw f)

pub least_hit : (n : ℕ) (p : ℕ → Bool) (k : ℕ) → k < n → least k p ≡ None → p k ≡ true → least n p ≡ Some k
unfolding least some_if
least_hit n p k h e f = first_hit n (λ x. some_if (p x) x) k k h e (rw f)

-- ---- the k-th lowest

pub nth_at : (n : ℕ) (p : ℕ → Bool) (k x : ℕ) → nth_lowest n p k ≡ Some x → (x < n) × (p x ≡ true) × (count_below x p ≡ k)
unfolding nth_lowest
nth_at n p k x e =
    let l = least_at n _ x e in
    (l.0, and_left _ _ l.1, eqb-true _ _ (and_right _ _ l.1))

pub nth_found : (n : ℕ) (p : ℕ → Bool) (k : ℕ) → k < count_below n p → (x : ℕ) × (nth_lowest n p k ≡ Some x)
unfolding nth_lowest least some_if
nth_found n p k h =
    let r = count_reaches p n k h in
    first_of n _ r.0 r.0 r.1 (ap (λ (b : Bool). some_if b r.0) (and_of r.2 (eq-eqb _ _ r.3)))

pub nth_same : (n : ℕ) (p q : ℕ → Bool) (k : ℕ) → ((x : ℕ) → x < n → p x ≡ q x) → nth_lowest n p k ≡ nth_lowest n q k
unfolding nth_lowest least
nth_same n p q k f = first-same n _ _ (λ x h. ap₂ (λ (a : Bool) (c : ℕ). some_if (a and eqb c k) x) (f x h) (count_same x p q (λ y l. f y (omega arith))))

pub nth_is : (n : ℕ) (p : ℕ → Bool) (k x : ℕ) → x < n → p x ≡ true → count_below x p ≡ k → nth_lowest n p k ≡ Some x
unfolding nth_lowest
nth_is n p k x h e c = least-only n _ x h (and_of e (eq-eqb _ _ c))
    (λ j l q. count_injective p j x (and_left _ _ q) e (eqb-true _ _ (and_right _ _ q) ∙ sym c))

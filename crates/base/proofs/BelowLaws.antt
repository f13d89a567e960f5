-- Laws of `all_below`, `any_below` and `count_below`: what is said of the numbers below a bound is said of each of them.
use Prim.Native.Nat.{ℕ, zero, suc, ◌+◌, ◌≤◌, ◌<◌}
use mathlib.Core.Path.{◌≡◌, refl, sym, ap, ap₂, ◌∙◌, subst}
use mathlib.Core.Logic.{◌⊎◌, inl, inr, ⊎_elim}
use mathlib.Core.Bool.{Bool, true, false, not, false≢true, true≢false}
use native.Mathlib.Nat.{not-suc-le-zero, le_of_suc-le-suc, eq-or-lt_of_le, eq-zero-or-pos, lt_of_not-le, add-zero}
use native.Mathlib.Numerals.{add-one}
use native.Mathlib.Omega.{arith}
use lib.Dec.{leb, ltb}
use borrow.Author.Tests.{leb-true, leb-false, ltb-true, ltb-false}
use Rattle.base.specs.Test.{◌and◌, ◌or◌, bit}
use Rattle.base.specs.Below.{all_below, any_below, count_below}
use Rattle.base.proofs.TestLaws.{and_left, and_right, and_of, or_cases, or_left, or_right, true_or_false, impossible}

pub below_suc : {k n : ℕ} → k < suc n → (k ≡ n) ⊎ (k < n)
below_suc h = eq-or-lt_of_le (le_of_suc-le-suc h)

pub all-at : (n : ℕ) (p : ℕ → Bool) → all_below n p ≡ true → (k : ℕ) → k < n → p k ≡ true
unfolding all_below
all-at zero p e k h = absurd (not-suc-le-zero h)
all-at (suc n) p e k h =
    ⊎_elim (λ w. ap p w ∙ and_right _ _ e) (λ w. all-at n p (and_left _ _ e) k w) (below_suc h)

pub all_of : (n : ℕ) (p : ℕ → Bool) → ((k : ℕ) → k < n → p k ≡ true) → all_below n p ≡ true
unfolding all_below ◌and◌
all_of zero p f = refl
all_of (suc n) p f = rw (all_of n p (λ k h. f k (omega arith))) (f n (omega arith))

pub all_same : (n : ℕ) (p q : ℕ → Bool) → ((k : ℕ) → k < n → p k ≡ q k) → all_below n p ≡ all_below n q
unfolding all_below
all_same zero p q f = refl
all_same (suc n) p q f = ap₂ ◌and◌ (all_same n p q (λ k h. f k (omega arith))) (f n (omega arith))

pub any_at : (n : ℕ) (p : ℕ → Bool) → any_below n p ≡ true → (k : ℕ) × (k < n) × (p k ≡ true)
unfolding any_below
any_at zero p e = absurd (false≢true e)
any_at (suc n) p e =
    ⊎_elim (λ w. let r = any_at n p w in (r.0, omega arith, r.2)) (λ w. (n, omega arith, w)) (or_cases (any_below n p) (p n) e)

pub any_of : (n : ℕ) (p : ℕ → Bool) (k : ℕ) → k < n → p k ≡ true → any_below n p ≡ true
unfolding any_below
any_of zero p k h e = absurd (not-suc-le-zero h)
any_of (suc n) p k h e =
    ⊎_elim (λ w. or_right (any_below n p) (ap p (sym w) ∙ e)) (λ w. or_left (p n) (any_of n p k w e)) (below_suc h)

-- ---- count

pub count_le : (n : ℕ) (p : ℕ → Bool) → count_below n p ≤ n
unfolding count_below
count_le zero p = omega arith
count_le (suc n) p = bit-step (p n) (count_le n p)
  where
    bit-step : (b : Bool) → count_below n p ≤ n → count_below n p + bit b ≤ suc n
    bit-step true h = omega arith
    bit-step false h = omega arith

pub count_mono : (n : ℕ) (p q : ℕ → Bool) → ((k : ℕ) → k < n → p k ≡ true → q k ≡ true) → count_below n p ≤ count_below n q
unfolding count_below
count_mono zero p q f = omega arith
count_mono (suc n) p q f = go (p n) (q n) (f n (omega arith)) (count_mono n p q (λ k h. f k (omega arith)))
  where
    go : (a b : Bool) → (a ≡ true → b ≡ true) → count_below n p ≤ count_below n q → count_below n p + bit a ≤ count_below n q + bit b
    go true true g h = omega arith
    go true false g h = absurd (false≢true (g refl))
    go false true g h = omega arith
    go false false g h = omega arith

-- a test that holds wherever p does, and at one number more, is counted more often
pub count-more : (n : ℕ) (p q : ℕ → Bool) (k : ℕ) → k < n → p k ≡ false → q k ≡ true
    → ((j : ℕ) → j < n → p j ≡ true → q j ≡ true) → count_below n p < count_below n q
unfolding count_below
count-more zero p q k h e g f = absurd (not-suc-le-zero h)
count-more (suc n) p q k h e g f =
    ⊎_elim
    (λ w. here (p n) (q n) (ap p (sym w) ∙ e) (ap q (sym w) ∙ g) (count_mono n p q (λ j l. f j (omega arith))))
    (λ w. there' (p n) (q n) (f n (omega arith)) (count-more n p q k w e g (λ j l. f j (omega arith))))
    (below_suc h)
  where
    here : (a b : Bool) → a ≡ false → b ≡ true → count_below n p ≤ count_below n q → count_below n p + bit a < count_below n q + bit b
    here a b x y l = rw (x, y) (omega arith)

    there' : (a b : Bool) → (a ≡ true → b ≡ true) → count_below n p < count_below n q → count_below n p + bit a < count_below n q + bit b
    there' true true u l = omega arith
    there' true false u l = absurd (false≢true (u refl))
    there' false true u l = omega arith
    there' false false u l = omega arith

bit-zero : (a : ℕ) (b : Bool) → a + bit b ≡ 0 → (a ≡ 0) × (b ≡ false)
bit-zero a true e = absurd (omega arith)
bit-zero a false e = (omega arith, refl)

pub count_none : (n : ℕ) (p : ℕ → Bool) → count_below n p ≡ 0 → (k : ℕ) → k < n → p k ≡ false
unfolding count_below
count_none zero p e k h = absurd (not-suc-le-zero h)
count_none (suc n) p e k h =
    let r = bit-zero (count_below n p) (p n) e in
    ⊎_elim (λ w. ap p w ∙ r.1) (λ w. count_none n p r.0 k w) (below_suc h)

bit-one : (a : ℕ) (b : Bool) → a + bit b ≤ 1 → b ≡ true → a ≡ 0
bit-one a true l e = omega arith
bit-one a false l e = absurd (false≢true e)

-- where p is counted at most once, it holds of one number at most
pub count-once : (n : ℕ) (p : ℕ → Bool) → count_below n p ≤ 1 → (j k : ℕ) → j < n → k < n → p j ≡ true → p k ≡ true → j ≡ k
unfolding count_below
count-once zero p l j k h g e f = absurd (not-suc-le-zero h)
count-once (suc n) p l j k h g e f = ⊎_elim
    (λ u. ⊎_elim (λ v. u ∙ sym v) (λ v. absurd (last k v f (ap p (sym u) ∙ e))) (below_suc g))
    (λ u. ⊎_elim (λ v. absurd (last j u e (ap p (sym v) ∙ f))) (λ v. count-once n p (omega arith) j k u v e f) (below_suc g))
    (below_suc h)
  where
    last : (i : ℕ) → i < n → p i ≡ true → p n ≡ true → ⊥
    last i w q r = true≢false (sym q ∙ count_none n p (bit-one (count_below n p) (p n) l r) i w)

full : (a n : ℕ) (b : Bool) → suc n ≤ a + bit b → a ≤ n → (n ≤ a) × (b ≡ true)
full a n true h l = (omega arith, refl)
full a n false h l = absurd (omega arith)

-- where as many have p as there are, all have it
pub count-full : (n : ℕ) (p : ℕ → Bool) → n ≤ count_below n p → (k : ℕ) → k < n → p k ≡ true
unfolding count_below
count-full zero p l k h = absurd (not-suc-le-zero h)
count-full (suc n) p l k h =
    let r = full (count_below n p) n (p n) l (count_le n p) in
    ⊎_elim (λ w. ap p w ∙ r.1) (λ w. count-full n p r.0 k w) (below_suc h)

pub count-zero : (n : ℕ) (p : ℕ → Bool) → ((k : ℕ) → k < n → p k ≡ false) → count_below n p ≡ 0
unfolding count_below
count-zero zero p f = refl
count-zero (suc n) p f = ap₂ (λ (a : ℕ) (b : Bool). a + bit b) (count-zero n p (λ k h. f k (omega arith))) (f n (omega arith))

pub count-some : (n : ℕ) (p : ℕ → Bool) (k : ℕ) → k < n → p k ≡ true → 1 ≤ count_below n p
count-some n p k h e = ⊎_elim (λ z. absurd (true≢false (sym e ∙ count_none n p z k h))) (λ l. l) (eq-zero-or-pos (count_below n p))

-- those that have p and those that have not are all
pub count_not : (n : ℕ) (p : ℕ → Bool) → count_below n (λ k. not (p k)) + count_below n p ≡ n
unfolding count_below
count_not zero p = refl
count_not (suc n) p = go (p n) (count_not n p)
  where
    go : (b : Bool) → count_below n (λ k. not (p k)) + count_below n p ≡ n → count_below n (λ k. not (p k)) + bit (not b) + (count_below n p + bit b) ≡ suc n
    go true h = omega arith
    go false h = omega arith

-- tests that agree are counted equally often
pub count_same : (n : ℕ) (p q : ℕ → Bool) → ((k : ℕ) → k < n → p k ≡ q k) → count_below n p ≡ count_below n q
unfolding count_below
count_same zero p q f = refl
count_same (suc n) p q f = ap₂ (λ (a : ℕ) (b : Bool). a + bit b) (count_same n p q (λ k h. f k (omega arith))) (f n (omega arith))

-- a test that agrees with p but at one number, which it has and p has not, is counted once more
pub count-one-more : (n : ℕ) (p q : ℕ → Bool) (k : ℕ) → k < n → p k ≡ false → q k ≡ true
    → ((j : ℕ) → j < n → (j ≡ k → ⊥) → q j ≡ p j) → count_below n q ≡ count_below n p + 1
unfolding count_below
count-one-more zero p q k h e g f = absurd (not-suc-le-zero h)
count-one-more (suc n) p q k h e g f = ⊎_elim
    (λ w. here (p n) (q n) (ap p (sym w) ∙ e) (ap q (sym w) ∙ g) (count_same n q p (λ j l. f j (omega arith) (λ u. absurd (omega arith)))))
    (λ w. past (p n) (q n) (f n (omega arith) (λ u. absurd (omega arith))) (count-one-more n p q k w e g (λ j l. f j (omega arith))))
    (below_suc h)
  where
    here : (a b : Bool) → a ≡ false → b ≡ true → count_below n q ≡ count_below n p → count_below n q + bit b ≡ count_below n p + bit a + 1
    here a b x y l = rw (x, y) (omega arith)

    past : (a b : Bool) → b ≡ a → count_below n q ≡ count_below n p + 1 → count_below n q + bit b ≡ count_below n p + bit a + 1
    past a b x l = rw x (omega arith)

-- where one number has not p, fewer are counted than there are
pub count_room : (n : ℕ) (p : ℕ → Bool) (k : ℕ) → k < n → p k ≡ false → count_below n p < n
count_room n p k h e = lt_of_not-le (λ l. true≢false (sym (count-full n p l k h) ∙ e))

-- ---- a loop's step: the numbers below i + 1 are those below i, and i

pub below_step : {k i : ℕ} → k < i + 1 → (k ≡ i) ⊎ (k < i)
below_step {k} {i} h = below_suc (subst (λ (n : ℕ). k < n) (add-one i) h)

pub all-step : (i : ℕ) (p : ℕ → Bool) → all_below (i + 1) p ≡ (all_below i p and p i)
unfolding all_below
all-step i p = rw add-one refl

pub count-step : (i : ℕ) (p : ℕ → Bool) → count_below (i + 1) p ≡ count_below i p + bit (p i)
unfolding count_below
count-step i p = rw add-one refl

-- one that fails is enough
pub all_not : (n : ℕ) (p : ℕ → Bool) (k : ℕ) → k < n → p k ≡ false → all_below n p ≡ false
all_not n p k h e = ⊎_elim (λ a. absurd (true≢false (sym (all-at n p a k h) ∙ e))) (λ a. a) (true_or_false (all_below n p))

-- ---- as many below

-- fewer are counted below a number that has p than below any greater one
pub count_lt : (p : ℕ → Bool) (k n : ℕ) → k < n → p k ≡ true → count_below k p < count_below n p
unfolding count_below
count_lt p k zero h e = absurd (not-suc-le-zero h)
count_lt p k (suc n) h e = ⊎_elim
    (λ w. subst (λ (z : ℕ). count_below z p < count_below n p + bit (p n)) (sym w)
    (subst (λ (b : Bool). count_below n p < count_below n p + bit b) (sym (ap p (sym w) ∙ e)) (omega arith)))
    (λ w. let r = count_lt p k n w e in omega arith)
    (below_suc h)

pub le_or_lt : (a b : ℕ) → (a ≤ b) ⊎ (b < a)
le_or_lt a b = ⊎_elim (λ t. inl (leb-true a b t)) (λ t. inr (leb-false a b t)) (true_or_false (leb a b))

-- a number from 1 to 3 is one of these
pub one-to-three : (k : ℕ) → 1 ≤ k → k ≤ 3 → (k ≡ 1) ⊎ ((k ≡ 2) ⊎ (k ≡ 3))
one-to-three zero g h = absurd (omega arith)
one-to-three (suc zero) g h = inl refl
one-to-three (suc (suc zero)) g h = inr (inl refl)
one-to-three (suc (suc (suc zero))) g h = inr (inr refl)
one-to-three (suc (suc (suc (suc k)))) g h = absurd (omega arith)

-- two numbers that have p, with as many below, are one
pub count_injective : (p : ℕ → Bool) (j k : ℕ) → p j ≡ true → p k ≡ true → count_below j p ≡ count_below k p → j ≡ k
count_injective p j k e f q = ⊎_elim
    (λ l. ⊎_elim (λ w. w) (λ w. let r = count_lt p j k w e in absurd (omega arith)) (eq-or-lt_of_le l))
    (λ w. let r = count_lt p k j w f in absurd (omega arith))
    (le_or_lt j k)

-- as many as are counted, each has its place
pub count_reaches : (p : ℕ → Bool) (n k : ℕ) → k < count_below n p → (x : ℕ) × (x < n) × (p x ≡ true) × (count_below x p ≡ k)
unfolding count_below
count_reaches p zero k h = absurd (not-suc-le-zero h)
count_reaches p (suc n) k h = go (p n) refl h (count_reaches p n k)
  where
    go : (b : Bool) → p n ≡ b → k < count_below n p + bit b → (k < count_below n p → (x : ℕ) × (x < n) × (p x ≡ true) × (count_below x p ≡ k))
        → (x : ℕ) × (x < suc n) × (p x ≡ true) × (count_below x p ≡ k)
    go b q l ih = ⊎_elim
        (λ t. let r = ih (ltb-true k (count_below n p) t) in (r.0, omega arith, r.2, r.3))
        (λ t. let g = ltb-false k (count_below n p) t in let w = one b l g in (n, omega arith, q ∙ w.0, w.1))
        (true_or_false (ltb k (count_below n p)))
      where
        one : (b : Bool) → k < count_below n p + bit b → count_below n p ≤ k → (b ≡ true) × (count_below n p ≡ k)
        one true u v = (refl, omega arith)
        one false u v = absurd (omega arith)

-- no fewer are counted below a greater bound
pub count-up : (p : ℕ → Bool) (j k : ℕ) → j ≤ k → count_below j p ≤ count_below k p
unfolding count_below
count-up p zero zero h = omega arith
count-up p (suc j) zero h = absurd (not-suc-le-zero h)
count-up p j (suc k) h = ⊎_elim
    (λ w. subst (λ (z : ℕ). count_below z p ≤ count_below k p + bit (p k)) (sym w) (omega arith))
    (λ (w : j < suc k). let r = count-up p j k (le_of_suc-le-suc w) in omega arith)
    (eq-or-lt_of_le h)

-- as many are counted below two bounds between which none has p
pub count_gap : (p : ℕ → Bool) (j k : ℕ) → j ≤ k → ((z : ℕ) → j ≤ z → z < k → p z ≡ false) → count_below k p ≡ count_below j p
unfolding count_below
count_gap p zero zero h f = refl
count_gap p (suc j) zero h f = absurd (not-suc-le-zero h)
count_gap p j (suc k) h f = ⊎_elim
    (λ w. ap (λ (z : ℕ). count_below z p) (sym w))
    (λ (w : j < suc k). let l = le_of_suc-le-suc w in
    ap₂ (λ (a : ℕ) (b : Bool). a + bit b) (count_gap p j k l (λ z g i. f z g (omega arith))) (f k l (omega arith)) ∙ add-zero (count_below j p))
    (eq-or-lt_of_le h)

-- ---- a loop that tests each number in turn, and stops at the first that fails

module _ (p : ℕ → Bool) where
  pub all_none : all_below 0 p ≡ true
  unfolding all_below
  all_none = refl

  pub all_more : (i : ℕ) → all_below i p ≡ true → p i ≡ true → all_below (i + 1) p ≡ true
  all_more i e f = all-step i p ∙ and_of e f

  pub all-stops : (i n : ℕ) → i < n → p i ≡ false → false ≡ all_below n p
  all-stops i n h e = sym (all_not n p i h e)

  pub all-ends : (i n : ℕ) → all_below i p ≡ true → i ≤ n → n ≤ i → true ≡ all_below n p
  all-ends i n e h k = let same : i ≡ n = omega arith in sym (rw same at e)

-- what holds at no two numbers holds at one at most
pub count-single : (n : ℕ) (f : ℕ → Bool) → ((j k : ℕ) → j < k → k < n → f j ≡ true → f k ≡ true → ⊥) → count_below n f ≤ 1
unfolding count_below
count-single zero f h = omega arith
count-single (suc n) f h = go (f n) refl (count-single n f (λ j k l m. h j k l (omega arith)))
  where
    go : (b : Bool) → f n ≡ b → count_below n f ≤ 1 → count_below n f + bit b ≤ 1
    go true e few = let none = count-zero n f (λ j l. impossible (f j) (λ q. h j n l (omega arith) q e)) in omega arith
    go false e few = omega arith

pub any_same : (n : ℕ) (f g : ℕ → Bool) → ((k : ℕ) → k < n → f k ≡ g k) → any_below n f ≡ any_below n g
unfolding any_below
any_same zero f g h = refl
any_same (suc n) f g h = ap₂ ◌or◌ (any_same n f g (λ k l. h k (omega arith))) (h n (omega arith))

-- where two tests never hold together, those that have one or the other are those that have the one, and those that have the other
pub count_or : (n : ℕ) (p q : ℕ → Bool) → ((j : ℕ) → j < n → p j ≡ true → q j ≡ true → ⊥)
    → count_below n (λ j. p j or q j) ≡ count_below n p + count_below n q
unfolding count_below ◌or◌
count_or zero p q f = refl
count_or (suc n) p q f = go (p n) (q n) (f n (omega arith)) (count_or n p q (λ j h. f j (omega arith)))
  where
    go : (a b : Bool) → (a ≡ true → b ≡ true → ⊥) → count_below n (λ j. p j or q j) ≡ count_below n p + count_below n q
        → count_below n (λ j. p j or q j) + bit (a or b) ≡ count_below n p + bit a + (count_below n q + bit b)
    go true true g h = absurd (g refl refl)
    go true false g h = omega arith
    go false b g h = omega arith

-- Laws of `binary`: two numbers as one, a digit set, the lowest set digit, and no digit set; a digit as the machine makes it.
use Prim.Native.Nat.{ℕ, zero, suc, ◌+◌, ◌*◌, ◌/◌, ◌%◌, ◌^◌, ◌≤◌, ◌<◌}
use mathlib.Core.Path.{◌≡◌, refl, sym, ap, ap₂, ◌∙◌}
use mathlib.Core.Bool.{Bool, true, false}
use native.Mathlib.Nat.{not-suc-le-zero, le_of_suc-le-suc, pow-suc, one-mul, mul_assoc, mod-eq_of_lt}
use native.Mathlib.Omega.{arith}
use lib.Count.{count_trailing_zeros, under}
use lib.Pow.{pow-lt}
use Rattle.base.specs.Test.{bit}
use Rattle.base.specs.Binary.{binary}

pub binary-same : (n : ℕ) (p q : ℕ → Bool) → ((k : ℕ) → k < n → p k ≡ q k) → binary n p ≡ binary n q
unfolding binary
binary-same zero p q f = refl
binary-same (suc n) p q f =
    ap₂ (λ (b : Bool) (r : ℕ). bit b + 2 * r) (f 0 (omega arith)) (binary-same n (λ k. p (suc k)) (λ k. q (suc k)) (λ k h. f (suc k) (omega arith)))

pub binary-below : (n : ℕ) (p : ℕ → Bool) → binary n p < 2 ^ n
unfolding binary
binary-below zero p = omega arith
binary-below (suc n) p = step (p 0) (binary-below n (λ k. p (suc k)))
  where
    step : (b : Bool) → binary n (λ k. p (suc k)) < 2 ^ n → bit b + 2 * binary n (λ k. p (suc k)) < 2 ^ suc n
    step true h = rw (pow-suc 2 n) (omega arith)
    step false h = rw (pow-suc 2 n) (omega arith)

-- the first a digits, and the b behind them
pub binary_join : (a b : ℕ) (p : ℕ → Bool) → binary (a + b) p ≡ binary a p + binary b (λ k. p (a + k)) * 2 ^ a
unfolding binary
binary_join zero b p =
    let s : binary b (λ k. p (zero + k)) ≡ binary b p = binary-same b _ _ (λ k h. ap p (omega arith)) in
    let n : zero + b ≡ b = omega arith in
    ap (λ (k : ℕ). binary k p) n ∙ omega (arith, s)
binary_join (suc a) b p =
    let e = binary_join a b (λ k. p (suc k)) in
    let x = binary b (λ k. p (suc (a + k))) in
    let s : binary b (λ k. p (suc a + k)) ≡ x = binary-same b _ _ (λ k h. ap p (omega arith)) in
    let m : binary b (λ k. p (suc a + k)) * 2 ^ suc a ≡ x * 2 ^ a * 2 = rw (s, pow-suc 2 a) (sym (mul_assoc x (2 ^ a) 2)) in
    let n : suc a + b ≡ suc (a + b) = omega arith in
    ap (λ (k : ℕ). binary k p) n ∙ omega (arith, e, m)

-- one digit more is its power of two more
pub binary-more : (n : ℕ) (p q : ℕ → Bool) (k : ℕ) → k < n → p k ≡ false → q k ≡ true
    → ((j : ℕ) → j < n → (j ≡ k → ⊥) → q j ≡ p j) → binary n q ≡ binary n p + 2 ^ k
unfolding binary
binary-more zero p q k h a b f = absurd (not-suc-le-zero h)
binary-more (suc n) p q zero h a b f =
    let e = binary-same n (λ j. q (suc j)) (λ j. p (suc j)) (λ j l. f (suc j) (omega arith) (λ z. omega arith)) in
    rw (a, b, e) (omega arith)
binary-more (suc n) p q (suc k) h a b f =
    let e = binary-more n (λ j. p (suc j)) (λ j. q (suc j)) k (le_of_suc-le-suc h) a b (λ j l ne. f (suc j) (omega arith) (λ z. ne (omega arith))) in
    let o : q 0 ≡ p 0 = f 0 (omega arith) (λ z. omega arith) in
    rw (o, e, pow-suc 2 k) (omega arith)

pub binary-none : (n : ℕ) (p : ℕ → Bool) → binary n p ≡ 0 → (k : ℕ) → k < n → p k ≡ false
unfolding binary
binary-none zero p e k h = absurd (not-suc-le-zero h)
binary-none (suc n) p e zero h = low (p 0) e
  where
    low : (b : Bool) → bit b + 2 * binary n (λ k. p (suc k)) ≡ 0 → b ≡ false
    low true e = absurd (omega arith)
    low false e = refl
binary-none (suc n) p e (suc k) h = binary-none n (λ j. p (suc j)) (omega arith) k (le_of_suc-le-suc h)

-- the lowest set digit
pub binary_lowest : (n : ℕ) (p : ℕ → Bool) → 1 ≤ binary n p
    → (count_trailing_zeros n (binary n p) < n) × (p (count_trailing_zeros n (binary n p)) ≡ true)
    × ((j : ℕ) → j < count_trailing_zeros n (binary n p) → p j ≡ false)
unfolding binary count_trailing_zeros
binary_lowest zero p h = absurd (omega arith)
binary_lowest (suc n) p h = go (p 0) refl h (binary_lowest n (λ k. p (suc k)))
  where
    Lowest : ℕ → Type 0
    Lowest t = (t < suc n) × (p t ≡ true) × ((j : ℕ) → j < t → p j ≡ false)

    r : ℕ
    r = binary n (λ k. p (suc k))

    go : (b : Bool) → p 0 ≡ b → 1 ≤ bit b + 2 * r
        → (1 ≤ r → (count_trailing_zeros n r < n) × (p (suc (count_trailing_zeros n r)) ≡ true) × ((j : ℕ) → j < count_trailing_zeros n r → p (suc j) ≡ false))
        → Lowest (under ((bit b + 2 * r) % 2) (count_trailing_zeros n ((bit b + 2 * r) / 2)))
    go true e l ih =
        let o : (1 + 2 * r) % 2 ≡ 1 = omega arith in
        rw o (omega arith, e, λ j h. absurd (omega arith))
    go false e l ih =
        let o : (0 + 2 * r) % 2 ≡ 0 = omega arith in
        let d : (0 + 2 * r) / 2 ≡ r = omega arith in
        let i = ih (omega arith) in
        rw (o, d) (omega arith, i.1, low i)
      where
        low : (count_trailing_zeros n r < n) × (p (suc (count_trailing_zeros n r)) ≡ true) × ((j : ℕ) → j < count_trailing_zeros n r → p (suc j) ≡ false)
            → (j : ℕ) → j < suc (count_trailing_zeros n r) → p j ≡ false
        low i zero h = e
        low i (suc j) h = i.2 j (omega arith)

pub binary-zero : (n : ℕ) (p : ℕ → Bool) → ((k : ℕ) → k < n → p k ≡ false) → binary n p ≡ 0
unfolding binary
binary-zero zero p f = refl
binary-zero (suc n) p f =
    ap₂ (λ (b : Bool) (r : ℕ). bit b + 2 * r) (f 0 (omega arith)) (binary-zero n (λ k. p (suc k)) (λ k h. f (suc k) (omega arith)))

-- a one shifted to digit k of 64
pub shifted : (k : ℕ) → k < 64 → (1 * 2 ^ k) % 2 ^ 64 ≡ 2 ^ k
shifted k h = let e : 1 * 2 ^ k ≡ 2 ^ k = one-mul (2 ^ k) in rw e (mod-eq_of_lt (pow-lt h))

-- Laws of numbers in bytes, over the width: what is put together is taken apart, and the other way round.
use Prim.Native.Nat.{ℕ, zero, suc, ◌+◌, ◌*◌, ◌/◌, ◌%◌, ◌^◌, ◌≤◌, ◌<◌}
use mathlib.Core.Path.{◌≡◌, refl, ap, ◌∙◌}
use mathlib.Core.List.{List, ◌∷◌, ◌++◌}
use native.Mathlib.Nat.{zero-add, suc-add, add-zero, pow-zero, pow-suc, pow-succ', mul_assoc, div-div-eq-div-mul, div-one, div-lt_iff_lt-mul}
use native.Mathlib.Numerals.{add-one}
use native.Mathlib.Omega.{arith}
use lib.ListN.{length, get_or, take, drop}
use lib.Seq.{drop-cons}
use Rattle.base.specs.Digits.{bytes_of, number_at}

pub length-bytes : (width v : ℕ) → length (bytes_of width v) ≡ width
unfolding bytes_of
length-bytes zero v = refl
length-bytes (suc w) v = ap suc (length-bytes w (v / 256))

-- ---- a number of a greater width from two of a smaller

pub bytes_join : (a c v : ℕ) → bytes_of (a + c) v ≡ bytes_of a v ++ bytes_of c (v / 256 ^ a)
unfolding bytes_of
bytes_join zero c v = rw (zero-add, pow-zero, div-one)
bytes_join (suc a) c v = rw (suc-add, pow-succ', ← div-div-eq-div-mul v 256 (256 ^ a)) (ap (λ (l : List ℕ). v % 256 ∷ l) (bytes_join a c (v / 256)))

pub number_join : (a c : ℕ) (b : List ℕ) (at : ℕ) → number_at (a + c) b at ≡ number_at a b at + 256 ^ a * number_at c b (at + a)
unfolding number_at
number_join zero c b at = rw (zero-add c, pow-zero, add-zero) (omega arith)
number_join (suc a) c b at =
    let next : at + suc a ≡ at + 1 + a = omega arith in
    rw (suc-add, pow-succ', next, number_join a c b (at + 1), mul_assoc) (omega arith)

-- ---- a number of bytes below 256 is small

pub number_small : (w : ℕ) (b : List ℕ) (at : ℕ) → ((i : ℕ) → get_or b i 0 < 256) → number_at w b at < 256 ^ w
unfolding number_at
number_small zero b at h = rw pow-zero (omega arith)
number_small (suc w) b at h = let r = number_small w b (at + 1) h in rw pow-succ' (omega (arith, h at))

-- ---- there and back

-- where the bytes of v stand, v is read
pub number-back : (w v : ℕ) (b : List ℕ) (at : ℕ) → v < 256 ^ w → ((j : ℕ) → j < w → get_or b (at + j) 0 ≡ get_or (bytes_of w v) j 0) → number_at w b at ≡ v
unfolding number_at bytes_of
number-back zero v b at h f = let l = rw pow-zero at h in omega arith
number-back (suc w) v b at h f =
    let small : v / 256 < 256 ^ w = (div-lt_iff_lt-mul {k = 256} {x = v} {y = 256 ^ w} (omega arith)).1 (rw pow-suc at h) in
    let low : get_or b at 0 ≡ v % 256 = rw (add-zero at) at (f 0 (omega arith)) in
    let high = number-back w (v / 256) b (at + 1) small
    (λ j l. ap (λ (i : ℕ). get_or b i 0) (next j) ∙ f (suc j) (omega arith)) in
    rw (low, high) (omega arith)
  where
    next : (j : ℕ) → at + 1 + j ≡ at + suc j
    next j = omega arith

-- the bytes of a number that was read stand where it was read
pub bytes_back : (w : ℕ) (b : List ℕ) (at : ℕ) → ((i : ℕ) → get_or b i 0 < 256) → at + w ≤ length b → bytes_of w (number_at w b at) ≡ take w (drop at b)
unfolding number_at bytes_of
bytes_back zero b at h l = refl
bytes_back (suc w) b at h l =
    let g = get_or b at 0 in
    let m = number_at w b (at + 1) in
    let low : (g + 256 * m) % 256 ≡ g = omega (arith, h at) in
    let high : (g + 256 * m) / 256 ≡ m = omega (arith, h at) in
    rw (low, high, drop-cons b at 0 (omega arith), ← add-one at)
    (ap (λ (z : List ℕ). g ∷ z) (bytes_back w b (at + 1) h (omega arith)))

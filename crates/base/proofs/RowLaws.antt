-- Rows of one width, one behind the other: row j has the numbers from j * w to j * w + (w - 1).
use Prim.Native.Nat.{ℕ, ◌+◌, ◌*◌, ◌/◌, ◌%◌, ◌≤◌, ◌<◌}
use mathlib.Core.Path.{◌≡◌, sym, ap, ◌∙◌}
use native.Mathlib.Nat.{mul-add-div_right, div-eq_of_lt, add-zero, add_left_cancel, mul-le-mul_right, mod-lt, div-add-mod', div-lt_iff_lt-mul}
use native.Mathlib.Omega.{arith}

pub row-end : (w j k : ℕ) → j < k → j * w + w ≤ k * w
row-end w j k h = let l : j + 1 ≤ k = omega arith in omega (arith, mul-le-mul_right w l)

pub row-cell : (w j k r : ℕ) → j < k → r < w → j * w + r < k * w
row-cell w j k r h l = omega (arith, row-end w j k h)

-- a number below the end of k rows is in one of them
pub row_of : (w k e : ℕ) → 1 ≤ w → e < k * w → (j : ℕ) × (r : ℕ) × (j < k) × (r < w) × (e ≡ j * w + r)
row_of w k e some h = (e / w, e % w, (div-lt_iff_lt-mul some).1 h, mod-lt e some, sym (div-add-mod' e w))

-- a quotient and a rest below A are found again in q * A + r
pub digits : (A q r v t : ℕ) → r < A → t < A → q * A + r ≡ v * A + t → (q ≡ v) × (r ≡ t)
digits A q r v t h l e = (same, add_left_cancel (q * A) (e ∙ ap (λ (z : ℕ). z * A + t) (sym same)))
  where
    back : (q r : ℕ) → r < A → (q * A + r) / A ≡ q
    back q r h = mul-add-div_right (omega arith) q r ∙ ap (λ (z : ℕ). q + z) (div-eq_of_lt h) ∙ add-zero q

    same : q ≡ v
    same = sym (back q r h) ∙ ap (λ (z : ℕ). z / A) e ∙ back v t l

-- Two numbers side by side are one of the joined width, read or put; what is put in two runs is put in one.
use Prim.Native.Nat.{ℕ, ◌+◌, ◌-◌, ◌*◌, ◌/◌, ◌%◌, ◌^◌, ◌≤◌, ◌<◌}
use mathlib.Core.Path.{◌≡◌, refl, sym, ap, ◌∙◌}
use mathlib.Core.Logic.{inl, inr}
use mathlib.Core.List.{List, ◌++◌}
use native.Mathlib.Nat.{mul-le-mul_left, pow-le-pow_right, pow-suc, add_comm, div-div-eq-div-mul}
use native.Mathlib.Numerals.{add-one}
use native.Mathlib.Omega.{arith}
use lib.ListN.{length, get_or, set, length-append}
use lib.Pow.{pow-add}
use lib.Seq.{length-sets}
use Rattle.base.specs.Digits.{bytes_of, number_at}
use Rattle.base.proofs.DigitLaws.{length-bytes, number_join, bytes_join}
use Rattle.base.proofs.ListLaws.{sets-sets}
use Rattle.numbers.specs.Places.{Width, NumberRead, Put}
use Rattle.numbers.specs.declared.Cursor.{Cursor}

-- ---- the width of the numbers of a file

pub four-wide : {w : ℕ} → Width w → (w ≡ 2 → ⊥) → w ≡ 4
four-wide (inl e) ne = absurd (ne e)
four-wide (inr e) ne = e

pub wide-few : {w : ℕ} → Width w → (2 ≤ w) × (w ≤ 4)
wide-few (inl e) = (omega arith, omega arith)
wide-few (inr e) = (omega arith, omega arith)

-- ---- read

pub taken-wide : (w v : ℕ) (b : List ℕ) (at : ℕ) (r : ℕ × Cursor) → w ≡ v → NumberRead v b at r → NumberRead w b at r
taken-wide w v b at r e x = rw e x

pub taken-one : (b : List ℕ) (at v : ℕ) → v ≡ get_or b at 0 → v < 256 → NumberRead 1 b at (v, record { at = at + 1 })
unfolding number_at
taken-one b at v e h = record { value = rw e (omega arith); small = h; next = refl }

pub taken_join : (w u : ℕ) (b : List ℕ) (at : ℕ) (low high : ℕ × Cursor) → NumberRead w b at low → NumberRead u b low.1.at high
    → NumberRead (w + u) b at (low.0 + 256 ^ w * high.0, high.1)
taken_join w u b at low high x y = record {
  value = rw (x.value, y.value, x.next) (sym (number_join w u b at));
  small =
      let q : high.0 + 1 ≤ 256 ^ u = omega (arith, y.small) in
      rw pow-add (omega (arith, mul-le-mul_left (256 ^ w) q, x.small));
  next = rw (y.next, x.next) (omega arith);
}

-- a byte is small, wherever it was read
pub byte_small : (b : List ℕ) (k low : ℕ) → ((i : ℕ) → get_or b i 0 < 256) → low ≡ get_or b k 0 → low < 256
byte_small b k low bytes e = rw e (bytes k)

-- before the number, the byte that stands there
pub taken-more : (w at i : ℕ) (b : List ℕ) (low v : ℕ) (end : Cursor) → 0 < i → i ≤ w
    → (k : ℕ) → k ≡ at + (i - 1) → low ≡ get_or b k 0 → low < 256 → NumberRead (w - i) b (at + i) (v, end)
    → NumberRead (w - (i - 1)) b (at + (i - 1)) (256 * v + low, end)
taken-more w at i b low v end h l k q e small x =
    let j : w - (i - 1) ≡ 1 + (w - i) = omega arith in
    let next : at + i ≡ at + (i - 1) + 1 = omega arith in
    let y : NumberRead (w - i) b (at + (i - 1) + 1) (v, end) = rw next at x in
    rw (j, add_comm (256 * v) low) (taken_join 1 (w - i) b (at + (i - 1)) (low, record { at = at + (i - 1) + 1 }) (v, end) (taken-one b _ low (rw q at e) small) y)

-- a number of few bytes leaves room for one byte more
pub taken-small : (w at i : ℕ) (b : List ℕ) (v : ℕ) (end : Cursor) → 0 < i → w ≤ 4 → NumberRead (w - i) b (at + i) (v, end) → v < 16777216
taken-small w at i b v end h few x =
    let most : w - i ≤ 3 = omega arith in
    omega (arith, x.small, pow-le-pow_right {n = 256} (omega arith) most)

-- ---- put

pub put_then : (l : List ℕ) (at : ℕ) (a l' : List ℕ) (p : ℕ) (b l'' : List ℕ) (q : ℕ) → Put l at a l' p → Put l' p b l'' q → Put l at (a ++ b) l'' q
put_then l at a l' p b l'' q x y = record {
  bytes = rw (y.bytes, x.bytes, x.after) (sets-sets l at a b);
  after = rw (y.after, x.after, length-append a b) (omega arith);
}

pub put-wide : (w v : ℕ) (l : List ℕ) (at u : ℕ) (l' : List ℕ) (p : ℕ) → w ≡ v → Put l at (bytes_of v u) l' p → Put l at (bytes_of w u) l' p
put-wide w v l at u l' p e x = rw e x

pub put-length : (l : List ℕ) (at : ℕ) (vs l' : List ℕ) (q : ℕ) → Put l at vs l' q → length l' ≡ length l
put-length l at vs l' q x = ap length x.bytes ∙ length-sets l at vs

pub put-one-byte : (l : List ℕ) (at v : ℕ) → Put l at (bytes_of 1 v) (set l at (v % 256)) (at + 1)
unfolding bytes_of
put-one-byte l at v = record { bytes = refl; after = refl }

pub put_join : (w u : ℕ) (l : List ℕ) (at v : ℕ) (l' : List ℕ) (p : ℕ) (l'' : List ℕ) (q : ℕ)
    → Put l at (bytes_of w v) l' p → Put l' p (bytes_of u (v / 256 ^ w)) l'' q → Put l at (bytes_of (w + u) v) l'' q
put_join w u l at v l' p l'' q x y = rw (bytes_join w u v) (put_then l at _ l' p _ l'' q x y)

-- one byte more of v is put
pub put-more : (l : List ℕ) (at i v left : ℕ) (l' : List ℕ) → (left ≡ v / 256 ^ i) × Put l at (bytes_of i v) l' (at + i)
    → (rest : ℕ) → rest ≡ left / 256
    → (rest ≡ v / 256 ^ (i + 1)) × Put l at (bytes_of (i + 1) v) (set l' (at + i) (left % 256)) (at + (i + 1))
put-more l at i v left l' (e, x) rest q =
    let next : at + (i + 1) ≡ at + i + 1 = omega arith in (
      rw (q, e, div-div-eq-div-mul, ← pow-suc, add-one),
      rw (e, next) (put_join i 1 l at v l' (at + i) _ _ x (put-one-byte l' (at + i) (v / 256 ^ i))),
    )

-- the room that is left after a number
pub put-room : (w : ℕ) (l : List ℕ) (at v : ℕ) (l' : List ℕ) (p : ℕ) → Put l at (bytes_of w v) l' p → (k : ℕ) → at + w + k ≤ length l → p + k ≤ length l'
put-room w l at v l' p x k h = rw (put-length l at _ l' p x, x.after, length-bytes w v) h

pub put-value : (w : ℕ) {v u : ℕ} (l : List ℕ) (at : ℕ) (l' : List ℕ) (p : ℕ) → v ≡ u → Put l at (bytes_of w v) l' p → Put l at (bytes_of w u) l' p
put-value w l at l' p e x = rw (← e) x

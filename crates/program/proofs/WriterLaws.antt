-- What is written byte by byte, and what room is left behind it.
use Prim.Native.Nat.{ℕ, ◌+◌, ◌-◌, ◌/◌, ◌%◌, ◌≤◌, ◌<◌}
use mathlib.Core.Path.{◌≡◌, refl, sym, ◌∙◌}
use mathlib.Core.List.{List, [], ◌∷◌, ◌++◌, append_assoc}
use native.Mathlib.Numerals.{add-one}
use native.Mathlib.Omega.{arith}
use lib.ListN.{length, get_or, take, drop, set, length-append}
use lib.Seq.{sets, sets-eq, drop-drop, take-suc, length-take-le, take-length}
use Rattle.base.proofs.ListLaws.{sets-sets}
use Rattle.numbers.specs.Places.{Put}
use Rattle.numbers.proofs.PlaceLaws.{put_then, put-length}
use Rattle.program.specs.Lines.{decimal}
use Rattle.program.proofs.DecimalLaws.{decimal-one, decimal-more}

-- one byte more of s
pub text_more : (l : List ℕ) (at : ℕ) (s l' : List ℕ) (i : ℕ) → i < length s → l' ≡ sets l at (take i s)
    → set l' (at + i) (get_or s i 0) ≡ sets l at (take (i + 1) s)
text_more l at s l' i h e =
    let long : length (take i s) ≡ i = length-take-le i s (omega arith) in
    rw (add-one i, take-suc s i 0 h, e, ← sets-sets l at (take i s) (get_or s i 0 ∷ []), long) refl

-- all bytes of s
pub text_all : (l : List ℕ) (at : ℕ) (s l' : List ℕ) (i : ℕ) → i ≡ length s → l' ≡ sets l at (take i s) → Put l at s l' (at + i)
text_all l at s l' i h e = record {
  bytes = rw (e, h, take-length s) refl;
  after = rw h refl;
}

-- the bytes s as a copy leaves them in the midst of l
pub text_put : (l : List ℕ) (at : ℕ) (s part : List ℕ) → part ≡ s → at + length s ≤ length l
    → Put l at s (take at l ++ (part ++ drop (at + length s - at) (drop at l))) (at + length s)
text_put l at s part e h =
    let long : at + length s - at ≡ length s = omega arith in record {
      bytes = rw (e, long, drop-drop) (sym (append_assoc (take at l) s _) ∙ sym (sets-eq s l at h));
      after = refl;
    }

-- once the first part is written, there is room for the rest
pub room-left : (l : List ℕ) (at : ℕ) (a b l' : List ℕ) (p : ℕ) → Put l at a l' p → at + length (a ++ b) ≤ length l → p + length b ≤ length l'
room-left l at a b l' p x h = let h' = rw length-append at h in rw (put-length l at a l' p x, x.after) (omega arith)

pub room-first : (l : List ℕ) (at : ℕ) (a b : List ℕ) → at + length (a ++ b) ≤ length l → at + length a ≤ length l
room-first l at a b h = let h' = rw length-append at h in omega arith

-- one byte at the end
pub put_byte : (l : List ℕ) (at : ℕ) (a l' : List ℕ) (p v : ℕ) → Put l at a l' p → Put l at (a ++ (v ∷ [])) (set l' p v) (p + 1)
put_byte l at a l' p v x = put_then l at a l' p (v ∷ []) (set l' p v) (p + 1) x (record { bytes = refl; after = refl })

-- ---- a number of several digits: those before the last, then the last

module _ (l : List ℕ) (at v : ℕ) (h : 10 ≤ v) (small : v < 4294967296) where
  pub tens_room : at + length (decimal v) ≤ length l → at + length (decimal (v / 10)) ≤ length l
  tens_room r = room-first l at (decimal (v / 10)) ((48 + v % 10) ∷ []) (rw (decimal-more v h small) at r)

  pub last-room : (l' : List ℕ) (p : ℕ) → Put l at (decimal (v / 10)) l' p → at + length (decimal v) ≤ length l → p + 1 ≤ length l'
  last-room l' p x r = room-left l at (decimal (v / 10)) ((48 + v % 10) ∷ []) l' p x (rw (decimal-more v h small) at r)

  pub put_last : (l' : List ℕ) (p d : ℕ) → Put l at (decimal (v / 10)) l' p → d ≡ 48 + v % 10 → Put l at (decimal v) (set l' p d) (p + 1)
  put_last l' p d x e = rw (decimal-more v h small, e) (put_byte l at (decimal (v / 10)) l' p (48 + v % 10) x)

pub put_only : (l : List ℕ) (at v d : ℕ) → v < 10 → d ≡ 48 + v % 10 → Put l at (decimal v) (set l at d) (at + 1)
put_only l at v d h e =
    let same : d ≡ 48 + v = omega arith in
    rw (decimal-one v h, same) (record { bytes = refl; after = refl })

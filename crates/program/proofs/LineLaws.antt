-- A line of numbers and the line of a refusal, part by part: how long it is, and that its parts, written one after the other, are the line.
use Prim.Native.Nat.{ℕ, zero, suc, ◌+◌, ◌-◌, ◌≤◌, ◌<◌}
use mathlib.Core.Path.{◌≡◌, refl, ap, ◌∙◌}
use mathlib.Core.Logic.{⊎_elim}
use mathlib.Core.List.{List, ◌++◌}
use native.Mathlib.Omega.{arith}
use lib.ListN.{length, get_or, take, drop, length-append}
use Rattle.std.proofs.lemmas.Grind.{elements}
use Rattle.base.specs.Lists.{joined}
use Rattle.base.proofs.BelowLaws.{le_or_lt}
use Rattle.base.proofs.ListLaws.{joined_step}
use Rattle.numbers.specs.Places.{Put}
use Rattle.numbers.proofs.PlaceLaws.{put_then, put-length}
use Rattle.program.specs.Lines.{decimal, space, line_feed, fields, numbers_line, refused_word, refused_line}
use Rattle.program.proofs.DecimalLaws.{decimal-short}

-- how many digits v has
abbrev pub digits : ℕ → ℕ
digits v = length (decimal v)

pub refused-length : (k : ℕ) → length (refused_line k) ≡ digits k + 9
unfolding refused_line
refused-length k = simp length-append (omega arith)

module _ (l : List ℕ) (at k : ℕ) (l₁ : List ℕ) (p₁ : ℕ) (l₂ : List ℕ) (p₂ : ℕ) where
  pub refused-put : Put l at (refused_word ++ space ++ decimal k) l₁ p₁ → Put l₁ p₁ line_feed l₂ p₂ → Put l at (refused_line k) l₂ p₂
  unfolding refused_line
  refused-put r s = put_then _ _ _ _ _ _ _ _ r s

pub refused-few : (k : ℕ) → k < 100 → length (refused_line k) ≤ 11
refused-few k h = omega (arith, refused-length k, decimal-short 1 k h)

-- ---- a line of numbers

fields-less : (vs : List ℕ) (k m : ℕ) → k ≤ m → length (fields vs k) ≤ length (fields vs m)
unfolding fields joined
fields-less vs k zero h = let e : k ≡ 0 = omega arith in rw e (omega arith)
fields-less vs k (suc m) h = ⊎_elim
    (λ (l : k ≤ m). omega (arith, length-append (fields vs m) (space ++ decimal (get_or vs (m + 1) 0)), fields-less vs k m l))
    (λ (l : m < k). let e : k ≡ suc m = omega arith in rw e (omega arith))
    (le_or_lt k m)

numbers_length : (vs : List ℕ) → length (numbers_line vs) ≡ digits (get_or vs 0 0) + length (fields vs (length vs - 1)) + 1
unfolding numbers_line
numbers_length vs = length-append (decimal (get_or vs 0 0) ++ fields vs (length vs - 1)) line_feed
    ∙ ap (λ (k : ℕ). k + 1) (length-append (decimal (get_or vs 0 0)) (fields vs (length vs - 1)))

-- the numbers behind the first
abbrev pub rest : List ℕ → List ℕ
rest vs = take (length vs - 1) (drop 1 vs)

pub length-rest : (vs : List ℕ) → length (rest vs) ≡ length vs - 1
length-rest vs = grind (arith, elements)

pub get_or-rest : (vs : List ℕ) (k : ℕ) → k < length (rest vs) → get_or (rest vs) k 0 ≡ get_or vs (k + 1) 0
get_or-rest vs k h = grind (arith, elements)

-- behind its first number, from the place p of l on
module _ (vs l : List ℕ) (p : ℕ) where
  pub fields-none : Put l p (fields vs 0) l p
  unfolding fields joined
  fields-none = record { bytes = refl; after = omega arith }

  module _ (k : ℕ) (l' : List ℕ) (p' : ℕ) (x : Put l p (fields vs k) l' p') where
    pub fields-more : (l'' : List ℕ) (q : ℕ) → Put l' p' (space ++ decimal (get_or vs (k + 1) 0)) l'' q → Put l p (fields vs (k + 1)) l'' q
    unfolding fields
    fields-more l'' q y = rw joined_step (put_then l p _ l' p' _ l'' q x y)

    -- the same where the numbers behind the first are gone through
    pub rest-more : k < length (rest vs) → (l'' : List ℕ) (q : ℕ) → Put l' p' (space ++ decimal (get_or (rest vs) k 0)) l'' q
        → Put l p (fields vs (k + 1)) l'' q
    rest-more h l'' q y = fields-more l'' q (rw (get_or-rest vs k h) at y)

    -- there is room for one number more, and at the end for the end of the line
    pub fields-room : p + length (fields vs (length vs - 1)) + 1 ≤ length l → k < length (rest vs)
        → p' + length (space ++ decimal (get_or (rest vs) k 0)) ≤ length l'
    unfolding fields
    fields-room room h =
        let more : List ℕ = space ++ decimal (get_or vs (k + 1) 0) in
        let step : length (fields vs (k + 1)) ≡ length (fields vs k) + length more = ap length (joined_step k _) ∙ length-append (fields vs k) more in
        let less = fields-less vs (k + 1) (length vs - 1) (omega (arith, length-rest vs)) in
        rw (get_or-rest vs k h, put-length l p _ l' p' x, x.after) (omega (arith, step, less))

    pub end-room : p + length (fields vs (length vs - 1)) + 1 ≤ length l → k ≡ length (rest vs) → p' + 1 ≤ length l'
    end-room room e = rw (put-length l p _ l' p' x, x.after, e, length-rest vs) (omega arith)

module _ (vs l : List ℕ) (at : ℕ) (room : at + length (numbers_line vs) ≤ length l) where
  pub first-room : at + length (decimal (get_or vs 0 0)) ≤ length l
  first-room = omega (arith, room, numbers_length vs)

  module _ (l₁ : List ℕ) (p₁ : ℕ) (x : Put l at (decimal (get_or vs 0 0)) l₁ p₁) where
    pub rest-room : p₁ + length (fields vs (length vs - 1)) + 1 ≤ length l₁
    rest-room = rw (put-length l at _ l₁ p₁ x, x.after) (omega (arith, room, numbers_length vs))

    pub numbers_put : (k : ℕ) (l₂ : List ℕ) (p₂ : ℕ) (l₃ : List ℕ) (p₃ : ℕ) → k ≡ length (rest vs) → Put l₁ p₁ (fields vs k) l₂ p₂ → Put l₂ p₂ line_feed l₃ p₃
        → Put l at (numbers_line vs) l₃ p₃
    unfolding numbers_line
    numbers_put k l₂ p₂ l₃ p₃ e y z = rw (← length-rest vs, ← e) (put_then _ _ _ _ _ _ _ _ (put_then _ _ _ _ _ _ _ _ x y) z)

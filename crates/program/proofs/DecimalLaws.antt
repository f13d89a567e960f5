-- Laws of numbers in decimal: the last digit comes after the others, and a small number has few digits.
use Prim.Native.Nat.{ℕ, zero, suc, ◌+◌, ◌/◌, ◌%◌, ◌^◌, ◌≤◌, ◌<◌}
use mathlib.Core.Path.{◌≡◌, refl, sym, ap, ◌∙◌}
use mathlib.Core.Logic.{⊎_elim}
use mathlib.Core.Bool.{cond}
use mathlib.Core.List.{List, [], ◌∷◌, ◌++◌}
use native.Mathlib.Nat.{pow-suc, div-lt_iff_lt-mul}
use native.Mathlib.Omega.{arith}
use lib.Dec.{ltb}
use lib.ListN.{length, length-append}
use borrow.Author.Tests.{lt-ltb, le-ltb, ltb-true, ltb-false}
use Rattle.base.proofs.TestLaws.{true_or_false}
use Rattle.program.specs.Lines.{spelled, decimal}

tenth : (k v : ℕ) → v < 10 ^ suc k → v / 10 < 10 ^ k
tenth k v h = (div-lt_iff_lt-mul {k = 10} {x = v} {y = 10 ^ k} (omega arith)).1 (rw pow-suc at h)

spelled-one : (most v : ℕ) → v < 10 → spelled (suc most) v ≡ (48 + v) ∷ []
unfolding spelled
spelled-one most v h = rw (lt-ltb v 10 h) refl

spelled-more : (most v : ℕ) → 10 ≤ v → spelled (suc most) v ≡ spelled most (v / 10) ++ ((48 + v % 10) ∷ [])
unfolding spelled
spelled-more most v h = rw (le-ltb v 10 h) refl

-- room for one digit more changes nothing
spelled-room : (k v : ℕ) → v < 10 ^ suc k → spelled (suc (suc k)) v ≡ spelled (suc k) v
unfolding spelled
spelled-room zero v h = let l : v < 10 = h in rw (lt-ltb v 10 l) refl
spelled-room (suc k) v h = ap (λ (l : List ℕ). cond (ltb v 10) ((48 + v) ∷ []) (l ++ ((48 + v % 10) ∷ []))) (spelled-room k (v / 10) (tenth (suc k) v h))

pub decimal-one : (v : ℕ) → v < 10 → decimal v ≡ (48 + v) ∷ []
unfolding decimal
decimal-one v h = spelled-one 19 v h

pub decimal-more : (v : ℕ) → 10 ≤ v → v < 4294967296 → decimal v ≡ decimal (v / 10) ++ ((48 + v % 10) ∷ [])
unfolding decimal
decimal-more v h l = spelled-more 19 v h ∙ ap (λ (r : List ℕ). r ++ ((48 + v % 10) ∷ [])) (sym (spelled-room 18 (v / 10) (omega arith)))

-- a number below 10 ^ (k + 1) has at most k + 1 digits
pub spelled-short : (k most v : ℕ) → v < 10 ^ suc k → length (spelled most v) ≤ suc k
unfolding spelled
spelled-short k zero v h = omega arith
spelled-short k (suc most) v h = ⊎_elim
    (λ t. rw (spelled-one most v (ltb-true v 10 t)) (omega arith))
    (λ t. rw (spelled-more most v (ltb-false v 10 t), length-append) (long k (ltb-false v 10 t) h (λ j. spelled-short j most (v / 10))))
    (true_or_false (ltb v 10))
  where
    long : (k : ℕ) → 10 ≤ v → v < 10 ^ suc k → ((j : ℕ) → v / 10 < 10 ^ suc j → length (spelled most (v / 10)) ≤ suc j)
        → length (spelled most (v / 10)) + 1 ≤ suc k
    long zero g u f = let l : v < 10 = u in absurd (omega arith)
    long (suc k) g u f = let r = f k (tenth (suc k) v u) in omega arith

pub decimal-short : (k v : ℕ) → v < 10 ^ suc k → length (decimal v) ≤ suc k
unfolding decimal
decimal-short k v h = spelled-short k 20 v h

pub decimal-some : (v : ℕ) → 1 ≤ length (decimal v)
unfolding decimal
decimal-some v = ⊎_elim
    (λ t. rw (spelled-one 19 v (ltb-true v 10 t)) (omega arith))
    (λ t. rw (spelled-more 19 v (ltb-false v 10 t), length-append) (omega arith))
    (true_or_false (ltb v 10))

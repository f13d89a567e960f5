-- The lines part by part: how long each is, and that its parts, written one after the other, are the line.
use Prim.Native.Nat.{ℕ, ◌+◌, ◌≤◌}
use mathlib.Core.Path.{◌≡◌, refl}
use mathlib.Core.List.{List, [], ◌∷◌, ◌++◌, append_assoc}
use native.Mathlib.Omega.{arith}
use lib.ListN.{length, length-append}
use Rattle.base.specs.Lists.{joined}
use Rattle.model.specs.Answer.{Answer, number}
use Rattle.numbers.specs.Places.{Put}
use Rattle.numbers.proofs.PlaceLaws.{put_then}
use Rattle.program.specs.Lines.{decimal, space, line_feed, fields, numbers_line}
use Rattle.program.proofs.LineLaws.{digits}
use Rattle.bench.specs.Bench.{live_word, unused_word, shown, dart_line, last_line}

pub dart-length : (d : ℕ) (a : Answer)
    → length (dart_line d a) ≡ digits d + digits (number a) + digits (shown a 0) + digits (shown a 1) + digits (shown a 2) + 5
unfolding dart_line numbers_line fields joined
dart-length d a = simp length-append (omega arith)

pub last-length : (x y : ℕ) → length (last_line x y) ≡ digits x + digits y + 14
unfolding last_line
last-length x y = simp length-append (omega arith)

by-words : (v a w b s n : List ℕ) → v ++ s ++ a ++ s ++ w ++ s ++ b ++ n ≡ (v ++ s ++ a) ++ (s ++ w ++ s ++ b) ++ n
by-words v a w b s n = simp append_assoc

-- the numbers that `dart_line` gets are those of the line
module _ (d : ℕ) (a : Answer) (k o e f : ℕ) (x : k ≡ number a) (y : (o ≡ shown a 0) × (e ≡ shown a 1) × (f ≡ shown a 2)) where
  dart_numbers : dart_line d a ≡ numbers_line (d ∷ k ∷ o ∷ e ∷ f ∷ [])
  unfolding dart_line
  dart_numbers = rw (x, y.0, y.1, y.2) refl

  pub dart-room : (at size : ℕ) → at + length (dart_line d a) ≤ size → at + length (numbers_line (d ∷ k ∷ o ∷ e ∷ f ∷ [])) ≤ size
  dart-room at size h = rw (← dart_numbers) h

  pub dart-put : (l : List ℕ) (at : ℕ) (l' : List ℕ) (p : ℕ) → Put l at (numbers_line (d ∷ k ∷ o ∷ e ∷ f ∷ [])) l' p → Put l at (dart_line d a) l' p
  dart-put l at l' p z = rw dart_numbers z

module _ (l : List ℕ) (at x y : ℕ) (l₁ : List ℕ) (p₁ : ℕ) (l₂ : List ℕ) (p₂ : ℕ) (l₃ : List ℕ) (p₃ : ℕ) where
  pub last-put : Put l at (live_word ++ space ++ decimal x) l₁ p₁ → Put l₁ p₁ (space ++ unused_word ++ space ++ decimal y) l₂ p₂ → Put l₂ p₂ line_feed l₃ p₃
      → Put l at (last_line x y) l₃ p₃
  unfolding last_line
  last-put r s t = rw parts (put_then _ _ _ _ _ _ _ _ (put_then _ _ _ _ _ _ _ _ r s) t)
    where
      parts : last_line x y ≡ (live_word ++ space ++ decimal x) ++ (space ++ unused_word ++ space ++ decimal y) ++ line_feed
      parts = by-words live_word (decimal x) unused_word (decimal y) space line_feed

-- Laws of lists that are filled from their start, one word after the other or a part at a time.
use Prim.Native.Nat.{ℕ, zero, suc, ◌+◌, ◌≤◌, ◌<◌}
use mathlib.Core.Path.{◌≡◌, refl, sym, ap, ◌∙◌}
use mathlib.Core.Logic.{⊎_elim, by_cases}
use mathlib.Core.Bool.{Bool, cond}
use mathlib.Core.List.{List}
use native.Mathlib.Decide.{ℕ_discrete}
use native.Mathlib.Numerals.{add-one}
use native.Mathlib.Nat.{add-zero}
use native.Mathlib.Omega.{arith}
use lib.ListN.{length, get_or, set, replicate, length-set, length-replicate, get_or-replicate}
use lib.Seq.{ext_get_or, get_or-set_same, get_or-set_other}
use lib.Dec.{ltb}
use borrow.Author.Tests.{lt-ltb, le-ltb, ltb-true, ltb-false}
use Rattle.base.specs.Lists.{list}
use Rattle.base.specs.Filled.{filled, stored}
use Rattle.base.proofs.TestLaws.{true_or_false, same_test}
use Rattle.base.proofs.ListLaws.{get_or-list, length-list}

-- lists made of the same values are one
module _ {A : Type 0} where
  pub list_same : (n : ℕ) (f g : ℕ → A) → ((k : ℕ) → k < n → f k ≡ g k) → list n f ≡ list n g
  list_same n f g h = ext_get_or (f 0) _ _ (length-list n f ∙ sym (length-list n g)) (λ k l.
      let b : k < n = omega (arith, length-list n f) in
      get_or-list n k f (f 0) b ∙ h k b ∙ sym (get_or-list n k g (f 0) b))

  -- a list of one value over and over
  pub list_all : (n : ℕ) (z : A) (f : ℕ → A) → ((k : ℕ) → k < n → f k ≡ z) → replicate n z ≡ list n f
  list_all n z f h = ext_get_or z _ _ (length-replicate n z ∙ sym (length-list n f)) (λ k l.
      let l' : k < n = omega (arith, length-replicate n z) in
      get_or-replicate n k z z l' ∙ sym (get_or-list n k f z l' ∙ h k l'))

-- a test of two orders that hold together
pub same-ltb : (a b c d : ℕ) → (a < b → c < d) → (c < d → a < b) → ltb a b ≡ ltb c d
same-ltb a b c d f g = same_test _ _ (λ t. lt-ltb c d (f (ltb-true a b t))) (λ t. lt-ltb a b (g (ltb-true c d t)))

module _ (n : ℕ) (f : ℕ → ℕ) (z : ℕ) where
  pub filled_none : replicate n z ≡ filled n 0 f z
  unfolding filled
  filled_none = list_all n z _ (λ k l. ap (λ (t : Bool). cond t (f k) z) (le-ltb k 0 (omega arith)))

  -- one word more
  pub filled_more : {l : List ℕ} (j : ℕ) {v : ℕ} → l ≡ filled n j f z → j < n → v ≡ f j → set l j v ≡ filled n (j + 1) f z
  unfolding filled
  filled_more {l} j {v} e h q =
      let long : length l ≡ n = ap length e ∙ length-list n _ in
      ext_get_or z _ _ (length-set l j v ∙ long ∙ sym (length-list n _)) (λ k g.
      let g' : k < n = omega (arith, length-set l j v) in
      by_cases (ℕ_discrete k j)
      (λ w. ap (λ (i : ℕ). get_or (set l j v) i z) w ∙ get_or-set_same l j v z (omega arith) ∙ q ∙ ap f (sym w)
      ∙ sym (get_or-list n k _ z g' ∙ ap (λ (t : Bool). cond t (f k) z) (lt-ltb k (j + 1) (omega arith))))
      (λ w. get_or-set_other l j k v z w ∙ ap (λ (m : List ℕ). get_or m k z) e ∙ get_or-list n k _ z g'
      ∙ ap (λ (t : Bool). cond t (f k) z) (same-ltb k j k (j + 1) (λ u. omega arith) (λ u. further k j u w))
      ∙ sym (get_or-list n k _ z g')))
    where
      further : (k j : ℕ) → k < j + 1 → (k ≡ j → ⊥) → k < j
      further k j u w = omega arith

  -- where f gives the filling, nothing need be stored
  pub filled-over : {l : List ℕ} (i j : ℕ) → l ≡ filled n i f z → i ≤ j → ((k : ℕ) → i ≤ k → k < j → f k ≡ z) → l ≡ filled n j f z
  unfolding filled
  filled-over i j e h same = e ∙ list_same n _ _ (λ k l. ⊎_elim
      (λ t. let u : k < i = ltb-true k i t in rw (t, lt-ltb k j (omega arith)) refl)
      (λ t. rw t (⊎_elim (λ s. rw s (sym (same k (ltb-false k i t) (ltb-true k j s)))) (λ s. rw s refl) (true_or_false (ltb k j))))
      (true_or_false (ltb k i)))

  pub filled-all : {l : List ℕ} (j : ℕ) (g : ℕ → ℕ) → l ≡ filled n j f z → ((k : ℕ) → k < n → cond (ltb k j) (f k) z ≡ g k) → l ≡ list n g
  unfolding filled
  filled-all j g e h = e ∙ list_same n _ g h

-- ---- a part at a time

module _ (l : List ℕ) (base : ℕ) (s : List ℕ) (at : ℕ) where
  pub stored-none : stored l base s at 0 ≡ l
  unfolding stored
  stored-none = refl

  pub stored-all : {d : List ℕ} (m k : ℕ) → d ≡ stored l base s at m → m ≡ k → d ≡ stored l base s at k
  stored-all m k e q = rw (← q) e

  pub stored_more : {d : List ℕ} (m : ℕ) → d ≡ stored l base s at m → set d (base + m) (get_or s (at + m) 0) ≡ stored l base s at (m + 1)
  unfolding stored
  stored_more m e = rw (add-one m, e) refl

  pub stored_next : {d : List ℕ} (m : ℕ) {i : ℕ} → d ≡ stored l base s at m → i ≡ base + m → set d i (get_or s (at + m) 0) ≡ stored l base s at (m + 1)
  stored_next {d} m e q = ap (λ (i : ℕ). set d i (get_or s (at + m) 0)) q ∙ stored_more m e

-- a part that is stored next fills further
pub stored-filled : (n : ℕ) (f : ℕ → ℕ) (z : ℕ) {l : List ℕ} (j : ℕ) (s : List ℕ) (at m : ℕ) → l ≡ filled n j f z → j + m ≤ n
    → ((k : ℕ) → k < m → get_or s (at + k) 0 ≡ f (j + k)) → stored l j s at m ≡ filled n (j + m) f z
unfolding stored
stored-filled n f z j s at zero e h g = e ∙ ap (λ (i : ℕ). filled n i f z) (sym (add-zero j))
stored-filled n f z {l} j s at (suc m) e h g =
    filled_more n f z (j + m) (stored-filled n f z j s at m e (omega arith) (λ k u. g k (omega arith))) (omega arith) (g m (omega arith))
    ∙ ap (λ (i : ℕ). filled n i f z) (omega arith)

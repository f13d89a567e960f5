-- Laws of the lists made from the numbers below a bound.
use Prim.Native.Nat.{ℕ, zero, suc, ◌+◌, ◌*◌, ◌≤◌, ◌<◌}
use mathlib.Core.Path.{◌≡◌, refl, sym, ap, ap₂, ◌∙◌, subst}
use mathlib.Core.Logic.{⊎_elim}
use mathlib.Core.Bool.{Bool, true, false, cond, true≢false}
use mathlib.Core.List.{List, [], ◌∷◌, ◌++◌, append-nil}
use native.Mathlib.Nat.{not-suc-le-zero, le_of_suc-le-suc, add-zero, zero-add, suc-add, add-suc, mul-zero, mul-one, mul-suc, mul-add, mul-le-mul_left}
use native.Mathlib.Nat.{lt_of_lt_of_le, eq-or-lt_of_le}
use native.Mathlib.Numerals.{add-one}
use native.Mathlib.Omega.{arith}
use lib.ListN.{length, get_or, take, drop, set, replicate, length-append, get_or-append, replicate-append-replicate}
use lib.Seq.{get_or-append-add, take_all, take-add, take-suc-set, drop-drop, sets, sets-eq}
use Rattle.base.specs.Test.{bit}
use Rattle.base.specs.Below.{count_below}
use Rattle.base.specs.Lists.{list, list_from, joined}
use Rattle.base.proofs.TestLaws.{true_or_false}
use Rattle.base.proofs.BelowLaws.{below_suc, count_lt}

module _ {A : Type 0} where
  pub get_or-list_from : (n k i : ℕ) (f : ℕ → A) (d : A) → i < n → get_or (list_from k n f) i d ≡ f (k + i)
  unfolding list_from
  get_or-list_from zero k i f d h = absurd (not-suc-le-zero h)
  get_or-list_from (suc n) k zero f d h = ap f (sym (add-zero k))
  get_or-list_from (suc n) k (suc i) f d h =
      get_or-list_from n (suc k) i f d (le_of_suc-le-suc h) ∙ ap f (suc-add k i ∙ sym (add-suc k i))

  pub get_or-list : (n i : ℕ) (f : ℕ → A) (d : A) → i < n → get_or (list n f) i d ≡ f i
  unfolding list
  get_or-list n i f d h = get_or-list_from n 0 i f d h ∙ ap f (zero-add i)

  pub length-list_from : (n k : ℕ) (f : ℕ → A) → length (list_from k n f) ≡ n
  unfolding list_from
  length-list_from zero k f = refl
  length-list_from (suc n) k f = ap suc (length-list_from n (suc k) f)

  pub length-list : (n : ℕ) (f : ℕ → A) → length (list n f) ≡ n
  unfolding list
  length-list n f = length-list_from n 0 f

-- ---- one list after the other

module _ {A : Type 0} (k : ℕ) (f : ℕ → List A) (each : (x : ℕ) → length (f x) ≡ k) where
  pub length-joined : (n : ℕ) → length (joined n f) ≡ k * n
  unfolding joined
  length-joined zero = sym (mul-zero k)
  length-joined (suc n) = length-append (joined n f) (f n) ∙ ap₂ ◌+◌ (length-joined n) (each n) ∙ sym (mul-suc k n)

  pub get_or-joined : (n x j : ℕ) (d : A) → x < n → j < k → get_or (joined n f) (k * x + j) d ≡ get_or (f x) j d
  unfolding joined
  get_or-joined zero x j d h l = absurd (not-suc-le-zero h)
  get_or-joined (suc n) x j d h l = ⊎_elim
      (λ w. ap (λ (y : ℕ). get_or (joined n f ++ f n) (k * y + j) d) w
      ∙ ap (λ (y : ℕ). get_or (joined n f ++ f n) (y + j) d) (sym (length-joined n))
      ∙ get_or-append-add (joined n f) (f n) j d ∙ ap (λ (y : ℕ). get_or (f y) j d) (sym w))
      (λ w. get_or-append (joined n f) (f n) d (k * x + j)
      (subst (λ (y : ℕ). k * x + j < y) (sym (length-joined n))
      (lt_of_lt_of_le (subst (λ (y : ℕ). k * x + j < y) (sym (mul-suc k x)) (omega arith)) (mul-le-mul_left k w)))
      ∙ get_or-joined n x j d w l)
      (below_suc h)

module _ {A : Type 0} where
  -- what is joined decides the whole
  pub joined_same : (n : ℕ) (f g : ℕ → List A) → ((x : ℕ) → x < n → f x ≡ g x) → joined n f ≡ joined n g
  unfolding joined
  joined_same zero f g h = refl
  joined_same (suc n) f g h = ap₂ ◌++◌ (joined_same n f g (λ x l. h x (omega arith))) (h n (omega arith))

  pub joined_step : (i : ℕ) (f : ℕ → List A) → joined (i + 1) f ≡ joined i f ++ f i
  unfolding joined
  joined_step i f = rw add-one refl

-- ---- a list that is filled from its start

module _ {A : Type 0} where
  pub fill_more : (l : List A) (i : ℕ) (a : A) → i < length l → take i l ≡ replicate i a → take (i + 1) (set l i a) ≡ replicate (i + 1) a
  fill_more l i a h e =
      ap (λ (k : ℕ). take k (set l i a)) (add-one i) ∙ take-suc-set l i a h ∙ ap (λ (z : List A). z ++ (a ∷ [])) e ∙ replicate-append-replicate i 1 a

  pub fill_done : (l l₀ : List A) (i : ℕ) (a : A) → length l ≡ length l₀ → length l₀ ≤ i → i ≤ length l₀ → take i l ≡ replicate i a
      → l ≡ replicate (length l₀) a
  fill_done l l₀ i a e h k f =
      let same : i ≡ length l₀ = omega arith in
      sym (take_all i l (omega arith)) ∙ f ∙ ap (λ (n : ℕ). replicate n a) same

-- ---- inside a list, no element is a default

module _ {A : Type 0} where
  pub get_or_inside : (l : List A) (i : ℕ) (d e : A) → i < length l → get_or l i d ≡ get_or l i e
  get_or_inside [] i d e h = absurd (not-suc-le-zero h)
  get_or_inside (a ∷ l) zero d e h = refl
  get_or_inside (a ∷ l) (suc i) d e h = get_or_inside l i d e (le_of_suc-le-suc h)

  pub get_or-replicate_all : (n i : ℕ) (a : A) → get_or (replicate n a) i a ≡ a
  get_or-replicate_all zero i a = refl
  get_or-replicate_all (suc n) zero a = refl
  get_or-replicate_all (suc n) (suc i) a = get_or-replicate_all n i a

-- ---- one list after the other, of the numbers that have p

module _ {A : Type 0} (w : ℕ) (p : ℕ → Bool) (f : ℕ → List A) (each : (x : ℕ) → length (f x) ≡ w) where
  length_picked : (x : ℕ) (b : Bool) → length (cond b (f x) []) ≡ w * bit b
  length_picked x true = each x ∙ sym (mul-one w)
  length_picked x false = sym (mul-zero w)

  pub length_chosen : (n : ℕ) → length (joined n (λ x. cond (p x) (f x) [])) ≡ w * count_below n p
  unfolding joined count_below
  length_chosen zero = sym (mul-zero w)
  length_chosen (suc n) =
      length-append (joined n (λ x. cond (p x) (f x) [])) (cond (p n) (f n) []) ∙ ap₂ ◌+◌ (length_chosen n) (length_picked n (p n))
      ∙ sym (mul-add w (count_below n p) (bit (p n)))

  chosen_last : (n j : ℕ) (d : A) → p n ≡ true
      → get_or (joined n (λ y. cond (p y) (f y) []) ++ cond (p n) (f n) []) (w * count_below n p + j) d ≡ get_or (f n) j d
  chosen_last n j d e =
      rw (e, ← length_chosen n) (get_or-append-add (joined n (λ y. cond (p y) (f y) [])) (f n) j d)

  -- the list of x stands after those of the numbers below x that have p
  pub get_or_chosen : (n x j : ℕ) (d : A) → x < n → p x ≡ true → j < w
      → get_or (joined n (λ y. cond (p y) (f y) [])) (w * count_below x p + j) d ≡ get_or (f x) j d
  unfolding joined
  get_or_chosen zero x j d h e l = absurd (not-suc-le-zero h)
  get_or_chosen (suc n) x j d h e l = ⊎_elim
      (λ (q : x ≡ n). rw q (chosen_last n j d (ap p (sym q) ∙ e)))
      (λ (q : x < n).
      let less : count_below x p + 1 ≤ count_below n p = omega (arith, count_lt p x n q e) in
      get_or-append (joined n (λ y. cond (p y) (f y) [])) (cond (p n) (f n) []) d (w * count_below x p + j)
      (rw (length_chosen n) (omega (arith, mul-le-mul_left w less))) ∙ get_or_chosen n x j d q e l)
      (below_suc h)

module _ {A : Type 0} where
  -- pieces of a list one after the other
  pub joined-take : (w : ℕ) (l : List A) (at n : ℕ) → joined n (λ i. take w (drop (at + w * i) l)) ≡ take (w * n) (drop at l)
  unfolding joined
  joined-take w l at zero = rw (mul-zero w)
  joined-take w l at (suc n) =
      ap (λ (z : List A). z ++ take w (drop (at + w * n) l)) (joined-take w l at n)
      ∙ ap (λ (z : List A). take (w * n) (drop at l) ++ take w z) (sym (drop-drop (w * n) at l))
      ∙ sym (take-add (w * n) w (drop at l)) ∙ ap (λ (k : ℕ). take k (drop at l)) (sym (mul-suc w n))

-- ---- the numbers that have p, in ascending order

-- s 0 to s (k - 1) are the numbers below n that have p
pub record Ascends (n : ℕ) (p : ℕ → Bool) (k : ℕ) (s : ℕ → ℕ) : Type 0 where
  pub inside : (i : ℕ) → i < k → s i < n
  pub has : (i : ℕ) → i < k → p (s i) ≡ true
  pub up : (i j : ℕ) → i < j → j < k → s i < s j
  pub each : (x : ℕ) → x < n → p x ≡ true → (i : ℕ) × (i < k) × (s i ≡ x)

module _ (p : ℕ → Bool) (s : ℕ → ℕ) (n k : ℕ) (a : Ascends (suc n) p k s) where
  -- the greatest comes last
  last_of : p n ≡ true → (i : ℕ) × (k ≡ suc i) × (s i ≡ n) × Ascends n p i s
  last_of e =
      let r = a.each n (omega arith) e in
      let i : ℕ = r.0 in
      let end : s i ≡ n = r.2 in
      let size : k ≡ suc i = ⊎_elim (λ (q : suc i ≡ k). sym q)
      (λ (q : suc i < k). let u : s i < s (suc i) = a.up i (suc i) (omega arith) q in let v : s (suc i) < suc n = a.inside (suc i) q in absurd (omega arith))
      (eq-or-lt_of_le r.1) in (
        i,
        size,
        end,
        record {
          inside = λ j h. let u : s j < s i = a.up j i h r.1 in omega arith;
          has = λ j h. a.has j (omega arith);
          up = λ j l h g. a.up j l h (omega arith);
          each = λ x h q.
              let t = a.each x (omega arith) q in
              let at : s t.0 ≡ x = t.2 in (
                t.0,
                ⊎_elim (λ (g : t.0 ≡ i). let same : s t.0 ≡ s i = ap s g in absurd (omega arith)) (λ (g : t.0 < i). g)
                    (below_suc (subst (λ (z : ℕ). t.0 < z) size t.1)),
                at,
              );
        },
      )

  without : p n ≡ false → Ascends n p k s
  without e = record {
    inside = λ i h. ⊎_elim (λ q. absurd (true≢false (sym (a.has i h) ∙ ap p q ∙ e))) (λ q. q) (below_suc (a.inside i h));
    has = a.has;
    up = a.up;
    each = λ x h q. a.each x (omega arith) q;
  }

module _ {A : Type 0} (p : ℕ → Bool) (s : ℕ → ℕ) (f : ℕ → List A) where
  pub chosen_ascending : (n k : ℕ) → Ascends n p k s → joined n (λ x. cond (p x) (f x) []) ≡ joined k (λ i. f (s i))
  unfolding joined
  chosen_ascending zero zero a = refl
  chosen_ascending zero (suc k) a = absurd (not-suc-le-zero (a.inside 0 (omega arith)))
  chosen_ascending (suc n) k a = ⊎_elim
      (λ (e : p n ≡ true).
      let l = last_of p s n k a e in
      ap₂ ◌++◌ (chosen_ascending n l.0 l.3) (ap (λ (b : Bool). cond b (f n) []) e ∙ ap f (sym l.2))
      ∙ ap (λ (z : ℕ). joined z (λ i. f (s i))) (sym l.1))
      (λ (e : p n ≡ false). ap₂ ◌++◌ (chosen_ascending n k (without p s n k a e)) (ap (λ (b : Bool). cond b (f n) []) e) ∙ append-nil _)
      (true_or_false (p n))

-- ---- a run of stores

module _ {A : Type 0} where
  -- one run after the other is one run
  pub sets-sets : (l : List A) (i : ℕ) (a b : List A) → sets (sets l i a) (i + length a) b ≡ sets l i (a ++ b)
  sets-sets l i [] b = rw (add-zero i)
  sets-sets l i (v ∷ a) b = rw (add-suc, ← suc-add) (sets-sets (set l i v) (suc i) a b)

  pub sets-start : (l a : List A) → length a ≤ length l → sets l 0 a ≡ a ++ drop (length a) l
  sets-start l a h = rw (zero-add (length a)) at (sets-eq a l 0 (rw zero-add h))

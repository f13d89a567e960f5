-- What `all` and `find` over the numbers below a bound come to.
use Prim.Native.Nat.{ℕ, zero, suc, ◌+◌, ◌≤◌, ◌<◌}
use mathlib.Core.Path.{◌≡◌, refl, sym, ap, ◌∙◌}
use mathlib.Core.Bool.{Bool, true, false}
use Rattle.std.specs.Prelude.{Option, Some, None, MatchOption, List, length, get_or}
use Rattle.std.proofs.Common.{MatchBool}
use Rattle.std.specs.Fn.{Called, CalledAt}
use Rattle.std.specs.List.{range_with_len, list_all, AllWithin, HoldsAt}
use Rattle.std.specs.Iterator.{ChecksAll, FindsItem}
use Rattle.std.specs.declared.ops.Range.{Range}
use Rattle.std.proofs.lemmas.List.FromFn.{length-range_with_len, get_or-range_with_len}
use Rattle.std.proofs.iter.Yields.{nat_range_steps}
use Rattle.std.proofs.lemmas.Iterator.{YieldsList-from_range, first_from_Range}
use Rattle.std.proofs.lemmas.Iterator.Search.{all_from_yields_List}
use denote.Param.Members.{Mut}
use denote.Ref.{Bor}
use native.Mathlib.Omega.{arith}
use Rattle.base.specs.Test.{◌and◌}
use Rattle.base.specs.Below.{all_below}
use Rattle.base.specs.First.{least}
use Rattle.base.proofs.BelowLaws.{all_of, all-stops}
use Rattle.base.proofs.FirstLaws.{least_hit, least-none_of}

module _ (p : ℕ → Bool) where
  -- the last number of a range is tested last
  last : (a n : ℕ) → list_all p (range_with_len a (suc n)) ≡ (list_all p (range_with_len a n) and p (a + n))
  unfolding ◌and◌
  last a zero = grind arith
  last a (suc n) = let h = last (a + 1) n in grind arith

  list : (n : ℕ) → list_all p (range_with_len 0 n) ≡ all_below n p
  unfolding all_below ◌and◌
  list zero = refl
  list (suc n) = last 0 n ∙ grind (arith, list n)

-- `e` says that the range ends at n, and `test` that the closure tests p and stays as it is
module _ {m n : ℕ} (e : m ≡ n) {F : Type 0} {f : F} (u : Range ℕ) where
  pub all-below : {g : Mut F (ℕ × Unit {0}) Bool} (p : ℕ → Bool) {r : Bool} → ChecksAll nat_range_steps g (record { start = 0; end = m }) f r u
      → ((x : ℕ) (b : Bool) (q : F) → Called g f (x, tt) b q → (q ≡ f) × (b ≡ p x)) → r ≡ all_below n p
  all-below p {r} ran test = all_from_yields_List p u f r ran (YieldsList-from_range 0 m n refl (omega arith)) test ∙ list p n

  pub find-least : {g : Mut F (Bor ℕ × Unit {0}) Bool} (p : ℕ → Bool) {r : Option ℕ} → FindsItem nat_range_steps g (record { start = 0; end = m }) f r u
      → ((x : ℕ) (b : Bool) (q : F) → CalledAt g f x b q → (q ≡ f) × (b ≡ p x)) → r ≡ least n p
  find-least p {r} ran test = go r (first_from_Range _ u f r (λ x. p x ≡ true) (λ x. p x ≡ false) ran
      (λ x q k. sym (test x true q k).1)
      (λ x q k. let h = test x false q k in (h.0, sym h.1)))
    where
      go : (r : Option ℕ)
          → MatchOption r ((k : ℕ) → 0 ≤ k → k < m → p k ≡ false) (λ x. (0 ≤ x) × (x < m) × (p x ≡ true) × ((k : ℕ) → 0 ≤ k → k < x → p k ≡ false))
          → r ≡ least n p
      go None h = sym (least-none_of n p (λ k l. h k (omega arith) (omega arith)))
      go (Some x) h = sym (least_hit n p x (omega (arith, h.1)) (least-none_of x p (λ k l. h.3 k (omega arith) l)) h.2)

-- the same of a closure that changes nothing, of which `all` says at which item it stopped
module _ (n : ℕ) (test : ℕ → Bool) where
  abbrev pub items : List ℕ
  items = range_with_len 0 n

  item : (k : ℕ) → k < n → get_or items k 0 ≡ k
  item k h = get_or-range_with_len 0 n k 0 h ∙ omega arith

  pub all-range : (r : Bool) → MatchBool r (AllWithin (λ k. test k ≡ true) items 0 (length items))
      ((k : ℕ) × (k < length items) × HoldsAt (λ k. test k ≡ false) items k) → r ≡ all_below n test
  all-range true h = sym (all_of n test (λ k b. ap test (sym (item k b)) ∙ h k 0 (omega arith) (omega (arith, length-range_with_len 0 n))))
  all-range false h =
      let inside : h.0 < n = omega (arith, h.1, length-range_with_len 0 n) in
      all-stops test h.0 n inside (ap test (sym (item h.0 inside)) ∙ h.2 0)

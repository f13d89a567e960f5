-- `well_formed` computes what `WellFormed` says.
use Prim.Native.Nat.{ℕ, suc, ◌≤◌, ◌<◌}
use mathlib.Core.Path.{◌≡◌}
use mathlib.Core.Logic.{inl, inr, ⊎_elim, ◌↔◌}
use mathlib.Core.Bool.{true}
use native.Mathlib.Omega.{arith}
use lib.Dec.{eqb}
use borrow.Author.Tests.{eqb-true, eq-eqb, ltb-true, lt-ltb, leb-true, le-leb}
use Rattle.base.specs.Test.{◌and◌, ◌or◌, ◌⇒◌}
use Rattle.model.specs.Map.{Map, live, unused}
use Rattle.model.specs.WellFormed.{WellFormed, well_formed, dart_ok, link_ok, square_ok, all_pairs}
use Rattle.base.proofs.TestLaws.{and_left, and_right, and_of, or_cases, or_left, or_right, if_so, if_of}
use Rattle.base.proofs.BelowLaws.{all-at, all_of}

module _ (n : ℕ) (m : Map) where
  module _ (w : well_formed n m ≡ true) where
    slot : (x : ℕ) → x < m.slots → ((unused m x or live m x) and (live m x ⇒ dart_ok n m x)) ≡ true
    unfolding well_formed
    slot x h = all-at m.slots _ w x h

    dart : (x : ℕ) → x < m.slots → m.state x ≡ 1 → dart_ok n m x ≡ true
    dart x h e = if_so (live m x) (and_right (unused m x or live m x) _ (slot x h)) (eq-eqb (m.state x) 1 e)

    linked : (x : ℕ) → x < m.slots → m.state x ≡ 1 → (i : ℕ) → i ≤ n → link_ok m x i ≡ true
    unfolding dart_ok
    linked x h e i l = all-at (suc n) (link_ok m x) (and_left _ _ (and_left _ _ (dart x h e))) i (omega arith)

    pub reads : WellFormed n m
    unfolding link_ok dart_ok square_ok all_pairs
    reads = record {
      states = λ x h. ⊎_elim (λ e. inl (eqb-true _ _ e)) (λ e. inr (eqb-true _ _ e)) (or_cases (unused m x) (live m x) (and_left _ _ (slot x h)));
      below = λ x h e i l. ltb-true _ _ (and_left _ _ (and_left _ _ (linked x h e i l)));
      alive = λ x h e i l. eqb-true _ _ (and_right _ _ (and_left _ _ (linked x h e i l)));
      back = λ x h e i l. eqb-true _ _ (and_right _ _ (linked x h e i l));
      flat = λ two x h e. eqb-true _ _ (if_so (eqb n 2) (and_right _ _ (and_left _ _ (dart x h e))) (eq-eqb n 2 two));
      square = λ x h e i j ij jn. eqb-true _ _ (if_so _
          (all-at (suc n) _ (all-at (suc n) _ (and_right _ _ (dart x h e)) i (omega arith)) j (omega arith)) (omega (arith, ij, le-leb)));
    }

  module _ (w : WellFormed n m) where
    link_good : (x : ℕ) → x < m.slots → m.state x ≡ 1 → (i : ℕ) → i ≤ n → link_ok m x i ≡ true
    unfolding link_ok
    link_good x h e i l = and_of (and_of (lt-ltb _ _ (w.below x h e i l)) (eq-eqb _ _ (w.alive x h e i l))) (eq-eqb _ _ (w.back x h e i l))

    dart_good : (x : ℕ) → x < m.slots → m.state x ≡ 1 → dart_ok n m x ≡ true
    unfolding dart_ok square_ok all_pairs
    dart_good x h e = and_of
        (and_of (all_of (suc n) _ (λ i l. link_good x h e i (omega arith))) (if_of (eqb n 2) (λ two. eq-eqb _ _ (w.flat (eqb-true _ _ two) x h e))))
        (all_of (suc n) _ (λ i l. all_of (suc n) _ (λ j k. if_of _ (λ ij. eq-eqb _ _ (w.square x h e i j (omega (arith, leb-true)) (omega arith))))))

    pub computes_to : well_formed n m ≡ true
    unfolding well_formed
    computes_to = all_of m.slots _ (λ x h. and_of
        (⊎_elim (λ e. or_left (live m x) (eq-eqb _ _ e)) (λ e. or_right (unused m x) (eq-eqb _ _ e)) (w.states x h))
        (if_of (live m x) (λ e. dart_good x h (eqb-true _ _ e))))

pub well_formed_iff : (n : ℕ) (m : Map) → (well_formed n m ≡ true) ↔ WellFormed n m
well_formed_iff n m = (reads n m, computes_to n m)

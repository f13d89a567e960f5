-- `slot_ok` at every slot is `well_formed`: if links lead back, αi, αj, αi, αj end at x just if αi and αj commute at x.
use Prim.Native.Nat.{ℕ, suc, ◌+◌, ◌*◌, ◌≤◌, ◌<◌}
use mathlib.Core.Path.{◌≡◌, refl, sym, ap, ◌∙◌}
use mathlib.Core.Logic.{◌⊎◌, inl, inr, ⊎_elim}
use mathlib.Core.Bool.{Bool, true, false, true≢false}
use Rattle.std.specs.Prelude.{Some, None}
use native.Mathlib.Omega.{arith}
use lib.Dec.{eqb, ltb, leb}
use borrow.Author.Tests.{eqb-true, eqb-false, eq-eqb, ne_eqb, ltb-true, lt-ltb, le-ltb, leb-true, le-leb}
use Rattle.base.specs.Test.{◌and◌, ◌or◌, ◌⇒◌}
use Rattle.base.specs.Below.{all_below, count_below}
use Rattle.base.specs.First.{some_if}
use Rattle.model.specs.Map.{Map, live, unused}
use Rattle.model.specs.WellFormed.{WellFormed, well_formed, link_ok, all_pairs}
use Rattle.base.proofs.TestLaws.{and_left, and_right, and_of, and_assoc, and_no_left, and_no_right, or_cases, or_left, or_right, if_so, if_of}
use Rattle.base.proofs.TestLaws.{joins, true_or_false, same_test, eqb_same, refuted, impossible}
use Rattle.base.proofs.BelowLaws.{all-at, all_of, all-step, count_le, count-step}
use Rattle.model.proofs.WellFormedLaws.{well_formed_iff}
use Rattle.table.specs.Slots.{corner_ok, front_ok, inside_ok, near_ok, far_ok, corners_ok, slot_ok, surveyed}

-- ---- tests taken together

-- the last two of three tests may change places
and_swap : (a b c : Bool) → (a and b and c) ≡ (a and c and b)
unfolding ◌and◌
and_swap true true true = refl
and_swap true true false = refl
and_swap true false true = refl
and_swap true false false = refl
and_swap false b c = refl

-- ---- two words in one comparison

pub pair_eq : (a b v : ℕ) → a < 4294967296 → eqb (a + b * 4294967296) (1 + v * 4294967296) ≡ (eqb a 1 and eqb b v)
pair_eq a b v h = ⊎_elim
    (λ p. ⊎_elim
    (λ q. let e = eqb-true a 1 p in let f = eqb-true b v q in eq-eqb (a + b * 4294967296) (1 + v * 4294967296) (omega arith) ∙ sym (and_of p q))
    (λ q. ne_eqb (a + b * 4294967296) (1 + v * 4294967296) (λ e. eqb-false b v q (omega arith)) ∙ sym (and_no_right (eqb a 1) q))
    (true_or_false (eqb b v)))
    (λ p. ne_eqb (a + b * 4294967296) (1 + v * 4294967296) (λ e. eqb-false a 1 p (omega arith)) ∙ sym (and_no_left (eqb b v) p))
    (true_or_false (eqb a 1))

pub front_is : (m : Map) (y v a b w : ℕ) → a < 4294967296 → a ≡ m.state y → b ≡ m.link 0 y → w ≡ v
    → eqb (a + b * 4294967296) (1 + w * 4294967296) ≡ front_ok m y v
front_is m y v a b w h p q e = rw (← p, ← q, ← e) (pair_eq a b w h)

-- ---- where the links lead

module _ (m : Map) (x : ℕ) where
  -- a right link leads to a slot
  link-below : (i : ℕ) → link_ok m x i ≡ true → m.link i x < m.slots
  unfolding link_ok
  link-below i e = ltb-true _ _ (and_left _ _ (and_left _ _ e))

  -- past the test, each of the links 0, 1 and 2 leads to a slot
  pub inside-below : (r : Bool) → r ≡ inside_ok m x → r ≡ true → (i : ℕ) → i < 3 → m.link i x < m.slots
  inside-below r e h i l = ltb-true _ _ (all-at 3 (λ j. ltb (m.link j x) m.slots) (sym e ∙ h) i l)

  -- one link that leads to no slot refutes the test
  pub inside-out : (i y : ℕ) → i < 3 → y ≡ m.link i x → m.slots ≤ y → false ≡ inside_ok m x
  inside-out i y l e h =
      sym (refuted (λ w. all-at 3 (λ j. ltb (m.link j x) m.slots) w i l) (rw (← e) (le-ltb _ _ h)))

  -- if the links 0 and 1 lead to slots, the test is that of the 2-link
  pub inside-last : (y z v : ℕ) → y ≡ m.link 0 x → z ≡ m.link 1 x → v ≡ m.link 2 x → y < m.slots → z < m.slots
      → ltb v m.slots ≡ inside_ok m x
  unfolding all_below ◌and◌
  inside-last y z v e f g h k = rw (← e, ← f, ← g, lt-ltb _ _ h, lt-ltb _ _ k)

  -- a link to a slot is right if it leads to a live dart, and back
  link-is : (i : ℕ) → m.link i x < m.slots → (live m (m.link i x) and eqb (m.link i (m.link i x)) x) ≡ link_ok m x i
  unfolding link_ok ◌and◌
  link-is i h = rw (lt-ltb _ _ h)

  -- links 0 and 1 to slots are right by the tests of `near`
  pub near_is_lem : (y z : ℕ) → y ≡ m.link 0 x → z ≡ m.link 1 x → m.link 0 x < m.slots → m.link 1 x < m.slots
      → (front_ok m y x and live m z and eqb (m.link 1 z) x) ≡ near_ok m x
  near_is_lem y z e f h k = rw (e, f, ← link-is 0 h, ← link-is 1 k) (and_assoc _ _ _)

  -- an i-link to a slot is right, and commutes with the 0-link, by the tests of `far`
  pub far-is : (i y z v : ℕ) → y ≡ m.link i x → z ≡ m.link 0 x → v ≡ m.link i z → m.link i x < m.slots
      → (front_ok m y v and eqb (m.link i y) x) ≡ far_ok m x i
  far-is i y z v e f g h =
      rw (
        g,
        f,
        e,
        ← link-is i h,
        eqb_same (m.link i (m.link 0 x)) (m.link 0 (m.link i x)) (m.link 0 (m.link i x)) (m.link i (m.link 0 x))
            sym sym,
      ) (and_swap _ _ _)

  -- two links commute if both ways end at the same word
  pub corner_is : (i j y z u v : ℕ) → y ≡ m.link i x → z ≡ m.link j x → u ≡ m.link j y → v ≡ m.link i z → eqb u v ≡ corner_ok m x i j
  corner_is i j y z u v e f g h = rw (g, h, e, f)

-- ---- a slot of a well-formed table

module _ (n : ℕ) (m : Map) (w : WellFormed n m) where
  commutes : (x : ℕ) → x < m.slots → m.state x ≡ 1 → (i j : ℕ) → i + 2 ≤ j → j ≤ n → m.link j (m.link i x) ≡ m.link i (m.link j x)
  commutes x h e i j ij jn =
      let il : i ≤ n = omega arith in
      let y = m.link i x in
      let hy = w.below x h e i il in
      let ly = w.alive x h e i il in
      let p = m.link j y in
      let hp = w.below y hy ly j jn in
      let lp = w.alive y hy ly j jn in
      let q = m.link i p in
      let back-j : m.link j (m.link j q) ≡ q = w.back q (w.below p hp lp i il) (w.alive p hp lp i il) j jn in
      let back-i : m.link i q ≡ p = w.back p hp lp i il in
      let end : m.link j q ≡ x = w.square x h e i j ij jn in
      sym back-i ∙ ap (m.link i) (sym back-j ∙ ap (m.link j) end)

  pub slot-formed : (x : ℕ) → x < m.slots → slot_ok n m x ≡ true
  unfolding slot_ok corners_ok all_pairs link_ok
  slot-formed x h = and_of
      (⊎_elim (λ e. or_left (live m x) (eq-eqb _ _ e)) (λ e. or_right (unused m x) (eq-eqb _ _ e)) (w.states x h))
      (if_of (live m x) (λ b. let e = eqb-true _ _ b in and_of
      (and_of
      (all_of (suc n) _ (λ i l. let k : i ≤ n = omega arith in
      and_of (and_of (lt-ltb _ _ (w.below x h e i k)) (eq-eqb _ _ (w.alive x h e i k))) (eq-eqb _ _ (w.back x h e i k))))
      (if_of (eqb n 2) (λ two. eq-eqb _ _ (w.flat (eqb-true _ _ two) x h e))))
      (all_of (suc n) _ (λ i l. all_of (suc n) _ (λ j k. if_of (leb (i + 2) j) (λ ij. eq-eqb _ _ (commutes x h e i j (leb-true _ _ ij) (omega arith))))))))

-- ---- the tests of a dart

module _ (n : ℕ) (m : Map) (x : ℕ) where
  -- what the tests joined in `near_ok` and `far_ok` say one by one
  near_0 : near_ok m x ≡ true → link_ok m x 0 ≡ true
  near_0 e = and_left _ _ e

  near_1 : near_ok m x ≡ true → link_ok m x 1 ≡ true
  near_1 e = and_right _ _ e

  far-link : (i : ℕ) → far_ok m x i ≡ true → link_ok m x i ≡ true
  far-link i e = and_left _ _ e

  far_corner : (i : ℕ) → far_ok m x i ≡ true → corner_ok m x 0 i ≡ true
  far_corner i e = and_right _ _ e

  module _ (w : corners_ok n m x ≡ true) where
    links_of : (i : ℕ) → i ≤ n → link_ok m x i ≡ true
    unfolding corners_ok
    links_of i l = all-at (suc n) (link_ok m x) (and_left _ _ (and_left _ _ w)) i (omega arith)

    flat_of : n ≡ 2 → eqb (m.link 3 x) x ≡ true
    unfolding corners_ok
    flat_of two = if_so (eqb n 2) (and_right _ _ (and_left _ _ w)) (eq-eqb n 2 two)

    corners_of : (i j : ℕ) → i + 2 ≤ j → j ≤ n → corner_ok m x i j ≡ true
    unfolding corners_ok all_pairs
    corners_of i j ij jn = if_so (leb (i + 2) j)
        (all-at (suc n) _ (all-at (suc n) _ (and_right _ _ w) i (omega arith)) j (omega arith)) (le-leb (i + 2) j ij)

  -- if one of the links 0, 1 and 2 leads to no slot, the dart is wrong
  pub no_inside : (r : Bool) → 2 ≤ n → r ≡ inside_ok m x → r ≡ false → false ≡ corners_ok n m x
  no_inside r l e h = sym
      (refuted (λ w. all_of 3 (λ i. ltb (m.link i x) m.slots) (λ i k. lt-ltb _ _ (link-below m x i (links_of w i (omega arith))))) (sym e ∙ h))

  -- if the i-link leads to no slot, the dart is wrong
  pub no_link : (i y : ℕ) → i ≤ n → y ≡ m.link i x → m.slots ≤ y → false ≡ corners_ok n m x
  no_link i y l e h = sym (impossible (corners_ok n m x) (λ w. let k = link-below m x i (links_of w i l) in absurd (omega arith)))

  -- the links 0 and 1 of a right dart are right
  near_of : corners_ok n m x ≡ true → 2 ≤ n → near_ok m x ≡ true
  near_of w l = and_of (links_of w 0 (omega arith)) (links_of w 1 (omega arith))

  -- each link but 0 and 1 of a right dart is right, and commutes with the 0-link
  far_of : corners_ok n m x ≡ true → (i : ℕ) → 2 ≤ i → i ≤ n → far_ok m x i ≡ true
  far_of w i g l = and_of (links_of w i l) (corners_of w 0 i g l)

  -- for n = 2 three tests make a dart right
  two_of : n ≡ 2 → near_ok m x ≡ true → far_ok m x 2 ≡ true → eqb (m.link 3 x) x ≡ true → corners_ok n m x ≡ true
  unfolding corners_ok all_pairs all_below ◌and◌ ◌⇒◌
  two_of two a b c = rw (two, near_0 a, near_1 a, far-link 2 b, far_corner 2 b, c)

  -- for n = 2 the tests of a dart are those three, joined
  pub corners_2 : n ≡ 2 → (near_ok m x and far_ok m x 2 and eqb (m.link 3 x) x) ≡ corners_ok n m x
  corners_2 two = same_test _ _
      (λ w. two_of two (and_left _ _ (and_left _ _ w)) (and_right _ _ (and_left _ _ w)) (and_right _ _ w))
      (λ w. and_of (and_of (near_of w (omega arith)) (far_of w 2 (omega arith) (omega arith))) (flat_of w two))

  -- for n = 3 four tests make a dart right
  three_of : n ≡ 3 → near_ok m x ≡ true → far_ok m x 2 ≡ true → far_ok m x 3 ≡ true → corner_ok m x 1 3 ≡ true → corners_ok n m x ≡ true
  unfolding corners_ok all_pairs all_below ◌and◌ ◌⇒◌
  three_of three a b c d = rw (three, near_0 a, near_1 a, far-link 2 b, far_corner 2 b, far-link 3 c, far_corner 3 c, d)

  -- for n = 3 the tests of a dart are those four, joined
  pub corners_3 : n ≡ 3 → (near_ok m x and far_ok m x 2 and far_ok m x 3 and corner_ok m x 1 3) ≡ corners_ok n m x
  corners_3 three = same_test _ _
      (λ w. let v = and_left _ _ w in let u = and_left _ _ v in
      three_of three (and_left _ _ u) (and_right _ _ u) (and_right _ _ v) (and_right _ _ w))
      (λ w. and_of
      (and_of (and_of (near_of w (omega arith)) (far_of w 2 (omega arith) (omega arith))) (far_of w 3 (omega arith) (omega arith)))
      (corners_of w 1 3 (omega arith) (omega arith)))

-- for `dart`, which joins the tests as these laws do
pub ruleset dart_tests = (joins, no_inside, corners_2, corners_3)

pub not_two : {n : ℕ} → (n ≡ 2) ⊎ (n ≡ 3) → (n ≡ 2 → ⊥) → n ≡ 3
not_two (inl e) h = absurd (h e)
not_two (inr e) h = e

pub two_le : {n : ℕ} → (n ≡ 2) ⊎ (n ≡ 3) → 2 ≤ n
two_le (inl e) = omega arith
two_le (inr e) = omega arith

-- ---- a table whose slots are right

module _ (n : ℕ) (m : Map) (s : (x : ℕ) → x < m.slots → slot_ok n m x ≡ true) where
  module _ (x : ℕ) (h : x < m.slots) (e : m.state x ≡ 1) where
    corners : corners_ok n m x ≡ true
    unfolding slot_ok
    corners = if_so (live m x) (and_right (unused m x or live m x) _ (s x h)) (eq-eqb _ _ e)

    linked-live : (i : ℕ) → i ≤ n → m.state (m.link i x) ≡ 1
    unfolding link_ok
    linked-live i l = eqb-true _ _ (and_right _ _ (and_left _ _ (links_of n m x corners i l)))

    linked-back : (i : ℕ) → i ≤ n → m.link i (m.link i x) ≡ x
    unfolding link_ok
    linked-back i l = eqb-true _ _ (and_right _ _ (links_of n m x corners i l))

  pub slots-formed : WellFormed n m
  unfolding slot_ok
  slots-formed = record {
    states = λ x h. ⊎_elim (λ e. inl (eqb-true _ _ e)) (λ e. inr (eqb-true _ _ e)) (or_cases (unused m x) (live m x) (and_left _ _ (s x h)));
    below = λ x h e i l. link-below m x i (links_of n m x (corners x h e) i l);
    alive = linked-live;
    back = linked-back;
    flat = λ two x h e. eqb-true _ _ (flat_of n m x (corners x h e) two);
    square = λ x h e i j ij jn.
        let l : i ≤ n = omega arith in
        let y = m.link i x in
        let c = corners y (link-below m x i (links_of n m x (corners x h e) i l)) (linked-live x h e i l) in
        ap (m.link j) (sym (eqb-true _ _ (corners_of n m y c i j ij jn)) ∙ ap (m.link j) (linked-back x h e i l))
        ∙ linked-back x h e j jn;
  }

-- ---- the pass

-- the slots below x are right, and k of them are live
pub record Passed (n : ℕ) (m : Map) (x k : ℕ) : Type 0 where
  pub fits : x ≤ m.slots
  pub right : all_below x (slot_ok n m) ≡ true
  pub counted : k ≡ count_below x (live m)

pub pass-none : (n : ℕ) (m : Map) → Passed n m 0 0
unfolding all_below count_below
pass-none n m = record { fits = omega arith; right = refl; counted = refl }

pub pass-few : (n : ℕ) (m : Map) (x k : ℕ) → Passed n m x k → k ≤ x
pass-few n m x k p = rw p.counted (count_le x (live m))

module _ (n : ℕ) (m : Map) (x s : ℕ) (e : s ≡ m.state x) where
  slot-unused : s ≡ 0 → slot_ok n m x ≡ true
  unfolding slot_ok ◌and◌ ◌or◌ ◌⇒◌
  slot-unused h = rw (← e, h)

  pub slot-bad : (s ≡ 0 → ⊥) → (s ≡ 1 → ⊥) → slot_ok n m x ≡ false
  unfolding slot_ok ◌and◌ ◌or◌
  slot-bad h k = rw (← e, ne_eqb s 0 h, ne_eqb s 1 k)

  pub slot-live : (r : Bool) → s ≡ 1 → r ≡ corners_ok n m x → slot_ok n m x ≡ r
  unfolding slot_ok ◌and◌ ◌or◌ ◌⇒◌
  slot-live r h q = rw (← e, h, ← q)

  module _ (k : ℕ) (p : Passed n m x k) (b : x < m.slots) where
    pub pass-unused : s ≡ 0 → Passed n m (x + 1) k
    pass-unused h = record {
      fits = omega arith;
      right = all-step x (slot_ok n m) ∙ and_of p.right (slot-unused h);
      counted = rw (count-step x (live m), ← e, h, ← p.counted) (omega arith);
    }

    pub pass-live : (r : Bool) → s ≡ 1 → r ≡ corners_ok n m x → r ≡ true → Passed n m (x + 1) (k + 1)
    pass-live r h q t = record {
      fits = omega arith;
      right = all-step x (slot_ok n m) ∙ and_of p.right (slot-live r h q ∙ t);
      counted = rw (count-step x (live m), ← e, h, ← p.counted) refl;
    }

-- the pass may stop at a wrong slot: the table is broken
pub stops : (n : ℕ) (m : Map) (x : ℕ) → x < m.slots → slot_ok n m x ≡ false → None ≡ surveyed n m
unfolding surveyed some_if
stops n m x h e = ⊎_elim
    (λ w. absurd (true≢false (sym (slot-formed n m ((well_formed_iff n m).0 w) x h) ∙ e)))
    (λ w. rw w refl)
    (true_or_false (well_formed n m))

pub passes : (n : ℕ) (m : Map) (x k : ℕ) → Passed n m x k → m.slots ≤ x → Some k ≡ surveyed n m
unfolding surveyed some_if
passes n m x k p h =
    let same : x ≡ m.slots = omega (arith, p.fits) in
    let well = (well_formed_iff n m).1 (slots-formed n m (λ y b. all-at x (slot_ok n m) p.right y (omega arith))) in
    rw (well, p.counted, same) refl

-- The file of a map is settled by its live records: alike maps have one file. The map of a file in the form has the file's records.
use Prim.Native.Nat.{ℕ, suc, ◌≤◌, ◌<◌}
use mathlib.Core.Path.{◌≡◌, refl, ap, ap₂, ◌∙◌}
use mathlib.Core.Bool.{Bool, true, false, cond}
use Rattle.std.specs.Prelude.{Some, None}
use mathlib.Core.List.{List, [], ◌++◌}
use native.Mathlib.Omega.{arith}
use lib.Dec.{ltb}
use borrow.Author.Tests.{eqb-true, eq-eqb, ne_eqb, ltb-true, ltb-false, le-leb, lt-leb}
use Rattle.base.specs.Test.{◌and◌}
use Rattle.base.specs.Below.{all_below, count_below}
use Rattle.base.specs.First.{there}
use Rattle.base.specs.Lists.{joined}
use Rattle.base.specs.Digits.{bytes_of}
use Rattle.base.proofs.TestLaws.{and_left, and_right, cond_same, impossible}
use Rattle.base.proofs.BelowLaws.{all-at, count_same}
use Rattle.base.proofs.FirstLaws.{least-only, least-none_of}
use Rattle.base.proofs.ListLaws.{joined_same}
use Rattle.model.specs.Map.{Map, Field, State, Link, Tag, field_of, live}
use Rattle.model.specs.File.{width, live_darts, section, file_in, file, darts_in, slot_in, tag_in, link_in, place_in, form_in, map_in}
use Rattle.model.specs.File.{darts, slot_at, tag_at, link_at, file_form, file_map}
use Rattle.model.specs.Alike.{Alike}
use Rattle.model.proofs.AlikeLaws.{same_live}

-- ---- one file

module _ (w n : ℕ) (small : n ≤ 3) (m m' : Map) (a : Alike m m') where
  same_count : live_darts m ≡ live_darts m'
  unfolding live_darts
  same_count = count_same m.slots (live m) (live m') (same_live m m' a) ∙ ap (λ (k : ℕ). count_below k (live m')) a.slots

  same-section : (f f' : ℕ → List ℕ) → ((x : ℕ) → x < m.slots → m.state x ≡ 1 → f x ≡ f' x) → section w m f ≡ section w m' f'
  unfolding section
  same-section f f' same = ap₂ (λ (l : ℕ) (r : List ℕ). bytes_of w l ++ r) same_count
      (joined_same m.slots _ _ (λ x h. cond_same (live m x) (f x) [] (f' x) [] (λ l. same x h (eqb-true _ _ l)) (λ l. refl)
      ∙ ap (λ (b : Bool). cond b (f' x) []) (same_live m m' a x h))
      ∙ ap (λ (k : ℕ). joined k (λ x. cond (live m' x) (f' x) [])) a.slots)

  same_tags : section w m (λ x. bytes_of 4 (m.tag x)) ≡ section w m' (λ x. bytes_of 4 (m'.tag x))
  same_tags = same-section _ _ (λ x h l. ap (bytes_of 4) (a.tag x h l))

  same-links : section w m (λ x. joined (suc n) (λ i. bytes_of w (m.link i x))) ≡ section w m' (λ x. joined (suc n) (λ i. bytes_of w (m'.link i x)))
  same-links = same-section _ _ (λ x h l. joined_same (suc n) _ _ (λ i k. ap (bytes_of w) (a.link x h l i (omega arith))))

  same_in : file_in w n m ≡ file_in w n m'
  unfolding file_in
  same_in i = bytes_of 1 n ++ bytes_of w (a.slots i) ++ same-section (bytes_of w) (bytes_of w) (λ x h l. refl) i ++ same_tags i ++ same-links i

pub same-file : (n : ℕ) → n ≤ 3 → (m m' : Map) → Alike m m' → file n m ≡ file n m'
same-file n small m m' a = same_in width n small m m' a

-- ---- the records of a file in the form

module _ (w n N : ℕ) (b : List ℕ) (form : form_in w n N b ≡ true) where
  slot_test : (k : ℕ) → k < darts_in w b → (ltb (slot_in w b k) N and all_below k (λ o. ltb (slot_in w b o) (slot_in w b k))) ≡ true
  unfolding form_in
  slot_test = all-at (darts_in w b) _ (and_right _ _ form)

  pub below_in : (k : ℕ) → k < darts_in w b → slot_in w b k < N
  below_in k h = ltb-true _ _ (and_left _ _ (slot_test k h))

  slots_ascend : (o k : ℕ) → o < k → k < darts_in w b → slot_in w b o < slot_in w b k
  slots_ascend o k g h = ltb-true _ _ (all-at k _ (and_right _ _ (slot_test k h)) o g)

  -- a slot of the file stands at one place
  pub place_in_lem : (k : ℕ) → k < darts_in w b → place_in w b (slot_in w b k) ≡ Some k
  unfolding place_in
  place_in_lem k h = least-only (darts_in w b) _ k h (eq-eqb (slot_in w b k) (slot_in w b k) refl) (λ j g e.
      let same : slot_in w b j ≡ slot_in w b k = eqb-true _ _ e in
      let not-before : ltb j k ≡ false = impossible _ (λ t. let up = slots_ascend j k (ltb-true j k t) h in omega arith) in
      let not_after : ltb k j ≡ false = impossible _ (λ t. let up = slots_ascend k j (ltb-true k j t) g in omega arith) in
      omega (arith, ltb-false j k not-before, ltb-false k j not_after))

  -- another slot stands nowhere
  pub none_in : (x : ℕ) → ((k : ℕ) → k < darts_in w b → slot_in w b k ≡ x → ⊥) → place_in w b x ≡ None
  unfolding place_in
  none_in x other = least-none_of (darts_in w b) _ (λ k h. ne_eqb (slot_in w b k) x (other k h))

  pub live_in : (k : ℕ) → k < darts_in w b → (map_in w n N b).state (slot_in w b k) ≡ 1
  unfolding map_in there
  live_in k h = rw (place_in_lem k h) refl

  pub tag_in_lem : (k : ℕ) → k < darts_in w b → (map_in w n N b).tag (slot_in w b k) ≡ tag_in w b k
  unfolding map_in
  tag_in_lem k h = rw (place_in_lem k h) refl

  pub link_in_lem : (k : ℕ) → k < darts_in w b → (i : ℕ) → i ≤ n → (map_in w n N b).link i (slot_in w b k) ≡ link_in w b n k i
  unfolding map_in
  link_in_lem k h i l = rw (place_in_lem k h, le-leb i n l) refl

  -- a link above n is the dart's own slot
  pub own_in : (k : ℕ) → k < darts_in w b → (i : ℕ) → n < i → (map_in w n N b).link i (slot_in w b k) ≡ slot_in w b k
  unfolding map_in
  own_in k h i l = rw (place_in_lem k h, lt-leb i n l) refl

  pub zero_in : (x : ℕ) → ((k : ℕ) → k < darts_in w b → slot_in w b k ≡ x → ⊥) → (f : Field) → field_of (map_in w n N b) f x ≡ 0
  unfolding map_in there
  zero_in x other State = rw (none_in x other) refl
  zero_in x other (Link i) = rw (none_in x other) refl
  zero_in x other Tag = rw (none_in x other) refl

-- the same of a map file
module _ (n N : ℕ) (b : List ℕ) (form : file_form n N b ≡ true) where
  pub slot-below : (k : ℕ) → k < darts b → slot_at b k < N
  slot-below = below_in width n N b form

  pub filed-live : (k : ℕ) → k < darts b → (file_map n N b).state (slot_at b k) ≡ 1
  unfolding file_map
  filed-live = live_in width n N b form

  pub filed-tag : (k : ℕ) → k < darts b → (file_map n N b).tag (slot_at b k) ≡ tag_at b k
  unfolding file_map
  filed-tag = tag_in_lem width n N b form

  pub filed-link : (k : ℕ) → k < darts b → (i : ℕ) → i ≤ n → (file_map n N b).link i (slot_at b k) ≡ link_at n b k i
  unfolding file_map
  filed-link = link_in_lem width n N b form

  pub filed-own : (k : ℕ) → k < darts b → (i : ℕ) → n < i → (file_map n N b).link i (slot_at b k) ≡ slot_at b k
  unfolding file_map
  filed-own = own_in width n N b form

  pub filed-zero : (x : ℕ) → ((k : ℕ) → k < darts b → slot_at b k ≡ x → ⊥) → (f : Field) → field_of (file_map n N b) f x ≡ 0
  unfolding file_map
  filed-zero = zero_in width n N b form

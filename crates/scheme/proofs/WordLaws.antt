-- The words of the nodes as they are read: what a word's place tells of the side's form, value and targets.
use Prim.Native.Nat.{ℕ, ◌+◌, ◌-◌, ◌*◌, ◌/◌, ◌%◌, ◌≤◌, ◌<◌}
use mathlib.Core.Path.{◌≡◌, refl, sym, ap, ap₂, ◌∙◌}
use mathlib.Core.Logic.{◌⊎◌, inl, inr, ⊎_elim}
use mathlib.Core.Bool.{Bool, true, false, cond}
use Rattle.std.specs.Prelude.{None}
use mathlib.Core.List.{List}
use native.Mathlib.Nat.{eq-or-lt_of_le}
use native.Mathlib.Omega.{arith}
use lib.ListN.{length, get_or}
use lib.Seq.{ext_get_or}
use lib.Dec.{eqb, ltb}
use borrow.Author.Tests.{eq-eqb, ne_eqb, eqb-true, lt-ltb, le-ltb, ltb-true, ltb-false}
use Rattle.base.specs.Test.{◌and◌, ◌or◌, ◌⇒◌}
use Rattle.base.specs.Below.{all_below}
use Rattle.base.specs.First.{least}
use Rattle.base.specs.Filled.{filled, stored}
use Rattle.base.proofs.TestLaws.{and_left, and_right, and_of, or_left, or_right, or_rest, true_or_false, same_test}
use Rattle.base.proofs.BelowLaws.{all-at, all_of}
use Rattle.base.proofs.FirstLaws.{least-none_of, least-same}
use Rattle.base.proofs.ListLaws.{get_or-list, length-list}
use Rattle.base.proofs.FilledLaws.{filled-over, stored-filled}
use Rattle.model.specs.Bytes.{on_side, byte, dimension_of, places_of, nodes_of, kind_at, word_at, up_to}
use Rattle.model.specs.Codes.{place_code, placed}
use Rattle.model.specs.Scheme.{Side, left, right, word_form, word_empty}
use Rattle.frame.specs.Frame.{LaidOut}
use Rattle.frame.specs.declared.Layout.{Layout}
use Rattle.frame.proofs.FrameLaws.{dimension-small, places-small, node-inside}
use Rattle.scheme.specs.Words.{barred, word_place, row, fresh_at, empty_at, fits_at, Placed}
use Rattle.scheme.specs.Targets.{rowed}
use Rattle.scheme.proofs.MarkLaws.{stands, length-rowed, rowed_else, rowed-at}

-- ---- tests of a byte

module _ (b : List ℕ) (at : ℕ) where
  pub is-empty : (p : ℕ) {v : ℕ} → v ≡ byte b (at + p) → v ≡ 255 → empty_at b at p ≡ true
  unfolding empty_at
  is-empty p q e = eq-eqb _ _ (sym q ∙ e)

  pub not_empty : (p : ℕ) {v : ℕ} → v ≡ byte b (at + p) → (v ≡ 255 → ⊥) → empty_at b at p ≡ false
  unfolding empty_at
  not_empty p q e = ne_eqb _ _ (λ f. e (q ∙ f))

  pub empty-fits : (n p : ℕ) → byte b (at + p) ≡ 255 → true ≡ fits_at b n at p
  unfolding fits_at
  empty-fits n p e = sym (or_left _ (eq-eqb _ _ e))

-- ---- a word of a side

module _ (b : List ℕ) where
  word-at : (side : Side) (s p : ℕ) → word_at b side s p ≡ byte b (word_place b side s + p)
  word-at left s p = refl
  word-at right s p = refl

  word-form : (side : Side) (s : ℕ) → word_form b side s ≡ all_below (places_of b) (fits_at b (dimension_of b) (word_place b side s))
  unfolding word_form fits_at fresh_at
  word-form left s = refl
  word-form right s = refl

  word-empty : (side : Side) (s : ℕ) → word_empty b side s ≡ (on_side side (kind_at b s) or all_below (places_of b) (empty_at b (word_place b side s)))
  unfolding word_empty empty_at
  word-empty left s = refl
  word-empty right s = refl

  empty-form : (side : Side) (s : ℕ) → all_below (places_of b) (empty_at b (word_place b side s)) ≡ true → word_form b side s ≡ true
  unfolding empty_at
  empty-form side s q = word-form side s ∙ all_of _ _ (λ p l. sym (empty-fits b (word_place b side s) (dimension_of b) p (eqb-true _ _ (all-at _ _ q p l))))

  -- the row of node s among the side's words
  row_at : (side : Side) (s p : ℕ) → p < 4 → row b side (4 * s + p) ≡ up_to (places_of b) p (word_at b side s p) 255
  unfolding row
  row_at side s p l =
      let at-s : (4 * s + p) / 4 ≡ s = omega arith in
      let at_p : (4 * s + p) % 4 ≡ p = omega arith in
      ap₂ (λ (x y : ℕ). up_to (places_of b) y (word_at b side x y) 255) at-s at_p

  row_word : (side : Side) (s p : ℕ) → p < places_of b → places_of b ≤ 4 → byte b (word_place b side s + p) ≡ row b side (4 * s + p)
  row_word side s p h few = sym (row_at side s p (omega arith) ∙ ap (λ (t : Bool). cond t (word_at b side s p) 255) (lt-ltb _ _ h) ∙ word-at side s p)

  row-rest : (side : Side) (s k : ℕ) → 4 * s + places_of b ≤ k → k < 4 * (s + 1) → row b side k ≡ 255
  row-rest side s k h l =
      let split : k ≡ 4 * s + (k % 4) = omega arith in
      ap (row b side) split ∙ row_at side s (k % 4) (omega arith)
      ∙ ap (λ (t : Bool). cond t (word_at b side s (k % 4)) 255) (le-ltb (k % 4) (places_of b) (omega arith))

  -- the targets of node s among the side's
  placed_at : (side : Side) (s i : ℕ) → i < 4 → placed b side (4 * s + i) ≡ place_code (least (places_of b) (stands b (word_place b side s) i))
  unfolding placed
  placed_at side s i l =
      let at-s : (4 * s + i) / 4 ≡ s = omega arith in
      let at_i : (4 * s + i) % 4 ≡ i = omega arith in
      ap₂ (λ (x y : ℕ). place_code (least (places_of b) (λ p. eqb (word_at b side x p) y))) at-s at_i
      ∙ ap place_code (least-same (places_of b) _ _ (λ p h. ap (λ (x : ℕ). eqb x i) (word-at side s p)))

-- ---- a table that is filled up to a bound

module _ (m : ℕ) (f : ℕ → ℕ) (z j : ℕ) {l : List ℕ} (e : l ≡ filled m j f z) where
  -- its length
  filled-length : length l ≡ m
  unfolding filled
  filled-length = ap length e ∙ length-list m _

  -- below the bound
  filled-low : (k : ℕ) → k < j → k < m → get_or l k 0 ≡ f k
  unfolding filled
  filled-low k h u = ap (λ (x : List ℕ). get_or x k 0) e ∙ get_or-list m k _ 0 u ∙ ap (λ (t : Bool). cond t (f k) z) (lt-ltb _ _ h)

  -- from the bound on
  filled_high : (k : ℕ) → j ≤ k → k < m → get_or l k 0 ≡ z
  unfolding filled
  filled_high k h u = ap (λ (x : List ℕ). get_or x k 0) e ∙ get_or-list m k _ 0 u ∙ ap (λ (t : Bool). cond t (f k) z) (le-ltb _ _ h)

-- ---- the kinds of a side

one_of_three : (kind : ℕ) → 1 ≤ kind → kind ≤ 3 → (kind ≡ 1) ⊎ ((kind ≡ 2) ⊎ (kind ≡ 3))
one_of_three kind h k = ⊎_elim (λ e. inl (sym e)) (λ l. inr (⊎_elim (λ e. inl (sym e)) (λ m. inr (omega arith)) (eq-or-lt_of_le l))) (eq-or-lt_of_le h)

-- a node is on a side unless it is of the kind that may not occur there
pub on-side : (side : Side) {kind : ℕ} → 1 ≤ kind → kind ≤ 3 → on_side side kind ≡ (eqb kind (barred side) ⇒ false)
unfolding ◌or◌ ◌⇒◌
on-side side {kind} h k = ⊎_elim (both 1 refl refl) (λ v. ⊎_elim (both 2 refl refl) (both 3 refl refl) v) (one_of_three kind h k)
  where
    both : (x : ℕ) → on_side left x ≡ (eqb x 3 ⇒ false) → on_side right x ≡ (eqb x 1 ⇒ false) → kind ≡ x
        → on_side side kind ≡ (eqb kind (barred side) ⇒ false)
    both x p q e = rw e (go side)
      where
        go : (side : Side) → on_side side x ≡ (eqb x (barred side) ⇒ false)
        go left = p
        go right = q

-- ---- a word that was read fills the row of its node

module _ (b : List ℕ) (side : Side) (s kind n places at : ℕ) (w : Placed b side s kind n places at) where
  abbrev place : ℕ
  place = word_place b side s

  on : on_side side (kind_at b s) ≡ (eqb kind (barred side) ⇒ false)
  on = ap (on_side side) (sym w.kind_is) ∙ on-side side w.kind_some w.kind_few

  here : all_below places (fits_at b n at) ≡ word_form b side s
  here = rw (w.places_is, w.n_is, w.at_is) (sym (word-form b side s))

  there : all_below places (empty_at b at) ≡ all_below (places_of b) (empty_at b place)
  there = rw (w.places_is, w.at_is) refl

  -- the word of a node on the side
  pub on-form : {r : Bool} → (kind ≡ barred side → ⊥) → r ≡ all_below places (fits_at b n at) → r ≡ (word_form b side s and word_empty b side s)
  unfolding ◌⇒◌
  on-form ne e =
      let full : word_empty b side s ≡ true = word-empty b side s ∙ or_left _ (on ∙ ap (λ (t : Bool). t ⇒ false) (ne_eqb _ _ ne)) in
      e ∙ here ∙ same_test _ _ (λ q. and_of q full) (λ q. and_left _ _ q)

  pub on_value : {l : List ℕ} → l ≡ filled 64 (4 * s) (row b side) 255 → stored l (4 * s) b at places ≡ filled 64 (4 * (s + 1)) (row b side) 255
  on_value {l} e =
      let few = w.few in
      let small = w.small in
      ap₂ (λ (x y : ℕ). stored l (4 * s) b x y) w.at_is w.places_is
      ∙ filled-over 64 (row b side) 255 (4 * s + places_of b) (4 * (s + 1))
      (stored-filled 64 (row b side) 255 (4 * s) b place (places_of b) e (omega arith) (λ p h. row_word b side s p h few))
      (omega arith) (λ k h u. row-rest b side s k h u)

  -- the word of a node that is not on the side
  pub off-form : {r : Bool} → kind ≡ barred side → r ≡ all_below places (empty_at b at) → r ≡ (word_form b side s and word_empty b side s)
  unfolding ◌⇒◌
  off-form eq e =
      let off : on_side side (kind_at b s) ≡ false = on ∙ ap (λ (t : Bool). t ⇒ false) (eq-eqb _ _ eq) in
      e ∙ there ∙ same_test _ _
      (λ q. and_of (empty-form b side s q) (word-empty b side s ∙ or_right _ q))
      (λ q. or_rest off (sym (word-empty b side s) ∙ and_right _ _ q))

  pub off-value : {l : List ℕ} → l ≡ filled 64 (4 * s) (row b side) 255 → all_below places (empty_at b at) ≡ true → l ≡ filled 64 (4 * (s + 1)) (row b side) 255
  unfolding empty_at
  off-value e q =
      let few = w.few in
      filled-over 64 (row b side) 255 (4 * s) (4 * (s + 1)) e (omega arith) (λ k h u. ⊎_elim
      (λ t.
      let p : k - 4 * s < places_of b = ltb-true _ _ t in
      let split : k ≡ 4 * s + (k - 4 * s) = omega arith in
      ap (row b side) split ∙ sym (row_word b side s (k - 4 * s) p few) ∙ eqb-true _ _ (all-at _ _ (sym there ∙ q) (k - 4 * s) p))
      (λ t. let p : places_of b ≤ k - 4 * s = ltb-false _ _ t in row-rest b side s k (omega arith) u)
      (true_or_false (ltb (k - 4 * s) (places_of b))))

  -- before the word is read, the row of node s is clear
  pub targets_clear : {l : List ℕ} → l ≡ filled 64 (4 * s) (placed b side) 255 → (length l ≡ 64) × ((i : ℕ) → i < 4 → get_or l (4 * s + i) 0 ≡ 255)
  targets_clear e =
      let small = w.small in
      (filled-length 64 _ 255 _ e, λ i h. filled_high 64 _ 255 _ e (4 * s + i) (omega arith) (omega arith))

  -- the targets with the word of a node on the side
  pub on-targets : {l : List ℕ} → n ≤ 3 → l ≡ filled 64 (4 * s) (placed b side) 255 → all_below places (fits_at b n at) ≡ true
      → rowed l (4 * s) b at places ≡ filled 64 (4 * (s + 1)) (placed b side) 255
  on-targets {l} few e q =
      let small = w.small in
      let clear = targets_clear e in
      let long : length (rowed l (4 * s) b at places) ≡ 64 = length-rowed b at l (4 * s) places ∙ clear.0 in
      let full : length (filled 64 (4 * (s + 1)) (placed b side) 255) ≡ 64 = filled-length 64 (placed b side) 255 (4 * (s + 1)) refl in
      ext_get_or 0 _ _ (long ∙ sym full) (λ k u.
      let u' : k < 64 = omega arith in
      ⊎_elim
      (λ t. let low : k < 4 * s = ltb-true _ _ t in
      rowed_else b at l (4 * s) n few places q k (inl low) ∙ filled-low 64 _ 255 _ e k low u' ∙ sym (filled-low 64 _ 255 (4 * (s + 1)) refl k (omega arith) u'))
      (λ t. let high : 4 * s ≤ k = ltb-false _ _ t in
      ⊎_elim
      (λ v.
      let inside : k < 4 * (s + 1) = ltb-true _ _ v in
      let split : k ≡ 4 * s + (k - 4 * s) = omega arith in
      ap (λ (x : ℕ). get_or (rowed l (4 * s) b at places) x 0) split
      ∙ rowed-at b at l (4 * s) n few (omega (arith, clear.0)) clear.1 places q (k - 4 * s) (omega arith)
      ∙ ap₂ (λ (x y : ℕ). place_code (least x (stands b y (k - 4 * s)))) w.places_is w.at_is
      ∙ sym (placed_at b side s (k - 4 * s) (omega arith)) ∙ ap (placed b side) (sym split)
      ∙ sym (filled-low 64 _ 255 (4 * (s + 1)) refl k inside u'))
      (λ v. let over : 4 * (s + 1) ≤ k = ltb-false _ _ v in
      rowed_else b at l (4 * s) n few places q k (inr (omega arith)) ∙ filled_high 64 _ 255 _ e k high u'
      ∙ sym (filled_high 64 _ 255 (4 * (s + 1)) refl k over u'))
      (true_or_false (ltb k (4 * (s + 1)))))
      (true_or_false (ltb k (4 * s))))

  -- an empty word leaves the targets as they are
  pub off-targets : {l : List ℕ} → l ≡ filled 64 (4 * s) (placed b side) 255 → all_below places (empty_at b at) ≡ true
      → l ≡ filled 64 (4 * (s + 1)) (placed b side) 255
  unfolding empty_at
  off-targets e q =
      filled-over 64 (placed b side) 255 (4 * s) (4 * (s + 1)) e (omega arith) (λ k h u.
      let split : k ≡ 4 * s + (k - 4 * s) = omega arith in
      let i : k - 4 * s < 4 = omega arith in
      let none_is : least (places_of b) (stands b place (k - 4 * s)) ≡ None = least-none_of _ _ (λ p l.
      ne_eqb _ _ (λ f. far i (eqb-true _ _ (all-at _ _ (sym there ∙ q) p l)) f)) in
      ap (placed b side) split ∙ placed_at b side s (k - 4 * s) i ∙ ap place_code none_is)
    where
      far : {d i : ℕ} → i < 4 → d ≡ 255 → d ≡ i → ⊥
      far h e f = omega arith

-- the word of a node lies within the bytes
pub word-placed : (b : List ℕ) (l : Layout) → LaidOut b l → {s kind places at : ℕ} (side : Side) → s < nodes_of b
    → kind ≡ kind_at b s → 1 ≤ kind → kind ≤ 3 → places ≡ l.places → at ≡ word_place b side s → Placed b side s kind l.n places at
word-placed b l laid {s} {kind} {places} {at} side h k some few p a =
    let d = laid.headed in
    let n3 = dimension-small b l laid in
    let k4 = places-small b l laid in
    record {
      kind_is = k;
      kind_some = some;
      kind_few = few;
      n_is = d.n_is;
      dim = omega arith;
      places_is = p ∙ d.places_is;
      few = k4;
      small = omega arith;
      at_is = a;
      inside = within side a;
    }
  where
    within : (side : Side) → at ≡ word_place b side s → at + places ≤ length b
    within left e = omega (arith, node-inside b l laid s h, laid.headed.places_is)
    within right e = omega (arith, node-inside b l laid s h, laid.headed.places_is)

-- The bytes and the value of a scheme agree on which nodes have two arcs of one dimension.
use Prim.Native.Nat.{ℕ, ◌+◌, ◌*◌, ◌≤◌, ◌<◌}
use mathlib.Core.Path.{◌≡◌, refl, sym, ap, ap₂, ◌∙◌}
use mathlib.Core.Logic.{⊎_elim}
use mathlib.Core.Bool.{true, true≢false}
use Rattle.std.specs.Prelude.{Option, Some, None}
use mathlib.Core.List.{List}
use native.Mathlib.Omega.{arith}
use lib.Dec.{eqb, ltb, leb}
use borrow.Author.Tests.{eqb-true, eq-eqb, lt-ltb, ltb-true, ltb-false}
use Rattle.base.specs.Test.{◌and◌, ◌or◌, bit}
use Rattle.base.specs.Below.{count_below}
use Rattle.base.specs.First.{least}
use Rattle.base.proofs.TestLaws.{and_right, or_cases, if_so, true_or_false}
use Rattle.base.proofs.BelowLaws.{all-at, any_same, count-zero, count-single, count-some, count_same}
use Rattle.base.proofs.FirstLaws.{least_at, least-none}
use Rattle.base.proofs.FilledLaws.{list_same}
use Rattle.model.specs.Bytes.{nodes_of, places_of, word_at, arc_byte, arc_count}
use Rattle.model.specs.Arc.{touching}
use Rattle.model.specs.Codes.{place_code, placed_at}
use Rattle.model.specs.Scheme.{Side, left, right, word_form, in_form, scheme_of, arcs, arc_part}
use Rattle.model.specs.Conditions.{arcs_of_dim, reads}
use Rattle.model.specs.Twice.{twice_at, twice_of}
use Rattle.model.proofs.SchemeLaws.{small, places-few, form-word, value-word, value-arc, no_place, place_is_lem}
use Rattle.scheme.specs.Targets.{twice_to}

module _ (b : List ℕ) (q : in_form b ≡ true) (side : Side) where
  arcs-is : arcs (scheme_of b) side ≡ arc_count b side
  unfolding scheme_of
  arcs-is = go side
    where
      go : (x : Side) → arcs (scheme_of b) x ≡ arc_count b x
      go left = refl
      go right = refl

  places_is_lem : (scheme_of b).places ≡ places_of b
  unfolding scheme_of
  places_is_lem = refl

  module _ (s i : ℕ) (h : s < 16) (l : i < 4) where
    -- a word has a dimension at one position at most
    words-once : count_below (scheme_of b).places (reads (scheme_of b) side s i) ≤ 1
    unfolding word_form
    words-once = rw places_is_lem (⊎_elim
        (λ e. let n = ltb-true s (nodes_of b) e in count-single (places_of b) _ (λ j k m k< u v.
        let uj : word_at b side s j ≡ i = sym (value-word b q side s j n (omega arith)) ∙ eqb-true _ _ u in
        let vk : word_at b side s k ≡ i = sym (value-word b q side s k n k<) ∙ eqb-true _ _ v in
        ⊎_elim
        (λ w. let x : word_at b side s k ≡ 255 = eqb-true _ _ w in absurd (omega arith))
        (λ w. true≢false (sym (if_so (eqb (word_at b side s j) (word_at b side s k)) (all-at k _ (and_right _ _ w) j m) (eq-eqb _ _ (uj ∙ sym vk)))))
        (or_cases _ _ (all-at (places_of b) _ (form-word b q side s n) k k<))))
        (λ e. let z = count-zero (places_of b) _ (no_place b q side s i (ltb-false s (nodes_of b) e) h l) in omega arith)
        (true_or_false (ltb s (nodes_of b))))

    place-bit : count_below (scheme_of b).places (reads (scheme_of b) side s i) ≡ bit (ltb (placed_at b side (4 * s + i)) 255)
    place-bit = rw (place_is_lem b q side s i h l, ← places_is_lem) (go (least (scheme_of b).places (reads (scheme_of b) side s i)) refl)
      where
        go : (o : Option ℕ) → least (scheme_of b).places (reads (scheme_of b) side s i) ≡ o
            → count_below (scheme_of b).places (reads (scheme_of b) side s i) ≡ bit (ltb (place_code o) 255)
        go None e = count-zero (scheme_of b).places _ (λ p k. least-none (scheme_of b).places _ e p k)
        go (Some p) e =
            let w = least_at (scheme_of b).places _ p e in
            let few = places-few b q in
            let n3 = small b q in
            let below : 16 + p < 255 = omega (arith, w.0, places_is_lem) in
            let some_word = count-some (scheme_of b).places (reads (scheme_of b) side s i) p w.0 w.1 in
            let once = words-once in
            rw (lt-ltb (16 + p) 255 below) (omega arith)

    touching-same : count_below (arc_count b side) (touching (arc_byte b side) s i)
        ≡ count_below (arcs (scheme_of b) side) (touching (arc_part (scheme_of b) side) s i)
    touching-same = rw arcs-is (count_same (arc_count b side) _ _ (λ a k. each
        (value-arc b q side a 0 k (omega arith)) (value-arc b q side a 1 k (omega arith)) (value-arc b q side a 2 k (omega arith))))
      where
        each : {d d' x x' y y' : ℕ} → d' ≡ d → x' ≡ x → y' ≡ y → (eqb d i and (eqb x s or eqb y s)) ≡ (eqb d' i and (eqb x' s or eqb y' s))
        each e f g = rw (e, f, g)

    number_same : count_below (arc_count b side) (touching (arc_byte b side) s i) + bit (ltb (placed_at b side (4 * s + i)) 255)
        ≡ arcs_of_dim (scheme_of b) side s i
    unfolding arcs_of_dim
    number_same = ap₂ ◌+◌ touching-same (sym place-bit)

  pub twice_same : twice_to (placed_at b side) (arc_byte b side) (arc_count b side) ≡ twice_of (scheme_of b) side
  unfolding twice_to twice_of twice_at
  twice_same = list_same 16 _ _ (λ s h. any_same 4 _ _ (λ i l. ap (leb 2) (number_same s i h l)))

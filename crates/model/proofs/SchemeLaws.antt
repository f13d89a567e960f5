-- What the value of bytes in the form has is what the bytes say.
use Prim.Native.Nat.{ℕ, ◌+◌, ◌*◌, ◌/◌, ◌%◌, ◌≤◌, ◌<◌}
use mathlib.Core.Path.{◌≡◌, refl, sym, ap, ap₂, ◌∙◌, subst}
use mathlib.Core.Logic.{◌⊎◌, inl, inr, ⊎_elim}
use mathlib.Core.Bool.{Bool, true, false, cond, true≢false}
use Rattle.std.specs.Prelude.{unwrap_or, Option, Some, None}
use mathlib.Core.List.{List}
use native.Mathlib.Nat.{mul-le-mul_right}
use native.Mathlib.Omega.{arith}
use lib.ListN.{length, get_or}
use lib.Dec.{eqb, ltb}
use borrow.Author.Tests.{eqb-true, ne_eqb, ltb-true, ltb-false, leb-true, lt-ltb, le-ltb}
use Rattle.base.specs.Test.{◌and◌, ◌or◌}
use Rattle.base.specs.First.{least, some_if}
use Rattle.base.proofs.TestLaws.{and_left, and_right, or_cases, true_or_false}
use Rattle.base.proofs.BelowLaws.{all-at}
use Rattle.base.proofs.FirstLaws.{first-same, least-none_of, least-same}
use Rattle.base.proofs.ListLaws.{get_or-list}
use Rattle.model.specs.Bytes.{on_side, byte, names_second, dimension_of, places_of, nodes_of, has_donor, kind_at}
use Rattle.model.specs.Bytes.{word_at, donor_of, hook_bytes, second_of, arc_count, arc_byte}
use Rattle.model.specs.Bytes.{up_to}
use Rattle.model.specs.Arc.{far_end, arc_of}
use Rattle.model.specs.Codes.{place_code, placed, placed_at, targets_of, targets, arc_code}
use Rattle.model.specs.Scheme.{Side, left, right, orbit_form, word_form, word_empty, node_form, donor_form}
use Rattle.model.specs.Scheme.{arcs_form, in_form, words_of, arcs_of, scheme_of, kind, orbit_dim}
use Rattle.model.specs.Scheme.{donor, word, arcs, arc_part, has, first_hook}
use Rattle.model.specs.Conditions.{arc_at, reads}
use Rattle.model.specs.Shaped.{Shaped, ShapedSide}
use Rattle.model.proofs.NodePlaceLaws.{donors_to, node-place}
use Rattle.model.proofs.FormLaws as F

up-to : (bound x v filling : ℕ) → x < bound → up_to bound x v filling ≡ v
up-to bound x v filling h = rw (lt-ltb x bound h) refl

-- the code of the explicit arc to a node, else of the implicit one at a position
code_of : (o r : Option ℕ) → unwrap_or o (place_code r) ≡ arc_code (arc_of o r)
code_of (Some t) r = refl
code_of None (Some p) = refl
code_of None None = refl

module _ (b : List ℕ) (q : in_form b ≡ true) where
  -- ---- the parts of the form

  form : F.Parts b
  form = F.parts b q

  pub small : dimension_of b ≤ 3
  small = ⊎_elim (λ e. omega arith) (λ e. omega arith) form.dimension

  pub places-few : places_of b ≤ dimension_of b + 1
  places-few = F.places-few b form

  pub nodes-few : nodes_of b ≤ 16
  nodes-few = form.nodes_few

  form-node : (s : ℕ) → s < nodes_of b → node_form b s ≡ true
  form-node s h = all-at _ _ form.nodes s h

  form-donor : (s : ℕ) → s < nodes_of b → donor_form b s ≡ true
  form-donor s h = all-at _ _ form.donors s h

  pub arcs-few : (side : Side) → arc_count b side ≤ 64
  arcs-few side = F.arcs-few b form side

  -- a scheme has 537 bytes at the most beside those of its donors and of a second hook
  pub form-short : length b ≤ 537 + donors_to b (nodes_of b) + hook_bytes b
  form-short =
      let ends = form.ends in
      let n3 = small in
      let few = places-few in
      let place = node-place b (nodes_of b) in
      let nodes = mul-le-mul_right (1 + 2 * places_of b) nodes-few in
      let arcs-left = arcs-few left in
      let arcs-right = arcs-few right in
      omega arith

  form-arc : (side : Side) (a : ℕ) → a < arc_count b side → F.ArcParts b side a
  unfolding arcs_form
  form-arc side a h = F.arc-parts b side a (all-at _ _ (and_right _ _ (form.arcs side)) a h)

  pub form-word : (side : Side) (s : ℕ) → s < nodes_of b → word_form b side s ≡ true
  unfolding node_form
  form-word left s h = and_right _ _ (and_left _ _ (and_left _ _ (and_left _ _ (form-node s h))))
  form-word right s h = and_right _ _ (and_left _ _ (and_left _ _ (form-node s h)))

  form-empty : (side : Side) (s : ℕ) → s < nodes_of b → word_empty b side s ≡ true
  unfolding node_form
  form-empty left s h = and_right _ _ (and_left _ _ (form-node s h))
  form-empty right s h = and_right _ _ (form-node s h)

  -- ---- the value has what the bytes say

  pub value-orbit : (p : ℕ) → p < places_of b → orbit_dim (scheme_of b) p ≡ byte b (2 + p)
  unfolding scheme_of
  value-orbit p h =
      let few = places-few in
      let n3 = small in
      get_or-list 4 p _ 0 (omega arith) ∙ up-to _ _ _ _ h

  pub value-kind : (s : ℕ) → s < nodes_of b → kind (scheme_of b) s ≡ kind_at b s
  unfolding scheme_of
  value-kind s h = let few = nodes-few in get_or-list 16 s _ 0 (omega arith) ∙ up-to _ _ _ _ h

  value-donor : (s : ℕ) → s < nodes_of b → donor (scheme_of b) s ≡ donor_of b s
  unfolding scheme_of
  value-donor s h = let few = nodes-few in get_or-list 16 s _ 0 (omega arith) ∙ up-to _ _ _ _ h

  words-at : (side : Side) (s p : ℕ) → s < nodes_of b → p < places_of b → get_or (words_of b side) (4 * s + p) 255 ≡ word_at b side s p
  unfolding words_of
  words-at side s p h l =
      let few = places-few in
      let n3 = small in
      let c16 = nodes-few in
      let at-s : (4 * s + p) / 4 ≡ s = omega arith in
      let at_p : (4 * s + p) % 4 ≡ p = omega arith in
      get_or-list 64 (4 * s + p) _ 255 (omega arith)
      ∙ ap₂ (λ (x y : ℕ). up_to (nodes_of b) x (up_to (places_of b) y (word_at b side x y) 255) 255) at-s at_p
      ∙ up-to _ _ _ _ h ∙ up-to _ _ _ _ l

  words-out : (side : Side) (s p : ℕ) → nodes_of b ≤ s → s < 16 → p < 4 → get_or (words_of b side) (4 * s + p) 255 ≡ 255
  unfolding words_of
  words-out side s p h l k =
      let at-s : (4 * s + p) / 4 ≡ s = omega arith in
      get_or-list 64 (4 * s + p) _ 255 (omega arith)
      ∙ ap (λ (x : ℕ). up_to (nodes_of b) x (up_to (places_of b) ((4 * s + p) % 4) (word_at b side x ((4 * s + p) % 4)) 255) 255) at-s
      ∙ ap (λ (c : Bool). cond c (up_to (places_of b) ((4 * s + p) % 4) (word_at b side s ((4 * s + p) % 4)) 255) 255) (le-ltb s (nodes_of b) h)

  -- past the last node every word is 255
  pub value-word-out : (side : Side) (s p : ℕ) → nodes_of b ≤ s → s < 16 → p < 4 → word (scheme_of b) side s p ≡ 255
  unfolding scheme_of
  value-word-out left s p h l k = words-out left s p h l k
  value-word-out right s p h l k = words-out right s p h l k

  pub value-word : (side : Side) (s p : ℕ) → s < nodes_of b → p < places_of b → word (scheme_of b) side s p ≡ word_at b side s p
  unfolding scheme_of
  value-word left s p h l = words-at left s p h l
  value-word right s p h l = words-at right s p h l

  arcs-at : (side : Side) (a f : ℕ) → a < arc_count b side → f < 3 → get_or (arcs_of b side) (3 * a + f) 0 ≡ arc_byte b side a f
  unfolding arcs_of
  arcs-at side a f h l =
      let few = arcs-few side in
      let at_a : (3 * a + f) / 3 ≡ a = omega arith in
      let at_f : (3 * a + f) % 3 ≡ f = omega arith in
      get_or-list 192 (3 * a + f) _ 0 (omega arith)
      ∙ ap₂ (λ (x y : ℕ). up_to (arc_count b side) x (arc_byte b side x y) 0) at_a at_f
      ∙ up-to _ _ _ _ h

  pub value-arc : (side : Side) (a f : ℕ) → a < arc_count b side → f < 3 → arc_part (scheme_of b) side a f ≡ arc_byte b side a f
  unfolding scheme_of
  value-arc left a f h l = arcs-at left a f h l
  value-arc right a f h l = arcs-at right a f h l

  -- arcs lead from a node to the same far end, by the bytes and by the value
  pub end_same : (side : Side) (s i : ℕ) → far_end (arc_byte b side) (arc_count b side) s i ≡ far_end (arc_part (scheme_of b) side) (arc_count b side) s i
  unfolding far_end
  end_same side s i = first-same (arc_count b side) _ _ (λ a h. each
      (value-arc side a 0 h (omega arith)) (value-arc side a 1 h (omega arith)) (value-arc side a 2 h (omega arith)))
    where
      each : {d d' x x' y y' : ℕ} → d' ≡ d → x' ≡ x → y' ≡ y
          → some_if (eqb d i and (eqb x s or eqb y s)) (cond (eqb x s) y x) ≡ some_if (eqb d' i and (eqb x' s or eqb y' s)) (cond (eqb x' s) y' x')
      each e f g = rw (e, f, g)

  -- past the last node there is no implicit arc
  pub no_place : (side : Side) (s i : ℕ) → nodes_of b ≤ s → s < 16 → i < 4 → (p : ℕ) → p < places_of b → reads (scheme_of b) side s i p ≡ false
  no_place side s i n h l p k =
      let few = places-few in
      let n3 = small in
      ap (λ (z : ℕ). eqb z i) (value-word-out side s p n h (omega arith)) ∙ ne_eqb 255 i (λ e. absurd (omega arith))

  -- the implicit arc by the bytes is that by the value
  pub place_is_lem : (side : Side) (s i : ℕ) → s < 16 → i < 4 → placed_at b side (4 * s + i) ≡ place_code (least (places_of b) (reads (scheme_of b) side s i))
  unfolding placed
  place_is_lem side s i h l =
      let at-s : (4 * s + i) / 4 ≡ s = omega arith in
      let at_i : (4 * s + i) % 4 ≡ i = omega arith in
      ⊎_elim
      (λ e. let n : s < nodes_of b = let m = ltb-true (4 * s + i) (4 * nodes_of b) e in omega arith in
      rw (e, at-s, at_i) (ap place_code (least-same (places_of b) _ _ (λ p k. ap (λ (z : ℕ). eqb z i) (sym (value-word side s p n k))))))
      (λ e. let n : nodes_of b ≤ s = let m = ltb-false (4 * s + i) (4 * nodes_of b) e in omega arith in
      rw e (sym (ap place_code (least-none_of (places_of b) _ (no_place side s i n h l)))))
      (true_or_false (ltb (4 * s + i) (4 * nodes_of b)))

  targets-at : (side : Side) (s i : ℕ) → s < 16 → i < 4
      → get_or (targets_of b side) (4 * s + i) 0
      ≡ arc_code (arc_of (far_end (arc_part (scheme_of b) side) (arc_count b side) s i) (least (places_of b) (reads (scheme_of b) side s i)))
  unfolding targets_of
  targets-at side s i h l =
      let at-s : (4 * s + i) / 4 ≡ s = omega arith in
      let at_i : (4 * s + i) % 4 ≡ i = omega arith in
      get_or-list 64 (4 * s + i) _ 0 (omega arith)
      ∙ ap₂ (λ (x y : ℕ). unwrap_or (far_end (arc_byte b side) (arc_count b side) x y) (placed_at b side (4 * s + i))) at-s at_i
      ∙ ap₂ (λ (o : Option ℕ) (p : ℕ). unwrap_or o p) (end_same side s i) (place_is_lem side s i h l)
      ∙ code_of (far_end (arc_part (scheme_of b) side) (arc_count b side) s i) (least (places_of b) (reads (scheme_of b) side s i))

  -- a target is the code of what the node has at that dimension
  value-target : (side : Side) (s i : ℕ) → s < 16 → i < 4
      → get_or (targets (scheme_of b) side) (4 * s + i) 0 ≡ arc_code (arc_at (scheme_of b) side s i)
  unfolding scheme_of arc_at
  value-target left s i h l = targets-at left s i h l
  value-target right s i h l = targets-at right s i h l

  -- ---- the form, as facts on the value

  pub orbit-dim : (p : ℕ) → p < places_of b → orbit_dim (scheme_of b) p ≤ dimension_of b
  unfolding orbit_form
  orbit-dim p h = rw (value-orbit p h) (leb-true _ _ (all-at _ _ (and_right _ _ (and_left _ _ form.orbit)) p h))

  pub word-dim : (side : Side) (s p : ℕ) → s < nodes_of b → p < places_of b
      → (word (scheme_of b) side s p ≡ 255) ⊎ (word (scheme_of b) side s p ≤ dimension_of b)
  unfolding word_form
  word-dim side s p h l = rw (value-word side s p h l) (⊎_elim (λ e. inl (eqb-true _ _ e)) (λ e. inr (leb-true _ _ (and_left _ _ e)))
      (or_cases _ _ (all-at _ _ (form-word side s h) p l)))

  word-empty : (side : Side) (s p : ℕ) → s < nodes_of b → p < places_of b → has (scheme_of b) side s ≡ false → word (scheme_of b) side s p ≡ 255
  unfolding word_empty
  word-empty side s p h l off = value-word side s p h l ∙ ⊎_elim
      (λ on. absurd (true≢false (sym on ∙ sym (ap (on_side side) (value-kind s h)) ∙ off)))
      (λ e. eqb-true _ _ (all-at _ _ e p l))
      (or_cases _ _ (form-empty side s h))

  arc-dim : (side : Side) (a : ℕ) → a < arc_count b side → arc_part (scheme_of b) side a 0 ≤ dimension_of b
  arc-dim side a h = rw (value-arc side a 0 h (omega arith)) (form-arc side a h).dim

  End : Side → ℕ → Type 0
  End side x = (x < nodes_of b) × (has (scheme_of b) side x ≡ true)

  -- byte f of an arc is a node of the side
  arc-end : (side : Side) (a f : ℕ) → a < arc_count b side → f < 3 → arc_byte b side a f < nodes_of b → on_side side (kind_at b (arc_byte b side a f)) ≡ true
      → End side (arc_part (scheme_of b) side a f)
  unfolding End
  arc-end side a f h l n e = subst (End side) (sym (value-arc side a f h l)) (n, ap (on_side side) (value-kind _ n) ∙ e)

  pub kind_range : (s : ℕ) → s < nodes_of b → (1 ≤ kind (scheme_of b) s) × (kind (scheme_of b) s ≤ 3)
  unfolding node_form
  kind_range s h =
      let f = and_left _ _ (and_left _ _ (and_left _ _ (and_left _ _ (form-node s h)))) in
      rw (value-kind s h) (leb-true 1 _ (and_left _ _ f), leb-true _ 3 (and_right _ _ f))

  -- a donor is a node, and where one is named it is a left one
  donor-below : (s : ℕ) → s < nodes_of b → donor (scheme_of b) s < nodes_of b
  donor-below s h = subst (λ (x : ℕ). x < nodes_of b) (sym (value-donor s h)) (⊎_elim
      (λ e. (F.donor-parts b s (form-donor s h) e).node)
      (λ e. let none = F.donor-none b s e in let some = form.nodes_some in omega arith)
      (true_or_false (has_donor b (kind_at b s))))

  donor-left : (s : ℕ) → s < nodes_of b → (donor (scheme_of b) s ≡ first_hook) ⊎ (has (scheme_of b) left (donor (scheme_of b) s) ≡ true)
  donor-left s h = ⊎_elim
      (λ e. inr (subst (λ (x : ℕ). has (scheme_of b) left x ≡ true) (sym (value-donor s h))
      (let p = F.donor-parts b s (form-donor s h) e in ap (on_side left) (value-kind _ p.node) ∙ p.on_left)))
      (λ e. inl (value-donor s h ∙ F.donor-none b s e))
      (true_or_false (has_donor b (kind_at b s)))

  -- the second hook is a node, and where one is named it is a left one
  second_below_lem : second_of b < nodes_of b
  second_below_lem = ⊎_elim
      (λ e. (F.second_parts b form.second e).node)
      (λ e. let none = F.second_none b e in let some = form.nodes_some in omega arith)
      (true_or_false (names_second b))

  second-left : ltb 0 (second_of b) ≡ true → has (scheme_of b) left (second_of b) ≡ true
  second-left h = ap (on_side left) (value-kind _ second_below_lem) ∙ ⊎_elim
      (λ e. (F.second_parts b form.second e).on_left)
      (λ e. absurd (let none = F.second_none b e in let named = ltb-true 0 (second_of b) h in omega arith))
      (true_or_false (names_second b))

  shaped-side : (side : Side) (few : arcs (scheme_of b) side ≡ arc_count b side) → ShapedSide (scheme_of b) side
  unfolding scheme_of End
  shaped-side side same = record {
    words = word-dim side;
    empty = word-empty side;
    few = rw same (arcs-few side);
    dims = λ a h. arc-dim side a (rw same at h);
    from = λ a h. let k = rw same at h in let f = form-arc side a k in arc-end side a 1 k (omega arith) (omega arith) f.from;
    to = λ a h. let k = rw same at h in let f = form-arc side a k in arc-end side a 2 k (omega arith) f.node f.to;
    coded = value-target side;
  }

  pub shaped : Shaped (scheme_of b)
  unfolding scheme_of
  shaped = record {
    dimension = form.dimension;
    places_few = places-few;
    orbit_dims = orbit-dim;
    nodes_some = form.nodes_some;
    nodes_few = nodes-few;
    kinds = kind_range;
    donor_below = donor-below;
    donor_left = donor-left;
    second_below = second_below_lem;
    second_left = second-left;
    sides = λ side. shaped-side side (count-is side);
  }
    where
      count-is : (side : Side) → arcs (scheme_of b) side ≡ arc_count b side
      count-is left = refl
      count-is right = refl

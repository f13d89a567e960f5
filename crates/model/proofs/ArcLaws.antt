-- The arcs of an accepted scheme's nodes: what `arc_at` finds is what the arcs and words say, and an explicit arc is found from both ends.
use Prim.Native.Nat.{ℕ, ◌+◌, ◌≤◌, ◌<◌}
use mathlib.Core.Path.{◌≡◌, refl, sym, ap, ap₂, ◌∙◌, subst}
use mathlib.Core.Logic.{⊎_elim}
use mathlib.Core.Bool.{Bool, true, false, true≢false}
use Rattle.std.specs.Prelude.{Option, Some, None}
use native.Mathlib.Omega.{arith}
use lib.Dec.{eqb}
use borrow.Author.Tests.{eqb-true, eq-eqb}
use Rattle.base.specs.Below.{count_below}
use Rattle.base.specs.First.{first, least, some_if}
use Rattle.model.specs.Arc.{far_end, arc_of}
use Rattle.model.specs.Scheme.{Side, word, arcs, arc_part, has}
use Rattle.model.specs.Conditions.{Arc, absent, explicit, implicit, arc_at, arcs_of_dim, touches, far, reads}
use Rattle.model.specs.Shaped.{ShapedSide}
use Rattle.model.specs.declared.Scheme.{Scheme}
use Rattle.base.proofs.TestLaws.{and_left, and_right, and_of, or_cases, or_left, or_right, true_or_false}
use Rattle.base.proofs.BelowLaws.{count_none, count-zero, count-some, count-once}
use Rattle.base.proofs.FirstLaws.{when-at, when-none, first-at, first-none, first-only, first-none_of, least_at, least-none, least-only, least-none_of}

-- one side of a scheme, with at most one arc of each dimension at a node
pub record SingleSide (S : Scheme) (side : Side) : Type 0 where
  pub shaped : ShapedSide S side
  pub single : (s i : ℕ) → s < S.nodes → i ≤ S.n → arcs_of_dim S side s i ≤ 1

module _ (S : Scheme) (side : Side) where
  -- the arc found at s, seen from the arcs
  pub explicit-from : (s i t : ℕ) → arc_at S side s i ≡ explicit t → (a : ℕ) × (a < arcs S side) × (touches S side s i a ≡ true) × (far S side s a ≡ t)
  unfolding arc_at far_end
  explicit-from s i t e = go (first (arcs S side) (λ a. some_if (touches S side s i a) (far S side s a))) refl (least S.places (reads S side s i)) e
    where
      go : (o : Option ℕ) → first (arcs S side) (λ a. some_if (touches S side s i a) (far S side s a)) ≡ o → (r : Option ℕ) → arc_of o r ≡ explicit t
          → (a : ℕ) × (a < arcs S side) × (touches S side s i a ≡ true) × (far S side s a ≡ t)
      go (Some v) q r e =
          let f = first-at (arcs S side) _ v q in
          let w = when-at _ f.2 in
          (f.0, f.1, w.0, (cc))
      go None q (Some p) e = absurd (let z : ◌≡◌ {A = ℕ} 0 1 = cc in omega arith)
      go None q None e = absurd (let z : ◌≡◌ {A = ℕ} 0 1 = cc in omega arith)

  pub implicit-from : (s i p : ℕ) → arc_at S side s i ≡ implicit p → (p < S.places) × (word S side s p ≡ i)
  unfolding arc_at far_end
  implicit-from s i p e = go (first (arcs S side) (λ a. some_if (touches S side s i a) (far S side s a))) (least S.places (reads S side s i)) refl e
    where
      go : (o r : Option ℕ) → least S.places (reads S side s i) ≡ r → arc_of o r ≡ implicit p → (p < S.places) × (word S side s p ≡ i)
      go (Some v) r q e = absurd (let z : ◌≡◌ {A = ℕ} 0 1 = cc in omega arith)
      go None None q e = absurd (let z : ◌≡◌ {A = ℕ} 0 1 = cc in omega arith)
      go None (Some o) q e =
          let same : o ≡ p = cc in
          let l = least_at S.places (reads S side s i) p (q ∙ ap {B = Option ℕ} Some same) in
          (l.0, eqb-true _ _ l.1)

  -- the far end is the other one
  pub far_from : (a : ℕ) → far S side (arc_part S side a 1) a ≡ arc_part S side a 2
  far_from a = rw (eq-eqb (arc_part S side a 1) (arc_part S side a 1) refl) refl

  pub far-to : (a : ℕ) → far S side (arc_part S side a 2) a ≡ arc_part S side a 1
  far-to a = ⊎_elim (λ e. rw e (sym (eqb-true _ _ e))) (λ e. rw e refl) (true_or_false (eqb (arc_part S side a 1) (arc_part S side a 2)))

  pub touches-from : (a : ℕ) → touches S side (arc_part S side a 1) (arc_part S side a 0) a ≡ true
  touches-from a = and_of (eq-eqb (arc_part S side a 0) _ refl)
      (or_left (eqb (arc_part S side a 2) (arc_part S side a 1)) (eq-eqb (arc_part S side a 1) _ refl))

  pub touches-to : (a : ℕ) → touches S side (arc_part S side a 2) (arc_part S side a 0) a ≡ true
  touches-to a = and_of (eq-eqb (arc_part S side a 0) _ refl) (or_right (eqb (arc_part S side a 1) (arc_part S side a 2)) (eq-eqb (arc_part S side a 2) _ refl))

  -- no arc is found just where none is counted
  pub absent_of : (s i : ℕ) → arcs_of_dim S side s i ≡ 0 → arc_at S side s i ≡ absent
  unfolding arc_at far_end arcs_of_dim some_if
  absent_of s i e = ap₂ arc_of
      (first-none_of (arcs S side) _ (λ a k. ap (λ (c : Bool). some_if c (far S side s a)) (count_none (arcs S side) (touches S side s i) (omega arith) a k)))
      (least-none_of S.places (reads S side s i) (λ p k. count_none S.places (reads S side s i) (omega arith) p k))

  pub absent-from : (s i : ℕ) → arc_at S side s i ≡ absent → arcs_of_dim S side s i ≡ 0
  unfolding arc_at far_end arcs_of_dim
  absent-from s i e = go (first (arcs S side) (λ a. some_if (touches S side s i a) (far S side s a))) refl (least S.places (reads S side s i)) refl e
    where
      go : (o : Option ℕ) → first (arcs S side) (λ a. some_if (touches S side s i a) (far S side s a)) ≡ o → (r : Option ℕ)
          → least S.places (reads S side s i) ≡ r
          → arc_of o r ≡ absent → count_below (arcs S side) (touches S side s i) + count_below S.places (reads S side s i) ≡ 0
      go (Some v) q r w e = absurd (let z : ◌≡◌ {A = ℕ} 0 1 = cc in omega arith)
      go None q (Some p) w e = absurd (let z : ◌≡◌ {A = ℕ} 0 1 = cc in omega arith)
      go None q None w e =
          let x = count-zero (arcs S side) (touches S side s i) (λ a k. when-none _ (far S side s a) (first-none (arcs S side) _ q a k)) in
          let y = count-zero S.places (reads S side s i) (λ p k. least-none S.places (reads S side s i) w p k) in
          omega arith

  module _ (g : SingleSide S side) where
    pub explicit-at : (s i a : ℕ) → s < S.nodes → a < arcs S side → i ≤ S.n → touches S side s i a ≡ true
        → arc_at S side s i ≡ explicit (far S side s a)
    unfolding arc_at far_end arcs_of_dim some_if
    explicit-at s i a h b l t =
        ap (λ (o : Option ℕ). arc_of o (least S.places (reads S side s i)))
        (first-only (arcs S side) _ a (far S side s a) b (ap (λ (c : Bool). some_if c (far S side s a)) t)
        (λ j c k e. let w = when-at _ e in sym w.1
        ∙ ap (far S side s) (count-once (arcs S side) (touches S side s i) (omega (arith, g.single s i h l)) j a k b w.0 t)))

    pub implicit-at : (s i p : ℕ) → s < S.nodes → p < S.places → i ≤ S.n → word S side s p ≡ i → arc_at S side s i ≡ implicit p
    unfolding arc_at far_end arcs_of_dim some_if
    implicit-at s i p h b l e =
        let r : reads S side s i p ≡ true = eq-eqb _ _ e in
        let one = g.single s i h l in
        let some-implicit = count-some S.places (reads S side s i) p b r in
        ap₂ arc_of
        (first-none_of (arcs S side) _ (λ a k. ap (λ (c : Bool). some_if c (far S side s a)) (count_none (arcs S side) (touches S side s i) (omega arith) a k)))
        (least-only S.places (reads S side s i) p b r (λ j k q. count-once S.places (reads S side s i) (omega arith) j p k b q r))

    -- an explicit arc leads to a node of the side, and is found from there
    pub explicit-end : (s i t : ℕ) → arc_at S side s i ≡ explicit t → (t < S.nodes) × (has S side t ≡ true) × (i ≤ S.n) × (arc_at S side t i ≡ explicit s)
    explicit-end s i t e =
        let f = explicit-from s i t e in
        let a = f.0 in
        let dim : arc_part S side a 0 ≡ i = eqb-true _ _ (and_left _ _ f.2) in
        let back : (x y : ℕ) → x ≡ s → far S side x a ≡ y → far S side y a ≡ x → touches S side y (arc_part S side a 0) a ≡ true
        → (y < S.nodes) × (has S side y ≡ true) → (t < S.nodes) × (has S side t ≡ true) × (i ≤ S.n) × (arc_at S side t i ≡ explicit s) =
        λ x y q to from touch n. subst
        (λ (z : ℕ). (z < S.nodes) × (has S side z ≡ true) × (i ≤ S.n) × (arc_at S side z i ≡ explicit s))
        (sym to ∙ ap (λ (z : ℕ). far S side z a) q ∙ f.3) (
          n.0,
          n.1,
          subst (λ (k : ℕ). k ≤ S.n) dim (g.shaped.dims a f.1),
          ap (arc_at S side y) (sym dim)
              ∙ explicit-at y (arc_part S side a 0) a n.0 f.1 (g.shaped.dims a f.1) touch ∙ ap explicit (from ∙ q),
        ) in
        ⊎_elim
        (λ q. back _ _ (eqb-true _ _ q) (far_from a) (far-to a) (touches-to a) (g.shaped.to a f.1))
        (λ q. back _ _ (eqb-true _ _ q) (far-to a) (far_from a) (touches-from a) (g.shaped.from a f.1))
        (or_cases _ _ (and_right _ _ f.2))

    -- a node that is not on the side has no arc there
    pub off-side : (s i : ℕ) → s < S.nodes → i < 255 → has S side s ≡ false → arc_at S side s i ≡ absent
    off-side s i h l off = go (arc_at S side s i) refl
      where
        go : (c : Arc) → arc_at S side s i ≡ c → arc_at S side s i ≡ absent
        go absent a = a
        go (explicit t) a = absurd (true≢false (sym (explicit-end t i s (explicit-end s i t a).3).1 ∙ off))
        go (implicit p) a = let x = implicit-from s i p a in absurd (omega (arith, x.1, g.shaped.empty s p h x.0 off))

    -- no node has an arc of a dimension above n
    pub no_arc : (s i : ℕ) → s < S.nodes → S.n < i → i < 255 → arc_at S side s i ≡ absent
    no_arc s i h n l = go (arc_at S side s i) refl
      where
        go : (c : Arc) → arc_at S side s i ≡ c → arc_at S side s i ≡ absent
        go absent a = a
        go (explicit t) a = let x = (explicit-end s i t a).2 in absurd (omega arith)
        go (implicit p) a =
            let x = implicit-from s i p a in
            let word-i = x.1 in
            ⊎_elim (λ z. absurd (omega arith)) (λ z. absurd (omega arith)) (g.shaped.words s p h x.0)

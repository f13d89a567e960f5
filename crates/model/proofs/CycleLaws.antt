-- `on_cycle` computes what `Cycle` says; an ij-cycle is passed on along explicit i- and j-arcs.
use Prim.Native.Nat.{ℕ}
use mathlib.Core.Path.{◌≡◌, refl, sym, ap, ◌∙◌}
use mathlib.Core.Logic.{inl, inr, ⊎_elim}
use mathlib.Core.Bool.{Bool, true, false≢true}
use native.Mathlib.Omega.{arith}
use borrow.Author.Tests.{eqb-true, eq-eqb, leb-true, le-leb}
use Rattle.model.specs.Scheme.{Side}
use Rattle.model.specs.Conditions.{Arc, absent, explicit, implicit, arc_at, same_arc, at_end, at_places, four_arcs}
use Rattle.model.specs.Conditions.{one_arc, both_implicit, on_cycle, Cycle, four}
use Rattle.model.specs.Conditions.{one_i, one_j, apart}
use Rattle.model.specs.declared.Scheme.{Scheme}
use Rattle.base.proofs.TestLaws.{or_cases, or_left, or_right}
use Rattle.model.proofs.ArcLaws.{SingleSide, explicit-end}

end-at : (c : Arc) (p : ℕ → Bool) → at_end c p ≡ true → (t : ℕ) × (c ≡ explicit t) × (p t ≡ true)
end-at absent p e = absurd (false≢true e)
end-at (explicit t) p e = (t, refl, e)
end-at (implicit o) p e = absurd (false≢true e)

end_of : {c : Arc} (p : ℕ → Bool) {t : ℕ} → c ≡ explicit t → p t ≡ true → at_end c p ≡ true
end_of p e q = rw e q

places-at : (c d : Arc) (p : ℕ → ℕ → Bool) → at_places c d p ≡ true → (o q : ℕ) × (c ≡ implicit o) × (d ≡ implicit q) × (p o q ≡ true)
places-at absent d p e = absurd (false≢true e)
places-at (explicit t) d p e = absurd (false≢true e)
places-at (implicit o) absent p e = absurd (false≢true e)
places-at (implicit o) (explicit t) p e = absurd (false≢true e)
places-at (implicit o) (implicit q) p e = (o, q, refl, refl, e)

places_of : {c d : Arc} (p : ℕ → ℕ → Bool) {o q : ℕ} → c ≡ implicit o → d ≡ implicit q → p o q ≡ true → at_places c d p ≡ true
places_of p e f q = rw (e, f) q

pub same-arc : (c d : Arc) → same_arc c d ≡ true → c ≡ d
same-arc absent absent e = refl
same-arc absent (explicit t) e = absurd (false≢true e)
same-arc absent (implicit p) e = absurd (false≢true e)
same-arc (explicit s) absent e = absurd (false≢true e)
same-arc (explicit s) (explicit t) e = ap explicit (eqb-true s t e)
same-arc (explicit s) (implicit p) e = absurd (false≢true e)
same-arc (implicit o) absent e = absurd (false≢true e)
same-arc (implicit o) (explicit t) e = absurd (false≢true e)
same-arc (implicit o) (implicit p) e = ap implicit (eqb-true o p e)

own-arc : (c : Arc) → same_arc c c ≡ true
own-arc absent = refl
own-arc (explicit t) = eq-eqb t t refl
own-arc (implicit p) = eq-eqb p p refl

pub arc-same : {c d : Arc} → c ≡ d → same_arc c d ≡ true
arc-same {c} e = ap (same_arc c) (sym e) ∙ own-arc c

module _ (S : Scheme) (side : Side) (s i j : ℕ) where
  from-four : four_arcs S side s i j ≡ true → Cycle S side s i j
  unfolding four_arcs
  from-four e =
      let a = end-at (arc_at S side s i) _ e in
      let b = end-at (arc_at S side a.0 j) _ a.2 in
      let c = end-at (arc_at S side b.0 i) _ b.2 in
      let d = end-at (arc_at S side c.0 j) _ c.2 in
      four a.1 b.1 c.1 (d.1 ∙ ap explicit (sym (eqb-true _ _ d.2)))

  from_one : one_arc S side s i j ≡ true → Cycle S side s i j
  unfolding one_arc
  from_one e =
      let a = end-at (arc_at S side s i) _ e in
      let b = places-at (arc_at S side s j) (arc_at S side a.0 j) _ a.2 in
      one_i a.1 b.2 (b.3 ∙ ap implicit (sym (eqb-true _ _ b.4)))

  from-other : one_arc S side s j i ≡ true → Cycle S side s i j
  unfolding one_arc
  from-other e =
      let a = end-at (arc_at S side s j) _ e in
      let b = places-at (arc_at S side s i) (arc_at S side a.0 i) _ a.2 in
      one_j a.1 b.2 (b.3 ∙ ap implicit (sym (eqb-true _ _ b.4)))

  from-none : both_implicit S side s i j ≡ true → Cycle S side s i j
  unfolding both_implicit
  from-none e =
      let a = places-at (arc_at S side s i) (arc_at S side s j) _ e in
      apart a.2 a.3 (⊎_elim (λ l. inl (leb-true _ _ l)) (λ l. inr (leb-true _ _ l)) (or_cases _ _ a.4))

  pub cycle_at : on_cycle S side s i j ≡ true → Cycle S side s i j
  unfolding on_cycle
  cycle_at e = ⊎_elim (⊎_elim (⊎_elim from-four from_one) from-other) from-none
      (⊎_elim (λ a. inl (⊎_elim (λ b. inl (or_cases _ _ b)) (λ b. inr b) (or_cases _ _ a))) (λ a. inr a) (or_cases _ _ e))

  pub cycle_of : Cycle S side s i j → on_cycle S side s i j ≡ true
  unfolding on_cycle four_arcs one_arc both_implicit
  cycle_of (four a b c d) = or_left _ (or_left _ (or_left _ (end_of _ a (end_of _ b (end_of _ c (end_of _ d (eq-eqb s s refl)))))))
  cycle_of (one_i {t} {p} a b c) = or_left _ (or_left _ (or_right _ (end_of _ a (places_of _ b c (eq-eqb p p refl)))))
  cycle_of (one_j {t} {p} a b c) = or_left _ (or_right _ (end_of _ a (places_of _ b c (eq-eqb p p refl))))
  cycle_of (apart a b c) = or_right _ (places_of _ a b (⊎_elim (λ l. or_left _ (le-leb _ _ l)) (λ l. or_right _ (le-leb _ _ l)) c))

-- ---- along explicit arcs

pub clash : {c : Arc} {t p : ℕ} → c ≡ explicit t → c ≡ implicit p → ⊥
clash a b = let z : ◌≡◌ {A = ℕ} 0 1 = cc in omega arith

pub not_absent : {c : Arc} {t : ℕ} → c ≡ explicit t → c ≡ absent → ⊥
not_absent a b = let z : ◌≡◌ {A = ℕ} 0 1 = cc in omega arith

pub not_absent' : {c : Arc} {p : ℕ} → c ≡ implicit p → c ≡ absent → ⊥
not_absent' a b = let z : ◌≡◌ {A = ℕ} 0 1 = cc in omega arith

same_end : {c : Arc} {t u : ℕ} → c ≡ explicit t → c ≡ explicit u → t ≡ u
same_end a b = cc

module _ (S : Scheme) (side : Side) (g : SingleSide S side) (i j s r : ℕ) where
  back_of : (s i t : ℕ) → arc_at S side s i ≡ explicit t → arc_at S side t i ≡ explicit s
  back_of s i t e = (explicit-end S side g s i t e).3

  pub pass-i : arc_at S side s i ≡ explicit r → Cycle S side r i j → Cycle S side s i j
  pass-i e (four {t} {u} {v} a b c d) =
      let ts : t ≡ s = same_end a (back_of s i r e) in
      four e (back_of v j r d) (back_of u i v c) (back_of s j u (ap (λ (x : ℕ). arc_at S side x j) (sym ts) ∙ b))
  pass-i e (one_i {t} {p} a b c) =
      let ts : t ≡ s = same_end a (back_of s i r e) in
      one_i e (ap (λ (x : ℕ). arc_at S side x j) (sym ts) ∙ c) b
  pass-i e (one_j a b c) = absurd (clash (back_of s i r e) b)
  pass-i e (apart a b c) = absurd (clash (back_of s i r e) a)

  pub pass-j : arc_at S side s j ≡ explicit r → Cycle S side r i j → Cycle S side s i j
  pass-j e (four {t} {u} {v} a b c d) =
      let vs : v ≡ s = same_end (back_of v j r d) (back_of s j r e) in
      four (ap (λ (x : ℕ). arc_at S side x i) (sym vs) ∙ back_of u i v c) (back_of t j u b) (back_of r i t a) (back_of s j r e)
  pass-j e (one_i a b c) = absurd (clash (back_of s j r e) b)
  pass-j e (one_j {t} {p} a b c) =
      let ts : t ≡ s = same_end a (back_of s j r e) in
      one_j e (ap (λ (x : ℕ). arc_at S side x i) (sym ts) ∙ c) b
  pass-j e (apart a b c) = absurd (clash (back_of s j r e) b)

-- a node that lacks one of the two dimensions is on no cycle
module _ (S : Scheme) (side : Side) (g : SingleSide S side) (s i j : ℕ) where
  pub none-i : arc_at S side s i ≡ absent → Cycle S side s i j → ⊥
  none-i e (four a b c d) = not_absent a e
  none-i e (one_i a b c) = not_absent a e
  none-i e (one_j a b c) = not_absent' b e
  none-i e (apart a b c) = not_absent' a e

  pub none-j : arc_at S side s j ≡ absent → Cycle S side s i j → ⊥
  none-j e (four {t} {u} {v} a b c d) = not_absent (explicit-end S side g v j s d).3 e
  none-j e (one_i a b c) = not_absent' b e
  none-j e (one_j a b c) = not_absent a e
  none-j e (apart a b c) = not_absent' b e

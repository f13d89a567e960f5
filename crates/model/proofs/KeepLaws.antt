-- An accepted edit keeps a map well-formed.
use Prim.Native.Nat.{ℕ, ◌+◌, ◌≤◌, ◌<◌}
use mathlib.Core.Path.{◌≡◌, refl, sym, ap, ◌∙◌, subst}
use mathlib.Core.Logic.{◌⊎◌, inl, inr, ⊎_elim}
use mathlib.Core.Bool.{true, true≢false}
use Rattle.std.specs.Prelude.{Option, Some, None}
use native.Mathlib.Omega.{arith}
use borrow.Author.Tests.{eqb-true}
use Rattle.model.specs.Map.{Map, State, Link}
use Rattle.model.specs.WellFormed.{WellFormed}
use Rattle.model.specs.Scheme.{left, right, orbit_dim, has, preserved}
use Rattle.model.specs.Conditions.{Arc, absent, explicit, implicit, arc_at, on_cycle, Cycle, four, one_i, one_j, apart}
use Rattle.model.specs.Site.{Site}
use Rattle.model.specs.Match.{image, arc_holds}
use Rattle.model.specs.Edit.{Pair, freed, dart_of, pair_of, after_deletion, edited}
use Rattle.base.proofs.TestLaws.{or_cases, true_or_false}
use Rattle.base.proofs.FirstLaws.{some_not_none}
use Rattle.model.proofs.ArcLaws.{explicit-end, implicit-from, absent_of, absent-from, no_arc}
use Rattle.model.proofs.CycleLaws.{cycle_at, cycle_of, not_absent, not_absent', pass-i, pass-j, none-i, none-j}
use Rattle.model.proofs.KindLaws.{both-preserved, deleted-left, preserved-left, preserved-right, preserved_not_added}
use Rattle.model.proofs.MatchLaws.{arc_of_lem}
use Rattle.model.proofs.EditLaws as L
use Rattle.model.proofs.EditLaws.{Ready}
use Rattle.model.proofs.RankLaws.{dart-left}
use Rattle.model.proofs.RoomLaws.{freed-at}
use Rattle.model.proofs.AcceptedLaws.{one_side}

one_not_zero : ◌≡◌ {A = ℕ} 1 0 → ⊥
one_not_zero e = omega arith

module _ (E : Site) (w : WellFormed E.scheme.n E.map) (ready : Ready E) where
  open E use {map as m, scheme as S, orbit as O}
  open ready use {accepted as g, good as o, match as A}

  abbrev D : ℕ → ℕ → ℕ
  D u s = dart_of E u s

  abbrev new : Map
  new = edited E

  -- the map without the deleted darts
  abbrev bare : Map
  bare = after_deletion E

  -- ---- darts before the edit

  -- a live dart is no pair's, or a left pair's
  before : (y : ℕ) → y < m.slots → m.state y ≡ 1
      → ((pair_of E y ≡ None) × (bare.state y ≡ 1)) ⊎ ((v t : ℕ) × (O v ≡ true) × (t < S.nodes) × (has S left t ≡ true) × (y ≡ D v t))
  before y h l = ⊎_elim
      (λ q.
      let f = freed-at E (image E) y q in
      let k = deleted-left S f.1 f.5 in
      inr (f.0, f.1, f.3, f.4, k, sym (dart-left E f.0 f.1 k ∙ f.6)))
      (λ q. go (L.field_stays ready State y q ∙ l) (pair_of E y) refl)
      (true_or_false (freed E (image E) y))
    where
      go : bare.state y ≡ 1 → (p : Option Pair) → pair_of E y ≡ p
          → ((pair_of E y ≡ None) × (bare.state y ≡ 1)) ⊎ ((v t : ℕ) × (O v ≡ true) × (t < S.nodes) × (has S left t ≡ true) × (y ≡ D v t))
      go b None e = inl (e, b)
      go b (Some p) e =
          let q = L.pair-at ready y p e in
          inr (⊎_elim
          (λ k. (p.dart, p.node, q.0, q.1, k, sym q.3))
          (λ k. absurd (one_not_zero (sym (ap bare.state q.3 ∙ b) ∙ L.bare-free ready _ (L.free-at ready p.dart p.node q.0 q.1 k).1)))
          (L.kinds ready p.node q.1))

  -- the links of a left pair's dart, by its left arcs
  old-explicit : (v t i r : ℕ) → O v ≡ true → t < S.nodes → has S left t ≡ true → arc_at S left t i ≡ explicit r
      → (m.link i (D v t) ≡ D v r) × (r < S.nodes) × (has S left r ≡ true)
  unfolding arc_holds
  old-explicit v t i r e h l a =
      let x = explicit-end S left (one_side g left) t i r a in
      let q = eqb-true _ _ (arc_of_lem E g o (image E) A v e t h l i x.2 (explicit r) a) in
      (ap (m.link i) (dart-left E v t l) ∙ q ∙ sym (dart-left E v r x.1), x.0, x.1)

  old-implicit : (v t i p : ℕ) → O v ≡ true → t < S.nodes → has S left t ≡ true → i ≤ S.n → arc_at S left t i ≡ implicit p
      → (m.link i (D v t) ≡ D (m.link (orbit_dim S p) v) t) × (O (m.link (orbit_dim S p) v) ≡ true)
  unfolding arc_holds
  old-implicit v t i p e h l k a =
      let q = eqb-true _ _ (arc_of_lem E g o (image E) A v e t h l i k (implicit p) a) in
      (ap (m.link i) (dart-left E v t l) ∙ q ∙ sym (dart-left E _ t l), o.link v p e (implicit-from S left t i p a).0)

  -- ---- loose ends: links that the edit does not name

  -- x is no pair's dart, or a preserved pair's whose node has no i-arc
  data Loose (i x : ℕ) : Type 0 where
    loose_other : pair_of E x ≡ None → x < m.slots → bare.state x ≡ 1 → Loose i x
    loose_kept : (u s : ℕ) → O u ≡ true → s < S.nodes → preserved S s ≡ true → arc_at S left s i ≡ absent → x ≡ D u s → Loose i x

  loose_dart : {i x : ℕ} → Loose i x → (x < m.slots) × (m.state x ≡ 1)
  loose_dart (loose_other p h l) = (h, (L.bare-live ready _ l).0)
  loose_dart (loose_kept u s e h k a q) =
      (subst (λ (z : ℕ). z < m.slots) (sym q) (L.dart-slot ready u s e h), ap m.state q ∙ L.left-alive ready u s e h (preserved-left S s k))

  -- no left arc of dimension i leads to a loose end
  loose_not : {i x : ℕ} → Loose i x → (v t : ℕ) → O v ≡ true → t < S.nodes → has S left t ≡ true → (arc_at S left t i ≡ absent → ⊥) → x ≡ D v t → ⊥
  loose_not (loose_other p h l) v t e k z a q = ⊎_elim
      (λ d. true≢false (sym (L.pair-freed ready v t e k d) ∙ ap (freed E (image E)) (sym q) ∙ (L.bare-live ready _ l).1))
      (λ d. some_not_none (L.pair_of_lem ready v t e k (preserved-right S t d)) (ap (pair_of E) (sym q) ∙ p))
      (or_cases _ _ z)
  loose_not {i} (loose_kept u s f h k b r) v t e l z a q =
      a (ap (λ (z : ℕ). arc_at S left z i) (sym (L.left_injective ready u s v t f e h l (preserved-left S s k) z (sym r ∙ q)).1) ∙ b)

  -- the link of a loose end leads to one
  loose_link : (i x : ℕ) → i ≤ S.n → Loose i x → Loose i (m.link i x)
  loose_link i x k z =
      let d = loose_dart z in
      let yh = w.below x d.0 d.1 i k in
      let yl = w.alive x d.0 d.1 i k in
      let back = w.back x d.0 d.1 i k in
      ⊎_elim
      (λ p. loose_other p.0 yh p.1)
      (λ y. by-arc y.0 y.1 y.2 y.3 y.4 y.5 back z (arc_at S left y.1 i) refl)
      (before (m.link i x) yh yl)
    where
      by-arc : (v t : ℕ) → O v ≡ true → t < S.nodes → has S left t ≡ true → m.link i x ≡ D v t → m.link i (m.link i x) ≡ x → Loose i x
          → (c : Arc) → arc_at S left t i ≡ c → Loose i (m.link i x)
      by-arc v t e h l q back z (explicit r) a =
          let y = old-explicit v t i r e h l a in
          absurd (loose_not z v r e y.1 y.2 (not_absent (explicit-end S left (one_side g left) t i r a).3) (sym back ∙ ap (m.link i) q ∙ y.0))
      by-arc v t e h l q back z (implicit p) a =
          let y = old-implicit v t i p e h l k a in
          absurd (loose_not z (m.link (orbit_dim S p) v) t y.1 h l (not_absent' a) (sym back ∙ ap (m.link i) q ∙ y.0))
      by-arc v t e h l q back z absent a =
          loose_kept v t e h (⊎_elim
          (λ d. absurd (one_not_zero (sym ((g.consistent.incidence t h).all_left i k d) ∙ absent-from S left t i a)))
          (λ d. d) (or_cases _ _ l)) a q

  -- ---- live darts after the edit

  data Live (x : ℕ) : Type 0 where
    live_other : pair_of E x ≡ None → x < m.slots → bare.state x ≡ 1 → Live x
    live_pair : (u s : ℕ) → O u ≡ true → s < S.nodes → has S right s ≡ true → x ≡ D u s → Live x

  live_at : (x : ℕ) → x < m.slots → new.state x ≡ 1 → Live x
  live_at x h l = go (pair_of E x) refl
    where
      go : (p : Option Pair) → pair_of E x ≡ p → Live x
      go None e = live_other e h (sym (L.field_other ready State x e) ∙ l)
      go (Some p) e =
          let q = L.pair-at ready x p e in
          live_pair p.dart p.node q.0 q.1 q.2 (sym q.3)

  new-state : (u s : ℕ) → O u ≡ true → s < S.nodes → has S right s ≡ true → new.state (D u s) ≡ 1
  new-state u s e h r = L.state-pair ready u s e h r

  new-explicit : (u s : ℕ) → O u ≡ true → s < S.nodes → has S right s ≡ true → (i t : ℕ) → arc_at S right s i ≡ explicit t → new.link i (D u s) ≡ D u t
  new-explicit u s e h r = L.link-explicit ready u s e h r

  new-implicit : (u s : ℕ) → O u ≡ true → s < S.nodes → has S right s ≡ true → (i p : ℕ) → arc_at S right s i ≡ implicit p
      → (new.link i (D u s) ≡ D (m.link (orbit_dim S p) u) s) × (O (m.link (orbit_dim S p) u) ≡ true)
  new-implicit u s e h r i p a =
      (L.link-implicit ready u s e h r i p a, o.link u p e (implicit-from S right s i p a).0)

  new_loose : (i x : ℕ) → i ≤ S.n → Loose i x → (new.link i x ≡ m.link i x) × (new.state x ≡ 1)
  new_loose i x k (loose_other p h l) =
      (L.field_other ready (Link i) x p ∙ L.field_stays ready (Link i) x (L.bare-live ready x l).1, L.field_other ready State x p ∙ l)
  new_loose i x k (loose_kept u s e h z a q) =
      let b = absent_of S right s i (sym ((g.consistent.incidence s h).same i k z) ∙ absent-from S left s i a) in
      let r = preserved-right S s z in (
        ap (new.link i) q ∙ L.link-kept ready u s e h r i (preserved_not_added S s z) b ∙ ap (m.link i) (sym q),
        ap new.state q ∙ new-state u s e h r,
      )

  -- ---- links are below N, live, and lead back

  abbrev Step : ℕ → ℕ → Type 0
  Step i x = (new.link i x < m.slots) × (new.state (new.link i x) ≡ 1) × (new.link i (new.link i x) ≡ x)

  step_loose : (i x : ℕ) → i ≤ S.n → Loose i x → Step i x
  step_loose i x k z =
      let y = loose_link i x k z in
      let a = new_loose i x k z in
      let b = new_loose i (m.link i x) k y in
      let d = loose_dart z in (
        subst (λ (v : ℕ). v < m.slots) (sym a.0) (loose_dart y).0,
        ap new.state a.0 ∙ b.1,
        ap (new.link i) a.0 ∙ b.0 ∙ w.back x d.0 d.1 i k,
      )

  -- a right pair's node that has no i-arc is preserved, and has none on the left
  right_loose : (u s i : ℕ) → O u ≡ true → s < S.nodes → has S right s ≡ true → i ≤ S.n → arc_at S right s i ≡ absent → Loose i (D u s)
  right_loose u s i e h r k a = ⊎_elim
      (λ z. loose_kept u s e h z (absent_of S left s i ((g.consistent.incidence s h).same i k z ∙ absent-from S right s i a)) refl)
      (λ z. absurd (one_not_zero (sym ((g.consistent.incidence s h).all_right i k z) ∙ absent-from S right s i a)))
      (or_cases _ _ r)

  -- a link of the orbit type leads back
  orbit-back : (u p : ℕ) → O u ≡ true → p < S.places → m.link (orbit_dim S p) (m.link (orbit_dim S p) u) ≡ u
  orbit-back u p e b = w.back u (o.slot u e) (o.alive u e) (orbit_dim S p) (g.shaped.orbit_dims p b)

  step-pair : (u s i : ℕ) → O u ≡ true → s < S.nodes → has S right s ≡ true → i ≤ S.n → (c : Arc) → arc_at S right s i ≡ c → Step i (D u s)
  step-pair u s i e h r k absent a = step_loose i (D u s) k (right_loose u s i e h r k a)
  step-pair u s i e h r k (explicit t) a =
      let x = explicit-end S right (one_side g right) s i t a in
      let l = new-explicit u s e h r i t a in (
        subst (λ (v : ℕ). v < m.slots) (sym l) (L.dart-slot ready u t e x.0),
        ap new.state l ∙ new-state u t e x.0 x.1,
        ap (new.link i) l ∙ new-explicit u t e x.0 x.1 i s x.3,
      )
  step-pair u s i e h r k (implicit p) a =
      let l = new-implicit u s e h r i p a in
      let v = m.link (orbit_dim S p) u in (
        subst (λ (z : ℕ). z < m.slots) (sym l.0) (L.dart-slot ready v s l.1 h),
        ap new.state l.0 ∙ new-state v s l.1 h r,
        ap (new.link i) l.0 ∙ (new-implicit v s l.1 h r i p a).0 ∙ ap (λ (z : ℕ). D z s) (orbit-back u p e (implicit-from S right s i p a).0),
      )

  step_of : (x i : ℕ) → i ≤ S.n → Live x → Step i x
  step_of x i k (live_other p h l) = step_loose i x k (loose_other p h l)
  step_of x i k (live_pair u s e h r q) = subst (Step i) (sym q) (step-pair u s i e h r k (arc_at S right s i) refl)

  -- ---- with n = 2, α3 is a loop

  flat_of : (x : ℕ) → S.n ≡ 2 → Live x → new.link 3 x ≡ x
  flat_of x n (live_other p h l) =
      let b = L.bare-live ready x l in
      L.field_other ready (Link 3) x p ∙ L.field_stays ready (Link 3) x b.1 ∙ w.flat n x h b.0
  flat_of x n (live_pair u s e h r q) =
      let a = no_arc S right (one_side g right) s 3 h (omega arith) (omega arith) in
      ap (new.link 3) q ∙ ⊎_elim
      (λ z. L.link-kept ready u s e h r 3 (preserved_not_added S s z) a
      ∙ w.flat n (D u s) (L.dart-slot ready u s e h) (L.left-alive ready u s e h (preserved-left S s z)))
      (λ z. L.link-own ready u s e h r 3 z a)
      (or_cases _ _ r) ∙ sym q

  -- ---- squares

  chain : (f h : ℕ → ℕ) {x a b c d : ℕ} → f x ≡ a → h a ≡ b → f b ≡ c → h c ≡ d → h (f (h (f x))) ≡ d
  chain f h p q r s = ap (λ (z : ℕ). h (f (h z))) p ∙ ap (λ (z : ℕ). h (f z)) q ∙ ap h r ∙ s

  module _ (i j : ℕ) (ij : i + 2 ≤ j) (jn : j ≤ S.n) where
    abbrev Square : ℕ → Type 0
    Square x = new.link j (new.link i (new.link j (new.link i x))) ≡ x

    -- the orbit's own square, for two of its dimensions that differ by at least 2
    orbit-square : (u p q : ℕ) → O u ≡ true → p < S.places → q < S.places
        → (orbit_dim S p + 2 ≤ orbit_dim S q) ⊎ (orbit_dim S q + 2 ≤ orbit_dim S p)
        → m.link (orbit_dim S q) (m.link (orbit_dim S p) (m.link (orbit_dim S q) (m.link (orbit_dim S p) u))) ≡ u
    orbit-square u p q e a b (inl l) = w.square u (o.slot u e) (o.alive u e) (orbit_dim S p) (orbit_dim S q) l (g.shaped.orbit_dims q b)
    orbit-square u p q e a b (inr l) =
        let P : ℕ → ℕ = m.link (orbit_dim S p) in
        let Q : ℕ → ℕ = m.link (orbit_dim S q) in
        let e1 = o.link u p e a in
        let e2 = o.link (P u) q e1 b in
        let e3 = o.link (Q (P u)) p e2 a in
        let e4 = o.link (P (Q (P u))) q e3 b in
        sym (orbit-back (Q (P (Q (P u)))) p e4 a)
        ∙ ap P (w.square (P u) (o.slot (P u) e1) (o.alive (P u) e1) (orbit_dim S q) (orbit_dim S p) l (g.shaped.orbit_dims p a))
        ∙ orbit-back u p e a

    cycle_square : (u s : ℕ) → O u ≡ true → s < S.nodes → has S right s ≡ true → Cycle S right s i j → Square (D u s)
    cycle_square u s e h r (four {t} {u = v} {v = z} a b c d) =
        let x = explicit-end S right (one_side g right) s i t a in
        let y = explicit-end S right (one_side g right) t j v b in
        let k = explicit-end S right (one_side g right) v i z c in
        chain (new.link i) (new.link j) (new-explicit u s e h r i t a) (new-explicit u t e x.0 x.1 j v b)
        (new-explicit u v e y.0 y.1 i z c) (new-explicit u z e k.0 k.1 j s d)
    cycle_square u s e h r (one_i {t} {p} a b c) =
        let x = explicit-end S right (one_side g right) s i t a in
        let y = new-implicit u t e x.0 x.1 j p c in
        let v = m.link (orbit_dim S p) u in
        chain (new.link i) (new.link j) (new-explicit u s e h r i t a) y.0 (new-explicit v t y.1 x.0 x.1 i s x.3)
        ((new-implicit v s y.1 h r j p b).0 ∙ ap (λ (z : ℕ). D z s) (orbit-back u p e (implicit-from S right s j p b).0))
    cycle_square u s e h r (one_j {t} {p} a b c) =
        let x = explicit-end S right (one_side g right) s j t a in
        let y = new-implicit u s e h r i p b in
        let v = m.link (orbit_dim S p) u in
        chain (new.link i) (new.link j) y.0 (new-explicit v s y.1 h r j t a)
        ((new-implicit v t y.1 x.0 x.1 i p c).0 ∙ ap (λ (z : ℕ). D z t) (orbit-back u p e (implicit-from S right s i p b).0))
        (new-explicit u t e x.0 x.1 j s x.3)
    cycle_square u s e h r (apart {p} {q} a b c) =
        let y1 = new-implicit u s e h r i p a in
        let y2 = new-implicit _ s y1.1 h r j q b in
        let y3 = new-implicit _ s y2.1 h r i p a in
        let y4 = new-implicit _ s y3.1 h r j q b in
        chain (new.link i) (new.link j) y1.0 y2.0 y3.0 y4.0
        ∙ ap (λ (z : ℕ). D z s) (orbit-square u p q e (implicit-from S right s i p a).0 (implicit-from S right s j q b).0 c)

    -- ---- darts at which the edit changes neither αi nor αj

    data Plain (x : ℕ) : Type 0 where
      plain_other : pair_of E x ≡ None → x < m.slots → bare.state x ≡ 1 → Plain x
      plain_kept : (u s : ℕ) → O u ≡ true → s < S.nodes → preserved S s ≡ true → (Cycle S left s i j → ⊥) → x ≡ D u s → Plain x

    plain-dart : {x : ℕ} → Plain x → (x < m.slots) × (m.state x ≡ 1)
    plain-dart (plain_other p h l) = (h, (L.bare-live ready _ l).0)
    plain-dart (plain_kept u s e h z c q) =
        (subst (λ (v : ℕ). v < m.slots) (sym q) (L.dart-slot ready u s e h), ap m.state q ∙ L.left-alive ready u s e h (preserved-left S s z))

    abbrev One : ℕ → Type 0
    One k = (k ≡ i) ⊎ (k ≡ j)

    in_range : {k : ℕ} → One k → k ≤ S.n
    in_range (inl e) = omega arith
    in_range (inr e) = omega arith

    off : (s k : ℕ) → One k → arc_at S left s k ≡ absent → Cycle S left s i j → ⊥
    off s k (inl e) a = none-i S left (one_side g left) s i j (ap (arc_at S left s) (sym e) ∙ a)
    off s k (inr e) a = none-j S left (one_side g left) s i j (ap (arc_at S left s) (sym e) ∙ a)

    pass : (s r k : ℕ) → One k → arc_at S left s k ≡ explicit r → Cycle S left r i j → Cycle S left s i j
    pass s r k (inl e) a = pass-i S left (one_side g left) i j s r (ap (arc_at S left s) (sym e) ∙ a)
    pass s r k (inr e) a = pass-j S left (one_side g left) i j s r (ap (arc_at S left s) (sym e) ∙ a)

    loose_plain : (k x : ℕ) → One k → Loose k x → Plain x
    loose_plain k x y (loose_other p h l) = plain_other p h l
    loose_plain k x y (loose_kept u s e h z a q) = plain_kept u s e h z (off s k y a) q

    -- a preserved node on no left cycle has the same arcs on both sides
    same-arcs : (s k : ℕ) → One k → s < S.nodes → preserved S s ≡ true → (Cycle S left s i j → ⊥) → arc_at S left s k ≡ arc_at S right s k
    same-arcs s k y h z c =
        let arcs = (g.consistent.cycles s i j h ij jn).kept_arcs z c in
        ⊎_elim
        (λ e. ap (arc_at S left s) e ∙ arcs.0 ∙ ap (arc_at S right s) (sym e))
        (λ e. ap (arc_at S left s) e ∙ arcs.1 ∙ ap (arc_at S right s) (sym e))
        y

    plain_loose : (k x : ℕ) → One k → Loose k x → (new.link k x ≡ m.link k x) × Plain (m.link k x)
    plain_loose k x y z = ((new_loose k x (in_range y) z).0, loose_plain k (m.link k x) y (loose_link k x (in_range y) z))

    plain-kept : (k u s : ℕ) → One k → O u ≡ true → s < S.nodes → preserved S s ≡ true → (Cycle S left s i j → ⊥)
        → (a : Arc) → arc_at S left s k ≡ a → (new.link k (D u s) ≡ m.link k (D u s)) × Plain (m.link k (D u s))
    plain-kept k u s y e h z c absent a = plain_loose k (D u s) y (loose_kept u s e h z a refl)
    plain-kept k u s y e h z c (explicit r) a =
        let b = sym (same-arcs s k y h z c) ∙ a in
        let old = old-explicit u s k r e h (preserved-left S s z) a in
        let end = explicit-end S right (one_side g right) s k r b in (
          new-explicit u s e h (preserved-right S s z) k r b ∙ sym old.0,
          plain_kept u r e old.1 (both-preserved S r old.2 end.1) (λ d. c (pass s r k y a d)) old.0,
        )
    plain-kept k u s y e h z c (implicit p) a =
        let b = sym (same-arcs s k y h z c) ∙ a in
        let old = old-implicit u s k p e h (preserved-left S s z) (in_range y) a in (
          (new-implicit u s e h (preserved-right S s z) k p b).0 ∙ sym old.0,
          plain_kept (m.link (orbit_dim S p) u) s old.1 h z c old.0,
        )

    plain-link : (k x : ℕ) → One k → Plain x → (new.link k x ≡ m.link k x) × Plain (m.link k x)
    plain-link k x y (plain_other p h l) = plain_loose k x y (loose_other p h l)
    plain-link k x y (plain_kept u s e h z c q) =
        subst (λ (v : ℕ). (new.link k v ≡ m.link k v) × Plain (m.link k v)) (sym q) (plain-kept k u s y e h z c (arc_at S left s k) refl)

    plain-square : (x : ℕ) → Plain x → Square x
    plain-square x z =
        let d = plain-dart z in
        let a = plain-link i x (inl refl) z in
        let b = plain-link j _ (inr refl) a.1 in
        let c = plain-link i _ (inl refl) b.1 in
        let e = plain-link j _ (inr refl) c.1 in
        chain (new.link i) (new.link j) a.0 b.0 c.0 e.0 ∙ w.square x d.0 d.1 i j ij jn

    square_of : (x : ℕ) → Live x → Square x
    square_of x (live_other p h l) = plain-square x (plain_other p h l)
    square_of x (live_pair u s e h r q) = subst Square (sym q) (⊎_elim
        (λ z. ⊎_elim
        (λ t. cycle_square u s e h r ((g.consistent.cycles s i j h ij jn).kept_cycle z (cycle_at S left s i j t)))
        (λ t. plain-square (D u s) (plain_kept u s e h z (λ c. true≢false (sym (cycle_of S left s i j c) ∙ t)) refl))
        (true_or_false (on_cycle S left s i j)))
        (λ z. cycle_square u s e h r ((g.consistent.cycles s i j h ij jn).added_cycle z))
        (or_cases _ _ r))

  -- ---- the theorem

  state_of : (x : ℕ) → x < m.slots → (new.state x ≡ 0) ⊎ (new.state x ≡ 1)
  state_of x h = go (pair_of E x) refl
    where
      go : (p : Option Pair) → pair_of E x ≡ p → (new.state x ≡ 0) ⊎ (new.state x ≡ 1)
      go None e =
          let same = L.field_other ready State x e in
          ⊎_elim
          (λ f. inl (same ∙ L.field_freed ready State x f))
          (λ f. let stays = same ∙ L.field_stays ready State x f in ⊎_elim (λ z. inl (stays ∙ z)) (λ z. inr (stays ∙ z)) (w.states x h))
          (true_or_false (freed E (image E) x))
      go (Some p) e =
          let q = L.pair-at ready x p e in
          inr (ap new.state (sym q.3) ∙ new-state p.dart p.node q.0 q.1 q.2)

  pub edit-keeps : WellFormed S.n new
  unfolding edited
  edit-keeps = record {
    states = λ x h. state_of x h;
    below = λ x h l i k. (step_of x i k (live_at x h l)).0;
    alive = λ x h l i k. (step_of x i k (live_at x h l)).1;
    back = λ x h l i k. (step_of x i k (live_at x h l)).2;
    flat = λ n x h l. flat_of x n (live_at x h l);
    square = λ x h l i j ij jn. square_of i j ij jn x (live_at x h l);
  }

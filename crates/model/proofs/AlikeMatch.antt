-- Alike well-formed maps have the same assignments: a match in one is a match in the other, with the same darts.
use Prim.Native.Nat.{ℕ, ◌≤◌, ◌<◌}
use mathlib.Core.Path.{◌≡◌, sym, ap, ◌∙◌, subst}
use mathlib.Core.Logic.{⊎_elim}
use mathlib.Core.Bool.{true}
use native.Mathlib.Omega.{arith}
use Rattle.base.proofs.TestLaws.{same_test}
use Rattle.model.specs.Map.{Map}
use Rattle.model.specs.WellFormed.{WellFormed}
use Rattle.model.specs.Scheme.{left, orbit_dim, has}
use Rattle.model.specs.Orbit.{InOrbit, itself, onward}
use Rattle.model.specs.Site.{Site, site_with}
use Rattle.model.specs.Match.{image, matches, Assignment}
use Rattle.model.specs.Accepted.{Accepted}
use Rattle.model.specs.Alike.{Alike}
use Rattle.model.proofs.AcceptedLaws.{small}
use Rattle.model.proofs.MatchLaws.{GoodOrbit, match_assigns, assigns_match, assigned}
use Rattle.model.proofs.AlikeLaws.{alike-sym}

-- the site in another map
abbrev pub moved : Site → Map → Site
moved E m' = site_with m' E.scheme E.dart E.other E.orbit

module _ (E : Site) (g : Accepted E.scheme) (m' : Map) (a : Alike E.map m') (o : GoodOrbit E) where
  open E use {map as m, scheme as S, orbit as O}

  abbrev E' : Site
  E' = moved E m'

  -- a live dart has the same links in both
  link-same : (x i : ℕ) → x < m.slots → m.state x ≡ 1 → i ≤ S.n → m.link i x ≡ m'.link i x
  link-same x i h l k = let n3 = small S g.shaped in a.link x h l i (omega arith)

  -- the links of the orbit type at an orbit dart
  pub orbit-link-same : (u p : ℕ) → O u ≡ true → p < S.places → m.link (orbit_dim S p) u ≡ m'.link (orbit_dim S p) u
  orbit-link-same u p e k = link-same u (orbit_dim S p) (o.slot u e) (o.alive u e) (g.shaped.orbit_dims p k)

  -- what is reached from the dart in one map is reached in the other
  reached_too : {u : ℕ} → InOrbit m S.places (orbit_dim S) E.dart u → InOrbit m' S.places (orbit_dim S) E.dart u × (O u ≡ true)
  reached_too itself = (itself, o.dart)
  reached_too (onward {x} {y} r p b e) =
      let q = reached_too r in
      (onward q.0 p b (sym (orbit-link-same x p q.1 b) ∙ e), subst (λ (z : ℕ). O z ≡ true) e (o.link x p q.1 b))

  pub good_too : GoodOrbit E'
  good_too = record {
    slot = λ u e. let h = o.slot u e in omega arith;
    alive = λ u e. (a.live u (o.slot u e)).0 (o.alive u e);
    link = λ u p e k. ap O (sym (orbit-link-same u p e k)) ∙ o.link u p e k;
    dart = o.dart;
    reached = λ u e. (reached_too (o.reached u e)).0;
    other = let s = o.other.slot in record { slot = omega arith; alive = (a.live E.other o.other.slot).0 o.other.alive };
  }

  -- every dart of an assignment is live, so the other map has its links
  pub assigns_too : (f : ℕ → ℕ → ℕ) → Assignment E f → Assignment E' f
  assigns_too f A = record {
    darts = λ u b e s h l.
        let d = A.darts u (o.slot u e) e s h l in
        let in-m = d.0 in
        (omega arith, (a.live (f u s) d.0).0 d.1);
    hook = λ u b e. A.hook u (o.slot u e) e;
    second = A.second;
    explicit_arc = λ u b e c k.
        let both = A.explicit_arc u (o.slot u e) e c k in
        let from = (g.shaped.sides left).from c k in
        let to = (g.shaped.sides left).to c k in
        let x = A.darts u (o.slot u e) e _ from.0 from.1 in
        let y = A.darts u (o.slot u e) e _ to.0 to.1 in
        let dim = (g.shaped.sides left).dims c k in (
          sym (link-same _ _ x.0 x.1 dim) ∙ both.0,
          sym (link-same _ _ y.0 y.1 dim) ∙ both.1,
        );
    implicit_arc = λ u b e s h l p k no.
        let x = A.darts u (o.slot u e) e s h l in
        ⊎_elim (λ z. absurd (no z))
        (λ dim. sym (link-same _ _ x.0 x.1 dim) ∙ A.implicit_arc u (o.slot u e) e s h l p k no ∙ ap (λ (v : ℕ). f v s) (orbit-link-same u p e k))
        ((g.shaped.sides left).words s p h k);
    different = λ u b e s h l v c d t i r q. A.different u (o.slot u e) e s h l v (o.slot v d) d t i r q;
  }

  pub matches_too : WellFormed S.n m → matches E ≡ true → matches E' ≡ true
  matches_too w q = assigns_match E' g good_too (image E) (assigns_too (image E) (match_assigns E g o w q))

  -- the other map has no assignment but its images
  pub same-image : Assignment E (image E) → (u : ℕ) → O u ≡ true → (s : ℕ) → s < S.nodes → has S left s ≡ true → image E u s ≡ image E' u s
  same-image A u e s h l = sym (assigned E' g good_too (image E) (assigns_too (image E) A) u e s h l)

pub same-matches : (E : Site) → Accepted E.scheme → (m' : Map) → Alike E.map m' → WellFormed E.scheme.n E.map → WellFormed E.scheme.n m'
    → GoodOrbit E → matches E ≡ matches (moved E m')
same-matches E g m' a w w' o =
    same_test _ _ (matches_too E g m' a o w) (matches_too (moved E m') g E.map (alike-sym a) (good_too E g m' a o) w')

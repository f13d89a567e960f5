-- The codes of a scheme's arcs: its targets are the codes of its nodes, which are small, and arcs with one code are one.
use Prim.Native.Nat.{ℕ, ◌≤◌, ◌<◌}
use mathlib.Core.Path.{◌≡◌, refl, ap, subst}
use mathlib.Core.Bool.{Bool, true, false, cond}
use Rattle.std.specs.Prelude.{Option, Some, None}
use native.Mathlib.Omega.{arith}
use lib.Dec.{eqb}
use Rattle.base.specs.First.{least}
use Rattle.base.proofs.FirstLaws.{first-at, when-at, least_at}
use Rattle.model.specs.Arc.{far_end, arc_of}
use Rattle.model.specs.Codes.{arc_code, targets}
use Rattle.model.specs.Scheme.{Side, arcs, arc_part}
use Rattle.model.specs.Conditions.{Arc, absent, explicit, implicit, arc_at, reads}
use Rattle.model.specs.Shaped.{Shaped, Coded}
use Rattle.model.specs.declared.Scheme.{Scheme}
use Rattle.model.proofs.AcceptedLaws.{small}

-- explicit arcs lead to nodes, implicit ones stand at positions
abbrev pub Small : ℕ → Arc → Type 0
Small nodes absent = 0 ≤ nodes
Small nodes (explicit t) = t < nodes
Small nodes (implicit p) = p < 4

module _ (S : Scheme) (f : Shaped S) (side : Side) where
  places-few : S.places ≤ 4
  places-few = let a = f.places_few in let b = small S f in omega arith

  end_below : (s i t : ℕ) → far_end (arc_part S side) (arcs S side) s i ≡ Some t → t < S.nodes
  unfolding far_end
  end_below s i t e =
      let r = first-at (arcs S side) _ t e in
      let w = when-at _ r.2 in
      subst (λ (z : ℕ). z < S.nodes) w.1 (go (eqb (arc_part S side r.0 1) s) ((f.sides side).from r.0 r.1).0 ((f.sides side).to r.0 r.1).0)
    where
      go : (b : Bool) {x y : ℕ} → x < S.nodes → y < S.nodes → cond b y x < S.nodes
      go true l m = m
      go false l m = l

  pub small-arc : (s i : ℕ) → Small S.nodes (arc_at S side s i)
  unfolding arc_at
  small-arc s i = go (far_end (arc_part S side) (arcs S side) s i) refl (least S.places (reads S side s i)) refl
    where
      go : (o : Option ℕ) → far_end (arc_part S side) (arcs S side) s i ≡ o → (r : Option ℕ) → least S.places (reads S side s i) ≡ r
          → Small S.nodes (arc_of o r)
      go (Some t) e r g = end_below s i t e
      go None e (Some p) g = let l = least_at S.places _ p g in let k = places-few in omega (arith, l.0)
      go None e None g = omega arith

-- arcs with one code are one arc
pub one-arc : (nodes : ℕ) → nodes ≤ 16 → (a c : Arc) → Small nodes a → Small nodes c → arc_code a ≡ arc_code c → a ≡ c
one-arc nodes few absent absent h l e = refl
one-arc nodes few absent (explicit t) h l e = absurd (omega arith)
one-arc nodes few absent (implicit p) h l e = absurd (omega arith)
one-arc nodes few (explicit t) absent h l e = absurd (omega arith)
one-arc nodes few (explicit t) (explicit w) h l e = ap explicit e
one-arc nodes few (explicit t) (implicit p) h l e = absurd (omega arith)
one-arc nodes few (implicit p) absent h l e = absurd (omega arith)
one-arc nodes few (implicit p) (explicit t) h l e = absurd (omega arith)
one-arc nodes few (implicit p) (implicit q) h l e = let same : p ≡ q = omega arith in ap implicit same

-- the targets of a scheme are the codes of its nodes
pub coded : (S : Scheme) (f : Shaped S) (side : Side) → Coded S side (targets S side)
coded S f side = record { at = λ s i h k. let few = f.nodes_few in (f.sides side).coded s i (omega arith) k }

-- The orbits of a well-formed map are classes of its live darts: each is in its own orbit, darts of one orbit are in the orbits of one another, and
-- what is in the orbit of one of them is in the orbit of each.
use Prim.Native.Nat.{ℕ, ◌≤◌, ◌<◌}
use mathlib.Core.Path.{◌≡◌, sym, ap, ◌∙◌}
use mathlib.Core.Bool.{true}
use Rattle.model.specs.Map.{Map}
use Rattle.model.specs.WellFormed.{WellFormed}
use Rattle.model.specs.Orbit.{orbit, InOrbit, itself, onward}
use Rattle.model.proofs.OrbitLaws.{orbit-reached, reached-dart, orbit_iff}

module _ (m : Map) (k : ℕ) (dim : ℕ → ℕ) where
  -- what is reached from a reached dart is reached
  pub reached-on : {d y z : ℕ} → InOrbit m k dim d y → InOrbit m k dim y z → InOrbit m k dim d z
  reached-on r itself = r
  reached-on r (onward q p b e) = onward (reached-on r q) p b e

  module _ (n : ℕ) (w : WellFormed n m) (dims : (p : ℕ) → p < k → dim p ≤ n) (d : ℕ) (h : d < m.slots) (l : m.state d ≡ 1) where
    -- the way back: each link undoes itself
    pub reached-back : {x : ℕ} → InOrbit m k dim d x → InOrbit m k dim x d
    reached-back itself = itself
    reached-back (onward {x} {y} r p b e) =
        let i = reached-dart m k dim d n w dims h l r in
        reached-on (onward itself p b (ap (m.link (dim p)) (sym e) ∙ w.back x i.0 i.1 (dim p) (dims p b))) (reached-back r)

    -- what the orbit of a live dart holds is a live dart
    pub orbit-dart : (x : ℕ) → orbit m k dim d x ≡ true → (x < m.slots) × (m.state x ≡ 1)
    orbit-dart x e = reached-dart m k dim d n w dims h l (orbit-reached m k dim d x e)

    -- it holds the dart itself
    pub orbit_self : orbit m k dim d d ≡ true
    orbit_self = (orbit_iff m k dim d n w dims h l d).1 itself

    -- the dart is in the orbit of each dart in its own
    pub orbit-back : (x : ℕ) → orbit m k dim d x ≡ true → orbit m k dim x d ≡ true
    orbit-back x e =
        let i = orbit-dart x e in
        (orbit_iff m k dim x n w dims i.0 i.1 d).1 (reached-back (orbit-reached m k dim d x e))

    -- and what is in theirs is in its own
    pub orbit-on : (x y : ℕ) → orbit m k dim d x ≡ true → orbit m k dim x y ≡ true → orbit m k dim d y ≡ true
    orbit-on x y e f = (orbit_iff m k dim d n w dims h l y).1 (reached-on (orbit-reached m k dim d x e) (orbit-reached m k dim x y f))

-- For the phases of an edit: that the orbit type is short, and after the walk the darts of the orbit by their places and their marks.
use Prim.Native.Nat.{ℕ, ◌-◌, ◌≤◌, ◌<◌}
use mathlib.Core.Path.{◌≡◌, sym, ap, ◌∙◌}
use mathlib.Core.Bool.{true}
use mathlib.Core.List.{List}
use native.Mathlib.Omega.{arith}
use Rattle.model.specs.Map.{Map}
use Rattle.model.specs.Orbit.{orbit}
use Rattle.model.proofs.OrbitLaws.{orbit-slot}
use Rattle.model.proofs.AcceptedLaws.{small}
use Rattle.orbit.specs.Store.{mark, place, among, Walked}
use Rattle.orbit.specs.At.{At}
use Rattle.orbit.proofs.StoreLaws.{among-at, among_of}

-- an orbit type has four dimensions at the most
pub places-few : {m : Map} (A : At m) → A.scheme.places ≤ 4
places-few A = omega (arith, A.sound.accepted.shaped.places_few, small A.scheme A.sound.accepted.shaped)

module _ {m : Map} {k : ℕ} {dim : ℕ → ℕ} {d : ℕ} {s : List ℕ} {size : ℕ} (W : Walked m k dim d s size) where
  -- the dart at a place is in the orbit
  pub place_in_lem : (r : ℕ) → r < size → orbit m k dim d (place m.slots s r) ≡ true
  place_in_lem r h =
      let b = W.back r h in
      sym (W.is (place m.slots s r) (W.slot r h)) ∙ among_of s size (place m.slots s r) (omega arith) (omega arith)

  pub place-once : (q r : ℕ) → q < size → r < size → place m.slots s q ≡ place m.slots s r → q ≡ r
  place-once q r h l e = omega (arith, W.back q h, W.back r l, ap (mark s) e)

  module _ (u : ℕ) (e : orbit m k dim d u ≡ true) where
    in_store : among s size u ≡ true
    in_store = W.is u (orbit-slot m k dim d u e) ∙ e

    pub marked_in : (1 ≤ mark s u) × (mark s u ≤ size)
    marked_in = among-at s size u in_store

    place-back : place m.slots s (mark s u - 1) ≡ u
    place-back = W.found u (orbit-slot m k dim d u e) in_store

    -- a dart of the orbit has a place
    pub place_of : (r : ℕ) × (r < size) × (place m.slots s r ≡ u)
    place_of = (mark s u - 1, omega (arith, marked_in), place-back)

  pub mark-once : (u v : ℕ) → orbit m k dim d u ≡ true → orbit m k dim d v ≡ true → mark s u ≡ mark s v → u ≡ v
  mark-once u v e f q = sym (place-back u e) ∙ ap (λ (k : ℕ). place m.slots s (k - 1)) q ∙ place-back v f

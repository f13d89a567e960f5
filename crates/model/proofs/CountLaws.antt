-- Laws of counting cells: each orbit has one smallest dart, a loop that walks the orbit of each live dart not reached before walks each orbit once, from
-- that dart, and so the sizes of the counted orbits are together the live darts.
use Prim.Native.Nat.{ℕ, zero, suc, ◌+◌, ◌≤◌, ◌<◌}
use mathlib.Core.Path.{◌≡◌, refl, sym, ap, ◌∙◌, fun_ext}
use mathlib.Core.Logic.{◌⊎◌, inl, inr, ⊎_elim, ◌↔◌}
use mathlib.Core.Bool.{Bool, true, false, not, cond, true≢false}
use Rattle.std.specs.Prelude.{Option, Some, None}
use native.Mathlib.Nat.{add-zero, le_antisymm}
use native.Mathlib.Numerals.{add-one}
use native.Mathlib.Omega.{arith}
use lib.ListN.{length, get_or}
use lib.Dec.{eqb, ltb}
use borrow.Author.Tests.{eqb-true, eq-eqb, not-true, not-false}
use Rattle.base.specs.Test.{◌and◌, ◌or◌}
use Rattle.base.specs.Below.{any_below, count_below}
use Rattle.base.specs.First.{some_if, there, least}
use Rattle.base.proofs.TestLaws.{and_left, and_right, and_of, and_no_left, or_cases, or_left, same_test, true_or_false, impossible}
use Rattle.base.proofs.BelowLaws.{any_at, any_of, any_same, count_le, count-zero, count_same, count_or, le_or_lt}
use Rattle.base.proofs.FirstLaws.{first-same, least_at, least-none}
use Rattle.model.specs.Map.{Map, live}
use Rattle.model.specs.WellFormed.{WellFormed}
use Rattle.model.specs.Reach.{paths}
use Rattle.model.specs.Orbit.{leads, orbit_path, orbit, InOrbit}
use Rattle.model.specs.Count.{smallest, reached_below, cells, sizes_below, all_but, all, counts}
use Rattle.model.proofs.OrbitLaws.{orbit-reached, orbit_iff, orbit-link}
use Rattle.model.proofs.OrbitClassLaws.{orbit-dart, orbit_self, orbit-back, orbit-on}

-- ---- tests

-- a loop's step: p holds of some number below i + 1 if it does of some number below i, or of i
pub any_step : (i : ℕ) (p : ℕ → Bool) → any_below (i + 1) p ≡ (any_below i p or p i)
unfolding any_below
any_step i p = rw add-one refl

-- a test that holds only where another does adds nothing to it
or_brings : (a : Bool) {b : Bool} → (b ≡ true → a ≡ true) → (a or b) ≡ a
or_brings a f = same_test _ _ (λ e. ⊎_elim (λ w. w) f (or_cases a _ e)) (λ e. or_left _ e)

module _ (m : Map) (k : ℕ) (dim : ℕ → ℕ) where
  -- ---- what is reached

  -- before the first slot nothing is reached
  pub reached-none : (y : ℕ) → reached_below m k dim 0 y ≡ false
  unfolding reached_below any_below
  reached-none y = refl

  -- after one slot more, what was reached, and its orbit if it is live
  reached-step : (x y : ℕ) → reached_below m k dim (x + 1) y ≡ (reached_below m k dim x y or (live m x and orbit m k dim x y))
  unfolding reached_below
  reached-step x y = any_step x _

  -- after a live dart, what was reached and its orbit
  pub reached-walked : (x : ℕ) → live m x ≡ true → (y : ℕ) → reached_below m k dim (x + 1) y ≡ (reached_below m k dim x y or orbit m k dim x y)
  unfolding ◌and◌
  reached-walked x l y = reached-step x y ∙ rw l refl

  -- what is reached is in the orbit of a live dart below x
  pub reached-by : (x y : ℕ) → x ≤ m.slots → reached_below m k dim x y ≡ true
      → (z : ℕ) × (z < x) × (z < m.slots) × (m.state z ≡ 1) × (orbit m k dim z y ≡ true)
  unfolding reached_below
  reached-by x y b e =
      let r = any_at x _ e in
      let h = r.1 in
      (r.0, h, omega arith, eqb-true _ _ (and_left _ _ r.2), and_right _ _ r.2)

  -- and what is in such an orbit is reached
  pub reached_of : (x y z : ℕ) → z < x → m.state z ≡ 1 → orbit m k dim z y ≡ true → reached_below m k dim x y ≡ true
  unfolding reached_below
  reached_of x y z h l e = any_of x _ z h (and_of (eq-eqb _ _ l) e)

  -- ---- smallest darts

  -- a smallest dart is live
  pub smallest-live : (x : ℕ) → smallest m k dim x ≡ true → live m x ≡ true
  unfolding smallest
  smallest-live x e = and_left _ _ e

  -- so a slot that is not live is none
  pub smallest-idle : (x : ℕ) → live m x ≡ false → smallest m k dim x ≡ false
  unfolding smallest
  smallest-idle x f = and_no_left _ f

  -- no smaller dart is in its orbit
  smallest-least : (x z : ℕ) → smallest m k dim x ≡ true → z < x → orbit m k dim x z ≡ true → ⊥
  unfolding smallest
  smallest-least x z e h o = true≢false (sym (any_of x _ z h o) ∙ not-true _ (and_right _ _ e))

  -- and a live dart in whose orbit no smaller one is, is one
  smallest_of : (x : ℕ) → m.state x ≡ 1 → ((z : ℕ) → z < x → orbit m k dim x z ≡ true → ⊥) → smallest m k dim x ≡ true
  unfolding smallest
  smallest_of x l f = and_of (eq-eqb _ _ l) (ap not (impossible (any_below x (orbit m k dim x)) (λ e. let r = any_at x _ e in f r.0 r.1 r.2)))

  module _ (n : ℕ) (w : WellFormed n m) (dims : (p : ℕ) → p < k → dim p ≤ n) where
    -- every live dart is in the orbit of a smallest one
    pub smallest-there : (y : ℕ) → y < m.slots → m.state y ≡ 1 → (x : ℕ) × (x < m.slots) × (smallest m k dim x ≡ true) × (orbit m k dim x y ≡ true)
    smallest-there y h l = go (least m.slots (orbit m k dim y)) refl
      where
        go : (o : Option ℕ) → least m.slots (orbit m k dim y) ≡ o
            → (x : ℕ) × (x < m.slots) × (smallest m k dim x ≡ true) × (orbit m k dim x y ≡ true)
        go None e = absurd (true≢false (sym (orbit_self m k dim n w dims y h l) ∙ least-none m.slots _ e y h))
        go (Some x) e =
            let f = least_at m.slots (orbit m k dim y) x e in (
              x,
              f.0,
              smallest_of x (orbit-dart m k dim n w dims y h l x f.1).1
                  (λ z b o. true≢false (sym (orbit-on m k dim n w dims y h l x z f.1 o) ∙ f.2 z b)),
              orbit-back m k dim n w dims y h l x f.1,
            )

    -- and two smallest ones in one orbit are one: each orbit is counted once
    pub smallest-one : (x y : ℕ) → x < m.slots → smallest m k dim x ≡ true → smallest m k dim y ≡ true → orbit m k dim x y ≡ true → x ≡ y
    smallest-one x y h e f o =
        let back = orbit-back m k dim n w dims x h (eqb-true _ _ (smallest-live x e)) y o in
        le_antisymm
        (⊎_elim (λ b. b) (λ b. absurd (smallest-least x y e b o)) (le_or_lt x y))
        (⊎_elim (λ b. b) (λ b. absurd (smallest-least y x f b back)) (le_or_lt y x))

    -- ---- a loop over the slots, which walks each live dart not reached before

    -- where a dart is reached, its orbit is
    reached-orbit : (x d y : ℕ) → x ≤ m.slots → reached_below m k dim x d ≡ true → orbit m k dim d y ≡ true → reached_below m k dim x y ≡ true
    reached-orbit x d y b e f =
        let r = reached-by x d b e in
        reached_of x y r.0 r.1 r.3 (orbit-on m k dim n w dims r.0 r.2 r.3 d y r.4 f)

    -- what is reached is closed under the links of the orbit type
    pub reached-closed : (x y p : ℕ) → x ≤ m.slots → reached_below m k dim x y ≡ true → p < k → reached_below m k dim x (m.link (dim p) y) ≡ true
    reached-closed x y p b e h =
        let r = reached-by x y b e in
        reached_of x _ r.0 r.1 r.3 (orbit-link m k dim r.0 n w dims r.2 r.3 y p r.4 h)

    -- after a slot that is not live, or that was reached before, what was reached
    pub reached-idle : (x : ℕ) → x < m.slots → (live m x ≡ false) ⊎ (reached_below m k dim x x ≡ true)
        → (y : ℕ) → reached_below m k dim (x + 1) y ≡ reached_below m k dim x y
    reached-idle x h c y = reached-step x y ∙ or_brings _
        (λ e. ⊎_elim (λ f. absurd (true≢false (sym (and_left _ _ e) ∙ f))) (λ f. reached-orbit x x y (omega arith) f (and_right _ _ e)) c)

    -- the orbit of a live dart holds a smaller one just where the dart is reached from below
    smaller_reached : (x : ℕ) → x < m.slots → m.state x ≡ 1 → any_below x (orbit m k dim x) ≡ reached_below m k dim x x
    unfolding reached_below
    smaller_reached x h l = any_same x _ _ (λ z b. same_test _ _
        (λ e. and_of (eq-eqb _ _ (orbit-dart m k dim n w dims x h l z e).1) (orbit-back m k dim n w dims x h l z e))
        (λ e. orbit-back m k dim n w dims z (omega arith) (eqb-true _ _ (and_left _ _ e)) x (and_right _ _ e)))

    -- so a live dart is the smallest of its orbit just where it is not reached
    pub smallest_unreached : (x : ℕ) → x < m.slots → live m x ≡ true → smallest m k dim x ≡ not (reached_below m k dim x x)
    unfolding smallest ◌and◌
    smallest_unreached x h l = rw l (ap not (smaller_reached x h (eqb-true _ _ l)))

    -- a smallest dart is a live one from which no smaller one is reached
    pub smallest_iff : (x : ℕ) → x < m.slots
        → (smallest m k dim x ≡ true) ↔ ((m.state x ≡ 1) × ((y : ℕ) → y < x → InOrbit m k dim x y → ⊥))
    unfolding smallest
    smallest_iff x h = (
      (λ e.
          let l = eqb-true _ _ (and_left _ _ e) in
          (l, λ y b r. true≢false (sym (any_of x _ y b ((orbit_iff m k dim x n w dims h l y).1 r)) ∙ not-true _ (and_right _ _ e)))),
      (λ p.
          let none = impossible (any_below x (orbit m k dim x))
          (λ e. let r = any_at x (orbit m k dim x) e in p.1 r.0 r.1 (orbit-reached m k dim x r.0 r.2)) in
          and_of (eq-eqb _ _ p.0) (ap not none)),
    )

    -- ---- sizes

    -- what is not the smallest dart of its orbit is not live, or reached
    not_smallest : (x : ℕ) → x < m.slots → smallest m k dim x ≡ false → (live m x ≡ false) ⊎ (reached_below m k dim x x ≡ true)
    not_smallest x h e = ⊎_elim (λ l. inr (not-false _ (sym (smallest_unreached x h l) ∙ e))) inl (true_or_false (live m x))

    -- the orbit of a smallest dart has nothing that was reached before
    walked-apart : (x : ℕ) → x < m.slots → smallest m k dim x ≡ true → (y : ℕ) → reached_below m k dim x y ≡ true → orbit m k dim x y ≡ true → ⊥
    walked-apart x h e y r o =
        let l = smallest-live x e in
        let back = orbit-back m k dim n w dims x h (eqb-true _ _ l) y o in
        true≢false (sym (reached-orbit x y x (omega arith) r back) ∙ not-true _ (sym (smallest_unreached x h l) ∙ e))

    -- so it adds its size to what is reached
    count-walked : (x : ℕ) → x < m.slots → (b : Bool) → smallest m k dim x ≡ b
        → count_below m.slots (reached_below m k dim x) + cond b (count_below m.slots (orbit m k dim x)) 0
        ≡ count_below m.slots (reached_below m k dim (x + 1))
    count-walked x h true e =
        sym (count_same m.slots _ _ (λ y b. reached-walked x (smallest-live x e) y) ∙ count_or m.slots _ _ (λ y b. walked-apart x h e y))
    count-walked x h false e = add-zero _ ∙ sym (count_same m.slots _ _ (λ y b. reached-idle x h (not_smallest x h e) y))

    -- the sizes of the orbits counted below x are together what is reached there
    pub sizes-reached : (x : ℕ) → x ≤ m.slots → sizes_below m k dim x ≡ count_below m.slots (reached_below m k dim x)
    unfolding sizes_below
    sizes-reached zero h = sym (count-zero m.slots _ (λ y b. reached-none y))
    sizes-reached (suc x) h =
        ap (λ (s : ℕ). s + cond (smallest m k dim x) (count_below m.slots (orbit m k dim x)) 0) (sizes-reached x (omega arith))
        ∙ count-walked x (omega arith) (smallest m k dim x) refl
        ∙ ap (λ (z : ℕ). count_below m.slots (reached_below m k dim z)) (add-one x)

    -- below all slots, what is reached is what is live
    pub reached-live : (y : ℕ) → y < m.slots → reached_below m k dim m.slots y ≡ live m y
    reached-live y h = same_test _ _
        (λ e. let r = reached-by m.slots y (omega arith) e in eq-eqb _ _ (orbit-dart m k dim n w dims r.0 r.2 r.3 y r.4).1)
        (λ e. let l = eqb-true _ _ e in reached_of m.slots y y h l (orbit_self m k dim n w dims y h l))

    -- the sizes of the counted orbits are together the live darts, whatever the orbit type
    pub cells_cover : sizes_below m k dim m.slots ≡ count_below m.slots (live m)
    cells_cover = sizes-reached m.slots (omega arith) ∙ count_same m.slots _ _ reached-live

-- ---- dimensions

-- an orbit type has the dimensions below k, so others change nothing
module _ (m : Map) (k : ℕ) (dim dim' : ℕ → ℕ) (e : (p : ℕ) → p < k → dim p ≡ dim' p) where
  -- the links are the same
  leads-by : leads m k dim ≡ leads m k dim'
  unfolding leads
  leads-by = fun_ext (λ x. fun_ext (λ y. first-same k _ _ (λ p h. ap (λ (i : ℕ). some_if (eqb (m.link i x) y) i) (e p h))))

  -- the orbits are the same
  pub orbit-by : orbit m k dim ≡ orbit m k dim'
  unfolding orbit orbit_path
  orbit-by = ap {B = ℕ → ℕ → Bool} (λ (l : ℕ → ℕ → Option ℕ) (d x : ℕ). there (get_or (paths m.slots (eqb d) l) x None)) leads-by

  -- and as many
  pub cells-by : cells m k dim ≡ cells m k dim'
  unfolding cells smallest
  cells-by = ap (λ (o : ℕ → ℕ → Bool). count_below m.slots (λ x. live m x and not (any_below x (o x)))) orbit-by

-- the dimensions without one are dimensions
pub all_but_small : (n i p : ℕ) → p < n → all_but i p ≤ n
unfolding all_but
all_but_small n i p h = go (ltb p i)
  where
    go : (b : Bool) → cond b p (p + 1) ≤ n
    go true = omega arith
    go false = omega arith

-- ---- bounds

-- there are no more cells than slots
pub cells-few : (m : Map) (k : ℕ) (dim : ℕ → ℕ) → cells m k dim ≤ m.slots
unfolding cells
cells-few m k dim = count_le m.slots _

-- there are six numbers
pub counts-six : (n : ℕ) (m : Map) → length (counts n m) ≡ 6
unfolding counts
counts-six n m = refl

-- no count is more than the slots
pub counts-few : (n : ℕ) (m : Map) (i : ℕ) → get_or (counts n m) i 0 ≤ m.slots
unfolding counts
counts-few n m zero = count_le m.slots (live m)
counts-few n m (suc zero) = cells-few m n (all_but 0)
counts-few n m (suc (suc zero)) = cells-few m n (all_but 1)
counts-few n m (suc (suc (suc zero))) = cells-few m n (all_but 2)
counts-few n m (suc (suc (suc (suc zero)))) = cells-few m (n + 1) all
counts-few n m (suc (suc (suc (suc (suc zero))))) = volumes (eqb n 3)
  where
    volumes : (b : Bool) → cond b (cells m n (all_but 3)) 0 ≤ m.slots
    volumes true = cells-few m n (all_but 3)
    volumes false = omega arith
counts-few n m (suc (suc (suc (suc (suc (suc i)))))) = omega arith

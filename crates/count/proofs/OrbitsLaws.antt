-- The laws of `orbits`: a turn of its loop, on plain values.
use Prim.Native.Nat.{ℕ, ◌+◌, ◌*◌, ◌≤◌, ◌<◌}
use mathlib.Core.Path.{◌≡◌, refl, sym, ap, ◌∙◌}
use mathlib.Core.Logic.{◌⊎◌, inl, inr, ⊎_elim}
use mathlib.Core.Bool.{Bool, true, false, not}
use mathlib.Core.List.{List}
use native.Mathlib.Omega.{arith}
use lib.ListN.{length}
use borrow.Author.Tests.{ltb-false, eqb-true, not-true, not-false, le-ltb}
use Rattle.base.specs.Test.{◌and◌, ◌or◌, bit}
use Rattle.base.specs.Below.{count_below}
use Rattle.base.proofs.TestLaws.{and_left, and_right, and_true, and_no_right, true_or_false}
use Rattle.base.proofs.BelowLaws.{count-step}
use Rattle.model.specs.Map.{Map, live}
use Rattle.model.specs.WellFormed.{WellFormed}
use Rattle.model.specs.Orbit.{orbit}
use Rattle.model.specs.Count.{smallest, reached_below, cells}
use Rattle.model.proofs.OrbitLaws.{orbit-slot}
use Rattle.model.proofs.CountLaws.{reached-none, reached-walked, reached-by, smallest-idle, reached-closed, reached-idle, smallest_unreached}
use Rattle.orbit.specs.Store.{mark, marked, Taken}
use Rattle.orbit.specs.Places.{Blank, unmarked}
use Rattle.orbit.specs.Walk.{Begun, OrbitAdded}
use Rattle.orbit.proofs.StoreLaws.{unmarked-blank, blank-taken}
use Rattle.count.specs.Fresh.{is_fresh}

module _ (m : Map) (k : ℕ) (dim : ℕ → ℕ) where
  -- at the loop's head: the orbits of the live darts below x have places and are counted, and no other slot has a place
  pub record Counting (x : ℕ) (s : List ℕ) (end found : ℕ) : Type 0 where
    pub within : x ≤ m.slots
    pub few : found ≤ x
    pub taken : Taken m.slots s end
    pub reached : (y : ℕ) → y < m.slots → marked s y ≡ reached_below m k dim x y
    pub counted : found ≡ count_below x (smallest m k dim)

  -- after the marks were cleared
  pub counting-none : (s₀ s : List ℕ) → length s₀ ≡ 16 * m.slots → s ≡ unmarked m.slots s₀ → Counting 0 s 0 0
  unfolding marked count_below
  counting-none s₀ s long e =
      let b : Blank m.slots s = rw e (unmarked-blank m.slots s₀ long) in
      record {
        within = omega arith;
        few = omega arith;
        taken = blank-taken m.slots s b;
        reached = λ y h. le-ltb 0 (mark s y) (omega (arith, b.none y h)) ∙ sym (reached-none m k dim y);
        counted = refl;
      }

  -- after the last slot
  pub counting-done : (x : ℕ) (s : List ℕ) (end found : ℕ) → Counting x s end found → m.slots ≤ x → found ≡ cells m k dim
  unfolding cells
  counting-done x s end found c h = let all : x ≡ m.slots = omega (arith, c.within) in c.counted ∙ ap (λ (z : ℕ). count_below z (smallest m k dim)) all

  module _ (n : ℕ) (w : WellFormed n m) (dims : (p : ℕ) → p < k → dim p ≤ n) (x : ℕ) (s : List ℕ) (end found : ℕ) (c : Counting x s end found)
      (h : x < m.slots) where
    -- x is fresh just if it is the smallest dart of its orbit
    smallest-fresh : smallest m k dim x ≡ is_fresh m s x
    unfolding is_fresh
    smallest-fresh = ⊎_elim
        (λ l. smallest_unreached m k dim n w dims x h l ∙ ap not (sym (c.reached x h)) ∙ sym (ap (λ (b : Bool). not (marked s x) and b) l ∙ and_true _))
        (λ l. smallest-idle m k dim x l ∙ sym (and_no_right _ l))
        (true_or_false (live m x))

    -- one more slot is counted if it is fresh
    counted-more : (b : Bool) → is_fresh m s x ≡ b → found + bit b ≡ count_below (x + 1) (smallest m k dim)
    counted-more b e = sym (count-step x (smallest m k dim) ∙ rw (← c.counted, smallest-fresh, e) refl)

    -- x is fresh: the walk can begin there, and after it the orbit of x is reached too
    module _ (e : is_fresh m s x ≡ true) where
      pub fresh-live : m.state x ≡ 1
      unfolding is_fresh
      fresh-live = eqb-true _ _ (and_right _ _ e)

      pub counting-begun : Begun m k dim s end x
      unfolding is_fresh marked
      counting-begun = record {
        taken = c.taken;
        closed = λ y p b a q.
            let r = reached-closed m k dim n w dims x y p c.within (sym (c.reached y b) ∙ a) q in
            let z = reached-by m k dim x _ c.within r in
            c.reached _ (orbit-slot m k dim z.0 _ z.4) ∙ r;
        free = let none = ltb-false 0 (mark s x) (not-true _ (and_left _ _ e)) in omega arith;
      }

      pub counting_more : (s' : List ℕ) (end' : ℕ) → OrbitAdded m k dim x s s' end' → Counting (x + 1) s' end' (found + 1)
      unfolding is_fresh
      counting_more s' end' j = record {
        within = omega arith;
        few = omega (arith, c.few);
        taken = j.taken;
        reached = λ y b.
            j.is y b ∙ ap (λ (a : Bool). a or orbit m k dim x y) (c.reached y b) ∙ sym (reached-walked m k dim x (and_right _ _ e) y);
        counted = counted-more true e;
      }

    -- x is not fresh: it is not live, or was reached before
    module _ (e : is_fresh m s x ≡ false) where
      idle : (live m x ≡ false) ⊎ (reached_below m k dim x x ≡ true)
      idle = ⊎_elim (λ l. inr (not-false _ (sym (smallest_unreached m k dim n w dims x h l) ∙ smallest-fresh ∙ e))) inl (true_or_false (live m x))

      pub counting-idle : Counting (x + 1) s end found
      counting-idle = record {
        within = omega arith;
        few = omega (arith, c.few);
        taken = c.taken;
        reached = λ y b. c.reached y b ∙ sym (reached-idle m k dim n w dims x h idle y);
        counted = omega (arith, counted-more false e);
      }

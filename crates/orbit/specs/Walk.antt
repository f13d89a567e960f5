-- What the walk of an orbit is given, and what a step of it does to the store.
use Rattle.std.specs.Prelude.{ℕ, ◌*◌, ◌≤◌, ◌<◌, ◌≡◌, ◌≢◌, true, List, get_or}
use Rattle.base.specs.Test.{◌or◌}
use Rattle.model.specs.Map.{Map}
use Rattle.model.specs.WellFormed.{WellFormed}
use Rattle.model.specs.Orbit.{orbit}
use Rattle.orbit.specs.Store.{mark, marked, place, next, Taken}

-- the map is well-formed for some n, for which the first k of `dims` are dimensions
pub record BeforeWalking (m : Map) (dims : List ℕ) (k : ℕ) : Type 0 where
  pub n : ℕ
  pub small : n ≤ 3
  pub well : WellFormed n m
  pub few : k ≤ 4
  pub dim : (p : ℕ) → p < k → get_or dims p 0 ≤ n

-- the first `end` places stay, and those up to `end'` are taken too
pub record MoreTaken (N : ℕ) (s : List ℕ) (end : ℕ) (s' : List ℕ) (end' : ℕ) : Type 0 where
  pub taken : Taken N s' end'
  pub longer : end ≤ end'
  pub places : (e : ℕ) → e < end → place N s' e ≡ place N s e

-- slot y has a place, and the word `at` names it. If a place was taken, it is that one.
pub record Followed (N : ℕ) (s : List ℕ) (end at y : ℕ) (s' : List ℕ) (end' : ℕ) : Type 0 where
  pub grown : MoreTaken N s end s' end'
  pub new : (e : ℕ) → end ≤ e → e < end' → get_or s' at 0 ≡ e
  pub leads : (get_or s' at 0 < end') × (place N s' (get_or s' at 0) ≡ y)
  pub others : (i : ℕ) → 2 * N ≤ i → i ≢ at → get_or s' i 0 ≡ get_or s i 0

-- the first k links of the dart at place `head` were followed, and lead to the new places in turn
pub record Expanded (m : Map) (k : ℕ) (dim : ℕ → ℕ) (head : ℕ) (s : List ℕ) (tail : ℕ) (s' : List ℕ) (tail' : ℕ) : Type 0 where
  pub grown : MoreTaken m.slots s tail s' tail'
  pub new : (e : ℕ) → tail ≤ e → e < tail' → (p : ℕ) × (p < k) × (next m.slots s' head p ≡ e)
      × ((q : ℕ) → q < k → e < next m.slots s' head q → p < q)
  pub links : (p : ℕ) → p < k → (next m.slots s' head p < tail')
      × (place m.slots s' (next m.slots s' head p) ≡ m.link (dim p) (place m.slots s head))
  pub earlier : (r p : ℕ) → r < head → p < 4 → next m.slots s' r p ≡ next m.slots s r p

-- the darts that took places before are closed under the links of the orbit type, and d is none of them
pub record Begun (m : Map) (k : ℕ) (dim : ℕ → ℕ) (s : List ℕ) (begin d : ℕ) : Type 0 where
  pub taken : Taken m.slots s begin
  pub closed : (x p : ℕ) → x < m.slots → marked s x ≡ true → p < k → marked s (m.link (dim p) x) ≡ true
  pub free : mark s d ≡ 0

-- the orbit of d took places beside the darts that had them
pub record OrbitAdded (m : Map) (k : ℕ) (dim : ℕ → ℕ) (d : ℕ) (s s' : List ℕ) (end : ℕ) : Type 0 where
  pub taken : Taken m.slots s' end
  pub is : (x : ℕ) → x < m.slots → marked s' x ≡ (marked s x or orbit m k dim d x)

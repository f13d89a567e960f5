-- The tests of the arcs over the whole orbit, once the rows of all left nodes stand in the store.
use Rattle.std.specs.Prelude.{ℕ, ◌+◌, ◌*◌, ◌-◌, ◌/◌, ◌%◌, ◌≤◌, ◌<◌, ◌≡◌, Bool, true, cond, List, length, get_or, eqb, ltb}
use Rattle.base.specs.Test.{◌or◌}
use Rattle.base.specs.Below.{all_below}
use Rattle.model.specs.Map.{Map}
use Rattle.orbit.specs.Store.{next, dart_at}

-- the row at `from` holds slots
pub record Slots (N : ℕ) (s : List ℕ) (from size : ℕ) : Type 0 where
  pub slot : (r : ℕ) → r < size → dart_at s from r < N

-- the links of the row at `from` can be compared with the row at `to`
pub record Testable (N : ℕ) (s : List ℕ) (size from to : ℕ) : Type 0 where
  pub long : length s ≡ 16 * N
  pub few : size ≤ N
  pub from_inside : from + size ≤ 2 * N
  pub to_inside : to + size ≤ 2 * N
  pub slots : Slots N s from size

-- the links at position p lead from the first `size` places to such places
pub record Turns (N : ℕ) (s : List ℕ) (p size : ℕ) : Type 0 where
  pub place : (r : ℕ) → r < size → next N s r p < size

-- for each place r of the orbit, the link leads from the dart in the row at `from` to the one at place `to r` of the row at `base`
unfoldable pub follows : (ℕ → ℕ) → List ℕ → ℕ → ℕ → ℕ → (ℕ → ℕ) → Bool
follows link s size from base to = all_below size (λ r. eqb (link (dart_at s from r)) (dart_at s base (to r)))

module _ (m : Map) (s : List ℕ) (size : ℕ) (dims rows : List ℕ) (j i from : ℕ) where
  -- The explicit arc of entry j at dimension i, to a node. It is tested from the end whose row was made later. An arc of a tree is not tested: its row
  -- was made along it.
  unfoldable pub explicit_test : ℕ → Bool
  explicit_test t = ltb from (get_or rows t 0) or eqb (get_or dims j 0) i or follows (m.link i) s size from (get_or rows t 0) (λ r. r)

  -- the first `roots` entries are hooks
  module _ (roots : ℕ) where
    -- The implicit arc of entry j at dimension i, at a position. Those of the hooks are not tested: their rows were walked along the links.
    unfoldable pub implicit_test : ℕ → Bool
    implicit_test p = ltb j roots or follows (m.link i) s size from from (λ r. next m.slots s r p)

    -- the arc with this code
    unfoldable pub code_test : ℕ → Bool
    code_test code = cond (eqb code 255) true (cond (ltb code 16) (explicit_test code) (implicit_test (code - 16)))

module _ (m : Map) (s : List ℕ) (size : ℕ) (nodes dims : List ℕ) (roots : ℕ) (codes rows : List ℕ) where
  -- the arc of entry j at dimension i, if it has one
  unfoldable pub arc_test : ℕ → ℕ → Bool
  arc_test j i = code_test m s size dims rows j i (get_or rows (get_or nodes j 0) 0) roots (get_or codes (4 * get_or nodes j 0 + i) 0)

  -- every arc below a bound, where k stands for entry k / 4 at dimension k % 4
  unfoldable pub arcs_test : ℕ → Bool
  arcs_test bound = all_below bound (λ k. arc_test (k / 4) (k % 4))

-- the rows and codes are such that an arc can be tested
pub record Firm (N : ℕ) (s : List ℕ) (size : ℕ) (nodes codes rows : List ℕ) (count : ℕ) : Type 0 where
  pub long : length s ≡ 16 * N
  pub few : size ≤ N
  pub entries : count ≤ 16
  pub node : (j : ℕ) → j < count → get_or nodes j 0 < 16
  pub row : (j : ℕ) → j < count → get_or rows (get_or nodes j 0) 0 + size ≤ 2 * N
  pub slots : (j : ℕ) → j < count → Slots N s (get_or rows (get_or nodes j 0) 0) size
  pub target : (j i : ℕ) → j < count → i < 4 → get_or codes (4 * get_or nodes j 0 + i) 0 < 16
      → get_or rows (get_or codes (4 * get_or nodes j 0 + i) 0) 0 + size ≤ 2 * N
  pub turn : (j i : ℕ) → j < count → i < 4 → 16 ≤ get_or codes (4 * get_or nodes j 0 + i) 0
      → (get_or codes (4 * get_or nodes j 0 + i) 0 ≡ 255 → ⊥) → (get_or codes (4 * get_or nodes j 0 + i) 0 < 20)
      × Turns N s (get_or codes (4 * get_or nodes j 0 + i) 0 - 16) size

-- The phase `room`: the tags that the new darts get, noted before any slot is taken, and the map without the deleted darts.
use Rattle.std.specs.Prelude.{ℕ, ◌+◌, ◌*◌, ◌≤◌, ◌<◌, ◌≡◌, ◌⊎◌, cond, List, length, get_or, eqb}
use Rattle.std.specs.Prelude.{Some}
use Rattle.base.specs.First.{nth_lowest}
use Rattle.base.specs.Steps.{steps}
use Rattle.model.specs.Map.{Map, max_slots}
use Rattle.model.specs.Scheme.{added}
use Rattle.table.specs.Writes.{zeroed}
use Rattle.orbit.specs.Store.{dart_at, Kept, Assigned}
use Rattle.orbit.specs.At.{At, site}
use Rattle.rewriting.specs.Darts.{HoldsSlots, row_start, Bare, TagsNoted, Grant}

-- ---- the tags

-- from `to` on, s' has the tags of the first n darts of s from `from` on, and is s elsewhere
pub record Noted (tag : ℕ → ℕ) (s : List ℕ) (from to n : ℕ) (s' : List ℕ) : Type 0 where
  pub long : length s' ≡ length s
  pub at : (r : ℕ) → r < n → get_or s' (to + r) 0 ≡ tag (dart_at s from r)
  pub kept : (i : ℕ) → (i < to) ⊎ (to + n ≤ i) → get_or s' i 0 ≡ get_or s i 0

-- Each of the first `many` of `nodes` has a donor. The donor's darts stand in a row, and all these rows lie before the words for the new darts.
pub record Donating (N : ℕ) (s : List ℕ) (size : ℕ) (nodes : List ℕ) (many : ℕ) (donors rows : List ℕ) : Type 0 where
  pub few : many ≤ 16
  pub slots : N ≤ max_slots
  pub stored : length s ≡ 16 * N
  pub room : many * size ≤ N
  pub node : (a : ℕ) → a < many → get_or nodes a 0 < 16
  pub donor : (a : ℕ) → a < many → get_or donors (get_or nodes a 0) 0 < 16
  pub inside : (a : ℕ) → a < many → get_or rows (get_or donors (get_or nodes a 0) 0) 0 + size ≤ 2 * N
  pub slot : (a r : ℕ) → a < many → r < size → dart_at s (get_or rows (get_or donors (get_or nodes a 0) 0) 0) r < N

-- s' has the tags of the darts of the donors of the first `many` of `nodes`
pub record Gathered (N : ℕ) (tag : ℕ → ℕ) (s : List ℕ) (size : ℕ) (nodes : List ℕ) (many : ℕ) (donors rows s' : List ℕ) : Type 0 where
  pub long : length s' ≡ length s
  pub at : (a r : ℕ) → a < many → r < size
      → get_or s' (row_start N size a + r) 0 ≡ tag (dart_at s (get_or rows (get_or donors (get_or nodes a 0) 0) 0) r)
  pub kept : (i : ℕ) → (i < 2 * N) ⊎ (2 * N + many * size ≤ i) → get_or s' i 0 ≡ get_or s i 0

-- ---- zeros

-- the words of the slots `at 0` .. `at (n - 1)` become zeros
unfoldable pub erased : (ℕ → ℕ) → ℕ → Map → Map
erased at n = steps n (λ r. zeroed (at r))

-- the words of the darts of the node whose row of the store begins at `base`, where its kind is deleted
unfoldable pub cleared_by : List ℕ → ℕ → ℕ → ℕ → Map → Map
cleared_by store size base kind m = cond (eqb kind 1) (erased (dart_at store base) size m) m

module _ (store : List ℕ) (size : ℕ) (rows : List ℕ) where
  -- the words of the darts of those of the first n nodes that are deleted
  unfoldable pub cleared : List ℕ → ℕ → Map → Map
  cleared kinds n = steps n (λ v. cleared_by store size (get_or rows v 0) (get_or kinds v 0))

-- the deleted ones of c nodes have rows
pub record DeletedRows (N : ℕ) (store : List ℕ) (size : ℕ) (kinds : List ℕ) (c : ℕ) (rows : List ℕ) : Type 0 where
  pub few : c ≤ 16
  pub at : (v : ℕ) → v < c → get_or kinds v 0 ≡ 1 → HoldsSlots N store (get_or rows v 0) size

-- ---- what the phase is handed, and what it hands on

pub record BeforeRoom (m : Map) (s : List ℕ) (size : ℕ) (nodes : List ℕ) (many : ℕ) (donors kinds : List ℕ) (c : ℕ) (rows : List ℕ) : Type 0 where
  pub at : At m
  pub grant : Grant at s size many
  pub node : (a : ℕ) → a < many → nth_lowest at.scheme.nodes (added at.scheme) a ≡ Some (get_or nodes a 0)
  pub donors_are : donors ≡ at.scheme.donors
  pub nodes_are : c ≡ at.scheme.nodes
  pub kinded : kinds ≡ at.scheme.kinds
  pub assigned : Assigned (site at) s rows size

pub record Roomy {m : Map} (A : At m) (s : List ℕ) (size : ℕ) (rows : List ℕ) (m' : Map) (s' : List ℕ) : Type 0 where
  pub bare : Bare (site A) m'
  pub tagged : TagsNoted (site A) s' size
  pub kept : Kept m.slots s s' size
  pub assigned : Assigned (site A) s' rows size

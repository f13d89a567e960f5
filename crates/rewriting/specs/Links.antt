-- The phase `links`: what its loops write, what makes them safe, and what it is handed.
use Rattle.std.specs.Prelude.{ℕ, ◌+◌, ◌*◌, ◌-◌, ◌/◌, ◌%◌, ◌≤◌, ◌<◌, ◌≡◌, true, cond, List, length, get_or, eqb, ltb}
use Rattle.base.specs.Steps.{steps}
use Rattle.model.specs.Map.{Map, Link}
use Rattle.model.specs.Scheme.{left, right}
use Rattle.model.specs.Match.{matches}
use Rattle.model.specs.Edit.{added_darts, room_of}
use Rattle.table.specs.Writes.{set_at, with_field}
use Rattle.orbit.specs.Store.{next, dart_at}
use Rattle.orbit.specs.At.{At, site, of_slots, WalkedAt}
use Rattle.model.specs.Shaped.{Coded}
use Rattle.rewriting.specs.Darts.{HoldsSlots, Darts, Given}

-- ---- what is written

-- where the partner of the dart at place r stands in its row: at r by the code of a node, and by a position, where that link of the orbit leads
unfoldable pub place_by : ℕ → List ℕ → ℕ → ℕ → ℕ
place_by N store code r = cond (ltb code 16) r (next N store r (code - 16))

-- the links of the slots `at 0` .. `at (n - 1)` become `v 0` .. `v (n - 1)`
unfoldable pub overwritten : (ℕ → ℕ) → (ℕ → ℕ) → ℕ → (ℕ → ℕ) → ℕ → ℕ
overwritten at v n = steps n (λ r l. set_at l (at r) (v r))

module _ (N : ℕ) (store : List ℕ) (size : ℕ) (rows : List ℕ) where
  -- The links of one dimension once an arc is followed: those of the darts in the row at `base` are written, as the arc's code says.
  unfoldable pub followed : ℕ → ℕ → (ℕ → ℕ) → ℕ → ℕ
  followed base code l =
      cond (ltb code 16) (overwritten (dart_at store base) (dart_at store (get_or rows code 0)) size l)
      (cond (ltb code 255) (overwritten (dart_at store base) (λ r. dart_at store base (next N store r (code - 16))) size l) l)

  -- the links of the darts of all nodes, by the first n codes of their arcs
  unfoldable pub relinked : List ℕ → ℕ → Map → Map
  relinked codes n = steps n (λ k m. with_field m (Link (k % 4)) (followed (get_or rows (k / 4) 0) (get_or codes k 0) (m.link (k % 4))))

-- the code of an arc of the right side; that of no arc if the left side has the same, for then its links stand already
unfoldable pub changed : ℕ → ℕ → ℕ
changed before after = cond (eqb before after) 255 after

-- the codes are those of a right side where they differ from a left side's
pub record Changed (lefts rights codes : List ℕ) : Type 0 where
  pub at : (k : ℕ) → k < 64 → get_or codes k 0 ≡ changed (get_or lefts k 0) (get_or rights k 0)

-- ---- what makes it safe

-- from each place, the link at position p leads to a place
pub record Turnable (N : ℕ) (store : List ℕ) (size p : ℕ) : Type 0 where
  pub long : length store ≡ 16 * N
  pub fits : size ≤ N
  pub position : p < 4
  pub place : (r : ℕ) → r < size → next N store r p < size

-- the code of an arc names a node that has a row, or a position whose links are known
pub record Legible (N : ℕ) (store : List ℕ) (size : ℕ) (rows : List ℕ) (code : ℕ) : Type 0 where
  pub node : code < 16 → get_or rows code 0 + size ≤ length store
  pub position : 16 ≤ code → code < 255 → Turnable N store size (code - 16)

-- each of c nodes has a row
pub record Rows (N : ℕ) (store : List ℕ) (size c : ℕ) (rows : List ℕ) : Type 0 where
  pub few : c ≤ 16
  pub at : (v : ℕ) → v < c → HoldsSlots N store (get_or rows v 0) size

-- each arc of c nodes has a code
pub record Codes (N : ℕ) (store : List ℕ) (size : ℕ) (codes : List ℕ) (c : ℕ) (rows : List ℕ) : Type 0 where
  pub at : (k : ℕ) → k < 4 * c → Legible N store size rows (get_or codes k 0)

-- ---- what the phase is handed

-- the site of the edit in the map before it, with what the earlier phases found and left in m and the store
pub record BeforeRewriting (N : ℕ) (m : Map) (store : List ℕ) (size : ℕ) (lefts rights : List ℕ) (c : ℕ) (rows : List ℕ) : Type 0 where
  pub before : Map
  pub at : At (of_slots N before)
  pub stored : length store ≡ 16 * N
  pub walked : WalkedAt (site at) store size
  pub darts : Darts (site at) store rows size
  pub match : matches (site at) ≡ true
  pub room : added_darts (site at) ≤ room_of (site at)
  pub given : Given (site at) m
  pub nodes : c ≡ at.scheme.nodes
  pub left_coded : Coded at.scheme left lefts
  pub right_coded : Coded at.scheme right rights

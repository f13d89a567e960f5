-- The arcs of a side as a scheme's value holds them.
use Rattle.std.specs.Prelude.{ℕ, ◌+◌, ◌*◌, ◌≤◌, ◌<◌, List, get_or}

-- byte f of arc a
abbrev pub part_of : List ℕ → ℕ → ℕ → ℕ
part_of l a f = get_or l (3 * a + f) 0

-- the first c arcs have dimensions up to 3 and join nodes below 16
pub record Joining (arcs : List ℕ) (c : ℕ) : Type 0 where
  pub few : c ≤ 64
  pub dims : (a : ℕ) → a < c → part_of arcs a 0 ≤ 3
  pub from : (a : ℕ) → a < c → part_of arcs a 1 < 16
  pub to : (a : ℕ) → a < c → part_of arcs a 2 < 16

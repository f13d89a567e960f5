-- 'The scheme's bytes': where each of the five sections, the donors and the second hook stand. Bytes past the end count as 0; `in_form`
-- (Scheme.antt) tests the exact length.
use Rattle.std.specs.Prelude.{ℕ, zero, suc, ◌+◌, ◌*◌, ◌-◌, Bool, cond, List, get_or, eqb, ltb, leb}
use Rattle.base.specs.Test.{◌and◌, ◌or◌, bit}

pub data Side : Type 0 where
  left right : Side

-- Kinds: 1 deleted, 2 preserved, 3 added. The left side has the nodes of kinds 1 and 2, the right side those of kinds 2 and 3.
abbrev pub on_side : Side → ℕ → Bool
on_side left kind = eqb kind 1 or eqb kind 2
on_side right kind = eqb kind 2 or eqb kind 3

module _ (b : List ℕ) where
  -- the byte at a place
  abbrev pub byte : ℕ → ℕ
  byte at = get_or b at 0

  -- the first byte is n, with 32 more where the scheme names a second hook, and 16 more where it names donors
  unfoldable pub names_second : Bool
  names_second = leb 32 (byte 0)

  -- the first byte without what names a second hook
  unfoldable pub hookless : ℕ
  hookless = cond names_second (byte 0 - 32) (byte 0)

  unfoldable pub names_donors : Bool
  names_donors = leb 16 hookless

  -- n, which the first byte says
  unfoldable pub dimension_of : ℕ
  dimension_of = cond names_donors (hookless - 16) hookless

  -- k, the orbit type's count; its dimensions stand from byte 2 on
  abbrev pub places_of : ℕ
  places_of = byte 1

  -- c, the node count
  abbrev pub nodes_of : ℕ
  nodes_of = byte (2 + places_of)

  -- a node of this kind has a donor byte: an added one, where donors are named
  unfoldable pub has_donor : ℕ → Bool
  has_donor kind = names_donors and eqb kind 3

  -- node s: its kind, then its left word, then its right word, each of k bytes, then its donor where it has one
  unfoldable pub node_at : ℕ → ℕ
  node_at zero = 3 + places_of
  node_at (suc s) = node_at s + 1 + 2 * places_of + bit (has_donor (byte (node_at s)))

  abbrev pub kind_at : ℕ → ℕ
  kind_at s = byte (node_at s)

  -- byte p of the word of node s
  abbrev pub word_at : Side → ℕ → ℕ → ℕ
  word_at left s p = byte (node_at s + 1 + p)
  word_at right s p = byte (node_at s + 1 + places_of + p)

  -- the donor of node s: the node whose darts give the new darts of s their tags; node 0 where none is named
  unfoldable pub donor_of : ℕ → ℕ
  donor_of s = cond (has_donor (kind_at s)) (byte (node_at s + 1 + 2 * places_of)) 0

  -- how many bytes the second hook takes, right after the nodes: one where it is named, else none
  unfoldable pub hook_bytes : ℕ
  hook_bytes = bit names_second

  -- the second hook's node number; 0 where none is named
  unfoldable pub second_of : ℕ
  second_of = cond names_second (byte (node_at nodes_of)) 0

  -- a side's count of arcs stands at `arcs_at`, its arcs after it: the left arcs, then the right arcs
  abbrev pub arcs_at : Side → ℕ
  arcs_at left = node_at nodes_of + hook_bytes
  arcs_at right = node_at nodes_of + hook_bytes + 1 + 3 * byte (node_at nodes_of + hook_bytes)

  abbrev pub arc_count : Side → ℕ
  arc_count side = byte (arcs_at side)

  -- arc a: its dimension (f = 0), smaller node (1) and larger node (2)
  abbrev pub arc_byte : Side → ℕ → ℕ → ℕ
  arc_byte side a f = byte (arcs_at side + 1 + 3 * a + f)

  -- where the bytes end: nothing follows
  abbrev pub end_at : ℕ
  end_at = arcs_at right + 1 + 3 * arc_count right

-- what stands at x where it is below the bound, else the filling
abbrev pub up_to : ℕ → ℕ → ℕ → ℕ → ℕ
up_to bound x v filling = cond (ltb x bound) v filling

-- The arcs of a side: what is known before they are read, what is known after it, and the test of an arc.
use Rattle.std.specs.Prelude.{ℕ, ◌+◌, ◌*◌, ◌≤◌, ◌≡◌, Bool, true, false, List, length, get_or, eqb, ltb, leb}
use Rattle.base.specs.Test.{◌and◌, ◌⇒◌}
use Rattle.base.specs.Below.{all_below}
use Rattle.model.specs.Bytes.{nodes_of, arcs_at, arc_count, arc_byte}
use Rattle.model.specs.Codes.{placed_at, targets_of}
use Rattle.model.specs.Scheme.{Side, node_form, arcs_of, scheme_of}
use Rattle.frame.specs.Frame.{LaidOut}
use Rattle.scheme.specs.Words.{barred}
use Rattle.scheme.specs.Targets.{twice_to}
use Rattle.frame.specs.declared.Layout.{Layout}

-- what is known before the arcs of a side are read: the nodes are in the form, and the arcs lie within the bytes
pub record ArcsPlaced (b : List ℕ) (l : Layout) (kinds : List ℕ) (side : Side) (from : ℕ) : Type 0 where
  pub laid : LaidOut b l
  pub nodes : all_below (nodes_of b) (node_form b) ≡ true
  pub kinds_are : kinds ≡ (scheme_of b).kinds
  pub from_is : from ≡ arcs_at b side
  pub few : arc_count b side ≤ 64
  pub inside : arcs_at b side + 1 + 3 * arc_count b side ≤ length b

-- what is known once the arcs of a side are read: their bytes, the targets and the nodes with two arcs that they give, and the place after them
pub record ArcsRead (b : List ℕ) (side : Side) (at : ℕ) (arcs targets : List ℕ) (twice : List Bool) : Type 0 where
  pub place_is : at ≡ arcs_at b side + 1 + 3 * arc_count b side
  pub arcs_is : arcs ≡ arcs_of b side
  pub targets_is : targets ≡ targets_of b side
  pub twice_is : twice ≡ twice_to (placed_at b side) (arc_byte b side) (arc_count b side)

-- the key of an arc: arcs are in the order of their keys, since all bytes are below 256
abbrev pub key_of : ℕ → ℕ → ℕ → ℕ
key_of d s t = d * 65536 + s * 256 + t

unfoldable pub arc_test : ℕ → ℕ → List ℕ → Side → ℕ → ℕ → ℕ → ℕ → Bool
arc_test n nodes kinds side low d s t = leb d n and leb s t and ltb t nodes
    and (eqb (get_or kinds s 0) (barred side) ⇒ false) and (eqb (get_or kinds t 0) (barred side) ⇒ false) and leb low (key_of d s t)

-- 'When a scheme is accepted', first sentence: what a node has on a side at a dimension. `arc_at` (Conditions.antt) says what it is in a scheme.
use Rattle.std.specs.Prelude.{ℕ, Bool, cond, eqb}
use Rattle.std.specs.Prelude.{Option, Some, None}
use Rattle.base.specs.Test.{◌and◌, ◌or◌}
use Rattle.base.specs.First.{first, some_if}

-- nothing, an explicit arc to a node, or an implicit arc at a position
pub data Arc : Type 0 where
  absent : Arc
  explicit : ℕ → Arc
  implicit : ℕ → Arc

-- the explicit arc to a node, if there is one, else the implicit arc at a position, if there is one
abbrev pub arc_of : Option ℕ → Option ℕ → Arc
arc_of (Some t) o = explicit t
arc_of None (Some p) = implicit p
arc_of None None = absent

-- `part a f` is byte f of arc a: its dimension (0), smaller node (1) and larger node (2)
module _ (part : ℕ → ℕ → ℕ) where
  -- arc a has dimension i and touches s
  abbrev pub touching : ℕ → ℕ → ℕ → Bool
  touching s i a = eqb (part a 0) i and (eqb (part a 1) s or eqb (part a 2) s)

  -- the other end of arc a, seen from s; s itself for a loop
  abbrev pub other_end : ℕ → ℕ → ℕ
  other_end s a = cond (eqb (part a 1) s) (part a 2) (part a 1)

  -- the far end of the first of c arcs that has dimension i and touches s
  unfoldable pub far_end : ℕ → ℕ → ℕ → Option ℕ
  far_end c s i = first c (λ a. some_if (touching s i a) (other_end s a))

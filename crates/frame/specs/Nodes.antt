-- The nodes of the bytes: how many there are, how many bytes name a donor, and the place after them.
use Rattle.std.specs.Prelude.{ℕ, ◌+◌, ◌≤◌, ◌<◌, ◌≡◌, Bool, true, false, cond, List, length, eqb, Option, Some, None}
use Rattle.base.specs.Test.{bit}
use Rattle.model.specs.Bytes.{byte, names_donors, places_of, nodes_of, node_at}
use Rattle.model.specs.Scheme.{in_form}
use Rattle.frame.specs.declared.cursor.Cursor.{Cursor}

-- how many bytes name the donor of a node of this kind; `donors` is 1 if donors are named, else 0
abbrev pub donor_bytes : ℕ → ℕ → ℕ
donor_bytes donors kind = cond (eqb kind 3) donors 0

-- the place after the node at `at`, if donors are named: the node has `size` bytes, and one more if it is added
abbrev pub node_end : List ℕ → ℕ → ℕ → ℕ
node_end b size at = at + size + donor_bytes 1 (byte b at)

-- what stepping over the node at `at` finds: the place after it, within the bytes, or a node that does not lie within them
abbrev pub PastNode : List ℕ → ℕ → ℕ → Option Cursor → Type 0
PastNode b size at (Some next) = (next.at ≡ node_end b size at) × (next.at ≤ length b)
PastNode b size at None = length b < node_end b size at

-- the count of places and the mark of donors are those of the bytes: together they give the length of a node
pub record NodeSize (b : List ℕ) (places : ℕ) (donors : Bool) : Type 0 where
  pub places_is : places ≡ places_of b
  pub places_few : places ≤ 4
  pub donors_is : donors ≡ names_donors b

-- `nodes` is the bytes' count of nodes, and in its range
pub record NodeCount (b : List ℕ) (nodes : ℕ) : Type 0 where
  pub nodes_is : nodes ≡ nodes_of b
  pub some : 1 ≤ nodes
  pub few : nodes ≤ 16

-- `at` is the place of node s, and within the bytes
pub record NodePlace (b : List ℕ) (s at : ℕ) : Type 0 where
  pub place_is : at ≡ node_at b s
  pub inside : at ≤ length b

-- what reading the nodes finds: their count and the place after them, or bytes that are not in the form
abbrev pub NodesOf : List ℕ → Option (ℕ × Cursor) → Type 0
NodesOf b (Some (nodes, next)) = NodeCount b nodes × NodePlace b (nodes_of b) next.at
NodesOf b None = in_form b ≡ false

-- what stepping over the nodes finds: the place after them, or bytes that are not in the form
abbrev pub NodesEnd : List ℕ → Option Cursor → Type 0
NodesEnd b (Some next) = NodePlace b (nodes_of b) next.at
NodesEnd b None = in_form b ≡ false

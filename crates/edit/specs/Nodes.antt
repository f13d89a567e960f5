-- The nodes of a kind in ascending order.
use Rattle.std.specs.Prelude.{ℕ, ◌≤◌, ◌<◌, ◌≡◌, Bool, List, length, get_or, eqb}
use Rattle.std.specs.Prelude.{Some}
use Rattle.base.specs.Below.{count_below}
use Rattle.base.specs.First.{nth_lowest}
use Rattle.edit.specs.declared.nodes.Nodes.{Nodes}

-- s has the kind
abbrev pub is_kind : List ℕ → ℕ → ℕ → Bool
is_kind kinds kind s = eqb (get_or kinds s 0) kind

-- the nodes of a kind among the first k: the first `size` of the list, and 0 after them
pub record Listed (k : ℕ) (kinds : List ℕ) (kind : ℕ) (node : List ℕ) (size : ℕ) : Type 0 where
  pub long : length node ≡ 16
  pub total : size ≡ count_below k (is_kind kinds kind)
  pub each : (j : ℕ) → j < size → nth_lowest k (is_kind kinds kind) j ≡ Some (get_or node j 0)
  pub rest : (j : ℕ) → size ≤ j → get_or node j 0 ≡ 0

pub record NodesOf (nodes : ℕ) (kinds : List ℕ) (kind : ℕ) (r : Nodes) : Type 0 where
  pub listed : Listed nodes kinds kind r.node r.size

-- The trees of left arcs that reach from the hooks: as they grow, and once they span all that is reached.
use Rattle.std.specs.Prelude.{ℕ, ◌+◌, ◌-◌, ◌≤◌, ◌<◌, ◌≡◌, ◌⊎◌, Bool, true, false, cond, List, length, get_or, set, ltb}
use Rattle.base.specs.Below.{count_below}
use Rattle.base.specs.First.{there}
use Rattle.model.specs.Scheme.{left, arcs, arc_part, first_hook}
use Rattle.model.specs.Conditions.{path_to}
use Rattle.model.specs.declared.Scheme.{Scheme}
use Rattle.model.specs.Codes.{entry}
use Rattle.conditions.specs.Arcs.{part_of}
use Rattle.conditions.specs.declared.tree.Tree.{Tree}

-- x and y are the two ends of arc a, in this order or the other
abbrev pub Ends : (ℕ → ℕ → ℕ) → ℕ → ℕ → ℕ → Type 0
Ends part a x y = ((part a 1 ≡ x) × (part a 2 ≡ y)) ⊎ ((part a 1 ≡ y) × (part a 2 ≡ x))

-- one of the first c arcs, of dimension i, joins x and y
pub record ByArc (part : ℕ → ℕ → ℕ) (c i x y : ℕ) : Type 0 where
  pub arc : ℕ
  pub below : arc < c
  pub dim_is : part arc 0 ≡ i
  pub ends : Ends part arc x y

-- the target of x at dimension i is y
pub record ByTarget (targets : List ℕ) (i x y : ℕ) : Type 0 where
  pub node : x < 16
  pub dim : i < 4
  pub is : entry targets x i ≡ y

-- J joins entry k to its parent, which is an earlier entry
pub record Branch (J : ℕ → ℕ → ℕ → Type 0) (node parent dim : List ℕ) (k : ℕ) : Type 0 where
  pub earlier : ℕ
  pub before : earlier < k
  pub parent_is : get_or node earlier 0 ≡ get_or parent k 0
  pub joined : J (get_or dim k 0) (get_or parent k 0) (get_or node k 0)

-- how many hooks there are; `second` is the second one, or 0 if there is none
abbrev pub roots_of : ℕ → ℕ
roots_of second = cond (ltb first_hook second) 2 1

-- the first entries are the hooks, node 0 and then `second`, and have no dimension
pub record Roots (node dim : List ℕ) (second : ℕ) : Type 0 where
  pub first : get_or node 0 0 ≡ first_hook
  pub last : get_or node (roots_of second - 1) 0 ≡ second
  pub bare : (k : ℕ) → k < roots_of second → get_or dim k 0 ≡ 255

-- The entries are trees from the hooks: J joins every entry but a hook to its parent. `reached` marks their nodes.
pub record TreeBy (J : ℕ → ℕ → ℕ → Type 0) (second : ℕ) (t : Tree) : Type 0 where
  pub long_node : length t.node ≡ 16
  pub long_parent : length t.parent ≡ 16
  pub long_dim : length t.dim ≡ 16
  pub long_reached : length t.reached ≡ 16
  pub roots_is : t.roots ≡ roots_of second
  pub some : roots_of second ≤ t.size
  pub total : t.size ≤ count_below 16 (λ s. get_or t.reached s false)
  pub roots : Roots t.node t.dim second
  pub branch : (k : ℕ) → roots_of second ≤ k → k < t.size → Branch J t.node t.parent t.dim k
  pub marked : (k : ℕ) → k < t.size → get_or t.reached (get_or t.node k 0) false ≡ true
  pub found : (s : ℕ) → get_or t.reached s false ≡ true → (k : ℕ) × (k < t.size) × (get_or t.node k 0 ≡ s)
  pub once : (j k : ℕ) → j < t.size → k < t.size → get_or t.node j 0 ≡ get_or t.node k 0 → j ≡ k

-- the trees with one more entry, the node y, which an arc of dimension i joins to its parent x
abbrev pub with_entry : ℕ → ℕ → ℕ → Tree → Tree
with_entry i x y t = record t {
  size = t.size + 1;
  node = set t.node t.size y;
  parent = set t.parent t.size x;
  dim = set t.dim t.size i;
  reached = set t.reached y true;
}

-- trees over targets that have reached node s
pub record Reaching (targets : List ℕ) (second : ℕ) (t : Tree) (s : ℕ) : Type 0 where
  pub tree : TreeBy (ByTarget targets) second t
  pub at : get_or t.reached s false ≡ true

-- trees from the hooks in which one of the first c arcs joins an entry to its parent
abbrev pub Spans : List ℕ → ℕ → ℕ → Tree → Type 0
Spans arcs c = TreeBy (ByArc (part_of arcs) c)

-- a target that is a node is the far end of one of the first c arcs
pub record Aimed (targets arcs : List ℕ) (c : ℕ) : Type 0 where
  pub at : (s i : ℕ) → s < 16 → i < 4 → entry targets s i < 16 → ByArc (part_of arcs) c i s (entry targets s i)

-- the first c arcs join left nodes: neither end is added
pub record Lefts (nodes : ℕ) (kinds arcs : List ℕ) (c : ℕ) : Type 0 where
  pub from : (a : ℕ) → a < c → (part_of arcs a 1 < nodes) × (get_or kinds (part_of arcs a 1) 0 ≡ 3 → ⊥)
  pub to : (a : ℕ) → a < c → (part_of arcs a 2 < nodes) × (get_or kinds (part_of arcs a 2) 0 ≡ 3 → ⊥)

-- both ends of arc a are reached, or neither is
abbrev pub Even : List ℕ → List Bool → ℕ → Type 0
Even arcs reached a = get_or reached (part_of arcs a 1) false ≡ get_or reached (part_of arcs a 2) false

-- after arc a was looked at: if there is no new entry, nothing changed, and the arc does not lead out of the trees
pub record TreeJoined (arcs : List ℕ) (c a second : ℕ) (t₀ t : Tree) : Type 0 where
  pub spans : Spans arcs c second t
  pub longer : t₀.size ≤ t.size
  pub even : t.size ≡ t₀.size → (t.reached ≡ t₀.reached) × Even arcs t.reached a

-- after the first k arcs were looked at: if there is no new entry, none of them leads out of the trees
pub record TreeGrown (arcs : List ℕ) (c k second size₀ : ℕ) (t : Tree) : Type 0 where
  pub spans : Spans arcs c second t
  pub longer : size₀ ≤ t.size
  pub even : t.size ≡ size₀ → (a : ℕ) → a < k → Even arcs t.reached a

-- trees of the first c arcs, and none of these arcs leads out of them
pub record Spanning (arcs : List ℕ) (c second : ℕ) (t : Tree) : Type 0 where
  pub spans : Spans arcs c second t
  pub even : (a : ℕ) → a < c → Even arcs t.reached a

-- The trees of a scheme's left arcs. Their entries are the nodes to which a path leads, each once. The hooks come first, and every parent before its
-- branches.
pub record TreeOf (S : Scheme) (t : Tree) : Type 0 where
  pub roots_is : t.roots ≡ roots_of S.second
  pub some : t.roots ≤ t.size
  pub few : t.size ≤ 16
  pub roots : Roots t.node t.dim S.second
  pub below : (k : ℕ) → k < t.size → get_or t.node k 0 < S.nodes
  pub branch : (k : ℕ) → t.roots ≤ k → k < t.size → Branch (ByArc (arc_part S left) (arcs S left)) t.node t.parent t.dim k
  pub once : (j k : ℕ) → j < t.size → k < t.size → get_or t.node j 0 ≡ get_or t.node k 0 → j ≡ k
  pub path : (k : ℕ) → k < t.size → there (path_to S (get_or t.node k 0)) ≡ true
  pub entry : (s : ℕ) → there (path_to S s) ≡ true → (k : ℕ) × (k < t.size) × (get_or t.node k 0 ≡ s)
  pub reached : (s : ℕ) → s < S.nodes → get_or t.reached s false ≡ there (path_to S s)

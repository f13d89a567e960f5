-- The rows of the left nodes along the trees: what they start from, one row, and all of them.
-- The rows of the hooks, from which they start, are in Retrace.antt.
use Rattle.std.specs.Prelude.{ℕ, ◌+◌, ◌*◌, ◌≤◌, ◌<◌, ◌≡◌, Bool, true, false, List, length, get_or}
use Rattle.model.specs.Map.{Map}
use Rattle.model.specs.Scheme.{left, has}
use Rattle.model.specs.Conditions.{explicit, arc_at}
use Rattle.model.specs.Match.{matches}
use Rattle.model.specs.declared.Scheme.{Scheme}
use Rattle.orbit.specs.Store.{mark, place, dart_at, Taken}
use Rattle.orbit.specs.At.{At, site, WalkedAt}
use Rattle.conditions.specs.Tree.{roots_of, Roots}
use Rattle.matching.specs.Retrace.{Longer, Hung}

-- trees of left arcs over all left nodes: the first entries are the hooks, and any other is a node that an arc joins to the node of an earlier entry
pub record Rooted (S : Scheme) (roots size : ℕ) (node parent dim : List ℕ) : Type 0 where
  pub roots_is : roots ≡ roots_of S.second
  pub some : roots ≤ size
  pub few : size ≤ 16
  pub hooks : Roots node dim S.second
  pub on_left : (k : ℕ) → k < size → (get_or node k 0 < S.nodes) × (has S left (get_or node k 0) ≡ true)
  pub arc : (k : ℕ) → roots ≤ k → k < size → (get_or dim k 0 ≤ S.n) × (arc_at S left (get_or parent k 0) (get_or dim k 0) ≡ explicit (get_or node k 0))
  pub earlier : (k : ℕ) → roots ≤ k → k < size → (j : ℕ) × (j < k) × (get_or node j 0 ≡ get_or parent k 0)
  pub once : (j k : ℕ) → j < size → k < size → get_or node j 0 ≡ get_or node k 0 → j ≡ k
  pub every : (s : ℕ) → s < S.nodes → has S left s ≡ true → (k : ℕ) × (k < size) × (get_or node k 0 ≡ s)

-- an accepted scheme with its trees, at live darts of a map that is well-formed for it, and in the store the rows of the hooks
pub record BeforeMatching (m : Map) (s : List ℕ) (size : ℕ) (nodes parents dims : List ℕ) (roots count : ℕ) : Type 0 where
  pub at : At m
  pub walked : WalkedAt (site at) s size
  pub hung : Hung (site at) s size roots
  pub rooted : Rooted at.scheme roots count nodes parents dims

-- the links lead from the row at `from` to slots
pub record RowLinked (N : ℕ) (link : ℕ → ℕ) (s : List ℕ) (from size : ℕ) : Type 0 where
  pub slot : (r : ℕ) → r < size → link (dart_at s from r) < N

-- from the places `end` on stand the first r darts of a row: those to which the links of the row at `from` lead
pub record Row (N : ℕ) (link : ℕ → ℕ) (from : ℕ) (s s' : List ℕ) (end r : ℕ) : Type 0 where
  pub taken : Taken N s' (end + r)
  pub longer : Longer N s s' end
  pub darts : (q : ℕ) → q < r → place N s' (end + q) ≡ link (dart_at s from q)

-- a row of `size` darts was added, or else the next of its darts has a place already
pub record RowMade (N : ℕ) (link : ℕ → ℕ) (from : ℕ) (s s' : List ℕ) (end size : ℕ) (whole : Bool) : Type 0 where
  pub done : whole ≡ true → Row N link from s s' end size
  pub clash : whole ≡ false → (r : ℕ) × (r < size) × Row N link from s s' end r × (1 ≤ mark s' (link (dart_at s from r)))

-- the first k entries of the trees have their rows, and each but the hooks' was made from its parent's
pub record RowsGrown (m : Map) (nodes parents dims : List ℕ) (roots : ℕ) (s s' rows : List ℕ) (size k : ℕ) : Type 0 where
  pub wide : length rows ≡ 16
  pub taken : Taken m.slots s' (k * size)
  pub longer : Longer m.slots s s' (roots * size)
  pub alive : (e : ℕ) → e < k * size → m.state (place m.slots s' e) ≡ 1
  pub begins : (j : ℕ) → j < k → get_or rows (get_or nodes j 0) 0 ≡ m.slots + j * size
  pub steps : (j r : ℕ) → roots ≤ j → j < k → r < size
      → dart_at s' (get_or rows (get_or nodes j 0) 0) r ≡ m.link (get_or dims j 0) (dart_at s' (get_or rows (get_or parents j 0) 0) r)

-- all entries have their rows, or else there is no match
pub record RowsMade (m : Map) (nodes parents dims : List ℕ) (roots : ℕ) (s s' rows : List ℕ) (size count : ℕ) (whole : Bool) : Type 0 where
  pub done : whole ≡ true → RowsGrown m nodes parents dims roots s s' rows size count
  pub none : whole ≡ false → (R : BeforeMatching m s size nodes parents dims roots count) → matches (site R.at) ≡ false

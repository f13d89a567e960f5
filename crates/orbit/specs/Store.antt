-- The working store of 16 × N words while an edit runs: which word holds what, and what the phases keep true of it.
--   0 .. N - 1     the mark of slot x: 0, or 1 + the place at which the dart x stands
--   N .. 2N - 1    the places: first the darts of the orbit, then for each further left node the darts of its pairs
--   2N .. 3N - 1   the darts of the added pairs, and before a pair has its dart, the tag for it
--   4N .. 8N - 1   for each orbit dart and each position of the orbit type, the place of the dart to which that link leads
--   8N ..          a binary digit for each slot while the added pairs get their darts: 32 to a word, two words to 64 slots, set for the orbit darts
-- Nothing is asked of the other words.
use Rattle.std.specs.Prelude.{ℕ, ◌+◌, ◌*◌, ◌-◌, ◌≤◌, ◌<◌, ◌≡◌, Bool, true, List, length, get_or, ltb, leb}
use Rattle.base.specs.Test.{◌and◌}
use Rattle.base.specs.Below.{count_below}
use Rattle.model.specs.Map.{Map}
use Rattle.model.specs.Scheme.{left, has}
use Rattle.model.specs.Orbit.{orbit}
use Rattle.model.specs.Site.{Site}
use Rattle.model.specs.Match.{image}

unfoldable pub mark : List ℕ → ℕ → ℕ
mark s x = get_or s x 0

unfoldable pub place : ℕ → List ℕ → ℕ → ℕ
place N s e = get_or s (N + e) 0

-- the place of the dart to which the link at position p of the orbit type leads from the dart at place r
unfoldable pub next : ℕ → List ℕ → ℕ → ℕ → ℕ
next N s r p = get_or s (4 * N + 4 * r + p) 0

-- the dart of the pair of the orbit dart at place r and the node whose row begins at `base`
unfoldable pub dart_at : List ℕ → ℕ → ℕ → ℕ
dart_at s base r = get_or s (base + r) 0

-- x stands at some place
unfoldable pub marked : List ℕ → ℕ → Bool
marked s x = ltb 0 (mark s x)

-- x stands at one of the first `size` places
unfoldable pub among : List ℕ → ℕ → ℕ → Bool
among s size x = ltb 0 (mark s x) and leb (mark s x) size

-- the first `end` places hold different slots, each marked with its place, and no other slot is marked
pub record Taken (N : ℕ) (s : List ℕ) (end : ℕ) : Type 0 where
  pub long : length s ≡ 16 * N
  pub fits : end ≤ N
  pub slot : (e : ℕ) → e < end → place N s e < N
  pub back : (e : ℕ) → e < end → mark s (place N s e) ≡ e + 1
  pub found : (x : ℕ) → x < N → 1 ≤ mark s x → (mark s x ≤ end) × (place N s (mark s x - 1) ≡ x)
  pub total : count_below N (marked s) ≡ end

-- How the walk came to place e. It followed the link at `position` of the dart at the earlier place `from`, and that was the first link that led there:
-- of the links of the first `passed` places, each that leads to a later place than e was followed after this one.
pub record Arrived (N k : ℕ) (s : List ℕ) (passed e : ℕ) : Type 0 where
  pub from : ℕ
  pub position : ℕ
  pub before : from < e
  pub below : position < k
  pub leads : next N s from position ≡ e
  pub first : (r : ℕ) → r < passed → (p : ℕ) → p < k → e < next N s r p → 4 * from + position < 4 * r + p

-- The walk from d is done; k and dim are the orbit type. The first `size` places hold the orbit of d, each dart once, in the order in which the links
-- reach them from d. `next` has the links of the orbit, from place to place.
pub record Walked (m : Map) (k : ℕ) (dim : ℕ → ℕ) (d : ℕ) (s : List ℕ) (size : ℕ) : Type 0 where
  pub some : 1 ≤ size
  pub fits : size ≤ m.slots
  pub slot : (r : ℕ) → r < size → place m.slots s r < m.slots
  pub back : (r : ℕ) → r < size → mark s (place m.slots s r) ≡ r + 1
  pub is : (x : ℕ) → x < m.slots → among s size x ≡ orbit m k dim d x
  pub found : (x : ℕ) → x < m.slots → among s size x ≡ true → place m.slots s (mark s x - 1) ≡ x
  pub links : (r p : ℕ) → r < size → p < k → (next m.slots s r p < size)
      × (place m.slots s (next m.slots s r p) ≡ m.link (dim p) (place m.slots s r))
  pub start : place m.slots s 0 ≡ d
  pub reached : (e : ℕ) → 1 ≤ e → e < size → Arrived m.slots k s size e
  pub counted : count_below m.slots (orbit m k dim d) ≡ size

-- what the later phases leave of the store: the orbit's places, their marks and links
pub record Kept (N : ℕ) (s s' : List ℕ) (size : ℕ) : Type 0 where
  pub long : length s' ≡ length s
  pub places : (r : ℕ) → r < size → place N s' r ≡ place N s r
  pub marks : (x : ℕ) → x < N → among s' size x ≡ among s size x
  pub ranks : (x : ℕ) → x < N → among s size x ≡ true → mark s' x ≡ mark s x
  pub nexts : (r p : ℕ) → r < size → p < 4 → next N s' r p ≡ next N s r p

module _ (E : Site) where
  open E use {map as m, scheme as S}

  -- the darts of the left pairs stand in rows, one for each left node: `rows` says where the row of a node begins
  pub record Assigned (s rows : List ℕ) (size : ℕ) : Type 0 where
    pub inside : (v : ℕ) → v < S.nodes → has S left v ≡ true → (m.slots ≤ get_or rows v 0) × (get_or rows v 0 + size ≤ 2 * m.slots)
    pub dart : (v r : ℕ) → v < S.nodes → has S left v ≡ true → r < size → dart_at s (get_or rows v 0) r ≡ image E (place m.slots s r) v

-- The row of the second hook. It is made along the links in the walk's order: step 4 × r + p follows the link at position p of the dart for place r.
-- `second_dart_of` of Match.antt is the same over a path from the dart.
use Rattle.std.specs.Prelude.{ℕ, ◌+◌, ◌*◌, ◌≤◌, ◌<◌, ◌≡◌, ◌⊎◌, ◌≢◌, Bool, true, false, List, get_or}
use Rattle.std.specs.Prelude.{Option, Some, None}
use Rattle.model.specs.Map.{Map}
use Rattle.model.specs.Scheme.{orbit_dim}
use Rattle.model.specs.Site.{Site}
use Rattle.model.specs.Match.{image, matches}
use Rattle.orbit.specs.Store.{mark, place, next, Taken}
use Rattle.orbit.specs.Places.{Pushed}
use Rattle.orbit.specs.At.{At, site, WalkedAt}
use Rattle.conditions.specs.Tree.{roots_of}

-- s' has what s has at its first `end` places and behind the places
pub record Longer (N : ℕ) (s s' : List ℕ) (end : ℕ) : Type 0 where
  pub places : (e : ℕ) → e < end → place N s' e ≡ place N s e
  pub rest : (i : ℕ) → 2 * N ≤ i → get_or s' i 0 ≡ get_or s i 0

-- What `meet` does with dart y at place q of the second hook's row, which has `end` darts so far. One of three:
--   q is filled and holds y: nothing changes;
--   q is the next free place of the row and y has none: y takes it, and the row is one longer;
--   another dart stands for q, or y has a place already: there is no match, `end'` is None, and the store is unchanged.
abbrev pub Met : ℕ → List ℕ → ℕ → ℕ → ℕ → ℕ → List ℕ → Option ℕ → Type 0
Met N s size end q y s' end' =
    ((end' ≡ Some end) × (s' ≡ s) × (q < end) × (place N s (size + q) ≡ y))
    ⊎ (((end' ≡ Some (end + 1)) × (q ≡ end) × Pushed N s (size + end) y s')
    ⊎ ((end' ≡ None) × (s' ≡ s) × (((q < end) × (place N s (size + q) ≢ y)) ⊎ ((q ≡ end) × (1 ≤ mark s y)))))

-- The row has the darts for place r and for the place to which the link at position p leads from r in the orbit, and that link joins them.
pub record Follows (E : Site) (s : List ℕ) (size end r p : ℕ) : Type 0 where
  pub from : r < end
  pub to : next E.map.slots s r p < end
  pub is : E.map.link (orbit_dim E.scheme p) (place E.map.slots s (size + r)) ≡ place E.map.slots s (size + next E.map.slots s r p)

-- The second hook's row after c steps. It has `end` darts, at the places `size` to `size + end - 1`. All are live, and the first is the call's second
-- dart. If the scheme matches, each is the image that the match gives it. Every link followed so far joins two darts of the row as it joins their
-- counterparts in the orbit.
pub record Standing (E : Site) (s : List ℕ) (size c end : ℕ) : Type 0 where
  pub taken : Taken E.map.slots s (size + end)
  pub fits : end ≤ size
  pub alive : (q : ℕ) → q < end → E.map.state (place E.map.slots s (size + q)) ≡ 1
  pub first : 1 ≤ end → place E.map.slots s (size + 0) ≡ E.other
  pub images : matches E ≡ true → (q : ℕ) → q < end → place E.map.slots s (size + q) ≡ image E (place E.map.slots s q) E.scheme.second
  pub links : (r p : ℕ) → p < E.scheme.places → 4 * r + p < c → Follows E s size end r p

-- the rows of the hooks: that of the first is the orbit, that of the second stands behind it, where there is one
pub record Hung (E : Site) (s : List ℕ) (size roots : ℕ) : Type 0 where
  pub taken : Taken E.map.slots s (roots * size)
  pub second : roots ≡ 2 → Standing E s size (4 * size) size

-- what the row of the second hook starts from: the orbit in the store, the orbit type, the other dart, and how many hooks there are
pub record BeforeHanging (m : Map) (s : List ℕ) (size : ℕ) (dims : List ℕ) (k other roots : ℕ) : Type 0 where
  pub at : At m
  pub walked : WalkedAt (site at) s size
  pub taken : Taken m.slots s size
  pub dims_are : dims ≡ at.scheme.orbit
  pub places_are : k ≡ at.scheme.places
  pub other_is : other ≡ at.other
  pub roots_are : roots ≡ roots_of at.scheme.second

-- what following the links of the dart for place `head` starts from: the orbit, and the row of a second hook with the darts met so far
pub record Retracing (m : Map) (s : List ℕ) (size : ℕ) (dims : List ℕ) (k head tail : ℕ) : Type 0 where
  pub at : At m
  pub walked : WalkedAt (site at) s size
  pub named : 1 ≤ at.scheme.second
  pub standing : Standing (site at) s size (4 * head) tail
  pub some : 1 ≤ tail
  pub low : head < size
  pub dims_are : dims ≡ at.scheme.orbit
  pub places_are : k ≡ at.scheme.places

-- Either the links of the darts for the places below `head` were followed, and the row, which had `tail` darts, has `end`; or there is no match, and
-- `end` is None.
pub record Retraced (E : Site) (s s' : List ℕ) (size tail head : ℕ) (end : Option ℕ) : Type 0 where
  pub done : (e : ℕ) → end ≡ Some e → (tail ≤ e) × Standing E s' size (4 * head) e × Longer E.map.slots s s' (size + tail)
  pub none : end ≡ None → matches E ≡ false

-- the row has its dart for every place, and all links were followed; or else there is no match
pub record RetracedAll (E : Site) (s s' : List ℕ) (size : ℕ) (whole : Bool) : Type 0 where
  pub done : whole ≡ true → Standing E s' size (4 * size) size × Longer E.map.slots s s' size
  pub none : whole ≡ false → matches E ≡ false

-- the hooks have their rows, or else there is no match
pub record HungAll (m : Map) (s s' : List ℕ) (size : ℕ) (dims : List ℕ) (k other roots : ℕ) (whole : Bool) : Type 0 where
  pub done : whole ≡ true → (R : BeforeHanging m s size dims k other roots) → Hung (site R.at) s' size roots × Longer m.slots s s' size
  pub none : whole ≡ false → (R : BeforeHanging m s size dims k other roots) → matches (site R.at) ≡ false

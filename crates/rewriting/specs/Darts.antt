-- The darts of all pairs: in the rows of the store, and those of the added pairs in the map. `slots` leaves them so, and `links`
-- starts from it. At the site E, m is the map before the edit, S the scheme, O the orbit.
use Rattle.std.specs.Prelude.{ℕ, ◌+◌, ◌*◌, ◌-◌, ◌≤◌, ◌<◌, ◌≡◌, true, cond, List, length, get_or, eqb}
use Rattle.base.specs.Below.{count_below}
use Rattle.model.specs.Map.{Map, Field, State, Link, Tag, field_of}
use Rattle.model.specs.Scheme.{donor, added}
use Rattle.model.specs.Site.{Site}
use Rattle.model.specs.Match.{image, matches}
use Rattle.model.specs.Edit.{added_darts, room_of, dart_of, after_deletion}
use Rattle.orbit.specs.Store.{mark, place, dart_at}
use Rattle.orbit.specs.At.{At, site, WalkedAt}

-- the words of a slot y of m once it is live with the tag v: its 3-link is itself, and its other links are as they were
abbrev pub new_field : Map → ℕ → ℕ → Field → ℕ
new_field m v y State = 1
new_field m v y (Link i) = cond (eqb i 3) y (m.link i y)
new_field m v y Tag = v

-- where the row of the a-th added node begins
abbrev pub row_start : ℕ → ℕ → ℕ → ℕ
row_start N size a = 2 * N + a * size

-- from `base` on, the store holds `size` slots
pub record HoldsSlots (N : ℕ) (store : List ℕ) (base size : ℕ) : Type 0 where
  pub inside : base + size ≤ length store
  pub slot : (r : ℕ) → r < size → dart_at store base r < N

-- what is known before the first slot is given: the orbit stands in the store, the scheme matches, and there is room
pub record Grant {m : Map} (A : At m) (s₀ : List ℕ) (size many : ℕ) : Type 0 where
  pub long : length s₀ ≡ 16 * m.slots
  pub walked : WalkedAt (site A) s₀ size
  pub every : many ≡ count_below A.scheme.nodes (added A.scheme)
  pub match : matches (site A) ≡ true
  pub room : added_darts (site A) ≤ room_of (site A)

module _ (E : Site) where
  open E use {map as m, scheme as S, orbit as O}

  -- m' has the words of the map without the deleted darts
  pub record Bare (m' : Map) : Type 0 where
    pub at : (f : Field) (y : ℕ) → field_of m' f y ≡ field_of (after_deletion E) f y

  -- where the darts of the added pairs will stand, the store has the tags for them
  pub record TagsNoted (s : List ℕ) (size : ℕ) : Type 0 where
    pub at : (u v : ℕ) → O u ≡ true → v < S.nodes → added S v ≡ true
        → dart_at s (row_start m.slots size (count_below v (added S))) (mark s u - 1) ≡ m.tag (image E u (donor S v))

  -- the darts of all pairs stand in rows
  pub record Darts (s rows : List ℕ) (size : ℕ) : Type 0 where
    pub inside : (v : ℕ) → v < S.nodes → (m.slots ≤ get_or rows v 0) × (get_or rows v 0 + size ≤ 3 * m.slots)
    pub dart : (v r : ℕ) → v < S.nodes → r < size → dart_at s (get_or rows v 0) r ≡ dart_of E (place m.slots s r) v

  -- y is the dart of an added pair
  pub record AddedDart (y : ℕ) : Type 0 where
    pub dart : ℕ
    pub node : ℕ
    pub in_orbit : O dart ≡ true
    pub below : node < S.nodes
    pub is_added : added S node ≡ true
    pub same : dart_of E dart node ≡ y

  -- m' is without the deleted darts and has those of the added pairs live, each with the tag of the dart of its donor
  pub record Given (m' : Map) : Type 0 where
    pub fresh : (u s : ℕ) (f : Field) → O u ≡ true → s < S.nodes → added S s ≡ true
        → field_of m' f (dart_of E u s) ≡ new_field (after_deletion E) (m.tag (image E u (donor S s))) (dart_of E u s) f
    pub other : (y : ℕ) (f : Field) → (AddedDart y → ⊥) → field_of m' f y ≡ field_of (after_deletion E) f y

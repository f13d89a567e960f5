-- The darts of the added pairs: what the giving of slots starts from, what holds once some of the pairs have theirs, and what holds in the end.
use Rattle.std.specs.Prelude.{ℕ, ◌+◌, ◌*◌, ◌-◌, ◌/◌, ◌≤◌, ◌<◌, ◌≡◌, ◌⊎◌, Bool, true, List, length, get_or, ltb}
use Rattle.std.specs.Prelude.{Some}
use Rattle.base.specs.Test.{◌and◌}
use Rattle.base.specs.Below.{count_below}
use Rattle.base.specs.First.{nth_lowest}
use Rattle.base.specs.Binary.{binary}
use Rattle.model.specs.Map.{Map, Field, State, Link, Tag, field_of, max_slots}
use Rattle.model.specs.Scheme.{donor, added}
use Rattle.model.specs.Site.{Site}
use Rattle.model.specs.Match.{image}
use Rattle.model.specs.Edit.{is_free, rank, dart_of, after_deletion}
use Rattle.table.specs.Writes.{set_at, with_field}
use Rattle.orbit.specs.Store.{mark, place, dart_at, among, Kept, Assigned}
use Rattle.orbit.specs.At.{At, site, of_slots}
use Rattle.rewriting.specs.Darts.{Darts, new_field, Given, row_start, Grant, Bare, TagsNoted}

-- ---- one slot

-- some slot from `from` on is unused
pub record SlotLeft (N : ℕ) (state : ℕ → ℕ) (from : ℕ) : Type 0 where
  pub slot : ℕ
  pub fits : slot < N
  pub late : from ≤ slot
  pub is : state slot ≡ 0

-- y is the lowest unused slot from `from` on
pub record Lowest (N : ℕ) (state : ℕ → ℕ) (from y : ℕ) : Type 0 where
  pub fits : y < N
  pub late : from ≤ y
  pub is : state y ≡ 0
  pub first : (z : ℕ) → from ≤ z → z < y → state z ≡ 0 → ⊥

-- m with the slot y live, with a 3-link to itself and the tag v
unfoldable pub revived : Map → ℕ → ℕ → Map
revived m y v = with_field (with_field (with_field m State (set_at m.state y 1)) (Link 3) (set_at (m.link 3) y y)) Tag (set_at m.tag y v)

-- ---- the rows of the added nodes

-- different nodes, with room for their rows
pub record Apart (N size : ℕ) (nodes : List ℕ) (many : ℕ) : Type 0 where
  pub few : many ≤ 16
  pub slots : N ≤ max_slots
  pub room : many * size ≤ N
  pub below : (a : ℕ) → a < many → get_or nodes a 0 < 16
  pub once : (a b : ℕ) → a < b → b < many → get_or nodes a 0 ≡ get_or nodes b 0 → ⊥

-- rows' is rows with the rows of the first `many` of `nodes`
pub record RowsBegin (N size : ℕ) (nodes : List ℕ) (many : ℕ) (rows rows' : List ℕ) : Type 0 where
  pub long : length rows' ≡ length rows
  pub at : (a : ℕ) → a < many → get_or rows' (get_or nodes a 0) 0 ≡ row_start N size a
  pub other : (v : ℕ) → ((a : ℕ) → a < many → get_or nodes a 0 ≡ v → ⊥) → get_or rows' v 0 ≡ get_or rows v 0

-- ---- the pairs one after the other, in the order of their ranks

module _ {m₀ : Map} (A : At m₀) where
  abbrev E : Site
  E = site A

  open E use {map as m, scheme as S, orbit as O}

  -- (u, v) is one of the first `done` added pairs
  pub record Due (done u v : ℕ) : Type 0 where
    pub in_orbit : O u ≡ true
    pub below : v < S.nodes
    pub is_added : added S v ≡ true
    pub early : rank E u v < done

  -- The giving of slots, with the map m' and the store s. It began with the map without the deleted darts, and with s₀. The first `done` added pairs have
  -- their slots, all below `free`. For each of the others the store has its tag.
  pub record Granting (s₀ : List ℕ) (size done free : ℕ) (m' : Map) (s : List ℕ) : Type 0 where
    pub store_long : length s ≡ length s₀
    pub taken : count_below free (is_free E (image E)) ≡ done
    pub low : (u v : ℕ) → Due done u v → dart_of E u v < free
    pub fresh : (u v : ℕ) (f : Field) → Due done u v
        → field_of m' f (dart_of E u v) ≡ new_field (after_deletion E) (m.tag (image E u (donor S v))) (dart_of E u v) f
    pub other : (y : ℕ) (f : Field) → ((u v : ℕ) → Due done u v → dart_of E u v ≡ y → ⊥) → field_of m' f y ≡ field_of (after_deletion E) f y
    pub tag : (u v : ℕ) → O u ≡ true → v < S.nodes → added S v ≡ true → done ≤ rank E u v
        → dart_at s (row_start m.slots size (count_below v (added S))) (mark s₀ u - 1) ≡ m.tag (image E u (donor S v))
    pub dart : (u v : ℕ) → Due done u v → dart_at s (row_start m.slots size (count_below v (added S))) (mark s₀ u - 1) ≡ dart_of E u v
    pub kept : (i : ℕ) → (i < 2 * m.slots) ⊎ (3 * m.slots ≤ i) → get_or s i 0 ≡ get_or s₀ i 0

-- The pairs of `dart`, the orbit dart at place r, come next. `before` is the map before the edit, and `store` the store before the first slot was given.
pub record Turn (N : ℕ) (m : Map) (s : List ℕ) (size many r free : ℕ) : Type 0 where
  pub before : Map
  pub at : At (of_slots N before)
  pub store : List ℕ
  pub grant : Grant at store size many
  pub dart : ℕ
  pub in_orbit : (site at).orbit dart ≡ true
  pub place : mark store dart ≡ r + 1
  pub granting : Granting at store size (count_below dart (site at).orbit * many) free m s

-- ---- the orbit ascending

-- x is the dart at one of the first r places
unfoldable pub early : ℕ → List ℕ → ℕ → ℕ → Bool
early N s r x = ltb x N and among s r x

-- the first `size` places hold different slots, each marked with its place
pub record PlacesMarked (N : ℕ) (s : List ℕ) (size : ℕ) : Type 0 where
  pub few : N ≤ max_slots
  pub long : length s ≡ 16 * N
  pub fits : size ≤ N
  pub slot : (r : ℕ) → r < size → place N s r < N
  pub back : (r : ℕ) → r < size → mark s (place N s r) ≡ r + 1
  pub found : (x : ℕ) → x < N → among s size x ≡ true → place N s (mark s x - 1) ≡ x

-- how many blocks of 64 slots there are, of which the last may be shorter
abbrev pub block_count : ℕ → ℕ
block_count N = (N + 63) / 64

-- how many words of the store have a binary digit for each slot, 32 to a word and two to a block
abbrev pub digit_words : ℕ → ℕ
digit_words N = 2 * block_count N

-- s has the words of s₀ up to the digits
pub record Behind (N : ℕ) (s₀ s : List ℕ) : Type 0 where
  pub long : length s ≡ length s₀
  pub kept : (i : ℕ) → i < 8 * N → get_or s i 0 ≡ get_or s₀ i 0

-- the first k words of digits are 0, and what stands before the digits is as in s₀
pub record NoDigits (N : ℕ) (s₀ : List ℕ) (k : ℕ) (s : List ℕ) : Type 0 where
  pub behind : Behind N s₀ s
  pub zeros : (w : ℕ) → w < k → get_or s (8 * N + w) 0 ≡ 0

-- the digits of the darts at the first r places of s₀ are set and no others, and what stands before the digits is as in s₀
pub record Digits (N : ℕ) (s₀ : List ℕ) (r : ℕ) (s : List ℕ) : Type 0 where
  pub behind : Behind N s₀ s
  pub at : (w : ℕ) → w < digit_words N → get_or s (8 * N + w) 0 ≡ binary 32 (λ k. early N s₀ r (32 * w + k))

-- The pairs of the orbit darts from 64 × w to 64 × w + 63 come next; `number` has a digit for each. The other fields are as in `Turn`.
pub record Block (N : ℕ) (m : Map) (s : List ℕ) (size many w number free : ℕ) : Type 0 where
  pub before : Map
  pub at : At (of_slots N before)
  pub store : List ℕ
  pub grant : Grant at store size many
  pub digits : number ≡ binary 64 (λ k. (site at).orbit (64 * w + k))
  pub granting : Granting at store size (count_below (64 * w) (site at).orbit * many) free m s

-- ---- all pairs

-- what the blocks start from: no pair has its slot, and the store has the digits of the orbit
pub record BeforeBlocks (N : ℕ) (m : Map) (s : List ℕ) (size many : ℕ) : Type 0 where
  pub before : Map
  pub at : At (of_slots N before)
  pub grant : Grant at s size many
  pub bare : Bare (site at) m
  pub tagged : TagsNoted (site at) s size
  pub digits : Digits N s size s

-- what the giving of slots is handed by the phases before it: `nodes` lists the added nodes of the scheme, ascending
pub record BeforeGiving (N : ℕ) (m : Map) (s : List ℕ) (size : ℕ) (nodes : List ℕ) (many : ℕ) (rows : List ℕ) : Type 0 where
  pub before : Map
  pub at : At (of_slots N before)
  pub grant : Grant at s size many
  pub bare : Bare (site at) m
  pub tagged : TagsNoted (site at) s size
  pub node : (a : ℕ) → a < many → nth_lowest at.scheme.nodes (added at.scheme) a ≡ Some (get_or nodes a 0)
  pub assigned : Assigned (site at) s rows size
  pub wide : length rows ≡ 16

-- what it hands on: the map m', and s' and rows' from s
pub record Granted (E : Site) (s : List ℕ) (m' : Map) (s' rows' : List ℕ) (size : ℕ) : Type 0 where
  pub given : Given E m'
  pub darts : Darts E s' rows' size
  pub kept : Kept E.map.slots s s' size
  pub wide : length rows' ≡ 16

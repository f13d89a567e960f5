-- What an edit at the site E does, as statements about the map before it, m, and after it, m': S is the scheme, O the orbit, and f gives the dart
-- of each pair. They leave nothing open: two rewritings at one site are one table (`rewriting-once` of proofs/RewritingOnce.antt).
use Rattle.std.specs.Prelude.{ℕ, ◌+◌, ◌*◌, ◌≤◌, ◌<◌, ◌≡◌, true}
use Rattle.base.specs.Below.{count_below}
use Rattle.model.specs.Map.{Map, Field, field_of, dimension}
use Rattle.model.specs.Scheme.{right, donor, orbit_dim, has, deleted, preserved, added}
use Rattle.model.specs.Conditions.{absent, explicit, implicit, arc_at}
use Rattle.model.specs.Site.{Site}
use Rattle.model.specs.Match.{Assignment}
use Rattle.model.specs.Edit.{is_free}

-- the words of slot x in m' are those in m
abbrev pub SameRecord : Map → Map → ℕ → Type 0
SameRecord m m' x = (k : Field) → dimension k ≤ 3 → field_of m' k x ≡ field_of m k x

-- the words of slot x are zero
abbrev pub ZeroRecord : Map → ℕ → Type 0
ZeroRecord m x = (k : Field) → dimension k ≤ 3 → field_of m k x ≡ 0

module _ (E : Site) where
  open E use {map as m, scheme as S, orbit as O}

  pub record Rewriting (m' : Map) (f : ℕ → ℕ → ℕ) : Type 0 where
    -- the slot count stays
    pub slots : m'.slots ≡ m.slots
    -- the darts of the left pairs are the assignment
    pub assigned : Assignment E f
    -- the added pairs, ordered by u and then by s, take the lowest slots that are free: unused before the edit, or deleted by it
    pub slot : (u s : ℕ) → O u ≡ true → s < S.nodes → added S s ≡ true → f u s < m.slots
    pub was_free : (u s : ℕ) → O u ≡ true → s < S.nodes → added S s ≡ true → is_free E f (f u s) ≡ true
    pub in_order : (u s : ℕ) → O u ≡ true → s < S.nodes → added S s ≡ true
        → count_below (f u s) (is_free E f) ≡ count_below u O * count_below S.nodes (added S) + count_below s (added S)
    -- preserved and added pairs are live; right arcs set their links
    pub alive : (u s : ℕ) → O u ≡ true → s < S.nodes → has S right s ≡ true → m'.state (f u s) ≡ 1
    pub explicit_link : (u s i t : ℕ) → O u ≡ true → s < S.nodes → has S right s ≡ true → arc_at S right s i ≡ explicit t
        → m'.link i (f u s) ≡ f u t
    pub implicit_link : (u s i p : ℕ) → O u ≡ true → s < S.nodes → has S right s ≡ true → arc_at S right s i ≡ implicit p
        → m'.link i (f u s) ≡ f (m.link (orbit_dim S p) u) s
    -- a new dart takes the tag that the dart of its donor had before the edit, whatever becomes of that dart, and α3 of it is itself where n = 2
    pub new_tag : (u s : ℕ) → O u ≡ true → s < S.nodes → added S s ≡ true → m'.tag (f u s) ≡ m.tag (f u (donor S s))
    pub own_link : (u s : ℕ) → O u ≡ true → s < S.nodes → added S s ≡ true → S.n ≡ 2 → m'.link 3 (f u s) ≡ f u s
    -- a preserved dart keeps its tag and every link that its right side does not name
    pub kept_tag : (u s : ℕ) → O u ≡ true → s < S.nodes → preserved S s ≡ true → m'.tag (f u s) ≡ m.tag (f u s)
    pub kept_link : (u s i : ℕ) → O u ≡ true → s < S.nodes → preserved S s ≡ true → arc_at S right s i ≡ absent
        → m'.link i (f u s) ≡ m.link i (f u s)
    -- a deleted slot that no new dart takes becomes six zeros, and all other records stay as they stood. One that is taken holds what is said of the new dart
    pub gone : (u s : ℕ) → O u ≡ true → s < S.nodes → deleted S s ≡ true
        → ((v t : ℕ) → O v ≡ true → t < S.nodes → added S t ≡ true → f v t ≡ f u s → ⊥) → ZeroRecord m' (f u s)
    pub others : (x : ℕ) → ((u s : ℕ) → O u ≡ true → s < S.nodes → f u s ≡ x → ⊥) → SameRecord m m' x

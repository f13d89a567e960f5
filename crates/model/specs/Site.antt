-- The site of an edit: whatever an edit does is asked of it.
use Rattle.std.specs.Prelude.{ℕ, ◌<◌, ◌≡◌, Bool, false}
use Rattle.model.specs.Map.{Map}
use Rattle.model.specs.WellFormed.{WellFormed}
use Rattle.model.specs.Scheme.{orbit_dim, has_second}
use Rattle.model.specs.Accepted.{Accepted}
use Rattle.model.specs.Orbit.{orbit}
use Rattle.model.specs.declared.Scheme.{Scheme}

-- the map before the edit, the scheme, the dart d of the first hook, the dart e of the second, and the orbit of d.
-- An edit at one dart has d for e, as its scheme has node 0 for its second hook.
pub record Site : Type 0 where
  pub map : Map
  pub scheme : Scheme
  pub dart : ℕ
  pub other : ℕ
  pub orbit : ℕ → Bool

-- the site at the darts d and e, where the orbit of d is O
abbrev pub site_with : Map → Scheme → ℕ → ℕ → (ℕ → Bool) → Site
site_with m S d e O = record { map = m; scheme = S; dart = d; other = e; orbit = O }

-- the same, where O is computed
abbrev pub site_at : Map → Scheme → ℕ → ℕ → Site
site_at m S d e = site_with m S d e (orbit m S.places (orbit_dim S) d)

-- a live slot
pub record LiveDart (m : Map) (x : ℕ) : Type 0 where
  pub slot : x < m.slots
  pub alive : m.state x ≡ 1

-- what is asked of a site before the match: the scheme is accepted, the map is well-formed for it, and the darts are live, of which there is one alone
-- where the scheme has one hook
pub record Sound (E : Site) : Type 0 where
  pub accepted : Accepted E.scheme
  pub well : WellFormed E.scheme.n E.map
  pub dart : LiveDart E.map E.dart
  pub other : LiveDart E.map E.other
  pub alone : has_second E.scheme ≡ false → E.other ≡ E.dart

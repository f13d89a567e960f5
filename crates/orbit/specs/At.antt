-- The site of an edit in a map, and its orbit in the store: what every phase of an edit starts from.
use Rattle.std.specs.Prelude.{ℕ, ◌≤◌, List}
use Rattle.model.specs.Map.{Map, max_slots}
use Rattle.model.specs.Scheme.{orbit_dim}
use Rattle.model.specs.Site.{Site, site_at, Sound}
use Rattle.model.specs.declared.Scheme.{Scheme}
use Rattle.orbit.specs.Store.{Walked}

-- an accepted scheme, and live darts of its hooks in a map that is well-formed for it
pub record At (m : Map) : Type 0 where
  pub scheme : Scheme
  pub dart : ℕ
  pub other : ℕ
  pub few : m.slots ≤ max_slots
  pub sound : Sound (site_at m scheme dart other)

abbrev pub site : {m : Map} → At m → Site
site {m} A = site_at m A.scheme A.dart A.other

-- m as a map of N slots: the map before an edit, where the map that is being edited has N
abbrev pub of_slots : ℕ → Map → Map
of_slots N m = record { slots = N; state = m.state; link = m.link; tag = m.tag }

-- the first `size` places hold the orbit of the site
abbrev pub WalkedAt : Site → List ℕ → ℕ → Type 0
WalkedAt E s size = Walked E.map E.scheme.places (orbit_dim E.scheme) E.dart s size

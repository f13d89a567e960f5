-- An accepted scheme at a dart: what is known between the phases, and what comes of it.
use Rattle.std.specs.Prelude.{ℕ, ◌*◌, ◌≡◌, true, cond, List, length}
use Rattle.std.specs.Prelude.{Option}
use Rattle.base.specs.Below.{count_below}
use Rattle.base.specs.First.{there}
use Rattle.model.specs.Map.{Map, table_of, unused}
use Rattle.model.specs.Scheme.{left, right}
use Rattle.model.specs.Site.{Site}
use Rattle.model.specs.Match.{matches}
use Rattle.model.specs.Edit.{edited}
use Rattle.model.specs.Calls.{fit_fault, site_fault, site_done}
use Rattle.model.specs.Answer.{Answer, answered}
use Rattle.model.specs.declared.Refusal.{Refusal}
use Rattle.model.specs.Shaped.{Coded}
use Rattle.orbit.specs.Store.{Taken, Assigned}
use Rattle.orbit.specs.At.{At, site, WalkedAt}

module _ {m : Map} (A : At m) where
  -- the store holds the orbit
  pub record Walking (store : List ℕ) (size : ℕ) : Type 0 where
    pub walked : WalkedAt (site A) store size
    pub taken : Taken m.slots store size

  -- it fits: the store holds the darts of the left pairs
  pub record Fitting (store : List ℕ) (size : ℕ) (rows : List ℕ) : Type 0 where
    pub long : length store ≡ 16 * m.slots
    pub walked : WalkedAt (site A) store size
    pub match : matches (site A) ≡ true
    pub assigned : Assigned (site A) store rows size
    pub wide : length rows ≡ 16

-- what the end of an edit is handed: a match, the scheme's nodes, kinds, donors and arcs, and the number of unused slots
pub record Settling (m : Map) (store : List ℕ) (c : ℕ) (kinds donors lefts rights : List ℕ) (size room : ℕ) (rows : List ℕ) : Type 0 where
  pub at : At m
  pub fitting : Fitting at store size rows
  pub nodes : c ≡ at.scheme.nodes
  pub kinded : kinds ≡ at.scheme.kinds
  pub donors_are : donors ≡ at.scheme.donors
  pub left_coded : Coded at.scheme left lefts
  pub right_coded : Coded at.scheme right rights
  pub free : room ≡ count_below m.slots (unused m)

-- An edit of the table t at a site came to its end, with the answer r and the table t'; `fault` is the refusal, if any.
pub record Settled (fault : Option Refusal) (E : Site) (t : List ℕ) (r : Answer) (t' : List ℕ) : Type 0 where
  pub answer : r ≡ answered (site_done E) fault
  pub table : t' ≡ cond (there fault) t (table_of (edited E))

-- where 9 and 10 are the refusals that are left
abbrev pub Applied : Site → List ℕ → Answer → List ℕ → Type 0
Applied E = Settled (fit_fault E) E

-- where 6 to 10 are left, n being the call's dimension
abbrev pub AppliedAt : ℕ → Site → List ℕ → Answer → List ℕ → Type 0
AppliedAt n E = Settled (site_fault n E) E

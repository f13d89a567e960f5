-- What `assign` is asked, and what it answers.
use Rattle.std.specs.Prelude.{ℕ, ◌≡◌, List, length, is_some}
use Rattle.std.specs.Prelude.{Option, Some}
use Rattle.model.specs.Map.{Map}
use Rattle.model.specs.Scheme.{left}
use Rattle.model.specs.Site.{Site}
use Rattle.model.specs.Match.{matches}
use Rattle.model.specs.Shaped.{Coded}
use Rattle.orbit.specs.Store.{Assigned, Kept}
use Rattle.orbit.specs.At.{site}
use Rattle.matching.specs.Retrace.{BeforeHanging}
use Rattle.matching.specs.Images.{Rooted}

-- the orbit in the store, and the trees of the scheme with the codes of its left arcs
pub record Posed (m : Map) (s : List ℕ) (size : ℕ) (orbit : List ℕ) (k other : ℕ) (nodes parents dims : List ℕ) (roots count : ℕ)
    (codes : List ℕ) : Type 0 where
  pub ready : BeforeHanging m s size orbit k other roots
  pub rooted : Rooted ready.at.scheme roots count nodes parents dims
  pub coded : Coded ready.at.scheme left codes

-- the answer on the match at a site, and what the store and the rows hold where there is one
pub record MatchFound (E : Site) (s s' : List ℕ) (size : ℕ) (answer : Option (List ℕ)) : Type 0 where
  pub is : is_some answer ≡ matches E
  pub long : length s' ≡ length s
  pub assigned : (rows : List ℕ) → answer ≡ Some rows → Assigned E s' rows size
  pub kept : (rows : List ℕ) → answer ≡ Some rows → Kept E.map.slots s s' size
  pub wide : (rows : List ℕ) → answer ≡ Some rows → length rows ≡ 16

-- it is the answer for the site at which it was asked
pub record Answered (m : Map) (s : List ℕ) (size : ℕ) (orbit : List ℕ) (k other : ℕ) (nodes parents dims : List ℕ) (roots count : ℕ)
    (codes s' : List ℕ) (answer : Option (List ℕ)) : Type 0 where
  pub at : (P : Posed m s size orbit k other nodes parents dims roots count codes) → MatchFound (site P.ready.at) s s' size answer

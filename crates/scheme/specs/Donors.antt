-- The donors: what is known before they are read, and once those of the first nodes are.
use Rattle.std.specs.Prelude.{ℕ, ◌≡◌, true, List}
use Rattle.base.specs.Below.{all_below}
use Rattle.base.specs.Filled.{filled}
use Rattle.model.specs.Bytes.{nodes_of, node_at, donor_of}
use Rattle.model.specs.Scheme.{node_form, donor_form, scheme_of}
use Rattle.frame.specs.Frame.{LaidOut}
use Rattle.frame.specs.declared.Layout.{Layout}

-- the nodes are in the form, and `kinds` holds their kinds
pub record DonorsPlaced (b : List ℕ) (l : Layout) (kinds : List ℕ) : Type 0 where
  pub laid : LaidOut b l
  pub nodes : all_below (nodes_of b) (node_form b) ≡ true
  pub kinds_are : kinds ≡ (scheme_of b).kinds

-- the donors of the first s nodes are in the form, `donors` holds them, and `at` is the place of node s
pub record Donated (b : List ℕ) (s at : ℕ) (donors : List ℕ) : Type 0 where
  pub formed : all_below s (donor_form b) ≡ true
  pub place_is : at ≡ node_at b s
  pub donors_is : donors ≡ filled 16 s (donor_of b) 0

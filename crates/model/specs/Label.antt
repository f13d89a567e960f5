-- The label follows the metal: where the tag of a live dart comes from after an edit. The tag is the lot of the sheet, which the label names.
-- At the site E, m is the map before the edit, S the scheme, O the orbit, and f gives the dart of each pair. Every rewriting is such
-- (`label-follows` of proofs/LabelLaws.antt).
use Rattle.std.specs.Prelude.{ℕ, ◌<◌, ◌≡◌, true}
use Rattle.model.specs.Scheme.{left, donor, has, added}
use Rattle.model.specs.Site.{Site, LiveDart}
use Rattle.model.specs.Edit.{is_free}

module _ (E : Site) (f : ℕ → ℕ → ℕ) where
  open E use {map as m, scheme as S, orbit as O}

  -- y is the dart that gives the new dart x its tag: x is the dart of a pair (u, s) whose node s is added, in a slot that was unused or that the edit
  -- deletes, and y is the dart of (u, donor of s). The donor is a left node, so y is a matched dart, and it was live
  pub record Grown (x y : ℕ) : Type 0 where
    pub dart : ℕ
    pub node : ℕ
    pub in_orbit : O dart ≡ true
    pub below : node < S.nodes
    pub is_added : added S node ≡ true
    pub new : f dart node ≡ x
    pub was_free : is_free E f x ≡ true
    pub donor_below : donor S node < S.nodes
    pub donor_left : has S left (donor S node) ≡ true
    pub giver : f dart (donor S node) ≡ y
    pub alive : LiveDart m y

  -- v, which the dart x has as its tag after the edit, is the tag that a dart had before it
  pub data Label (x v : ℕ) : Type 0 where
    -- its own: x was live, and stays
    own : LiveDart m x → v ≡ m.tag x → Label x v
    -- that of the metal it grows on
    given : (y : ℕ) → Grown x y → v ≡ m.tag y → Label x v

-- The form of the bytes, taken apart and put together.
use Prim.Native.Nat.{ℕ, ◌+◌, ◌*◌, ◌≤◌, ◌<◌}
use mathlib.Core.Path.{◌≡◌, ap}
use mathlib.Core.Logic.{◌⊎◌, inl, inr, ⊎_elim}
use mathlib.Core.Bool.{Bool, true, false, cond}
use mathlib.Core.List.{List}
use borrow.Author.Tests.{eqb-true, eq-eqb, leb-true, le-leb, ltb-true, lt-ltb}
use lib.ListN.{length}
use Rattle.base.specs.Below.{all_below}
use Rattle.base.proofs.TestLaws.{and_left, and_right, and_of, or_cases, or_left, or_right, if_so, if_of}
use Rattle.model.specs.Bytes.{on_side, byte, names_second, dimension_of, places_of, nodes_of, has_donor, node_at}
use Rattle.model.specs.Bytes.{kind_at, donor_of, second_of, arc_count, arc_byte, end_at}
use Rattle.model.specs.Scheme.{Side, left, right, orbit_form, node_form, donor_form, second_form, arc_form, arcs_form, in_form}

module _ (b : List ℕ) where
  pub record Parts : Type 0 where
    pub dimension : (dimension_of b ≡ 2) ⊎ (dimension_of b ≡ 3)
    pub orbit : orbit_form b ≡ true
    pub nodes_some : 1 ≤ nodes_of b
    pub nodes_few : nodes_of b ≤ 16
    pub nodes : all_below (nodes_of b) (node_form b) ≡ true
    pub donors : all_below (nodes_of b) (donor_form b) ≡ true
    pub second : second_form b ≡ true
    pub arcs : (side : Side) → arcs_form b side ≡ true
    pub ends : length b ≡ end_at b

  pub parts : in_form b ≡ true → Parts
  unfolding in_form
  parts q =
      let q₁ = and_left _ _ q in
      let q₂ = and_left _ _ q₁ in
      let q₃ = and_left _ _ q₂ in
      let q₄ = and_left _ _ q₃ in
      let q₅ = and_left _ _ q₄ in
      let q₆ = and_left _ _ q₅ in
      let q₇ = and_left _ _ q₆ in
      let q₈ = and_left _ _ q₇ in
      record {
        dimension = ⊎_elim (λ e. inl (eqb-true _ _ e)) (λ e. inr (eqb-true _ _ e)) (or_cases _ _ (and_left _ _ q₈));
        orbit = and_right _ _ q₈;
        nodes_some = leb-true _ _ (and_right _ _ q₇);
        nodes_few = leb-true _ _ (and_right _ _ q₆);
        nodes = and_right _ _ q₅;
        donors = and_right _ _ q₄;
        second = and_right _ _ q₃;
        arcs = sides (and_right _ _ q₂) (and_right _ _ q₁);
        ends = eqb-true _ _ (and_right _ _ q);
      }
    where
      sides : arcs_form b left ≡ true → arcs_form b right ≡ true → (side : Side) → arcs_form b side ≡ true
      sides l r left = l
      sides l r right = r

  pub whole : Parts → in_form b ≡ true
  unfolding in_form
  whole f = and_of (and_of (and_of (and_of (and_of (and_of (and_of (and_of (and_of
      (⊎_elim (λ e. or_left _ (eq-eqb _ _ e)) (λ e. or_right _ (eq-eqb _ _ e)) f.dimension)
      f.orbit) (le-leb _ _ f.nodes_some)) (le-leb _ _ f.nodes_few)) f.nodes) f.donors)
      f.second) (f.arcs left)) (f.arcs right)) (eq-eqb _ _ f.ends)

  pub places-few : Parts → places_of b ≤ dimension_of b + 1
  unfolding orbit_form
  places-few f = leb-true _ _ (and_left _ _ (and_left _ _ f.orbit))

  pub arcs-few : Parts → (side : Side) → arc_count b side ≤ 64
  unfolding arcs_form
  arcs-few f side = leb-true _ _ (and_left _ _ (f.arcs side))

-- the form of a donor, taken apart
pub record DonorParts (b : List ℕ) (s : ℕ) : Type 0 where
  pub node : donor_of b s < nodes_of b
  pub on_left : on_side left (kind_at b (donor_of b s)) ≡ true

pub donor-parts : (b : List ℕ) (s : ℕ) → donor_form b s ≡ true → has_donor b (kind_at b s) ≡ true → DonorParts b s
unfolding donor_form
donor-parts b s q e = let q₁ = if_so _ q e in record { node = ltb-true _ _ (and_left _ _ q₁); on_left = and_right _ _ q₁ }

pub donor-whole : (b : List ℕ) (s : ℕ) → (has_donor b (kind_at b s) ≡ true → DonorParts b s) → donor_form b s ≡ true
unfolding donor_form
donor-whole b s f = if_of _ (λ e. let p = f e in and_of (lt-ltb _ _ p.node) p.on_left)

-- no donor is named: node 0 stands for it
pub donor-none : (b : List ℕ) (s : ℕ) → has_donor b (kind_at b s) ≡ false → donor_of b s ≡ 0
unfolding donor_of
donor-none b s e = ap (λ (c : Bool). cond c (byte b (node_at b s + 1 + 2 * places_of b)) 0) e

-- the form of the second hook, taken apart
pub record SecondParts (b : List ℕ) : Type 0 where
  pub other : 1 ≤ second_of b
  pub node : second_of b < nodes_of b
  pub on_left : on_side left (kind_at b (second_of b)) ≡ true

pub second_parts : (b : List ℕ) → second_form b ≡ true → names_second b ≡ true → SecondParts b
unfolding second_form
second_parts b q e =
    let q₁ = if_so _ q e in
    let q₂ = and_left _ _ q₁ in
    record { other = leb-true _ _ (and_left _ _ q₂); node = ltb-true _ _ (and_right _ _ q₂); on_left = and_right _ _ q₁ }

pub second-whole : (b : List ℕ) → (names_second b ≡ true → SecondParts b) → second_form b ≡ true
unfolding second_form
second-whole b f = if_of _ (λ e. let p = f e in and_of (and_of (le-leb _ _ p.other) (lt-ltb _ _ p.node)) p.on_left)

-- no second hook is named: node 0 stands for it
pub second_none : (b : List ℕ) → names_second b ≡ false → second_of b ≡ 0
unfolding second_of
second_none b e = ap (λ (c : Bool). cond c (byte b (node_at b (nodes_of b))) 0) e

-- the form of an arc, taken apart
pub record ArcParts (b : List ℕ) (side : Side) (a : ℕ) : Type 0 where
  pub dim : arc_byte b side a 0 ≤ dimension_of b
  pub order : arc_byte b side a 1 ≤ arc_byte b side a 2
  pub node : arc_byte b side a 2 < nodes_of b
  pub from : on_side side (kind_at b (arc_byte b side a 1)) ≡ true
  pub to : on_side side (kind_at b (arc_byte b side a 2)) ≡ true

pub arc-parts : (b : List ℕ) (side : Side) (a : ℕ) → arc_form b side a ≡ true → ArcParts b side a
unfolding arc_form
arc-parts b side a q =
    let q₁ = and_left _ _ q in
    let q₂ = and_left _ _ q₁ in
    let q₃ = and_left _ _ q₂ in
    record {
      dim = leb-true _ _ (and_left _ _ (and_left _ _ q₃));
      order = leb-true _ _ (and_right _ _ (and_left _ _ q₃));
      node = ltb-true _ _ (and_right _ _ q₃);
      from = and_right _ _ q₂;
      to = and_right _ _ q₁;
    }

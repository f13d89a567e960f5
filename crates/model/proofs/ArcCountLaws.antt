-- How many arcs a side of few nodes has at the most, and how many nodes have donors beside the left ones.
use Prim.Native.Nat.{ℕ, zero, suc, ◌+◌, ◌*◌, ◌≤◌, ◌<◌}
use mathlib.Core.Path.{◌≡◌, refl, ap}
use mathlib.Core.Logic.{⊎_elim}
use mathlib.Core.Bool.{true, not}
use mathlib.Core.List.{List}
use native.Mathlib.Omega.{arith}
use borrow.Author.Tests.{eqb-true, ltb-true}
use Rattle.base.specs.Test.{◌or◌}
use Rattle.base.specs.Below.{count_below}
use Rattle.base.proofs.TestLaws.{and_left, and_right, or_cases}
use Rattle.base.proofs.BelowLaws.{below_suc, all-at, count_mono, count_not, count_lt, count-up}
use Rattle.base.proofs.AscentLaws.{ascending_few}
use Rattle.model.specs.Bytes.{on_side, nodes_of, has_donor, kind_at, arc_count, arc_byte}
use Rattle.model.specs.Scheme.{Side, left, before, arc_form, arcs_form, in_form}
use Rattle.model.proofs.NodePlaceLaws.{donors_to}
use Rattle.model.proofs.FormLaws as F
use Rattle.model.proofs.SchemeLaws.{small}

-- ---- triples of numbers

-- (i, s, t) comes before (j, u, v) as triples: the first number that differs decides
data Earlier (i s t j u v : ℕ) : Type 0 where
  first : i < j → Earlier i s t j u v
  second : i ≡ j → s < u → Earlier i s t j u v
  third : i ≡ j → s ≡ u → t < v → Earlier i s t j u v

-- the test of the form says so
earlier : (i s t j u v : ℕ) → before i s t j u v ≡ true → Earlier i s t j u v
earlier i s t j u v q = ⊎_elim
    (λ e. first (ltb-true i j e))
    (λ e.
    let same : i ≡ j = eqb-true i j (and_left _ _ e) in
    ⊎_elim
    (λ f. second same (ltb-true s u f))
    (λ f. third same (eqb-true s u (and_left _ _ f)) (ltb-true t v (and_right _ _ f)))
    (or_cases _ _ (and_right _ _ e)))
    (or_cases _ _ q)

-- of the pairs of numbers up to 4, the smaller first, row p + q come before (p, q)
row : ℕ → ℕ
row zero = 0
row (suc zero) = 4
row (suc (suc zero)) = 7
row (suc (suc (suc zero))) = 9
row (suc (suc (suc (suc p)))) = 10

-- the last pair, (4, 4), has 14 before it
row-few : (p : ℕ) → row p ≤ 10
unfolding row
row-few zero = omega arith
row-few (suc zero) = omega arith
row-few (suc (suc zero)) = omega arith
row-few (suc (suc (suc zero))) = omega arith
row-few (suc (suc (suc (suc p)))) = omega arith

-- after the last pair that begins with p comes the first one that begins with p + 1
row_next : (p : ℕ) → p < 4 → row p + 5 ≡ row (suc p) + suc p
unfolding row
row_next zero h = refl
row_next (suc zero) h = refl
row_next (suc (suc zero)) h = refl
row_next (suc (suc (suc zero))) h = refl
row_next (suc (suc (suc (suc p)))) h = absurd (omega arith)

-- a pair that begins with less comes earlier
row-rises : (p r : ℕ) → p < r → r ≤ 4 → row p + 4 < row r + r
row-rises p zero h l = absurd (omega arith)
row-rises p (suc r) h l = ⊎_elim
    (λ e. omega (arith, row_next r (omega arith), ap row e))
    (λ w. omega (arith, row_next r (omega arith), row-rises p r w (omega arith)))
    (below_suc h)

-- how many triples of a dimension and such a pair come before (d, p, q)
abbrev place_of : ℕ → ℕ → ℕ → ℕ
place_of d p q = d * 15 + row p + q

-- four dimensions and fifteen pairs are 60
place-few : (d p q : ℕ) → d ≤ 3 → q ≤ 4 → place_of d p q < 60
place-few d p q h l = omega (arith, row-few p)

-- a triple that comes earlier has fewer before it
place-rises : (d p q e r s : ℕ) → q ≤ 4 → r ≤ s → s ≤ 4 → Earlier d p q e r s → place_of d p q < place_of e r s
place-rises d p q e r s h k l (first m) = omega (arith, row-few p)
place-rises d p q e r s h k l (second same m) = omega (arith, row-rises p r m (omega arith))
place-rises d p q e r s h k l (third same alike m) = omega (arith, ap row alike)

-- ---- the arcs of a side

-- how many of the first s nodes are on the side
abbrev pub nodes_to : List ℕ → Side → ℕ → ℕ
nodes_to b side s = count_below s (λ t. on_side side (kind_at b t))

module _ (b : List ℕ) (q : in_form b ≡ true) (side : Side) (few : nodes_to b side (nodes_of b) ≤ 5) where
  -- each arc is in the form
  formed : (a : ℕ) → a < arc_count b side → arc_form b side a ≡ true
  unfolding arcs_form
  formed a h = all-at _ _ (and_right _ _ ((F.parts b q).arcs side)) a h

  -- an arc's dimension is at most 3, and both of its nodes are among the first five of the side, the smaller first
  record Placed (a : ℕ) : Type 0 where
    dim : arc_byte b side a 0 ≤ 3
    order : nodes_to b side (arc_byte b side a 1) ≤ nodes_to b side (arc_byte b side a 2)
    far : nodes_to b side (arc_byte b side a 2) ≤ 4

  placed : (a : ℕ) → a < arc_count b side → Placed a
  placed a h =
      let f = F.arc-parts b side a (formed a h) in
      let n3 = small b q in
      let below : nodes_to b side (arc_byte b side a 2) < nodes_to b side (nodes_of b) = count_lt _ _ _ f.node f.to in
      record { dim = omega arith; order = count-up _ _ _ f.order; far = omega arith }

  -- the place of arc a among all that five nodes can have
  abbrev arc_place : ℕ → ℕ
  arc_place a = place_of (arc_byte b side a 0) (nodes_to b side (arc_byte b side a 1)) (nodes_to b side (arc_byte b side a 2))

  -- its place is one of 60
  arc-few : (a : ℕ) → a < arc_count b side → arc_place a < 60
  arc-few a h = let f = placed a h in place-few _ (nodes_to b side (arc_byte b side a 1)) _ f.dim f.far

  -- where the nodes of a side are counted by themselves, the order of arcs stays
  ranked : (i s t j u v : ℕ) → on_side side (kind_at b s) ≡ true → on_side side (kind_at b t) ≡ true → Earlier i s t j u v
      → Earlier i (nodes_to b side s) (nodes_to b side t) j (nodes_to b side u) (nodes_to b side v)
  ranked i s t j u v e f (first h) = first h
  ranked i s t j u v e f (second same h) = second same (count_lt _ s u h e)
  ranked i s t j u v e f (third same alike h) = third same (ap (nodes_to b side) alike) (count_lt _ t v h f)

  -- an earlier arc has an earlier place
  arc-rises : (o a : ℕ) → o < a → a < arc_count b side → arc_place o < arc_place a
  unfolding arc_form
  arc-rises o a h l =
      let near = placed o (omega arith) in
      let next = placed a l in
      let f = F.arc-parts b side o (formed o (omega arith)) in
      let order = earlier _ _ _ _ _ _ (all-at _ _ (and_right _ _ (formed a l)) o h) in
      place-rises _ _ _ _ _ _ near.far next.order next.far (ranked _ _ _ _ _ _ f.from f.to order)

  -- a side of at most five nodes has at most 60 arcs
  pub five_nodes : arc_count b side ≤ 60
  five_nodes = ascending_few arc_place (arc_count b side) 60 arc-rises arc-few

-- ---- the donors

-- a node with a donor byte is an added one, and so is not on the left
donor-right : (b : List ℕ) (k : ℕ) → has_donor b k ≡ true → not (on_side left k) ≡ true
unfolding has_donor ◌or◌
donor-right b k e = let added : k ≡ 3 = eqb-true k 3 (and_right _ _ e) in rw added refl

-- the nodes that have a donor byte and the left nodes are at most all
pub donors-apart : (b : List ℕ) (s : ℕ) → donors_to b s + nodes_to b left s ≤ s
donors-apart b s =
    let others : donors_to b s ≤ count_below s (λ t. not (on_side left (kind_at b t))) = count_mono s _ _ (λ t h. donor-right b (kind_at b t)) in
    omega (arith, count_not s (λ t. on_side left (kind_at b t)))

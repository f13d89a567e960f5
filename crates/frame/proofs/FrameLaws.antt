-- What the first byte says, and where the nodes are. A count out of its range, or sections that do not fill the bytes, refute the form.
use Prim.Native.Nat.{ℕ, ◌+◌, ◌*◌, ◌-◌, ◌≤◌, ◌<◌}
use mathlib.Core.Path.{◌≡◌, refl, sym, ap, ap₂, ◌∙◌}
use mathlib.Core.Logic.{◌⊎◌, inl, inr, ⊎_elim}
use mathlib.Core.Bool.{Bool, true, false, cond}
use mathlib.Core.List.{List}
use native.Mathlib.Nat.{eq-or-lt_of_le}
use native.Mathlib.Omega.{arith}
use lib.ListN.{length}
use lib.Dec.{eqb, leb}
use borrow.Author.Tests.{le-leb, lt-leb, eq-eqb, ne_eqb}
use Rattle.base.specs.Test.{◌and◌, bit}
use Rattle.base.proofs.TestLaws.{true_or_false, refuted}
use Rattle.model.specs.Bytes.{byte, names_second, hookless, names_donors, dimension_of, places_of, nodes_of, has_donor, node_at, kind_at, arcs_at}
use Rattle.model.specs.Scheme.{Side, left, right, in_form}
use Rattle.model.proofs.NodePlaceLaws.{node-next, node-place, node-rises}
use Rattle.model.proofs.FormLaws.{Parts, parts, places-few, arcs-few}
use Rattle.frame.specs.Place.{after, fits}
use Rattle.frame.specs.Nodes.{NodeSize, NodePlace, donor_bytes, node_end, PastNode}
use Rattle.frame.specs.Frame.{mark_of, MarksOf, LaidOut}
use Rattle.std.specs.Prelude.{Some, None}
use Rattle.std.specs.Int.{from_bool}
use Rattle.frame.specs.declared.cursor.Cursor.{Cursor}
use Rattle.frame.specs.declared.Marks.{Marks}
use Rattle.frame.specs.declared.Layout.{Layout}
use Rattle.frame.proofs.PlaceLaws.{fitting}

pub two_or_three : {n : ℕ} → 2 ≤ n → n ≤ 3 → (n ≡ 2) ⊎ (n ≡ 3)
two_or_three h k = ⊎_elim (λ e. inl (sym e)) (λ l. inr (omega arith)) (eq-or-lt_of_le h)

-- ---- the marks of the first byte

-- a flag as a number
pub from_bool-bit : (flag : Bool) → from_bool flag ≡ bit flag
from_bool-bit true = refl
from_bool-bit false = refl

pub marked : (weight start : ℕ) → weight ≤ start → true ≡ mark_of weight start
marked weight start h = sym (le-leb _ _ h)

pub unmarked : (weight start : ℕ) → start < weight → false ≡ mark_of weight start
unmarked weight start h = sym (lt-leb _ _ h)

-- what the mark of a weight leaves of a first byte
rest_of : (weight start : ℕ) → start - weight * bit (mark_of weight start) ≡ cond (leb weight start) (start - weight) start
rest_of weight start = less (leb weight start)
  where
    less : (c : Bool) → start - weight * bit c ≡ cond c (start - weight) start
    less true = omega arith
    less false = omega arith

-- what the first byte says: whether a second hook and donors are named, and n
pub first_told : (b : List ℕ) {start : ℕ} {m : Marks} → start ≡ byte b 0 → MarksOf start m
    → (m.hook ≡ names_second b) × (m.donors ≡ names_donors b) × (m.n ≡ dimension_of b)
unfolding names_second hookless names_donors dimension_of
first_told b {start} {m} e w =
    let hook : m.hook ≡ mark_of 32 (byte b 0) = w.hook_is ∙ ap (mark_of 32) e in
    let rest : start - 32 * bit m.hook ≡ hookless b = ap₂ (λ (s : ℕ) (k : Bool). s - 32 * bit k) e hook ∙ rest_of 32 (byte b 0) in
    let donors : m.donors ≡ mark_of 16 (hookless b) = w.donors_is ∙ ap (mark_of 16) rest in
    (hook, donors, w.n_is ∙ ap₂ (λ (s : ℕ) (k : Bool). s - 16 * bit k) rest donors ∙ rest_of 16 (hookless b))

-- ---- where the nodes are

module _ (b : List ℕ) where
  -- how many bytes name a donor
  donor-bytes : {donors : ℕ} (kind : ℕ) → donors ≡ bit (names_donors b) → donor_bytes donors kind ≡ bit (has_donor b kind)
  unfolding has_donor ◌and◌
  donor-bytes kind e = ap (λ (d : ℕ). cond (eqb kind 3) d 0) e ∙ joined (names_donors b) (eqb kind 3)
    where
      joined : (c d : Bool) → cond d (bit c) 0 ≡ bit (c and d)
      joined true true = refl
      joined true false = refl
      joined false true = refl
      joined false false = refl

  -- the next node comes after the words of node s and its donor, if it has one
  pub node-after : {donors kind place extra : ℕ} (s : ℕ) → donors ≡ bit (names_donors b) → kind ≡ kind_at b s → place ≡ node_at b s + 1 + 2 * places_of b
      → extra ≡ donor_bytes donors kind → place + extra ≡ node_at b (s + 1)
  node-after {kind} {extra} s d k p e =
      let one : extra ≡ bit (has_donor b (kind_at b s)) = e ∙ donor-bytes kind d ∙ ap (λ (x : ℕ). bit (has_donor b x)) k in
      omega (arith, node-next b s)

-- stepping over the node at `at`, if donors are named: its words, or its donor, may lie outside the bytes
module _ (b : List ℕ) (size at : ℕ) where
  pub words-cut : length b < at + size → PastNode b size at None
  words-cut h = omega arith

  pub plain-past : {kind : ℕ} → kind ≡ byte b at → (kind ≡ 3 → ⊥) → at + size ≤ length b → PastNode b size at (Some (record { at = at + size }))
  plain-past k h l = rw (ne_eqb _ _ (λ e. h (k ∙ e))) (omega arith, l)

  pub donor-cut : {kind : ℕ} → kind ≡ byte b at → kind ≡ 3 → length b ≤ at + size → PastNode b size at None
  donor-cut k h l = rw (eq-eqb _ _ (sym k ∙ h)) (omega arith)

  pub donor-past : {kind : ℕ} → kind ≡ byte b at → kind ≡ 3 → at + size < length b → PastNode b size at (Some (record { at = at + size + 1 }))
  donor-past k h l = rw (eq-eqb _ _ (sym k ∙ h)) (refl, omega arith)

-- ---- the form is refuted

module _ (b : List ℕ) where
  impossible : (Parts b → ⊥) → in_form b ≡ false
  impossible f = ⊎_elim (λ q. absurd (f (parts b q))) (λ q. q) (true_or_false (in_form b))

  pub no_bytes : length b ≤ 0 → in_form b ≡ false
  no_bytes h = impossible (λ f. omega arith)

  pub low-dimension : dimension_of b < 2 → in_form b ≡ false
  low-dimension h = impossible (λ f. ⊎_elim (λ e. omega arith) (λ e. omega arith) f.dimension)

  pub high_dimension : 3 < dimension_of b → in_form b ≡ false
  high_dimension h = impossible (λ f. ⊎_elim (λ e. omega arith) (λ e. omega arith) f.dimension)

  pub no_places : fits b 1 0 (dimension_of b + 1) 1 ≡ false → in_form b ≡ false
  unfolding after
  no_places e = refuted (λ q. let f = parts b q in let k = places-few b f in
      fitting b 1 0 (dimension_of b + 1) 1 (record { some = omega arith; few = k; within = omega (arith, node-place b (nodes_of b)) })) e

  pub no_nodes : {most : ℕ} → fits b (2 + places_of b) 1 most (1 + 2 * places_of b) ≡ false → 16 ≤ most → in_form b ≡ false
  unfolding after
  no_nodes {most} e h = refuted (λ q. let f = parts b q in
      fitting b (2 + places_of b) 1 most (1 + 2 * places_of b)
      (record { some = f.nodes_some; few = omega arith; within = omega (arith, node-place b (nodes_of b)) })) e

  -- node s does not lie within the bytes
  no_node : (s : ℕ) → s < nodes_of b → length b < node_at b (s + 1) → in_form b ≡ false
  no_node s h l = impossible (λ f. omega (arith, node-rises b (s + 1) (nodes_of b) (omega arith)))

  pub no_arcs : (side : Side) → fits b (arcs_at b side) 0 64 3 ≡ false → in_form b ≡ false
  unfolding after
  no_arcs side e = refuted (λ q. let f = parts b q in
      fitting b (arcs_at b side) 0 64 3 (record { some = omega arith; few = arcs-few b f side; within = within f side })) e
    where
      within : Parts b → (side : Side) → after b (arcs_at b side) 3 ≤ length b
      within f left = omega arith
      within f right = omega arith

  pub other-end : (after b (arcs_at b right) 3 ≡ length b → ⊥) → in_form b ≡ false
  unfolding after
  other-end h = impossible (λ f. h (omega arith))

-- stepping over node s, if donors are named: the next node follows it, or it does not lie within the bytes
module _ {b : List ℕ} {places w s at : ℕ} (z : NodeSize b places true) (e : w ≡ places) (p : NodePlace b s at) where
  next : node_end b (1 + 2 * w) at ≡ node_at b (s + 1)
  next = node-after b s (ap bit z.donors_is) (ap (byte b) p.place_is) (omega (arith, z.places_is, p.place_is)) refl

  pub node-passed : {c : Cursor} → PastNode b (1 + 2 * w) at (Some c) → NodePlace b (s + 1) c.at
  node-passed n = record { place_is = n.0 ∙ next; inside = n.1 }

  pub node-cut : s < nodes_of b → PastNode b (1 + 2 * w) at None → in_form b ≡ false
  node-cut l n = no_node b s l (rw next at n)

-- ---- what a layout tells

module _ (b : List ℕ) (l : Layout) (laid : LaidOut b l) where
  pub dimension-small : dimension_of b ≤ 3
  dimension-small = let h = laid.headed in ⊎_elim (λ e. omega arith) (λ e. omega arith) h.dimension

  pub places-small : places_of b ≤ 4
  places-small = let h = laid.headed in let n3 = dimension-small in omega arith

  -- the orbit type and the count of the nodes after it
  pub count-inside : 2 + places_of b < length b
  count-inside = omega (arith, node-place b (nodes_of b))

  -- a node with its words and its donor
  pub node-inside : (s : ℕ) → s < nodes_of b → node_at b s + 1 + 2 * places_of b + bit (has_donor b (kind_at b s)) ≤ length b
  node-inside s h = omega (arith, node-next b s, node-rises b (s + 1) (nodes_of b) (omega arith))

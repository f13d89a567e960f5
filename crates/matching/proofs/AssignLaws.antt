-- The laws of `assign`: with all rows in the store, the arcs pass their tests just where there is a match, and then each dart is the image of its pair.
use Prim.Native.Nat.{ℕ, ◌+◌, ◌*◌, ◌-◌, ◌/◌, ◌%◌, ◌≤◌, ◌<◌}
use mathlib.Core.Path.{◌≡◌, refl, sym, ap, ap₂, ◌∙◌, subst}
use mathlib.Core.Logic.{◌⊎◌, inl, inr, ⊎_elim, by_cases}
use mathlib.Core.Bool.{Bool, true, false}
use mathlib.Core.List.{List}
use native.Mathlib.Nat.{mul-le-mul_right}
use native.Mathlib.Decide.{dec_lt}
use native.Mathlib.Omega.{arith}
use lib.ListN.{length, get_or}
use Rattle.std.specs.Bool.{then_some}
use Rattle.std.proofs.Common.{None}
use Rattle.std.proofs.lemmas.Option.{none-some, same_Some}
use borrow.Author.Tests.{eqb-true, eq-eqb, ne_eqb, ltb-true, lt-ltb, le-ltb}
use Rattle.base.specs.Test.{◌or◌}
use Rattle.base.proofs.TestLaws.{or_cases, or_right, same_test}
use Rattle.base.proofs.BelowLaws.{all-at, all_of}
use Rattle.base.proofs.RowLaws.{digits, row-end, row-cell}
use Rattle.model.specs.Map.{Map}
use Rattle.model.specs.Scheme.{left, orbit_dim, word, arc_part, has, first_hook}
use Rattle.model.specs.Conditions.{Arc, absent, explicit, implicit, arc_at}
use Rattle.model.specs.Site.{Site}
use Rattle.model.specs.Match.{image, matches, Assignment}
use Rattle.model.proofs.AcceptedLaws.{one_side, small}
use Rattle.model.proofs.ArcLaws.{SingleSide, explicit-at, explicit-end, implicit-at, implicit-from, far_from, far-to, touches-from, touches-to}
use Rattle.model.proofs.HookLaws.{first-hook, second-hook}
use Rattle.model.proofs.MatchLaws.{assigns_match}
use Rattle.orbit.specs.At.{site}
use Rattle.orbit.specs.Store.{mark, place, next, dart_at, Taken, Assigned}
use Rattle.model.specs.Codes.{arc_code}
use Rattle.model.specs.Shaped.{Coded}
use Rattle.matching.specs.Retrace.{Longer, HungAll}
use Rattle.matching.specs.Images.{BeforeMatching, RowsGrown}
use Rattle.matching.specs.ArcTests.{Turns, follows, explicit_test, implicit_test, code_test, arc_test, arcs_test, Firm}
use Rattle.matching.specs.Assign.{Posed, MatchFound}
use Rattle.orbit.proofs.PlaceLaws.{place_in_lem, place_of}
use Rattle.matching.proofs.ImageRowLaws.{longer-less, longer_trans, longer-mark, longer-kept}
use Rattle.matching.proofs.RetraceLaws.{next-longer, hung-walked}
use Rattle.matching.proofs.RowTreeLaws.{good, node-below, hooks-some, hook-node, dart-at, dart-slot, row_inside, images, arc-image, turn-image}

-- ---- no match

-- where two pairs fall on one dart, or the other dart is in the orbit
pub unmatched : {E : Site} {s s' : List ℕ} {size : ℕ} → matches E ≡ false → length s' ≡ length s → MatchFound E s s' size None
unmatched e long = record {
  is = sym e;
  long = long;
  assigned = λ rows f. absurd (none-some _ f);
  kept = λ rows f. absurd (none-some _ f);
  wide = λ rows f. absurd (none-some _ f);
}

-- ---- the tests

follows-at : (link : ℕ → ℕ) (s : List ℕ) (size from base : ℕ) (to : ℕ → ℕ) → follows link s size from base to ≡ true → (r : ℕ) → r < size
    → link (dart_at s from r) ≡ dart_at s base (to r)
unfolding follows
follows-at link s size from base to e r h = eqb-true _ _ (all-at size _ e r h)

follows_of : (link : ℕ → ℕ) (s : List ℕ) (size from base : ℕ) (to : ℕ → ℕ) → ((r : ℕ) → r < size → link (dart_at s from r) ≡ dart_at s base (to r))
    → follows link s size from base to ≡ true
unfolding follows
follows_of link s size from base to f = all_of size _ (λ r h. eq-eqb _ _ (f r h))

module _ (m : Map) (s : List ℕ) (size : ℕ) (dims rows : List ℕ) (j i from roots : ℕ) where
  -- what a test that holds says of each kind of arc
  explicit_cases : (t : ℕ) → t < 16 → code_test m s size dims rows j i from roots t ≡ true
      → (from < get_or rows t 0) ⊎ ((get_or dims j 0 ≡ i) ⊎ (follows (m.link i) s size from (get_or rows t 0) (λ r. r) ≡ true))
  unfolding code_test explicit_test
  explicit_cases t h e =
      let f = rw (ne_eqb t 255 (λ q. absurd (omega arith)), lt-ltb t 16 h) at e in
      ⊎_elim
      (λ o. ⊎_elim
      (λ a. inl (ltb-true _ _ a))
      (λ a. inr (inl (eqb-true _ _ a)))
      (or_cases _ _ o))
      (λ o. inr (inr o))
      (or_cases _ _ f)

  implicit_case : (p : ℕ) → p < 4 → roots ≤ j → code_test m s size dims rows j i from roots (16 + p) ≡ true
      → follows (m.link i) s size from from (λ r. next m.slots s r p) ≡ true
  unfolding code_test implicit_test ◌or◌
  implicit_case p h late e =
      let same : 16 + p - 16 ≡ p = omega arith in
      rw (ne_eqb (16 + p) 255 (λ q. absurd (omega arith)), le-ltb (16 + p) 16 (omega arith), le-ltb j roots late, same) at e

  -- a test holds where the arc does
  absent-holds : code_test m s size dims rows j i from roots 255 ≡ true
  unfolding code_test
  absent-holds = refl

  explicit-holds : (t : ℕ) → t < 16 → follows (m.link i) s size from (get_or rows t 0) (λ r. r) ≡ true → code_test m s size dims rows j i from roots t ≡ true
  unfolding code_test explicit_test
  explicit-holds t h f = rw (ne_eqb t 255 (λ q. absurd (omega arith)), lt-ltb t 16 h) (or_right _ f)

  implicit-holds : (p : ℕ) → p < 4 → follows (m.link i) s size from from (λ r. next m.slots s r p) ≡ true
      → code_test m s size dims rows j i from roots (16 + p) ≡ true
  unfolding code_test implicit_test
  implicit-holds p h f =
      let same : 16 + p - 16 ≡ p = omega arith in
      rw (ne_eqb (16 + p) 255 (λ q. absurd (omega arith)), le-ltb (16 + p) 16 (omega arith), same) (or_right _ f)

module _ {M : Map} {s : List ℕ} {size : ℕ} {nodes parents dims : List ℕ} {roots count : ℕ}
    (R : BeforeMatching M s size nodes parents dims roots count) {s' rows : List ℕ} (G : RowsGrown M nodes parents dims roots s s' rows size count)
    {codes : List ℕ} (C : Coded R.at.scheme left codes) where
  abbrev E : Site
  E = site R.at

  open E use {map as m, scheme as S, orbit as O}

  abbrev N : ℕ
  N = m.slots

  open R.at.sound use {accepted, well}

  abbrev node : ℕ → ℕ
  node k = get_or nodes k 0

  -- the dart in the row of node v at place r
  abbrev at : ℕ → ℕ → ℕ
  at v r = dart_at s' (get_or rows v 0) r

  abbrev single : SingleSide S left
  single = one_side accepted left

  code_at : (j i : ℕ) → j < count → i < 4 → get_or codes (4 * node j + i) 0 ≡ arc_code (arc_at S left (node j) i)
  code_at j i h k = C.at (node j) i (R.rooted.on_left j h).0 k

  -- an implicit arc has a dimension and a position of the scheme
  implicit_in : (v i p : ℕ) → v < S.nodes → i < 4 → arc_at S left v i ≡ implicit p → (p < S.places) × (p < 4) × (i ≤ S.n) × (word S left v p ≡ i)
  implicit_in v i p h k e =
      let f = implicit-from S left v i p e in
      let few = accepted.shaped.places_few in
      let n = small S accepted.shaped in
      let dim : i ≤ S.n = ⊎_elim (λ w. absurd (omega (arith, f.1))) (λ w. omega (arith, f.1)) (single.shaped.words v p h f.0) in
      (f.0, omega (arith, f.0), dim, f.1)

  -- the place to which a link of the orbit type leads
  turn : (r p : ℕ) → r < size → p < S.places → (next N s' r p < size) × (place N s (next N s' r p) ≡ m.link (orbit_dim S p) (place N s r))
  turn r p h k = subst (λ (q : ℕ). (q < size) × (place N s q ≡ m.link (orbit_dim S p) (place N s r)))
      (sym (next-longer N s s' (roots * size) G.longer r p)) (R.walked.links r p h k)

  -- ---- an arc can be tested

  pub firm : Firm N s' size nodes codes rows count
  firm = record {
    long = G.taken.long;
    few = R.walked.fits;
    entries = R.rooted.few;
    node = λ j h. node-below R j h;
    row = inside;
    slots = λ j h. record { slot = λ r k. (dart-slot R G j r h k).0 };
    target = λ j i h k c. to j i h k (arc_at S left (node j) i) refl c;
    turn = λ j i h k c ne. turns j i h k (arc_at S left (node j) i) refl c ne;
  }
    where
      inside : (j : ℕ) → j < count → get_or rows (node j) 0 + size ≤ 2 * N
      inside j h =
          let b = row_inside R G j h in
          omega (arith, b.1, G.taken.fits)

      to : (j i : ℕ) → j < count → i < 4 → (a : Arc) → arc_at S left (node j) i ≡ a → get_or codes (4 * node j + i) 0 < 16
          → get_or rows (get_or codes (4 * node j + i) 0) 0 + size ≤ 2 * N
      to j i h k absent e c = let q = code_at j i h k ∙ ap arc_code e in absurd (omega arith)
      to j i h k (explicit w) e c =
          let q : get_or codes (4 * node j + i) 0 ≡ w = code_at j i h k ∙ ap arc_code e in
          let end = explicit-end S left single (node j) i w e in
          let z = R.rooted.every w end.0 end.1 in
          subst (λ (v : ℕ). get_or rows v 0 + size ≤ 2 * N) (z.2 ∙ sym q) (inside z.0 z.1)
      to j i h k (implicit p) e c = let q = code_at j i h k ∙ ap arc_code e in absurd (omega arith)

      turns : (j i : ℕ) → j < count → i < 4 → (a : Arc) → arc_at S left (node j) i ≡ a → 16 ≤ get_or codes (4 * node j + i) 0
          → (get_or codes (4 * node j + i) 0 ≡ 255 → ⊥) → (get_or codes (4 * node j + i) 0 < 20) × Turns N s' (get_or codes (4 * node j + i) 0 - 16) size
      turns j i h k absent e c ne = absurd (ne (code_at j i h k ∙ ap arc_code e))
      turns j i h k (explicit w) e c ne =
          let q : get_or codes (4 * node j + i) 0 ≡ w = code_at j i h k ∙ ap arc_code e in
          let end = explicit-end S left single (node j) i w e in
          absurd (omega (arith, end.0, accepted.shaped.nodes_few))
      turns j i h k (implicit p) e c ne =
          let q : get_or codes (4 * node j + i) 0 ≡ 16 + p = code_at j i h k ∙ ap arc_code e in
          let f = implicit_in (node j) i p (R.rooted.on_left j h).0 k e in
          let same : get_or codes (4 * node j + i) 0 - 16 ≡ p = omega arith in
          (omega (arith, f.1), record { place = λ r b. rw same (turn r p b f.0).0 })

  -- ---- where there is a match, the arcs pass their tests

  module _ (q : matches E ≡ true) where
    image-at : (v r : ℕ) → v < S.nodes → has S left v ≡ true → r < size → at v r ≡ image E (place N s r) v
    image-at v r h l b =
        let z = R.rooted.every v h l in
        subst (λ (w : ℕ). at w r ≡ image E (place N s r) w) z.2 (images R q G (omega arith) z.0 r z.1 b)

    arc-holds : (j i : ℕ) → j < count → i < 4 → (a : Arc) → arc_at S left (node j) i ≡ a
        → code_test m s' size dims rows j i (get_or rows (node j) 0) roots (arc_code a) ≡ true
    arc-holds j i h k absent e = absent-holds m s' size dims rows j i (get_or rows (node j) 0) roots
    arc-holds j i h k (explicit w) e =
        let end = explicit-end S left single (node j) i w e in
        let on = R.rooted.on_left j h in
        explicit-holds m s' size dims rows j i (get_or rows (node j) 0) roots w (omega (arith, end.0, accepted.shaped.nodes_few))
        (follows_of (m.link i) s' size (get_or rows (node j) 0) (get_or rows w 0) (λ r. r) (λ r b.
        ap (m.link i) (image-at (node j) r on.0 on.1 b)
        ∙ arc-image R q (place N s r) (node j) i w (place_in_lem R.walked r b) on.0 on.1 end.2 e
        ∙ sym (image-at w r end.0 end.1 b)))
    arc-holds j i h k (implicit p) e =
        let on = R.rooted.on_left j h in
        let f = implicit_in (node j) i p on.0 k e in
        implicit-holds m s' size dims rows j i (get_or rows (node j) 0) roots p f.1
        (follows_of (m.link i) s' size (get_or rows (node j) 0) (get_or rows (node j) 0) (λ r. next N s' r p) (λ r b.
        let g = turn r p b f.0 in
        ap (m.link i) (image-at (node j) r on.0 on.1 b)
        ∙ turn-image R q (place N s r) (node j) i p (place_in_lem R.walked r b) on.0 on.1 f.2 e
        ∙ ap (λ (u : ℕ). image E u (node j)) (sym g.1)
        ∙ sym (image-at (node j) (next N s' r p) on.0 on.1 g.0)))

    pub match-tests : arcs_test m s' size nodes dims roots codes rows (4 * count) ≡ true
    unfolding arcs_test arc_test
    match-tests = all_of (4 * count) _ (λ k h.
        let j : k / 4 < count = omega arith in
        let i : k % 4 < 4 = omega arith in
        rw (code_at (k / 4) (k % 4) j i) (arc-holds (k / 4) (k % 4) j i (arc_at S left (node (k / 4)) (k % 4)) refl))

  -- ---- where the arcs pass their tests, there is a match

  some-entries : 1 ≤ count
  some-entries = omega (arith, hooks-some R, R.rooted.some)

  more : roots * size ≤ count * size
  more = mul-le-mul_right size R.rooted.some

  first-row : size ≤ roots * size
  first-row = let e = row-end size 0 roots (hooks-some R) in omega arith

  rank : (u : ℕ) → O u ≡ true → ℕ
  rank u e = (place_of R.walked u e).0

  rank_below : (u : ℕ) (e : O u ≡ true) → rank u e < size
  unfolding rank
  rank_below u e = (place_of R.walked u e).1

  rank-place : (u : ℕ) (e : O u ≡ true) → place N s (rank u e) ≡ u
  unfolding rank
  rank-place u e = (place_of R.walked u e).2

  mark-at : (r : ℕ) → r < size → mark s' (place N s r) ≡ r + 1
  mark-at r h =
      let low : r < roots * size = omega (arith, first-row) in
      let b = R.hung.taken.back r low in
      longer-mark N s s' (roots * size) G.longer (count * size) R.hung.taken G.taken more (place N s r) (R.hung.taken.slot r low) (omega arith) ∙ b

  -- the dart found for a pair
  found : ℕ → ℕ → ℕ
  found u v = at v (mark s' u - 1)

  found_at : (v r : ℕ) → r < size → found (place N s r) v ≡ at v r
  unfolding found
  found_at v r h = let b = mark-at r h in let e : mark s' (place N s r) - 1 ≡ r = omega arith in ap (at v) e

  found-is : (u v : ℕ) (e : O u ≡ true) → found u v ≡ at v (rank u e)
  found-is u v e = ap (λ (x : ℕ). found x v) (sym (rank-place u e)) ∙ found_at v (rank u e) (rank_below u e)

  slot_at : (v r : ℕ) → v < S.nodes → has S left v ≡ true → r < size → (at v r < N) × (m.state (at v r) ≡ 1)
  slot_at v r h l b =
      let z = R.rooted.every v h l in
      subst (λ (w : ℕ). (at w r < N) × (m.state (at w r) ≡ 1)) z.2 (dart-slot R G z.0 r z.1 b)

  -- node 0 stands for the orbit dart itself
  hook-at : (r : ℕ) → r < size → at 0 r ≡ place N s r
  hook-at r h =
      let z : 0 * size + r ≡ r = omega arith in
      ap (λ (v : ℕ). at v r) (sym R.rooted.hooks.first) ∙ dart-at R G 0 r some-entries ∙ ap (place N s') z
      ∙ G.longer.places r (omega (arith, first-row))

  -- the second hook stands for the other dart at the first place
  second_at : at S.second 0 ≡ E.other
  second_at =
      let last : node (roots - 1) ≡ S.second = ap (λ (k : ℕ). node (k - 1)) R.rooted.roots_is ∙ R.rooted.hooks.last in
      let one = hooks-some R in
      let row : 0 < size = R.walked.some in
      let low : roots - 1 < count = omega (arith, R.rooted.some) in
      ap (λ (v : ℕ). at v 0) (sym last) ∙ dart-at R G (roots - 1) 0 low
      ∙ G.longer.places ((roots - 1) * size + 0) (row-cell size (roots - 1) roots 0 (omega arith) row)
      ∙ ⊎_elim
      (λ z.
      let at₀ : (roots - 1) * size + 0 ≡ 0 = ap (λ (i : ℕ). i * size + 0) z.0 ∙ omega arith in
      let none : S.second ≡ 0 = sym last ∙ z.1 in
      ap (place N s) at₀ ∙ R.walked.start ∙ sym (R.at.sound.alone (le-ltb 0 S.second (omega arith))))
      (λ z.
      let at₁ : (roots - 1) * size + 0 ≡ size + 0 = ap (λ (i : ℕ). i * size + 0) z.0 ∙ omega arith in
      ap (place N s) at₁ ∙ (R.hung.second z.1).first row)
      (hook-node R (roots - 1) (omega arith))

  module _ (T : arcs_test m s' size nodes dims roots codes rows (4 * count) ≡ true) where
    test_at : (j i : ℕ) → j < count → i < 4 → (a : Arc) → arc_at S left (node j) i ≡ a
        → code_test m s' size dims rows j i (get_or rows (node j) 0) roots (arc_code a) ≡ true
    unfolding arcs_test arc_test
    test_at j i h k a e =
        let by-four : (4 * j + i) / 4 ≡ j = omega arith in
        let rest : (4 * j + i) % 4 ≡ i = omega arith in
        let f = all-at (4 * count) _ T (4 * j + i) (omega arith) in
        ap (code_test m s' size dims rows j i (get_or rows (node j) 0) roots) (sym (code_at j i h k ∙ ap arc_code e)) ∙ (rw (by-four, rest) at f)

    -- an explicit arc from a row to one that is not later
    arc-back : (j k i r : ℕ) → j < count → k < count → k ≤ j → i < 4 → r < size → arc_at S left (node j) i ≡ explicit (node k)
        → m.link i (at (node j) r) ≡ at (node k) r
    arc-back j k i r h l o b c e =
        let below = node-below R k l in
        ⊎_elim
        (λ late. absurd (omega (arith, late, G.begins j h, G.begins k l, mul-le-mul_right size o)))
        (λ w. ⊎_elim
        (λ tree.
        let some : roots ≤ j = by_cases (dec_lt j roots)
        (λ z. absurd (omega (arith, R.rooted.hooks.bare j (rw R.rooted.roots_is at z)))) (λ ne. omega arith) in
        let arc = R.rooted.arc j some h in
        let end = explicit-end S left single (get_or parents j 0) (get_or dims j 0) (node j) arc.1 in
        let both : explicit (get_or parents j 0) ≡ explicit (node k) = sym end.3 ∙ ap (arc_at S left (node j)) tree ∙ e in
        let same : get_or parents j 0 ≡ node k = cc in
        let step : at (node j) r ≡ m.link i (at (node k) r) = G.steps j r some h c ∙ ap₂ (λ (x v : ℕ). m.link x (at v r)) tree same in
        let low : i ≤ S.n = subst (λ (x : ℕ). x ≤ S.n) tree arc.0 in
        let on = dart-slot R G k r l c in
        ap (m.link i) step ∙ well.back (at (node k) r) on.0 on.1 i low)
        (λ f. follows-at (m.link i) s' size (get_or rows (node j) 0) (get_or rows (node k) 0) (λ q. q) f r c)
        w)
        (explicit_cases m s' size dims rows j i (get_or rows (node j) 0) roots (node k) below (test_at j i h b (explicit (node k)) e))

    -- an explicit arc, from either end
    arc-at : (v w i r : ℕ) → v < S.nodes → has S left v ≡ true → r < size → arc_at S left v i ≡ explicit w → m.link i (at v r) ≡ at w r
    arc-at v w i r h l c e =
        let end = explicit-end S left single v i w e in
        let y = R.rooted.every v h l in
        let z = R.rooted.every w end.0 end.1 in
        let low : i < 4 = omega (arith, end.2, small S accepted.shaped) in
        let to : arc_at S left (node y.0) i ≡ explicit (node z.0) = ap (λ (x : ℕ). arc_at S left x i) y.2 ∙ e ∙ ap explicit (sym z.2) in
        let fro : arc_at S left (node z.0) i ≡ explicit (node y.0) = ap (λ (x : ℕ). arc_at S left x i) z.2 ∙ end.3 ∙ ap explicit (sym y.2) in
        let on = slot_at w r end.0 end.1 c in
        let way : m.link i (at (node y.0) r) ≡ at (node z.0) r = by_cases (dec_lt y.0 z.0)
        (λ o.
        let k = arc-back z.0 y.0 i r z.1 y.1 (omega arith) low c fro in
        let d = dart-slot R G z.0 r z.1 c in
        ap (m.link i) (sym k) ∙ well.back (at (node z.0) r) d.0 d.1 i end.2)
        (λ o. arc-back y.0 z.0 i r y.1 z.1 (omega arith) low c to) in
        ap (λ (x : ℕ). m.link i (at x r)) (sym y.2) ∙ way ∙ ap (λ (x : ℕ). at x r) z.2

    -- an implicit arc of the second hook
    second-turn : (j p r : ℕ) → j ≡ 1 → roots ≡ 2 → node j ≡ S.second → j < count → p < S.places → r < size
        → m.link (orbit_dim S p) (at (node j) r) ≡ at (node j) (next N s' r p)
    second-turn j p r one two is h b c =
        let row : (q : ℕ) → q < size → at (node j) q ≡ place N s (size + q) = λ q l.
        let cell : j * size + q ≡ size + q = ap (λ (k : ℕ). k * size + q) one ∙ omega arith in
        dart-at R G j q h ∙ G.longer.places (j * size + q) (row-cell size j roots q (omega arith) l) ∙ ap (place N s) cell in
        let o = (R.hung.second two).links r p b (omega (arith, small S accepted.shaped, accepted.shaped.places_few)) in
        let same : next N s' r p ≡ next N s r p = next-longer N s s' (roots * size) G.longer r p in
        ap (m.link (orbit_dim S p)) (row r c) ∙ o.is ∙ ap (λ (q : ℕ). place N s (size + q)) (sym same)
        ∙ sym (row (next N s' r p) (turn r p c b).0)

    -- an implicit arc
    turn_at : (v i p r : ℕ) → v < S.nodes → has S left v ≡ true → i < 4 → r < size → p < S.places → word S left v p ≡ i → arc_at S left v i ≡ implicit p
        → m.link i (at v r) ≡ at v (next N s' r p)
    turn_at v i p r h l k c o w e =
        let z = R.rooted.every v h l in
        subst (λ (x : ℕ). m.link i (at x r) ≡ at x (next N s' r p)) z.2 (by_cases (dec_lt z.0 roots)
        (λ hook. ⊎_elim
        (λ f.
        let g = turn r p c o in
        let first : v ≡ first_hook = sym z.2 ∙ f.1 in
        let dim : i ≡ orbit_dim S p = sym w ∙ ap (λ (x : ℕ). word S left x p) first ∙ (accepted.consistent.hooks first_hook (first-hook S)).word p o in
        subst (λ (x : ℕ). m.link i (at x r) ≡ at x (next N s' r p)) (sym f.1)
        (ap₂ m.link dim (hook-at r c) ∙ sym g.1 ∙ sym (hook-at (next N s' r p) g.0)))
        (λ f.
        let second : v ≡ S.second = sym z.2 ∙ f.2 in
        let dim : i ≡ orbit_dim S p = sym w ∙ ap (λ (x : ℕ). word S left x p) second ∙ (accepted.consistent.hooks S.second (second-hook S)).word p o in
        ap (λ (x : ℕ). m.link x (at (node z.0) r)) dim ∙ second-turn z.0 p r f.0 f.1 f.2 z.1 o c)
        (hook-node R z.0 hook))
        (λ late.
        let few : p < 4 = omega (arith, small S accepted.shaped, accepted.shaped.places_few) in
        let a : arc_at S left (node z.0) i ≡ implicit p = ap (λ (x : ℕ). arc_at S left x i) z.2 ∙ e in
        let g = implicit_case m s' size dims rows z.0 i (get_or rows (node z.0) 0) roots p few (omega arith) (test_at z.0 i z.1 k (implicit p) a) in
        follows-at (m.link i) s' size _ _ (λ q. next N s' q p) g r c))

    -- two pairs with one dart are one pair
    apart : (v w r q : ℕ) → v < S.nodes → has S left v ≡ true → w < S.nodes → has S left w ≡ true → r < size → q < size → at v r ≡ at w q → (r ≡ q) × (v ≡ w)
    apart v w r q h l k o b c e =
        let y = R.rooted.every v h l in
        let z = R.rooted.every w k o in
        let rows : place N s' (y.0 * size + r) ≡ place N s' (z.0 * size + q) =
        sym (dart-at R G y.0 r y.1) ∙ ap (λ (x : ℕ). at x r) y.2 ∙ e
        ∙ ap (λ (x : ℕ). at x q) (sym z.2) ∙ dart-at R G z.0 q z.1 in
        let first = G.taken.back (y.0 * size + r) (row-cell size y.0 count r y.1 b) in
        let other = G.taken.back (z.0 * size + q) (row-cell size z.0 count q z.1 c) in
        let marks : mark s' (place N s' (y.0 * size + r)) ≡ mark s' (place N s' (z.0 * size + q)) = ap (mark s') rows in
        let same = digits size y.0 r z.0 q b c (omega arith) in
        (same.1, sym y.2 ∙ ap node same.0 ∙ z.2)

    found_assigns : Assignment E found
    found_assigns = record {
      darts = λ u b e v h l. let f = found-is u v e in let a = slot_at v (rank u e) h l (rank_below u e) in (rw f a.0, ap m.state f ∙ a.1);
      hook = λ u b e. found-is u 0 e ∙ hook-at (rank u e) (rank_below u e) ∙ rank-place u e;
      second =
          ap (λ (u : ℕ). found u S.second) (sym R.walked.start) ∙ found_at S.second 0 R.walked.some ∙ second_at;
      explicit_arc = λ u b e a k.
          let f = single.shaped.from a k in
          let o = single.shaped.to a k in
          let i = arc_part S left a 0 in
          let v = arc_part S left a 1 in
          let w = arc_part S left a 2 in
          let low = single.shaped.dims a k in
          let out : arc_at S left v i ≡ explicit w = explicit-at S left single v i a f.0 k low (touches-from S left a) ∙ ap explicit (far_from S left a) in
          let back : arc_at S left w i ≡ explicit v = explicit-at S left single w i a o.0 k low (touches-to S left a) ∙ ap explicit (far-to S left a) in (
            ap (m.link i) (found-is u v e) ∙ arc-at v w i (rank u e) f.0 f.1 (rank_below u e) out ∙ sym (found-is u w e),
            ap (m.link i) (found-is u w e) ∙ arc-at w v i (rank u e) o.0 o.1 (rank_below u e) back ∙ sym (found-is u v e),
          );
      implicit_arc = λ u b e v h l p k some.
          let i = word S left v p in
          let low : i ≤ S.n = ⊎_elim (λ z. absurd (some z)) (λ z. z) (single.shaped.words v p h k) in
          let few : i < 4 = omega (arith, low, small S accepted.shaped) in
          let r = rank u e in
          let g = turn r p (rank_below u e) k in
          let to : place N s (next N s' r p) ≡ m.link (orbit_dim S p) u = g.1 ∙ ap (m.link (orbit_dim S p)) (rank-place u e) in
          ap (m.link i) (found-is u v e)
          ∙ turn_at v i p r h l few (rank_below u e) k refl (implicit-at S left single v i p h k low refl)
          ∙ sym (found_at v (next N s' r p) g.0) ∙ ap (λ (x : ℕ). found x v) to;
      different = λ u b e v h l x c f w k o same.
          let p = apart v w (rank u e) (rank x f) h l k o (rank_below u e) (rank_below x f) (sym (found-is u v e) ∙ same ∙ found-is x w f) in
          (sym (rank-place u e) ∙ ap (place N s) p.0 ∙ rank-place x f, p.1);
    }

    tests-match : matches E ≡ true
    tests-match = assigns_match E accepted (good R) found found_assigns

  -- ---- the answer

  assigned-rows : matches E ≡ true → Assigned E s' rows size
  assigned-rows q = record {
    inside = λ v h l.
        let z = R.rooted.every v h l in
        let b = row_inside R G z.0 z.1 in
        let full = G.taken.fits in
        subst (λ (w : ℕ). (N ≤ get_or rows w 0) × (get_or rows w 0 + size ≤ 2 * N)) z.2 (b.0, omega (arith, b.1));
    dart = λ v r h l b. image-at q v r h l b ∙ ap (λ (u : ℕ). image E u v) (sym (G.longer.places r (omega (arith, first-row))));
  }

  -- s₀ is the store before the second hook had its row
  pub matched : (s₀ : List ℕ) → Taken N s₀ size → Longer N s₀ s size → (b : Bool) → b ≡ arcs_test m s' size nodes dims roots codes rows (4 * count)
      → MatchFound E s₀ s' size (then_some b rows)
  matched s₀ T L true e =
      let longer = longer_trans N s₀ s size L s' (longer-less N s s' (roots * size) G.longer size first-row) in
      record {
        is = e ∙ same_test _ _ tests-match match-tests;
        long = G.taken.long ∙ sym T.long;
        assigned = λ rows' f. rw (← same_Some _ _ f) (assigned-rows (tests-match (sym e)));
        kept = λ rows' f. longer-kept N s₀ s' size longer (count * size) T G.taken (omega (arith, first-row, more)) size (omega arith);
        wide = λ rows' f. rw (← same_Some _ _ f) G.wide;
      }
  matched s₀ T L false e = unmatched (sym (e ∙ same_test _ _ tests-match match-tests)) (G.taken.long ∙ sym T.long)

-- what the rows start from, once the hooks have theirs
module _ {m : Map} {s : List ℕ} {size : ℕ} {orbit : List ℕ} {k other : ℕ} {nodes parents dims : List ℕ} {roots count : ℕ} {codes : List ℕ}
    (P : Posed m s size orbit k other nodes parents dims roots count codes) {s' : List ℕ} (H : HungAll m s s' size orbit k other roots true) where
  abbrev pub ready : BeforeMatching m s' size nodes parents dims roots count
  ready = record {
    at = P.ready.at;
    walked = hung-walked P.ready (H.done refl P.ready).0 (H.done refl P.ready).1;
    hung = (H.done refl P.ready).0;
    rooted = P.rooted;
  }

  pub matched-at : {s'' rows : List ℕ} → RowsGrown m nodes parents dims roots s' s'' rows size count → (b : Bool)
      → b ≡ arcs_test m s'' size nodes dims roots codes rows (4 * count) → MatchFound (site P.ready.at) s s'' size (then_some b rows)
  matched-at G b f = matched ready G P.coded s P.ready.taken (H.done refl P.ready).1 b f

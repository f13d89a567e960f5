-- The laws of `images::rows`: the rows along the tree, one entry more, and what the rows hold where there is a match.
use Prim.Native.Nat.{ℕ, zero, suc, ◌+◌, ◌*◌, ◌-◌, ◌≤◌, ◌<◌}
use mathlib.Core.Path.{◌≡◌, refl, sym, ap, ◌∙◌, subst}
use mathlib.Core.Logic.{◌⊎◌, inl, inr, ⊎_elim, by_cases}
use mathlib.Core.Bool.{true, false, true≢false}
use mathlib.Core.List.{List}
use native.Mathlib.Nat.{not-suc-le-zero, mul-le-mul_right}
use native.Mathlib.Decide.{ℕ_discrete, dec_lt}
use native.Mathlib.Omega.{arith}
use lib.ListN.{length, get_or, set, length-set}
use lib.Seq.{get_or-set_same, get_or-set_other}
use borrow.Author.Tests.{eqb-true}
use Rattle.base.proofs.TestLaws.{true_or_false}
use Rattle.base.proofs.RowLaws.{row-end, row-cell, row_of}
use Rattle.model.specs.Map.{Map}
use Rattle.model.specs.Scheme.{left, orbit_dim, has}
use Rattle.model.specs.Conditions.{explicit, implicit, arc_at}
use Rattle.model.specs.Site.{Site}
use Rattle.model.specs.Match.{image, arc_holds, matches, Assignment}
use Rattle.model.proofs.AcceptedLaws.{small}
use Rattle.model.proofs.MatchLaws.{GoodOrbit, match_assigns, arc_of_lem}
use Rattle.model.proofs.MatchIff.{good-orbit}
use Rattle.orbit.specs.At.{site}
use Rattle.orbit.specs.Store.{mark, place, dart_at, Taken}
use Rattle.matching.specs.Images.{BeforeMatching, RowLinked, Row, RowMade, RowsGrown, RowsMade}
use Rattle.conditions.specs.Tree.{roots_of}
use Rattle.conditions.proofs.TreeLaws.{roots_few}
use Rattle.orbit.proofs.PlaceLaws.{place_in_lem}
use Rattle.matching.proofs.ImageRowLaws.{dart-place, longer-dart, longer-less, longer_trans}

module _ {M : Map} {s : List ℕ} {size : ℕ} {nodes parents dims : List ℕ} {roots count : ℕ}
    (R : BeforeMatching M s size nodes parents dims roots count) where
  abbrev E : Site
  E = site R.at

  open E use {map as m, scheme as S, orbit as O}

  abbrev N : ℕ
  N = m.slots

  open R.at.sound use {accepted, well}

  abbrev node : ℕ → ℕ
  node k = get_or nodes k 0

  abbrev parent : ℕ → ℕ
  parent k = get_or parents k 0

  abbrev dim : ℕ → ℕ
  dim k = get_or dims k 0

  -- ---- the orbit by its places

  pub good : GoodOrbit E
  good = good-orbit m S R.at.dart R.at.other R.at.sound

  pub node-below : (k : ℕ) → k < count → node k < 16
  node-below k h = omega (arith, (R.rooted.on_left k h).0, accepted.shaped.nodes_few)

  pub dim-below : (k : ℕ) → roots ≤ k → k < count → dim k ≤ 3
  dim-below k l h = omega (arith, (R.rooted.arc k l h).0, small S accepted.shaped)

  -- ---- one entry more

  -- there are one or two hooks
  pub hooks-some : 1 ≤ roots
  hooks-some = omega (arith, R.rooted.roots_is, (roots_few S.second).0)

  pub hooks-few : roots ≤ 2
  hooks-few = omega (arith, R.rooted.roots_is, (roots_few S.second).1)

  -- the node of an entry that is a hook
  pub hook-node : (j : ℕ) → j < roots → ((j ≡ 0) × (node j ≡ 0)) ⊎ ((j ≡ 1) × (roots ≡ 2) × (node j ≡ S.second))
  hook-node j h = by_cases (ℕ_discrete j 0)
      (λ z. inl (z, ap node z ∙ R.rooted.hooks.first))
      (λ ne.
      let few = hooks-few in
      let two : roots ≡ 2 = omega arith in
      let one : j ≡ 1 = omega arith in
      let at : roots_of S.second - 1 ≡ j = omega (arith, R.rooted.roots_is) in
      inr (one, two, ap node (sym at) ∙ R.rooted.hooks.last))

  -- the rows of the hooks: that of the first begins with the places, that of the last of them behind the others
  pub grown-hooks : (rows : List ℕ) → length rows ≡ 16 → (y : ℕ) → y ≡ get_or nodes (roots - 1) 0
      → RowsGrown m nodes parents dims roots s s (set (set rows 0 N) y (N + (roots - 1) * size)) size roots
  grown-hooks rows long y at =
      let some = hooks-some in
      let below : y < 16 = rw at (node-below (roots - 1) (omega (arith, R.rooted.some))) in
      let wide₁ : length (set rows 0 N) ≡ 16 = simp length-set long in
      let last : get_or (set (set rows 0 N) y (N + (roots - 1) * size)) y 0 ≡ N + (roots - 1) * size =
      get_or-set_same (set rows 0 N) y (N + (roots - 1) * size) 0 (omega arith) in
      record {
        wide = simp length-set long;
        taken = R.hung.taken;
        longer = record { places = λ e h. refl; rest = λ i h. refl };
        alive = λ e h. by_cases (dec_lt e size)
            (λ l. good.alive (place N s e) (place_in_lem R.walked e l))
            (λ l.
            let two : roots ≡ 2 = two_rows e h (omega arith) in
            let both : roots * size ≡ size + size = ap (λ (k : ℕ). k * size) two ∙ omega arith in
            let q : e ≡ size + (e - size) = omega arith in
            ap (λ (k : ℕ). m.state (place N s k)) q ∙ (R.hung.second two).alive (e - size) (omega arith));
        begins = λ j h. by_cases (ℕ_discrete j (roots - 1))
            (λ z. ap (λ (v : ℕ). get_or (set (set rows 0 N) y (N + (roots - 1) * size)) v 0) (ap node z ∙ sym at) ∙ last
            ∙ ap (λ (k : ℕ). N + k * size) (sym z))
            (λ ne.
            let few = hooks-few in
            let z : j ≡ 0 = omega arith in
            let first : node j ≡ 0 = ap node z ∙ R.rooted.hooks.first in
            let entry : roots - 1 < count = omega (arith, R.rooted.some) in
            let apart : 0 ≡ y → ⊥ = λ e. ne (R.rooted.once j (roots - 1) (omega arith) entry (first ∙ e ∙ at)) in
            let here : get_or (set rows 0 N) 0 0 ≡ N = get_or-set_same rows 0 N 0 (omega arith) in
            let e : j * size ≡ 0 = ap (λ (k : ℕ). k * size) z ∙ omega arith in
            ap (λ (v : ℕ). get_or (set (set rows 0 N) y (N + (roots - 1) * size)) v 0) first
            ∙ get_or-set_other (set rows 0 N) y 0 (N + (roots - 1) * size) 0 apart ∙ here ∙ omega arith);
        steps = λ j r l h k. absurd (omega arith);
      }
    where
      two_rows : (e : ℕ) → e < roots * size → size ≤ e → roots ≡ 2
      two_rows e h l = by_cases (ℕ_discrete roots 1)
          (λ z. absurd (let one : roots * size ≡ size = ap (λ (k : ℕ). k * size) z ∙ omega arith in omega arith))
          (λ ne. let some = hooks-some in let few = hooks-few in omega arith)

  module _ {s' rows : List ℕ} {k : ℕ} (G : RowsGrown m nodes parents dims roots s s' rows size k) where
    -- the dart of entry j at place r of the orbit
    abbrev dart : ℕ → ℕ → ℕ
    dart j r = dart_at s' (get_or rows (node j) 0) r

    pub dart-at : (j r : ℕ) → j < k → dart j r ≡ place N s' (j * size + r)
    dart-at j r h = dart-place N s' (j * size) r (get_or rows (node j) 0) (G.begins j h)

    pub dart-slot : (j r : ℕ) → j < k → r < size → (dart j r < N) × (m.state (dart j r) ≡ 1)
    dart-slot j r h l =
        let e = dart-at j r h in
        let c = row-cell size j k r h l in
        (rw e (G.taken.slot (j * size + r) c), ap m.state e ∙ G.alive (j * size + r) c)

    pub row_inside : (j : ℕ) → j < k → (N ≤ get_or rows (node j) 0) × (get_or rows (node j) 0 + size ≤ N + k * size)
    row_inside j h = let b = G.begins j h in let e = row-end size j k h in (omega arith, omega arith)

    module _ (l : roots ≤ k) (h : k < count) where
      -- the row of the parent
      pub source : (N ≤ get_or rows (parent k) 0) × (get_or rows (parent k) 0 + size ≤ N + k * size)
      source = let p = R.rooted.earlier k l h in
          subst (λ (v : ℕ). (N ≤ get_or rows v 0) × (get_or rows v 0 + size ≤ N + k * size)) p.2 (row_inside p.0 p.1)

      source-slot : (r : ℕ) → r < size → (dart_at s' (get_or rows (parent k) 0) r < N) × (m.state (dart_at s' (get_or rows (parent k) 0) r) ≡ 1)
      source-slot r b = let p = R.rooted.earlier k l h in
          subst (λ (v : ℕ). (dart_at s' (get_or rows v 0) r < N) × (m.state (dart_at s' (get_or rows v 0) r) ≡ 1)) p.2 (dart-slot p.0 r p.1 b)

      pub linked : RowLinked N (m.link (dim k)) s' (get_or rows (parent k) 0) size
      linked = record { slot = λ r b. let e = source-slot r b in well.below _ e.0 e.1 (dim k) (R.rooted.arc k l h).0 }

      module _ (s'' : List ℕ) (C : Row N (m.link (dim k)) (get_or rows (parent k) 0) s' s'' (k * size) size) where
        abbrev rows' : List ℕ
        rows' = set rows (node k) (N + k * size)

        col_new : get_or rows' (node k) 0 ≡ N + k * size
        col_new = get_or-set_same rows (node k) (N + k * size) 0 (omega (arith, node-below k h, G.wide))

        col_old : (j : ℕ) → j < k → get_or rows' (node j) 0 ≡ get_or rows (node j) 0
        col_old j b = get_or-set_other rows (node k) (node j) (N + k * size) 0 (λ e. let q = R.rooted.once j k (omega arith) h e in absurd (omega arith))

        dart-old : (j r : ℕ) → j < k → r < size → dart_at s'' (get_or rows' (node j) 0) r ≡ dart j r
        dart-old j r b c =
            let i = row_inside j b in
            ap (λ (z : ℕ). dart_at s'' z r) (col_old j b) ∙ longer-dart N s' s'' (k * size) C.longer (get_or rows (node j) 0) r i.0 (omega arith)

        -- the row of an entry's parent
        source-old : (j r : ℕ) → roots ≤ j → j < k + 1 → r < size → dart_at s'' (get_or rows' (parent j) 0) r ≡ dart_at s' (get_or rows (parent j) 0) r
        source-old j r a b c = let p = R.rooted.earlier j a (omega arith) in
            subst (λ (v : ℕ). dart_at s'' (get_or rows' v 0) r ≡ dart_at s' (get_or rows v 0) r) p.2 (dart-old p.0 r (omega (arith, p.1)) c)

        pub grown-more : RowsGrown m nodes parents dims roots s s'' rows' size (k + 1)
        grown-more =
            let same : (k + 1) * size ≡ k * size + size = omega arith in
            let first : roots * size ≤ k * size = mul-le-mul_right size l in
            record {
              wide = simp length-set G.wide;
              taken = rw same C.taken;
              longer = longer_trans N s s' (roots * size) G.longer s'' (longer-less N s' s'' (k * size) C.longer (roots * size) first);
              alive = λ e b. by_cases (dec_lt e (k * size))
                  (λ old. ap m.state (C.longer.places e old) ∙ G.alive e old)
                  (λ new.
                  let q : e - k * size < size = omega arith in
                  let at : e ≡ k * size + (e - k * size) = omega arith in
                  let p = source-slot (e - k * size) q in
                  ap (λ (z : ℕ). m.state (place N s'' z)) at ∙ ap m.state (C.darts (e - k * size) q)
                  ∙ well.alive _ p.0 p.1 (dim k) (R.rooted.arc k l h).0);
              begins = λ j b. by_cases (ℕ_discrete j k)
                  (λ e. rw e col_new)
                  (λ ne. let c : j < k = omega arith in col_old j c ∙ G.begins j c);
              steps = λ j r a b c. by_cases (ℕ_discrete j k)
                  (λ e. subst (λ (z : ℕ). dart_at s'' (get_or rows' (node z) 0) r ≡ m.link (dim z) (dart_at s'' (get_or rows' (parent z) 0) r)) (sym e)
                  (dart-place N s'' (k * size) r (get_or rows' (node k) 0) col_new ∙ C.darts r c
                  ∙ ap (m.link (dim k)) (sym (source-old k r l (omega arith) c))))
                  (λ ne. let o : j < k = omega arith in
                  dart-old j r o c ∙ G.steps j r a o c ∙ ap (m.link (dim j)) (sym (source-old j r a b c)));
            }

  -- ---- where there is a match

  module _ (q : matches E ≡ true) where
    pub assignment : Assignment E (image E)
    assignment = match_assigns E accepted good well q

    pub arc-image : (u v i w : ℕ) → O u ≡ true → v < S.nodes → has S left v ≡ true → i ≤ S.n → arc_at S left v i ≡ explicit w
        → m.link i (image E u v) ≡ image E u w
    unfolding arc_holds
    arc-image u v i w e h l k a = eqb-true _ _ (arc_of_lem E accepted good (image E) assignment u e v h l i k (explicit w) a)

    pub turn-image : (u v i p : ℕ) → O u ≡ true → v < S.nodes → has S left v ≡ true → i ≤ S.n → arc_at S left v i ≡ implicit p
        → m.link i (image E u v) ≡ image E (m.link (orbit_dim S p) u) v
    unfolding arc_holds
    turn-image u v i p e h l k a = eqb-true _ _ (arc_of_lem E accepted good (image E) assignment u e v h l i k (implicit p) a)

    -- the step along the tree's arc to entry k
    tree-image : (u k x : ℕ) → O u ≡ true → roots ≤ k → k < count → x ≡ image E u (parent k) → m.link (dim k) x ≡ image E u (node k)
    tree-image u k x e l h a =
        let b = R.rooted.arc k l h in
        let p = R.rooted.earlier k l h in
        let on = R.rooted.on_left p.0 (omega (arith, p.1)) in
        ap (m.link (dim k)) a
        ∙ arc-image u (parent k) (dim k) (node k) e (subst (λ (v : ℕ). v < S.nodes) p.2 on.0) (ap (has S left) (sym p.2) ∙ on.1) b.0 b.1

    -- two pairs with one image are one pair
    one-pair : (r q j i : ℕ) → r < size → q < size → j < count → i < count
        → image E (place N s r) (node j) ≡ image E (place N s q) (node i) → (r ≡ q) × (j ≡ i)
    one-pair r q j i a b c e f =
        let on = R.rooted.on_left j c in
        let at = R.rooted.on_left i e in
        let p = assignment.different (place N s r) (R.walked.slot r a) (place_in_lem R.walked r a) (node j) on.0 on.1
        (place N s q) (R.walked.slot q b) (place_in_lem R.walked q b) (node i) at.0 at.1 f in
        let same : mark s (place N s r) ≡ mark s (place N s q) = ap (mark s) p.0 in
        (omega (arith, R.walked.back r a, R.walked.back q b), R.rooted.once j i c e p.1)

    module _ {s' rows : List ℕ} {k : ℕ} (G : RowsGrown m nodes parents dims roots s s' rows size k) (few : k ≤ count) where
      -- the row of a hook: the orbit, or that of the second hook
      hook-image : (j r : ℕ) → j < roots → j < k → r < size → dart_at s' (get_or rows (node j) 0) r ≡ image E (place N s r) (node j)
      hook-image j r b l h =
          let u = place N s r in
          let row : place N s' (j * size + r) ≡ place N s (j * size + r) = G.longer.places (j * size + r) (row-cell size j roots r b h) in
          dart-at G j r l ∙ row ∙ ⊎_elim
          (λ z.
          let at : j * size + r ≡ r = ap (λ (i : ℕ). i * size + r) z.0 ∙ omega arith in
          ap (place N s) at ∙ sym (assignment.hook u (R.walked.slot r h) (place_in_lem R.walked r h)) ∙ ap (image E u) (sym z.1))
          (λ z.
          let at : j * size + r ≡ size + r = ap (λ (i : ℕ). i * size + r) z.0 ∙ omega arith in
          ap (place N s) at ∙ (R.hung.second z.1).images q r h ∙ ap (image E u) (sym z.2))
          (hook-node j b)

      images-below : (b j r : ℕ) → j < b → j < k → r < size → dart_at s' (get_or rows (node j) 0) r ≡ image E (place N s r) (node j)
      images-below zero j r h l c = absurd (not-suc-le-zero h)
      images-below (suc b) j r h l c = by_cases (dec_lt j roots)
          (λ z. hook-image j r z l c)
          (λ ne.
          let some : roots ≤ j = omega arith in
          let p = R.rooted.earlier j some (omega arith) in
          let up : dart_at s' (get_or rows (parent j) 0) r ≡ image E (place N s r) (parent j) =
          subst (λ (v : ℕ). dart_at s' (get_or rows v 0) r ≡ image E (place N s r) v) p.2
          (images-below b p.0 r (omega (arith, p.1)) (omega (arith, p.1)) c) in
          G.steps j r some l c ∙ tree-image (place N s r) j _ (place_in_lem R.walked r c) some (omega arith) up)

      -- what stands in a row is the image of its pair
      pub images : (j r : ℕ) → j < k → r < size → dart_at s' (get_or rows (node j) 0) r ≡ image E (place N s r) (node j)
      images j r l c = images-below (suc j) j r (omega arith) l c

      module _ (l : roots ≤ k) (h : k < count) where
        next-image : (r : ℕ) → r < size → m.link (dim k) (dart_at s' (get_or rows (parent k) 0) r) ≡ image E (place N s r) (node k)
        next-image r c =
            let p = R.rooted.earlier k l h in
            tree-image (place N s r) k _ (place_in_lem R.walked r c) l h
            (subst (λ (v : ℕ). dart_at s' (get_or rows v 0) r ≡ image E (place N s r) v) p.2 (images p.0 r p.1 c))

        -- a dart of the next row that has a place already is the image of two pairs
        pub taken_twice : (s'' : List ℕ) (r : ℕ) → r < size → Row N (m.link (dim k)) (get_or rows (parent k) 0) s' s'' (k * size) r
            → 1 ≤ mark s'' (m.link (dim k) (dart_at s' (get_or rows (parent k) 0) r)) → ⊥
        taken_twice s'' r c C a =
            let y = m.link (dim k) (dart_at s' (get_or rows (parent k) 0) r) in
            let f = C.taken.found y ((linked G l h).slot r c) a in
            let e = mark s'' y - 1 in
            by_cases (dec_lt e (k * size))
            (λ old.
            let w = row_of size k e R.walked.some old in
            let at : place N s'' e ≡ dart_at s' (get_or rows (node w.0) 0) w.1 =
            C.longer.places e old ∙ ap (place N s') w.4 ∙ sym (dart-at G w.0 w.1 w.2) in
            let p = one-pair r w.1 k w.0 c w.3 h (omega (arith, w.2)) (sym (next-image r c) ∙ sym f.1 ∙ at ∙ images w.0 w.1 w.2 w.3) in
            absurd (omega (arith, p.1, w.2)))
            (λ new.
            let o : e - k * size < r = omega (arith, f.0) in
            let at : e ≡ k * size + (e - k * size) = omega arith in
            let b : e - k * size < size = omega arith in
            let p = one-pair r (e - k * size) k k c b h h
            (sym (next-image r c) ∙ sym f.1 ∙ ap (place N s'') at ∙ C.darts (e - k * size) o ∙ next-image (e - k * size) b) in
            absurd (omega (arith, p.0)))

-- ---- the loop over the entries

pub rows-done : {m : Map} {nodes parents dims s s' rows : List ℕ} {roots size count k : ℕ} → k ≡ count
    → RowsGrown m nodes parents dims roots s s' rows size k → RowsMade m nodes parents dims roots s s' rows size count true
rows-done same G = record { done = λ e. rw (← same) G; none = λ e. absurd (true≢false e) }

-- the nodes of an entry are within the arrays
module _ {m : Map} {s : List ℕ} {size : ℕ} {nodes parents dims : List ℕ} {roots count : ℕ}
    (R : BeforeMatching m s size nodes parents dims roots count) {k x : ℕ} (h : k < count) where
  pub node-fits : x ≡ get_or nodes k 0 → x < 16
  node-fits a = rw a (node-below R k h)

  pub parent-fits : roots ≤ k → x ≡ get_or parents k 0 → x < 16
  parent-fits l a =
      let p = R.rooted.earlier k l h in
      rw (a, ← p.2) (node-below R p.0 (omega (arith, p.1)))

-- from, i and end are what the loop hands to the row of entry k
module _ {m : Map} {s : List ℕ} {size : ℕ} {nodes parents dims : List ℕ} {roots count : ℕ} {s' rows : List ℕ} {k : ℕ}
    (G : RowsGrown m nodes parents dims roots s s' rows size k) (l : roots ≤ k) (h : k < count) {x i end : ℕ}
    (a : x ≡ get_or parents k 0) (b : i ≡ get_or dims k 0) (e : end ≡ k * size) where
  module _ (R : BeforeMatching m s size nodes parents dims roots count) where
    pub row_asks : Taken m.slots s' end
        × (((i ≤ 3) × (size ≤ m.slots) × (m.slots ≤ get_or rows x 0) × (get_or rows x 0 + size ≤ m.slots + end))
        × RowLinked m.slots (m.link i) s' (get_or rows x 0) size)
    row_asks =
        let from = source R G l h in
        let few = R.walked.fits in (
          rw e G.taken,
          ((rw b (dim-below R k l h), few, rw a from.0, rw (a, e) from.1), rw (a, b) (linked R G l h)),
        )

    pub rows_more : (s'' : List ℕ) (y : ℕ) → y ≡ get_or nodes k 0 → RowMade m.slots (m.link i) (get_or rows x 0) s' s'' end size true
        → RowsGrown m nodes parents dims roots s s'' (set rows y (m.slots + end)) size (k + 1)
    rows_more s'' y c C =
        let D : Row m.slots (m.link (get_or dims k 0)) (get_or rows (get_or parents k 0) 0) s' s'' (k * size) size = rw (a, b, e) at (C.done refl) in
        rw (c, e) (grown-more R G l h s'' D)

  pub rows-clash : (s'' : List ℕ) → RowMade m.slots (m.link i) (get_or rows x 0) s' s'' end size false
      → RowsMade m nodes parents dims roots s s'' rows size count false
  rows-clash s'' C = record {
    done = λ f. absurd (true≢false (sym f));
    none = λ f R. ⊎_elim
        (λ q.
        let y : (r : ℕ) × (r < size) × Row m.slots (m.link (get_or dims k 0)) (get_or rows (get_or parents k 0) 0) s' s'' (k * size) r
        × (1 ≤ mark s'' (m.link (get_or dims k 0) (dart_at s' (get_or rows (get_or parents k 0) 0) r))) = rw (a, b, e) at (C.clash refl) in
        absurd (taken_twice R q G (omega arith) l h s'' y.0 y.1 y.2 y.3))
        (λ q. q)
        (true_or_false (matches (site R.at)));
  }

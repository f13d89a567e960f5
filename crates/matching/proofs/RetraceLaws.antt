-- The laws of the module `retrace`: the row of the second hook while its darts take their places, link by link in the walk's order, and why there is no
-- match where a dart cannot take its place.
use Prim.Native.Nat.{ℕ, ◌+◌, ◌*◌, ◌-◌, ◌≤◌, ◌<◌}
use mathlib.Core.Path.{◌≡◌, refl, sym, ap, ap₂, ◌∙◌, subst}
use mathlib.Core.Logic.{◌⊎◌, inl, inr, ◌≢◌, ⊎_elim, by_cases}
use mathlib.Core.Bool.{Bool, true, false, true≢false}
use mathlib.Core.List.{List}
use native.Mathlib.Nat.{mul-le-mul_right}
use native.Mathlib.Decide.{ℕ_discrete, dec_lt}
use native.Mathlib.Omega.{arith}
use lib.ListN.{get_or}
use Rattle.std.proofs.Common.{Option, Some, None}
use Rattle.std.proofs.lemmas.Option.{none-some, same_Some}
use Rattle.base.proofs.TestLaws.{true_or_false}
use Rattle.base.proofs.RowLaws.{row-end}
use Rattle.model.specs.Map.{Map}
use Rattle.model.specs.Scheme.{left, orbit_dim, has, first_hook}
use Rattle.model.specs.Site.{Site, LiveDart}
use Rattle.model.specs.Match.{image, matches, Assignment}
use Rattle.model.proofs.AcceptedLaws.{small}
use Rattle.model.proofs.HookLaws.{first-hook, second-hook}
use Rattle.model.proofs.MatchLaws.{GoodOrbit, match_assigns, second-link}
use Rattle.model.proofs.MatchIff.{good-orbit}
use Rattle.orbit.specs.Store.{mark, place, next, Taken}
use Rattle.orbit.specs.Places.{Pushed}
use Rattle.orbit.specs.At.{At, site, WalkedAt}
use Rattle.orbit.proofs.PlaceLaws.{places-few, place_in_lem, place-once}
use Rattle.orbit.proofs.StoreLaws.{pushed-here}
use Rattle.orbit.proofs.WalkLaws.{walked-kept}
use Rattle.conditions.specs.Tree.{roots_of}
use Rattle.conditions.proofs.TreeLaws.{one_root, two_roots, roots_few}
use Rattle.matching.specs.Retrace.{Longer, Met, Follows, Standing, Hung, BeforeHanging, Retracing, Retraced, RetracedAll, HungAll}
use Rattle.matching.proofs.ImageRowLaws.{pushed-longer, longer-less, longer_trans, longer-kept}

-- ---- how many hooks there are

-- a row before the last is at most one
pub last_row : (roots size : ℕ) → roots ≤ 2 → (roots - 1) * size ≤ size
last_row roots size h = let one : roots - 1 ≤ 1 = omega arith in let row = mul-le-mul_right size one in omega arith

-- where there is not one alone, there are two, and the second is another node than node 0
pub second-named : (second : ℕ) → (roots_of second ≡ 1 → ⊥) → (roots_of second ≡ 2) × (1 ≤ second)
second-named second ne = by_cases (ℕ_discrete second first_hook)
    (λ e. absurd (ne (one_root second e)))
    (λ other. (two_roots second other, omega arith))

-- ---- `meet`

-- x is what is read of the row at place q
pub row_read : (N : ℕ) (s : List ℕ) (size q x : ℕ) → x ≡ get_or s (N + size + q) 0 → x ≡ place N s (size + q)
unfolding place
row_read N s size q x e = let same : N + size + q ≡ N + (size + q) = omega arith in e ∙ ap (λ (i : ℕ). get_or s i 0) same

pub mark-some : (s : List ℕ) (y w : ℕ) → w ≡ get_or s y 0 → (w ≡ 0 → ⊥) → 1 ≤ mark s y
unfolding mark
mark-some s y w e ne = omega (arith, ne)

-- ---- one dart or one link more

-- the orbit stands where it stood, in a store with further places
pub still_walked : {m : Map} (A : At m) {s s' : List ℕ} {size end end' : ℕ} → WalkedAt (site A) s size → Taken m.slots s end → size ≤ end
    → Longer m.slots s s' end → Taken m.slots s' end' → end ≤ end' → WalkedAt (site A) s' size
still_walked {m} A {s} {s'} {size} {end} {end'} W T few l T' more =
    walked-kept m A.scheme.places (orbit_dim A.scheme) A.dart s s' size (places-few A) W (longer-kept m.slots s s' end l end' T T' more size few)

pub next-longer : (N : ℕ) (s s' : List ℕ) (end : ℕ) → Longer N s s' end → (r p : ℕ) → next N s' r p ≡ next N s r p
unfolding next
next-longer N s s' end l r p = l.rest (4 * N + 4 * r + p) (omega arith)

module _ (E : Site) where
  open E use {map as m, scheme as S}

  abbrev N : ℕ
  N = m.slots

  pub standing-none : (s : List ℕ) (size : ℕ) → Taken N s size → Standing E s size (4 * 0) 0
  standing-none s size t = record {
    taken = let same : size + 0 ≡ size = omega arith in rw same t;
    fits = omega arith;
    alive = λ q h. absurd (omega arith);
    first = λ h. absurd (omega arith);
    images = λ e q h. absurd (omega arith);
    links = λ r p b h. absurd (omega arith);
  }

  -- dart y takes the next place
  pub standing_push : (s : List ℕ) (size c end y : ℕ) → Standing E s size c end → end < size → LiveDart m y → (end ≡ 0 → y ≡ E.other)
      → (matches E ≡ true → y ≡ image E (place N s end) S.second) → (s' : List ℕ) → Pushed N s (size + end) y s' → Standing E s' size c (end + 1)
  standing_push s size c end y O b l start is s' p =
      let longer : Longer N s s' (size + end) = pushed-longer N s s' (size + end) y l.slot p in
      let here : place N s' (size + end) ≡ y = pushed-here N s (size + end) y O.taken l.slot s' p in
      let old : (q : ℕ) → q < end → place N s' (size + q) ≡ place N s (size + q) = λ q h. longer.places (size + q) (omega arith) in
      let fits = p.taken.fits in
      record {
        taken = let same : size + (end + 1) ≡ size + end + 1 = omega arith in rw same p.taken;
        fits = omega arith;
        alive = λ q h. by_cases (ℕ_discrete q end)
            (λ e. ap (λ (z : ℕ). m.state (place N s' (size + z))) e ∙ ap m.state here ∙ l.alive)
            (λ ne. let o : q < end = omega arith in ap m.state (old q o) ∙ O.alive q o);
        first = λ h. by_cases (ℕ_discrete end 0)
            (λ e. ap (λ (z : ℕ). place N s' (size + z)) (sym e) ∙ here ∙ start e)
            (λ ne. let o : 1 ≤ end = omega arith in old 0 (omega arith) ∙ O.first o);
        images = λ e q h.
            let same : place N s' q ≡ place N s q = longer.places q (omega arith) in
            by_cases (ℕ_discrete q end)
            (λ z. ap (λ (k : ℕ). place N s' (size + k)) z ∙ here ∙ is e ∙ ap (λ (x : ℕ). image E x S.second) (ap (place N s) (sym z) ∙ sym same))
            (λ ne. let o : q < end = omega arith in old q o ∙ O.images e q o ∙ ap (λ (x : ℕ). image E x S.second) (sym same));
        links = λ r p b h.
            let o = O.links r p b h in
            let same : next N s' r p ≡ next N s r p = next-longer N s s' (size + end) longer r p in
            record {
              from = omega (arith, o.from);
              to = omega (arith, o.to, same);
              is = ap (m.link (orbit_dim S p)) (old r o.from) ∙ o.is ∙ sym (old _ o.to) ∙ ap (λ (z : ℕ). place N s' (size + z)) (sym same);
            };
      }

  -- other steps were done, with the same darts
  standing-links : (s : List ℕ) (size c c' end : ℕ) → Standing E s size c end → ((r p : ℕ) → p < S.places → 4 * r + p < c' → Follows E s size end r p)
      → Standing E s size c' end
  standing-links s size c c' end O f = record { taken = O.taken; fits = O.fits; alive = O.alive; first = O.first; images = O.images; links = f }

  -- the link at position p of the dart for place `head` was followed
  pub standing-step : (s : List ℕ) (size head p end : ℕ) → S.places ≤ 4 → p < 4 → Standing E s size (4 * head + p) end → Follows E s size end head p
      → Standing E s size (4 * head + (p + 1)) end
  standing-step s size head p end few l O f = standing-links s size (4 * head + p) (4 * head + (p + 1)) end O
      (λ r q k h. by_cases (dec_lt (4 * r + q) (4 * head + p))
      (λ old. O.links r q k old)
      (λ new.
      let row : r ≡ head = omega arith in
      let position : q ≡ p = omega arith in
      subst (λ (u : ℕ). Follows E s size end u q) (sym row) (subst (Follows E s size end head) (sym position) f)))

  -- the links at all positions were followed
  pub standing-place : (s : List ℕ) (size head p end : ℕ) → S.places ≤ p → p ≤ 4 → Standing E s size (4 * head + p) end
      → Standing E s size (4 * (head + 1)) end
  standing-place s size head p end few l O = standing-links s size (4 * head + p) (4 * (head + 1)) end O (λ r q k h. O.links r q k (omega arith))

module _ {M : Map} (A : At M) {s : List ℕ} {size : ℕ} (W : WalkedAt (site A) s size) where
  abbrev E₁ : Site
  E₁ = site A

  open E₁ use {map as m, scheme as S}

  abbrev N₁ : ℕ
  N₁ = m.slots

  open A.sound use {accepted, well}

  abbrev h : ℕ
  h = S.second

  abbrev place₁ : ℕ → ℕ
  place₁ r = place N₁ s r

  -- ---- the places come in turn

  module _ {c end : ℕ} (O : Standing E₁ s size c end) (some : 1 ≤ end) where
    -- a place stands in the row before its links are followed
    pub stands : (head : ℕ) → head < size → 4 * head ≤ c → head < end
    stands head b l = by_cases (ℕ_discrete head 0)
        (λ z. omega arith)
        (λ ne.
        let w = W.reached head (omega arith) b in
        let o = O.links w.from w.position w.below (omega (arith, w.before, w.below, places-few A)) in
        omega (arith, o.to, w.leads))

    -- the next link leads to a place that stands in the row, or to the next one
    pub in_turn : (head p : ℕ) → head < size → p < S.places → c ≡ 4 * head + p → next N₁ s head p ≤ end
    in_turn head p b l e = by_cases (dec_lt end (next N₁ s head p))
        (λ late.
        let w = W.reached end some (omega (arith, (W.links head p b l).0)) in
        let o = O.links w.from w.position w.below (omega (arith, w.first head b p l late)) in
        absurd (omega (arith, o.to, w.leads)))
        (λ near. omega arith)

    -- the link of a dart of the row leads to a live dart
    pub link-live : (q p : ℕ) → q < end → p < S.places → LiveDart m (m.link (orbit_dim S p) (place₁ (size + q)))
    link-live q p b l =
        let slot : place₁ (size + q) < N₁ = O.taken.slot (size + q) (omega arith) in
        let low = accepted.shaped.orbit_dims p l in
        record { slot = well.below _ slot (O.alive q b) _ low; alive = well.alive _ slot (O.alive q b) _ low }

  -- ---- where there is a match

  module _ (q : matches E₁ ≡ true) where
    good₁ : GoodOrbit E₁
    good₁ = good-orbit m S A.dart A.other A.sound

    assignment₁ : Assignment E₁ (image E₁)
    assignment₁ = match_assigns E₁ accepted good₁ well q

    -- the dart that the call names is the image for the first place
    pub first-image : A.other ≡ image E₁ (place₁ 0) h
    first-image = sym assignment₁.second ∙ ap (λ (x : ℕ). image E₁ x h) (sym W.start)

    -- the link of the image for place r leads to the image for the place to which the link leads within the orbit
    pub link_image : (r p x : ℕ) → r < size → p < S.places → x ≡ image E₁ (place₁ r) h → m.link (orbit_dim S p) x ≡ image E₁ (place₁ (next N₁ s r p)) h
    link_image r p x b l e =
        ap (m.link (orbit_dim S p)) e ∙ second-link E₁ accepted good₁ (image E₁) assignment₁ (place₁ r) p (place_in_lem W r b) l
        ∙ ap (λ (x : ℕ). image E₁ x h) (sym (W.links r p b l).1)

    -- a pair with the image of the second hook at place r is that pair
    pair-once : (r u v : ℕ) → r < size → u < size → v < S.nodes → has S left v ≡ true → image E₁ (place₁ u) v ≡ image E₁ (place₁ r) h
        → (u ≡ r) × (v ≡ h)
    pair-once r u v b l c k e =
        let w = assignment₁.different (place₁ u) (W.slot u l) (place_in_lem W u l) v c k
        (place₁ r) (W.slot r b) (place_in_lem W r b) h accepted.shaped.second_below (accepted.consistent.hooks h (second-hook S)).kind e in
        (place-once W u r l b w.0, w.1)

    -- the image for the next place has no place yet
    image-new : (c end y : ℕ) → Standing E₁ s size c end → end < size → 1 ≤ h → y < N₁ → y ≡ image E₁ (place₁ end) h → 1 ≤ mark s y → ⊥
    image-new c end y O b some low is a =
        let e = mark s y - 1 in
        let there = O.taken.found y low a in
        by_cases (dec_lt e size)
        (λ old.
        let w = pair-once end e first_hook b old accepted.shaped.nodes_some (accepted.consistent.hooks first_hook (first-hook S)).kind
        (assignment₁.hook (place₁ e) (W.slot e old) (place_in_lem W e old) ∙ there.1 ∙ is) in
        absurd (omega (arith, w.1)))
        (λ new.
        let u = e - size in
        let l : u < end = omega (arith, there.0) in
        let at : e ≡ size + u = omega arith in
        let w = pair-once end u h b (omega arith) accepted.shaped.second_below (accepted.consistent.hooks h (second-hook S)).kind
        (sym (O.images q u l) ∙ ap place₁ (sym at) ∙ there.1 ∙ is) in
        absurd (omega (arith, w.0)))

  -- where y, which would be the image for place r, cannot stand for it, there is no match
  pub unmet : (c end r y : ℕ) → Standing E₁ s size c end → r < size → 1 ≤ h → y < N₁ → (matches E₁ ≡ true → y ≡ image E₁ (place₁ r) h)
      → ((r < end) × (place₁ (size + r) ≢ y)) ⊎ ((r ≡ end) × (1 ≤ mark s y)) → matches E₁ ≡ false
  unmet c end r y O b some low is u = ⊎_elim
      (λ q. absurd (⊎_elim
      (λ v. v.1 (O.images q r v.0 ∙ sym (is q)))
      (λ v. image-new q c end y O (omega (arith, v.0)) some low (is q ∙ ap (λ (z : ℕ). image E₁ (place₁ z) h) v.0) v.1)
      u))
      (λ q. q)
      (true_or_false (matches E₁))

-- ---- the loop of `expand`

module _ {M : Map} {s : List ℕ} {size : ℕ} {dims : List ℕ} {k head tail : ℕ} (T : Retracing M s size dims k head tail) where
  abbrev E₂ : Site
  E₂ = site T.at

  open E₂ use {map as m₂, scheme as S₂}

  abbrev N₂ : ℕ
  N₂ = m₂.slots

  pub few_positions : k ≤ 4
  few_positions = omega (arith, T.places_are, places-few T.at)

  pub head_stands : head < tail
  head_stands = stands T.at T.walked T.standing T.some head T.low (omega arith)

  pub expand_first : Standing E₂ s size (4 * head + 0) tail × Longer N₂ s s (size + tail)
  expand_first =
      let same : 4 * head + 0 ≡ 4 * head = omega arith in
      (rw same T.standing, record { places = λ e h. refl; rest = λ i h. refl })

  -- x is the dart for place `head`
  module _ (x : ℕ) (a : x ≡ get_or s (N₂ + size + head) 0) where
    x_is : x ≡ place N₂ s (size + head)
    x_is = row_read N₂ s size head x a

    pub x_slot : x < N₂
    x_slot = rw x_is (T.standing.taken.slot (size + head) (let b = head_stands in omega arith))

    -- i is the dimension at position p
    module _ (p i : ℕ) (b : p < k) (c : i ≡ get_or dims p 0) where
      inside : p < S₂.places
      inside = omega (arith, T.places_are)

      i-is : i ≡ orbit_dim S₂ p
      i-is = c ∙ ap (λ (l : List ℕ). get_or l p 0) T.dims_are

      pub dim-low : i ≤ 3
      dim-low = omega (arith, i-is, small S₂ T.at.sound.accepted.shaped, T.at.sound.accepted.shaped.orbit_dims p inside)

      -- y and q are the dart and the place to which the link leads
      module _ {s' : List ℕ} {end : ℕ} (O : Standing E₂ s' size (4 * head + p) end) (L : Longer N₂ s s' (size + tail)) (grown : tail ≤ end)
          (y q : ℕ) (d : y ≡ m₂.link i x) (e : q ≡ get_or s' (4 * N₂ + 4 * head + p) 0) where
        walked' : WalkedAt E₂ s' size
        walked' = still_walked T.at T.walked T.standing.taken (omega arith) L O.taken (omega arith)

        some' : 1 ≤ end
        some' = omega (arith, T.some)

        q_is : q ≡ next N₂ s' head p
        unfolding next
        q_is = e

        y_is : y ≡ m₂.link (orbit_dim S₂ p) (place N₂ s' (size + head))
        y_is = let low = head_stands in d ∙ ap₂ m₂.link i-is (x_is ∙ sym (L.places (size + head) (omega arith)))

        y_live : LiveDart m₂ y
        y_live = let low = head_stands in subst (LiveDart m₂) (sym y_is) (link-live T.at walked' O some' head p (omega arith) inside)

        pub y_slot : y < N₂
        y_slot = y_live.slot

        pub q_next : q ≤ end
        q_next = let l = in_turn T.at walked' O some' head p T.low inside refl in omega (arith, q_is)

        q_low : q < size
        q_low = omega (arith, q_is, (walked'.links head p T.low inside).0)

        y_image : matches E₂ ≡ true → y ≡ image E₂ (place N₂ s' q) S₂.second
        y_image z =
            let low = head_stands in
            y_is ∙ link_image T.at walked' z head p _ T.low inside (O.images z head (omega arith))
            ∙ ap (λ (r : ℕ). image E₂ (place N₂ s' r) S₂.second) (sym q_is)

        -- y stands for place q already
        step-old : q < end → place N₂ s' (size + q) ≡ y → Standing E₂ s' size (4 * head + (p + 1)) end
        step-old below here =
            let low = head_stands in
            standing-step E₂ s' size head p end (places-few T.at) (omega (arith, few_positions)) O record {
              from = omega arith;
              to = omega (arith, q_is);
              is = sym y_is ∙ sym here ∙ ap (λ (r : ℕ). place N₂ s' (size + r)) q_is;
            }

        -- y takes the next place, which is q
        step-new : {s'' : List ℕ} → q ≡ end → Pushed N₂ s' (size + end) y s'' → Longer N₂ s' s'' (size + end)
            → Standing E₂ s'' size (4 * head + (p + 1)) (end + 1)
        step-new {s''} last pushed more =
            let low = head_stands in
            let grows : Standing E₂ s'' size (4 * head + p) (end + 1) =
            standing_push E₂ s' size (4 * head + p) end y O (omega (arith, q_low)) y_live (λ z. absurd (omega (arith, some')))
            (λ z. y_image z ∙ ap (λ (r : ℕ). image E₂ (place N₂ s' r) S₂.second) last) s'' pushed in
            let here : place N₂ s'' (size + end) ≡ y = pushed-here N₂ s' (size + end) y O.taken y_live.slot s'' pushed in
            let same : next N₂ s'' head p ≡ end = next-longer N₂ s' s'' (size + end) more head p ∙ sym q_is ∙ last in
            standing-step E₂ s'' size head p (end + 1) (places-few T.at) (omega (arith, few_positions)) grows record {
              from = omega arith;
              to = omega (arith, same);
              is = ap (m₂.link (orbit_dim S₂ p)) (more.places (size + head) (omega arith)) ∙ sym y_is ∙ sym here
                  ∙ ap (λ (r : ℕ). place N₂ s'' (size + r)) (sym same);
            }

        pub expand_more : {s'' : List ℕ} {end' : ℕ} → Met N₂ s' size end q y s'' (Some end')
            → (tail ≤ end') × (Standing E₂ s'' size (4 * head + (p + 1)) end' × Longer N₂ s s'' (size + tail))
        expand_more (inl v) = let e = same_Some _ _ v.0 in (omega arith, rw (e, v.1) (step-old v.2 v.3, L))
        expand_more {s''} (inr (inl v)) =
            let e = same_Some _ _ v.0 in
            let more = pushed-longer N₂ s' s'' (size + end) y y_live.slot v.2 in
            let longer = longer_trans N₂ s s' (size + tail) L s'' (longer-less N₂ s' s'' (size + end) more (size + tail) (omega arith)) in
            (omega arith, rw e (step-new v.1 v.2 more, longer))
        expand_more (inr (inr v)) = absurd (none-some _ (sym v.0))

        pub expand_none : {s'' : List ℕ} → Met N₂ s' size end q y s'' None → Retraced E₂ s s'' size tail (head + 1) None
        expand_none (inl v) = absurd (none-some _ v.0)
        expand_none (inr (inl v)) = absurd (none-some _ v.0)
        expand_none (inr (inr v)) = record {
          done = λ e z. absurd (none-some e z);
          none = λ z. unmet T.at walked' (4 * head + p) end q y O q_low T.named y_slot y_image v.2;
        }

  pub expand_done : {s' : List ℕ} {p end : ℕ} → Standing E₂ s' size (4 * head + p) end → Longer N₂ s s' (size + tail) → tail ≤ end → p ≡ k
      → Retraced E₂ s s' size tail (head + 1) (Some end)
  expand_done {s'} {p} {end} O L grown e = record {
    done = λ end' is. rw (← same_Some _ _ is)
        (grown, standing-place E₂ s' size head p end (omega (arith, T.places_are)) (omega (arith, few_positions)) O, L);
    none = λ z. absurd (none-some _ (sym z));
  }

-- ---- the loop of `retrace`

module _ {M : Map} {s : List ℕ} {size : ℕ} {dims : List ℕ} {k tail : ℕ} (T : Retracing M s size dims k 0 tail) where
  abbrev E₃ : Site
  E₃ = site T.at

  abbrev N₃ : ℕ
  N₃ = M.slots

  pub retrace_first : Retraced E₃ s s size tail 0 (Some tail)
  retrace_first = record {
    done = λ e is. rw (← same_Some _ _ is) (omega arith, T.standing, record { places = λ e h. refl; rest = λ i h. refl });
    none = λ z. absurd (none-some _ (sym z));
  }

  module _ {s' : List ℕ} {head end : ℕ} (D : Retraced E₃ s s' size tail head (Some end)) where
    abbrev O₃ : Standing E₃ s' size (4 * head) end
    O₃ = (D.done end refl).1

    abbrev some₃ : 1 ≤ end
    some₃ = omega (arith, T.some, (D.done end refl).0)

    abbrev walked₃ : WalkedAt E₃ s' size
    walked₃ = still_walked T.at T.walked T.standing.taken (omega arith) (D.done end refl).2 O₃.taken (omega (arith, (D.done end refl).0))

    abbrev pub retracing : head < size → Retracing M s' size dims k head end
    retracing b = record {
      at = T.at;
      walked = walked₃;
      named = T.named;
      standing = O₃;
      some = some₃;
      low = b;
      dims_are = T.dims_are;
      places_are = T.places_are;
    }

    pub retrace_more : {s'' : List ℕ} {end' : Option ℕ} → Retraced E₃ s' s'' size end (head + 1) end' → Retraced E₃ s s'' size tail (head + 1) end'
    retrace_more {s''} F = record {
      done = λ e l.
          let d = D.done end refl in
          let f = F.done e l in
          let more = longer-less N₃ s' s'' (size + end) f.2 (size + tail) (omega (arith, d.0)) in
          (omega (arith, d.0, f.0), f.1, longer_trans N₃ s s' (size + tail) d.2 s'' more);
      none = F.none;
    }

    -- at the end every place has its dart
    pub retrace_done : head ≡ size → RetracedAll E₃ s s' size true
    retrace_done e = record {
      done = λ q.
          let last = stands T.at walked₃ O₃ some₃ (size - 1) (omega (arith, T.low)) (omega arith) in
          let full : end ≡ size = omega (arith, O₃.fits) in
          (rw (e, full) at O₃, longer-less N₃ s s' (size + tail) (D.done end refl).2 size (omega arith));
      none = λ q. absurd (true≢false q);
    }

  pub retrace_none : {s' : List ℕ} {head : ℕ} → Retraced E₃ s s' size tail head None → RetracedAll E₃ s s' size false
  retrace_none D = record { done = λ q. absurd (true≢false (sym q)); none = λ q. D.none refl }

-- ---- `hang`

module _ {m : Map} {s : List ℕ} {size : ℕ} {dims : List ℕ} {k other roots : ℕ} (R : BeforeHanging m s size dims k other roots) where
  abbrev E₄ : Site
  E₄ = site R.at

  abbrev N₄ : ℕ
  N₄ = m.slots

  pub other-slot : other < N₄
  other-slot = rw R.other_is R.at.sound.other.slot

  pub hung-walked : {s' : List ℕ} → Hung E₄ s' size roots → Longer N₄ s s' size → WalkedAt E₄ s' size
  hung-walked H l =
      let some : 1 ≤ roots = omega (arith, R.roots_are, (roots_few R.at.scheme.second).0) in
      still_walked R.at R.walked R.taken (omega arith) l H.taken (let e = row-end size 0 roots some in omega arith)

  -- the dart that the call names takes the first place, if it has none yet
  module _ (two : roots ≡ 1 → ⊥) where
    pub named : 1 ≤ R.at.scheme.second
    named = (second-named _ (λ z. two (R.roots_are ∙ z))).1

    other-image : matches E₄ ≡ true → other ≡ image E₄ (place N₄ s 0) R.at.scheme.second
    other-image q = R.other_is ∙ first-image R.at R.walked q

    pub first-unmet : {s' : List ℕ} → Met N₄ s size 0 0 other s' None → matches E₄ ≡ false
    first-unmet M = ⊎_elim
        (λ v. absurd (omega (arith, v.2)))
        (λ w. ⊎_elim
        (λ v. absurd (none-some _ v.0))
        (λ v. unmet R.at R.walked (4 * 0) 0 0 other (standing-none E₄ s size R.taken) R.walked.some named other-slot other-image v.2)
        w)
        M

    module _ {s' : List ℕ} {tail : ℕ} (M : Met N₄ s size 0 0 other s' (Some tail)) where
      pub first_met : (1 ≤ tail) × (Standing E₄ s' size (4 * 0) tail × Longer N₄ s s' size)
      first_met = ⊎_elim
          (λ v. absurd (omega (arith, v.2)))
          (λ w. ⊎_elim
          (λ v.
          let live : LiveDart E₄.map other = subst (LiveDart E₄.map) (sym R.other_is) R.at.sound.other in
          let P = standing_push E₄ s size (4 * 0) 0 other (standing-none E₄ s size R.taken) R.walked.some live (λ z. R.other_is) other-image s' v.2 in
          let more = pushed-longer N₄ s s' (size + 0) other live.slot v.2 in
          let e = same_Some _ _ v.0 in
          (omega arith, (rw e P, longer-less N₄ s s' (size + 0) more size (omega arith))))
          (λ v. absurd (none-some _ (sym v.0)))
          w)
          M

      abbrev pub ready : Retracing m s' size dims k 0 tail
      ready = record {
        at = R.at;
        walked = let f = first_met.1 in
            still_walked R.at R.walked R.taken (omega arith) f.1 f.0.taken (omega arith);
        named = named;
        standing = first_met.1.0;
        some = first_met.0;
        low = R.walked.some;
        dims_are = R.dims_are;
        places_are = R.places_are;
      }

      -- both hooks have their rows
      pub hung-both : {s'' : List ℕ} → Standing E₄ s'' size (4 * size) size × Longer N₄ s' s'' size
          → Hung E₄ s'' size roots × Longer N₄ s s'' size
      hung-both {s''} D =
          let both : roots ≡ 2 = R.roots_are ∙ (second-named R.at.scheme.second (λ z. two (R.roots_are ∙ z))).0 in
          let rows : roots * size ≡ size + size = ap (λ (z : ℕ). z * size) both ∙ omega arith in
          (record { taken = rw rows D.0.taken; second = λ z. D.0 }, longer_trans N₄ s s' size first_met.1.1 s'' D.1)

module _ {m : Map} {s : List ℕ} {size : ℕ} {dims : List ℕ} {k other roots : ℕ} where
  -- no second hook
  pub hung-single : roots ≡ 1 → HungAll m s s size dims k other roots true
  hung-single e = record {
    done = λ q R. (
      record {
        taken = let same : roots * size ≡ size = ap (λ (z : ℕ). z * size) e ∙ omega arith in rw same R.taken;
        second = λ two. absurd (omega arith);
      },
      record { places = λ i h. refl; rest = λ i h. refl },
    );
    none = λ q. absurd (true≢false q);
  }

  module _ (two : roots ≡ 1 → ⊥) {s' : List ℕ} where
    -- the dart that the call names has a place in the orbit
    pub hung-none : Met m.slots s size 0 0 other s' None → HungAll m s s' size dims k other roots false
    hung-none M = record { done = λ q. absurd (true≢false (sym q)); none = λ q R. first-unmet R two M }

    pub hung-all : {tail : ℕ} (M : Met m.slots s size 0 0 other s' (Some tail)) {s'' : List ℕ} {w : Bool}
        → ((T : Retracing m s' size dims k 0 tail) → RetracedAll (site T.at) s' s'' size w) → HungAll m s s'' size dims k other roots w
    hung-all M D = record {
      done = λ q R. hung-both R two M ((D (ready R two M)).done q);
      none = λ q R. (D (ready R two M)).none q;
    }

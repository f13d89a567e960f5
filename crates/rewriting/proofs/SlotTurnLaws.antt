-- The laws of `slots::lowest`, `slots::revive` and `slots::turn`, which give slots to the added pairs one after the other: what
-- the first pairs got stays as it is, and the lowest slot that is left is that of the next rank.
use Prim.Native.Nat.{ℕ, ◌+◌, ◌*◌, ◌-◌, ◌≤◌, ◌<◌}
use mathlib.Core.Path.{◌≡◌, refl, sym, ap, ap₂, ◌∙◌, subst}
use mathlib.Core.Logic.{◌⊎◌, inl, inr, ⊎_elim, by_cases}
use mathlib.Core.Bool.{Bool, true, cond}
use Rattle.std.specs.Prelude.{unwrap_or, Option, Some}
use mathlib.Core.List.{List}
use native.Mathlib.Nat.{mul-le-mul_right, lt_of_lt_of_le}
use native.Mathlib.Decide.{ℕ_discrete, dec_lt}
use native.Mathlib.Omega.{arith}
use lib.ListN.{length, get_or, set, length-set}
use lib.Dec.{eqb}
use lib.Seq.{get_or-set_same, get_or-set_other}
use borrow.Author.Tests.{eq-eqb, ne_eqb}
use Rattle.base.specs.Test.{bit}
use Rattle.base.specs.Below.{count_below}
use Rattle.base.specs.First.{nth_lowest}
use Rattle.base.proofs.TestLaws.{impossible}
use Rattle.base.proofs.BelowLaws.{count_le, count_lt, count_injective, count_reaches, count-step, count_gap}
use Rattle.base.proofs.FirstLaws.{nth_at, nth_is}
use Rattle.base.proofs.RowLaws.{digits}
use Rattle.model.specs.Map.{Map, Field, State, Link, Tag, field_of}
use Rattle.model.specs.Scheme.{donor, added}
use Rattle.model.specs.Site.{Site}
use Rattle.model.specs.Match.{image}
use Rattle.model.specs.Edit.{is_free, orbit_size, added_darts, rank, free_slot, dart_of, after_deletion}
use Rattle.model.proofs.MatchLaws.{GoodOrbit}
use Rattle.model.proofs.MatchIff.{good-orbit, match-ready}
use Rattle.model.proofs.EditLaws as K
use Rattle.model.proofs.EditLaws.{Ready}
use Rattle.model.proofs.RankLaws.{rank-low, rank-once, dart-added}
use Rattle.table.specs.Writes.{set_at, with_field}
use Rattle.table.proofs.WriteLaws.{set_same, set_other, links_leave}
use Rattle.orbit.specs.Store.{mark, dart_at}
use Rattle.orbit.specs.At.{At, site}
use Rattle.orbit.proofs.PlaceLaws.{marked_in, mark-once}
use Rattle.rewriting.specs.Darts.{new_field, row_start, Grant, Bare, TagsNoted}
use Rattle.rewriting.specs.Slots.{SlotLeft, Lowest, revived, Due, Granting, Turn}

-- ---- the scan for an unused slot

-- no slot from `from` to before y is unused
pub record Scanned (state : ℕ → ℕ) (from y : ℕ) : Type 0 where
  pub late : from ≤ y
  pub none : (z : ℕ) → from ≤ z → z < y → state z ≡ 0 → ⊥

pub scan_start : (state : ℕ → ℕ) (from : ℕ) → Scanned state from from
scan_start state from = record { late = omega arith; none = λ z g h. absurd (omega arith) }

module _ {state : ℕ → ℕ} {from y : ℕ} (p : Scanned state from y) where
  -- the scan does not pass the unused slot that there is
  pub scan_inside : {N : ℕ} → SlotLeft N state from → y < N
  scan_inside R = by_cases (dec_lt R.slot y) (λ h. absurd (p.none R.slot R.late h R.is)) (λ h. omega (arith, R.fits))

  pub scan_more : (k y' : ℕ) → k ≡ state y → (k ≡ 0 → ⊥) → y' ≡ y + 1 → Scanned state from y'
  scan_more k y' e n q = record {
    late = omega (arith, p.late);
    none = λ z g h f. by_cases (ℕ_discrete z y) (λ w. n (e ∙ ap state (sym w) ∙ f)) (λ w. p.none z g (omega arith) f);
  }

  pub scan_found : {N : ℕ} (k : ℕ) → SlotLeft N state from → k ≡ state y → k ≡ 0 → Lowest N state from y
  scan_found k R e z = record { fits = scan_inside R; late = p.late; is = sym e ∙ z; first = p.none }

-- ---- one slot

pub revived_of : (m m₁ m₂ m₃ : Map) (y v : ℕ) → m₁ ≡ with_field m State (set_at m.state y 1) → m₂ ≡ with_field m₁ (Link 3) (set_at (m₁.link 3) y y)
    → m₃ ≡ with_field m₂ Tag (set_at m₂.tag y v) → m₃ ≡ revived m y v
unfolding revived with_field
revived_of m m₁ m₂ m₃ y v e f g =
    g ∙ ap (λ (a : Map). with_field a Tag (set_at a.tag y v)) (f ∙ ap (λ (a : Map). with_field a (Link 3) (set_at (a.link 3) y y)) e)

module _ (m : Map) (y v : ℕ) where
  revived-other : (x : ℕ) (f : Field) → (x ≡ y → ⊥) → field_of (revived m y v) f x ≡ field_of m f x
  unfolding revived with_field
  revived-other x State ne = set_other m.state y 1 x ne
  revived-other x (Link i) ne = links_leave m 3 (set_at (m.link 3) y y) (Link i) x (λ e. set_other (m.link 3) y y x ne)
  revived-other x Tag ne = set_other m.tag y v x ne

  revived-same : (f : Field) → field_of (revived m y v) f y ≡ new_field m v y f
  unfolding revived with_field
  revived-same State = set_same m.state y 1
  revived-same (Link i) = by_cases (ℕ_discrete i 3)
      (λ (e : i ≡ 3). rw (eq-eqb i 3 e) (set_same (m.link 3) y y))
      (λ (ne : i ≡ 3 → ⊥). rw (ne_eqb i 3 ne) refl)
  revived-same Tag = set_same m.tag y v

-- ---- one pair

module _ {m₀ : Map} {s₀ : List ℕ} {A : At m₀} {size many : ℕ} (G : Grant A s₀ size many) where
  abbrev E : Site
  E = site A

  open E use {map as m, scheme as S, orbit as O}

  abbrev N : ℕ
  N = m.slots

  pub good : GoodOrbit E
  good = good-orbit m S A.dart A.other A.sound

  pub ready : Ready E
  ready = match-ready m S A.dart A.other A.sound G.match G.room

  -- the slots that new darts can take, and the map in which they are unused
  abbrev can : ℕ → Bool
  can = is_free E (image E)

  abbrev bare : Map
  bare = after_deletion E

  pub granting-none : {m' : Map} → Bare E m' → TagsNoted E s₀ size → Granting A s₀ size 0 0 m' s₀
  unfolding count_below
  granting-none b g = record {
    store_long = refl;
    taken = refl;
    low = λ u v d. absurd (omega (arith, d.early));
    fresh = λ u v f d. absurd (omega (arith, d.early));
    other = λ y f no. b.at f y;
    tag = λ u v e h a l. g.at u v e h a;
    dart = λ u v d. absurd (omega (arith, d.early));
    kept = λ i w. refl;
  }

  pub many-few : many ≤ 16
  many-few = omega (arith, G.every, count_le S.nodes (added S), A.sound.accepted.shaped.nodes_few)

  -- as many rows as there are added nodes lie in N words
  pub cells : many * size ≤ N
  unfolding added_darts orbit_size
  cells =
      let r = K.enough ready in
      let e : count_below N O * count_below S.nodes (added S) ≡ size * many = ap₂ ◌*◌ G.walked.counted (sym G.every) in
      omega (arith, count_le N can)

  -- the word of the store that holds the dart of (u, v)
  abbrev cell : ℕ → ℕ → ℕ
  cell u v = row_start N size (count_below v (added S)) + (mark s₀ u - 1)

  -- the row of an added node ends within N words
  pub row_within : (v : ℕ) → v < S.nodes → added S v ≡ true → (count_below v (added S) < many) × (count_below v (added S) * size + size ≤ N)
  row_within v h a =
      let l : count_below v (added S) < many = rw G.every (count_lt (added S) v S.nodes h a) in
      let c = mul-le-mul_right size l in
      (l, omega (arith, cells))

  -- where `nodes` lists the added nodes: the a-th listed node is the a-th added one, and the a-th added node the a-th listed one
  module _ (nodes : List ℕ) (node : (a : ℕ) → a < many → nth_lowest S.nodes (added S) a ≡ Some (get_or nodes a 0)) where
    pub listed_at : (a : ℕ) → a < many
        → (get_or nodes a 0 < S.nodes) × (added S (get_or nodes a 0) ≡ true) × (count_below (get_or nodes a 0) (added S) ≡ a)
    listed_at a h = nth_at S.nodes (added S) a (get_or nodes a 0) (node a h)

    pub listed-is : (v : ℕ) → v < S.nodes → added S v ≡ true → get_or nodes (count_below v (added S)) 0 ≡ v
    listed-is v h a = let n = listed_at (count_below v (added S)) (row_within v h a).0 in count_injective (added S) _ v n.1 a n.2

  cell-fits : (u v : ℕ) → O u ≡ true → v < S.nodes → added S v ≡ true → (2 * N ≤ cell u v) × (cell u v < 3 * N)
  cell-fits u v e h a = let p = marked_in G.walked u e in (omega arith, omega (arith, row_within v h a))

  cell-once : (u v x w : ℕ) → O u ≡ true → O x ≡ true → added S v ≡ true → added S w ≡ true → cell u v ≡ cell x w → (u ≡ x) × (v ≡ w)
  cell-once u v x w e f a b q =
      let p = marked_in G.walked u e in
      let r = marked_in G.walked x f in
      let d = digits size (count_below v (added S)) (mark s₀ u - 1) (count_below w (added S)) (mark s₀ x - 1) (omega arith) (omega arith) (omega arith) in
      (mark-once G.walked u x e f (omega (arith, d.1)), count_injective (added S) v w a b d.0)

  module _ {done free : ℕ} {m' : Map} {s : List ℕ} (g : Granting A s₀ size done free m' s) where
    -- a slot from `free` on is as it was, without the deleted darts
    ahead : (y : ℕ) → free ≤ y → m'.state y ≡ bare.state y
    ahead y h = g.other y State (λ u v d e. omega (arith, g.low u v d))

    -- while there is room, a slot from `free` on is unused
    pub room-ahead : done < count_below N can → SlotLeft N m'.state free
    room-ahead h =
        let r = count_reaches can N done h in
        let late : free ≤ r.0 = by_cases (dec_lt r.0 free)
        (λ l. absurd (omega (arith, count_lt can r.0 free l r.2, g.taken, r.3)))
        (λ l. omega arith) in
        record { slot = r.0; fits = r.1; late = late; is = ahead r.0 late ∙ K.bare-free ready r.0 r.2 }

    module _ {y : ℕ} (L : Lowest N m'.state free y) where
      was_free_lem : can y ≡ true
      was_free_lem = K.free-bare ready y (sym (ahead y L.late) ∙ L.is)

      -- as many can be taken below y as pairs have their slot
      count-below : count_below y can ≡ done
      count-below = count_gap can free y L.late
          (λ z l h. impossible _ (λ e. L.first z l h (ahead z l ∙ K.bare-free ready z e))) ∙ g.taken

      slot_next : free_slot E done ≡ y
      unfolding free_slot
      slot_next = ap (λ (o : Option ℕ). unwrap_or o 0) (nth_is N can done y L.fits was_free_lem count-below)

  -- the next pair takes the lowest slot that is left
  module _ {done free : ℕ} {m' : Map} {s : List ℕ} (g : Granting A s₀ size done free m' s) {y : ℕ} (L : Lowest N m'.state free y)
      (u v : ℕ) (e : O u ≡ true) (h : v < S.nodes) (a : added S v ≡ true) (next : rank E u v ≡ done) where
    here : dart_of E u v ≡ y
    here = dart-added E u v a ∙ ap (free_slot E) next ∙ slot_next g L

    due : Due A (done + 1) u v
    due = record { in_orbit = e; below = h; is_added = a; early = omega arith }

    later : (x w : ℕ) → Due A done x w → Due A (done + 1) x w
    later x w d = record { in_orbit = d.in_orbit; below = d.below; is_added = d.is_added; early = omega (arith, d.early) }

    -- a pair that has its slot now had it before, or is this one
    old_or_new : (x w : ℕ) → Due A (done + 1) x w → Due A done x w ⊎ ((x ≡ u) × (w ≡ v))
    old_or_new x w d = by_cases (dec_lt (rank E x w) done)
        (λ l. inl (record { in_orbit = d.in_orbit; below = d.below; is_added = d.is_added; early = l }))
        (λ l. inr (rank-once E x w u v d.in_orbit e d.below h d.is_added a (omega (arith, d.early))))

    same : (x w : ℕ) → x ≡ u → w ≡ v → dart_of E x w ≡ y
    same x w p q = ap₂ (dart_of E) p q ∙ here

    other-slot : (x w : ℕ) → Due A done x w → dart_of E x w ≡ y → ⊥
    other-slot x w d q = omega (arith, g.low x w d, L.late)

    other-cell : (x w : ℕ) → Due A done x w → cell x w ≡ cell u v → ⊥
    other-cell x w d q =
        let c = cell-once x w u v d.in_orbit e d.is_added a q in
        let r : rank E x w ≡ done = ap₂ (rank E) c.0 c.1 ∙ next in
        omega (arith, d.early)

    -- the tag for this pair
    pub tag-next : get_or s (cell u v) 0 ≡ m.tag (image E u (donor S v))
    unfolding dart_at
    tag-next = g.tag u v e h a (omega arith)

    pub cell_in : cell u v < length s
    cell_in = omega (arith, (cell-fits u v e h a).1, g.store_long, G.long)

    -- the words of a slot that a pair has
    fresh-more : (w : ℕ) → w ≡ m.tag (image E u (donor S v)) → (x z : ℕ) (f : Field) → Due A (done + 1) x z
        → field_of (revived m' y w) f (dart_of E x z) ≡ new_field bare (m.tag (image E x (donor S z))) (dart_of E x z) f
    fresh-more w tag_is x z f d = ⊎_elim
        (λ (b : Due A done x z). revived-other m' y w _ f (other-slot x z b) ∙ g.fresh x z f b)
        (λ (b : (x ≡ u) × (z ≡ v)). let q = same x z b.0 b.1 in
        ap (field_of (revived m' y w) f) q ∙ revived-same m' y w f ∙ was f
        ∙ sym (ap₂ (λ (a k : ℕ). new_field bare (m.tag a) k f) (ap₂ (λ (i k : ℕ). image E i (donor S k)) b.0 b.1) q))
        (old_or_new x z d)
      where
        was : (f : Field) → new_field m' w y f ≡ new_field bare (m.tag (image E u (donor S v))) y f
        was State = refl
        was (Link i) = ap (cond (eqb i 3) y) (g.other y (Link i) other-slot)
        was Tag = tag_is

    pub granting-more : (w i : ℕ) → w ≡ m.tag (image E u (donor S v)) → i ≡ cell u v
        → Granting A s₀ size (done + 1) (y + 1) (revived m' y w) (set s i y)
    unfolding dart_at
    granting-more w i tag_is cell-is = record {
      store_long = length-set s i y ∙ g.store_long;
      taken = count-step y can ∙ ap₂ (λ (k : ℕ) (b : Bool). k + bit b) (count-below g L) (was_free_lem g L);
      low = λ x z d. ⊎_elim
          (λ (b : Due A done x z). omega (arith, g.low x z b, L.late))
          (λ (b : (x ≡ u) × (z ≡ v)). omega (arith, same x z b.0 b.1))
          (old_or_new x z d);
      fresh = fresh-more w tag_is;
      other = λ x f no. revived-other m' y w x f (λ q. no u v due (here ∙ sym q)) ∙ g.other x f (λ a z d. no a z (later a z d));
      tag = λ x z k b c l. get_or-set_other s i (cell x z) y 0 (λ q.
          let w = cell-once x z u v k e c a (q ∙ cell-is) in
          let r : rank E x z ≡ done = ap₂ (rank E) w.0 w.1 ∙ next in
          omega arith) ∙ g.tag x z k b c (omega arith);
      dart = λ x z d. ⊎_elim
          (λ (b : Due A done x z). get_or-set_other s i (cell x z) y 0 (λ q. other-cell x z b (q ∙ cell-is)) ∙ g.dart x z b)
          (λ (b : (x ≡ u) × (z ≡ v)). ap (λ (k : ℕ). get_or (set s i y) k 0) (ap₂ cell b.0 b.1 ∙ sym cell-is)
          ∙ get_or-set_same s i y 0 (omega (arith, cell_in)) ∙ sym (same x z b.0 b.1))
          (old_or_new x z d);
      kept = λ k b. get_or-set_other s i k y 0
          (λ q. let c = cell-fits u v e h a in ⊎_elim (λ (l : k < 2 * N). omega arith) (λ (l : 3 * N ≤ k). omega arith) b) ∙ g.kept k b;
    }

-- ---- the pairs of one orbit dart

module _ {N₁ : ℕ} {M : Map} {s : List ℕ} {size many r free : ℕ} (T : Turn N₁ M s size many r free) where
  open site T.at use {scheme as S, orbit as O}
  open T use {dart as u}

  -- r is a place, at which u stands
  pub turn-place : r < size
  turn-place = omega (arith, marked_in T.grant.walked u T.in_orbit, T.place)

  pub turn-size : size ≤ N₁
  turn-size = omega (arith, T.grant.walked.counted, count_le N₁ O)

  -- after the last of its pairs
  pub turn-done : {a from : ℕ} {m' : Map} {s' : List ℕ} → a ≡ many
      → Granting T.at T.store size (count_below u O * many + a) from m' s'
      → Granting T.at T.store size (count_below u O * many + many) from m' s'
  turn-done {a} {from} {m'} {s'} e g =
      subst (λ (k : ℕ). Granting T.at T.store size (count_below u O * many + k) from m' s') e g

  module _ (a : ℕ) (l : a < many) where
    -- the a-th added node
    node : (v : ℕ) × (v < S.nodes) × (added S v ≡ true) × (count_below v (added S) ≡ a)
    node = count_reaches (added S) S.nodes a (rw (← T.grant.every) l)

    node-rank : rank (site T.at) u node.0 ≡ count_below u O * many + a
    unfolding rank
    node-rank = ap₂ (λ (k c : ℕ). count_below u O * k + c) (sym T.grant.every) node.3

    pub turn-cell : a * size + r < N₁
    turn-cell =
        let c = mul-le-mul_right size l in
        omega (arith, cells T.grant, turn-place)

    -- where its dart will stand
    cell-is : 2 * N₁ + a * size + r ≡ row_start N₁ size (count_below node.0 (added S)) + (mark T.store u - 1)
    cell-is = ap₂ (λ (k c : ℕ). 2 * N₁ + k * size + c) (sym node.3) (omega (arith, T.place))

    module _ {from : ℕ} {m' : Map} {s' : List ℕ}
        (g : Granting T.at T.store size (count_below u O * many + a) from m' s') where
      pub turn-room : SlotLeft N₁ m'.state from
      turn-room =
          let n = node in
          let b = rank-low (site T.at) (good T.grant).slot u n.0 T.in_orbit n.1 n.2 in
          room-ahead T.grant g (subst (λ (k : ℕ). k < count_below N₁ (can T.grant)) node-rank (lt_of_lt_of_le b (K.enough (ready T.grant))))

      -- i is the word of the store for it, which holds the tag and then the dart
      pub turn_more : (i y w : ℕ) (m'' : Map) (s'' : List ℕ) → i ≡ 2 * N₁ + a * size + r → Lowest N₁ m'.state from y → w ≡ get_or s' i 0
          → m'' ≡ revived m' y w → s'' ≡ set s' i y
          → Granting T.at T.store size (count_below u O * many + (a + 1)) (y + 1) m'' s''
      turn_more i y w m'' s'' e low d p q =
          let n = node in
          let j : count_below u O * many + a + 1 ≡ count_below u O * many + (a + 1) = omega arith in
          rw (p, q, ← j) (granting-more T.grant g low u n.0 T.in_orbit n.1 n.2 node-rank w i
          (d ∙ ap (λ (k : ℕ). get_or s' k 0) (e ∙ cell-is) ∙ tag-next T.grant g low u n.0 T.in_orbit n.1 n.2 node-rank) (e ∙ cell-is))

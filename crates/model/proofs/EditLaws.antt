-- The darts of an accepted edit's pairs are slots, all different on each side; so the preserved or added pair of a slot is found, and is the only one.
use Prim.Native.Nat.{ℕ, ◌≤◌, ◌<◌}
use mathlib.Core.Path.{◌≡◌, refl, sym, ap, ap₂, ◌∙◌, subst}
use mathlib.Core.Logic.{◌⊎◌, ⊎_elim}
use mathlib.Core.Bool.{Bool, true, false, true≢false}
use Rattle.std.specs.Prelude.{Option, Some, None, unwrap_or}
use native.Mathlib.Nat.{lt_of_lt_of_le}
use native.Mathlib.Omega.{arith}
use lib.Dec.{eqb}
use borrow.Author.Tests.{eqb-true, eq-eqb}
use Rattle.base.specs.Test.{◌and◌}
use Rattle.base.specs.Below.{count_below}
use Rattle.base.specs.First.{first, some_if}
use Rattle.model.specs.Map.{Map, Field, State, Link, Tag, field_of}
use Rattle.model.specs.Scheme.{left, right, donor, orbit_dim, has, added, preserved, deleted}
use Rattle.model.specs.Conditions.{Arc, absent, explicit, implicit, arc_at}
use Rattle.model.specs.Site.{Site}
use Rattle.model.specs.Accepted.{Accepted}
use Rattle.model.specs.Match.{image, arc_holds, Assignment}
use Rattle.model.specs.Edit.{Pair, freed, is_free, left_word, after_deletion, free_slot, rank, added_darts, room_of, dart_of, pair_of}
use Rattle.model.specs.Edit.{new_link, unnamed_link, new_word, edited}
use Rattle.base.proofs.TestLaws.{and_left, and_right, and_of, or_cases, or_left, or_right, impossible, true_or_false}
use Rattle.base.proofs.FirstLaws.{when-at, first-at, first-only, first-none_of, nth_at, nth_found}
use Rattle.model.proofs.AcceptedLaws.{one_side, left_or_added}
use Rattle.model.proofs.ArcLaws.{explicit-end, implicit-from}
use Rattle.model.proofs.KindLaws.{deleted-left, preserved-left, right-stays}
use Rattle.model.proofs.MatchLaws.{GoodOrbit, arc_of_lem}
use Rattle.model.proofs.RankLaws.{left_not_added, rank-low, rank-once, dart-left, dart-added}
use Rattle.model.proofs.RoomLaws.{freed-at, freed_of, room-is}

abbrev pair : ℕ → ℕ → Pair
pair u s = record { dart = u; node = s }

-- what is known of a site at which the scheme is accepted and neither 9 nor 10 is given
pub record Ready (E : Site) : Type 0 where
  pub accepted : Accepted E.scheme
  pub good : GoodOrbit E
  pub match : Assignment E (image E)
  pub room : added_darts E ≤ room_of E

apart : {x : ℕ} → x ≡ 1 → x ≡ 0 → ⊥
apart p r = omega arith

module _ {E : Site} (r : Ready E) where
  open E use {map as m, scheme as S, orbit as O}
  open r use {match as A, room}

  slot : (u : ℕ) → O u ≡ true → u < m.slots
  slot = r.good.slot

  pub kinds : (s : ℕ) → s < S.nodes → (has S left s ≡ true) ⊎ (added S s ≡ true)
  kinds = left_or_added S r.accepted.shaped

  -- the slots that new darts can take
  abbrev free : ℕ → Bool
  free = is_free E (image E)

  -- there are enough of them
  pub enough : added_darts E ≤ count_below m.slots free
  enough = subst (λ (k : ℕ). added_darts E ≤ k) (sym (room-is E slot A)) room

  pub rank_below : (u s : ℕ) → O u ≡ true → s < S.nodes → added S s ≡ true → rank E u s < count_below m.slots free
  rank_below u s e h a = lt_of_lt_of_le (rank-low E slot u s e h a) enough

  -- the slot of an added pair is below N, was unused or is deleted, and has the pair's rank
  pub free-at : (u s : ℕ) → O u ≡ true → s < S.nodes → added S s ≡ true
      → (dart_of E u s < m.slots) × (free (dart_of E u s) ≡ true) × (count_below (dart_of E u s) free ≡ rank E u s)
  unfolding free_slot
  free-at u s e h a =
      let f = nth_found m.slots free (rank E u s) (rank_below u s e h a) in
      let n = nth_at m.slots free (rank E u s) f.0 f.1 in
      subst (λ (x : ℕ). (x < m.slots) × (free x ≡ true) × (count_below x free ≡ rank E u s))
      (sym (dart-added E u s a ∙ ap (λ (o : Option ℕ). unwrap_or o 0) f.1)) n

  -- ---- the map without the deleted darts

  abbrev bare : Map
  bare = after_deletion E

  pub field_freed : (k : Field) (x : ℕ) → freed E (image E) x ≡ true → field_of bare k x ≡ 0
  unfolding after_deletion left_word
  field_freed State x e = rw e refl
  field_freed (Link i) x e = rw e refl
  field_freed Tag x e = rw e refl

  pub field_stays : (k : Field) (x : ℕ) → freed E (image E) x ≡ false → field_of bare k x ≡ field_of m k x
  unfolding after_deletion left_word
  field_stays State x e = rw e refl
  field_stays (Link i) x e = rw e refl
  field_stays Tag x e = rw e refl

  -- new darts can take what is unused there
  pub bare-free : (x : ℕ) → free x ≡ true → bare.state x ≡ 0
  unfolding is_free
  bare-free x e = ⊎_elim
      (λ q. field_freed State x q)
      (λ q. field_stays State x q ∙ ⊎_elim (λ z. eqb-true _ _ z) (λ z. absurd (true≢false (sym z ∙ q))) (or_cases _ _ e))
      (true_or_false (freed E (image E) x))

  pub free-bare : (x : ℕ) → bare.state x ≡ 0 → free x ≡ true
  unfolding is_free
  free-bare x e = ⊎_elim
      (λ q. or_right _ q)
      (λ q. or_left _ (eq-eqb _ _ (sym (field_stays State x q) ∙ e)))
      (true_or_false (freed E (image E) x))

  -- a dart that is live there was live, and is not deleted
  pub bare-live : (x : ℕ) → bare.state x ≡ 1 → (m.state x ≡ 1) × (freed E (image E) x ≡ false)
  bare-live x e =
      let q = impossible (freed E (image E) x) (λ q. apart e (field_freed State x q)) in
      (sym (field_stays State x q) ∙ e, q)

  pub left-alive : (u s : ℕ) → O u ≡ true → s < S.nodes → has S left s ≡ true → m.state (dart_of E u s) ≡ 1
  left-alive u s e h l = ap m.state (dart-left E u s l) ∙ (A.darts u (slot u e) e s h l).1

  -- the dart of a preserved pair stays
  pub kept-stays : (u s : ℕ) → O u ≡ true → s < S.nodes → preserved S s ≡ true → freed E (image E) (dart_of E u s) ≡ false
  kept-stays u s e h p = impossible _ (λ q.
      let f = freed-at E (image E) _ q in
      let l = preserved-left S s p in
      let d = A.different f.0 f.2 f.3 f.1 f.4 (deleted-left S f.1 f.5) u (slot u e) e s h l (f.6 ∙ dart-left E u s l) in
      true≢false (sym f.5 ∙ ap (deleted S) d.1 ∙ right-stays S s (or_left _ p)))

  pub kept-alive : (u s : ℕ) → O u ≡ true → s < S.nodes → preserved S s ≡ true → bare.state (dart_of E u s) ≡ 1
  kept-alive u s e h p = field_stays State _ (kept-stays u s e h p) ∙ left-alive u s e h (preserved-left S s p)

  pub dart-slot : (u s : ℕ) → O u ≡ true → s < S.nodes → dart_of E u s < m.slots
  dart-slot u s e h = ⊎_elim
      (λ l. subst (λ (x : ℕ). x < m.slots) (sym (dart-left E u s l)) (A.darts u (slot u e) e s h l).0)
      (λ a. (free-at u s e h a).0)
      (kinds s h)

  -- the darts of left pairs are different, and so are those of right pairs; a deleted and an added pair may have one dart
  pub left_injective : (u s v t : ℕ) → O u ≡ true → O v ≡ true → s < S.nodes → t < S.nodes → has S left s ≡ true → has S left t ≡ true
      → dart_of E u s ≡ dart_of E v t → (u ≡ v) × (s ≡ t)
  left_injective u s v t e f h l a b q =
      A.different u (slot u e) e s h a v (slot v f) f t l b (sym (dart-left E u s a) ∙ q ∙ dart-left E v t b)

  pub right_injective : (u s v t : ℕ) → O u ≡ true → O v ≡ true → s < S.nodes → t < S.nodes → has S right s ≡ true → has S right t ≡ true
      → dart_of E u s ≡ dart_of E v t → (u ≡ v) × (s ≡ t)
  right_injective u s v t e f h l x y q = ⊎_elim
      (λ a. ⊎_elim
      (λ b. left_injective u s v t e f h l (preserved-left S s a) (preserved-left S t b) q)
      (λ b. absurd (apart (kept-alive u s e h a) (ap bare.state q ∙ bare-free _ (free-at v t f l b).1)))
      (or_cases _ _ y))
      (λ a. ⊎_elim
      (λ b. absurd (apart (kept-alive v t f l b) (ap bare.state (sym q) ∙ bare-free _ (free-at u s e h a).1)))
      (λ b. rank-once E u s v t e f h l a b (sym (free-at u s e h a).2 ∙ ap (λ (x : ℕ). count_below x free) q ∙ (free-at v t f l b).2))
      (or_cases _ _ y))
      (or_cases _ _ x)

  -- ---- the pair of a slot

  pub pair-at : (x : ℕ) (p : Pair) → pair_of E x ≡ Some p
      → (O p.dart ≡ true) × (p.node < S.nodes) × (has S right p.node ≡ true) × (dart_of E p.dart p.node ≡ x)
  unfolding pair_of
  pair-at x p e =
      let f = first-at m.slots _ p e in
      let g = first-at S.nodes _ p f.2 in
      let w = when-at _ g.2 in
      let d : f.0 ≡ p.dart = ap (λ (r : Pair). r.dart) w.1 in
      let n : g.0 ≡ p.node = ap (λ (r : Pair). r.node) w.1 in (
        ap O (sym d) ∙ and_left _ _ w.0,
        subst (λ (k : ℕ). k < S.nodes) n g.1,
        ap (has S right) (sym n) ∙ and_left _ _ (and_right _ _ w.0),
        sym (ap₂ (dart_of E) d n) ∙ eqb-true _ _ (and_right _ _ (and_right _ _ w.0)),
      )

  module _ (u s : ℕ) (e : O u ≡ true) (h : s < S.nodes) (y : has S right s ≡ true) where
    sole : (v t : ℕ) (p : Pair) → t < S.nodes → some_if (O v and (has S right t and eqb (dart_of E v t) (dart_of E u s))) (pair v t) ≡ Some p → p ≡ pair u s
    sole v t p l q =
        let w = when-at _ q in
        let z = and_right _ _ w.0 in
        let d = right_injective v t u s (and_left _ _ w.0) e l h (and_left _ _ z) y (eqb-true _ _ (and_right _ _ z)) in
        sym w.1 ∙ ap₂ pair d.0 d.1

    inner : first S.nodes (λ t. some_if (O u and (has S right t and eqb (dart_of E u t) (dart_of E u s))) (pair u t)) ≡ Some (pair u s)
    unfolding some_if
    inner = first-only S.nodes _ s (pair u s) h
        (ap (λ (b : Bool). some_if b (pair u s)) (and_of e (and_of y (eq-eqb (dart_of E u s) _ refl)))) (λ t p l q. sole u t p l q)

    pub pair_of_lem : pair_of E (dart_of E u s) ≡ Some (pair u s)
    unfolding pair_of
    pair_of_lem = first-only m.slots _ u (pair u s) (slot u e) inner
        (λ v p l q. let f = first-at S.nodes _ p q in sole v f.0 p f.1 f.2)

  pub pair-none : (x : ℕ) → ((u s : ℕ) → O u ≡ true → s < S.nodes → has S right s ≡ true → dart_of E u s ≡ x → ⊥) → pair_of E x ≡ None
  unfolding pair_of some_if
  pair-none x f = first-none_of m.slots _ (λ u b. first-none_of S.nodes _ (λ s h. ⊎_elim
      (λ t. let z = and_right _ _ t in absurd (f u s (and_left _ _ t) h (and_left _ _ z) (eqb-true _ _ (and_right _ _ z))))
      (λ t. rw t refl)
      (true_or_false (O u and (has S right s and eqb (dart_of E u s) x)))))

  -- ---- the new map

  -- a slot that is no preserved or added pair's dart stays as it stood, or is deleted
  pub field_other : (k : Field) (x : ℕ) → pair_of E x ≡ None → field_of (edited E) k x ≡ field_of bare k x
  unfolding edited new_word
  field_other State x e = rw e refl
  field_other (Link i) x e = rw e refl
  field_other Tag x e = rw e refl

  module _ (u s : ℕ) (e : O u ≡ true) (h : s < S.nodes) where
    pub pair-freed : deleted S s ≡ true → freed E (image E) (dart_of E u s) ≡ true
    pair-freed d = freed_of E (image E) _ u s (slot u e) e h d (sym (dart-left E u s (deleted-left S s d)))

    pub field_deleted : (k : Field) → deleted S s ≡ true → pair_of E (dart_of E u s) ≡ None → field_of (edited E) k (dart_of E u s) ≡ 0
    field_deleted k d q = field_other k _ q ∙ field_freed k _ (pair-freed d)

    module _ (k : has S right s ≡ true) where
      pub state-pair : (edited E).state (dart_of E u s) ≡ 1
      unfolding edited new_word
      state-pair = rw (pair_of_lem u s e h k) refl

      link-pair : (i : ℕ) → (edited E).link i (dart_of E u s)
          ≡ new_link E u s (arc_at S right s i) (unnamed_link E (added S s) i (dart_of E u s))
      unfolding edited new_word
      link-pair i = ap (λ (o : Option Pair). new_word E o (bare.link i (dart_of E u s))
          (λ v t. new_link E v t (arc_at S right t i) (unnamed_link E (added S t) i (dart_of E u s)))) (pair_of_lem u s e h k)

      -- by the right arc that the node has
      pub link-explicit : (i t : ℕ) → arc_at S right s i ≡ explicit t → (edited E).link i (dart_of E u s) ≡ dart_of E u t
      unfolding new_link
      link-explicit i t a = link-pair i ∙ rw a refl

      pub link-implicit : (i p : ℕ) → arc_at S right s i ≡ implicit p → (edited E).link i (dart_of E u s) ≡ dart_of E (m.link (orbit_dim S p) u) s
      unfolding new_link
      link-implicit i p a = link-pair i ∙ rw a refl

      pub link-kept : (i : ℕ) → added S s ≡ false → arc_at S right s i ≡ absent → (edited E).link i (dart_of E u s) ≡ m.link i (dart_of E u s)
      unfolding new_link
      link-kept i n a = link-pair i ∙ rw (a, n) refl

      -- where both sides have the same arc
      pub link-same : (i : ℕ) → i ≤ 3 → has S left s ≡ true → arc_at S left s i ≡ arc_at S right s i
          → (edited E).link i (dart_of E u s) ≡ m.link i (dart_of E u s)
      unfolding arc_holds
      link-same i low l same = go (arc_at S right s i) refl
        where
          holds : (c : Arc) → arc_at S left s i ≡ c → i ≤ S.n → arc_holds E u s i c ≡ true
          holds c z k = arc_of_lem E r.accepted r.good (image E) A u e s h l i k c z

          go : (c : Arc) → arc_at S right s i ≡ c → (edited E).link i (dart_of E u s) ≡ m.link i (dart_of E u s)
          go absent a = link-kept i (left_not_added S s l) a
          go (explicit t) a =
              let end = explicit-end S left (one_side r.accepted left) s i t (same ∙ a) in
              link-explicit i t a ∙ dart-left E u t end.1 ∙ sym (eqb-true _ _ (holds (explicit t) (same ∙ a) end.2))
              ∙ ap (m.link i) (sym (dart-left E u s l))
          go (implicit p) a =
              let f = implicit-from S left s i p (same ∙ a) in
              let words = (r.accepted.shaped.sides left).words s p h f.0 in
              let dim : i ≤ S.n = ⊎_elim (λ w. absurd (omega (arith, f.1))) (λ w. omega (arith, f.1)) words in
              link-implicit i p a ∙ dart-left E (m.link (orbit_dim S p) u) s l ∙ sym (eqb-true _ _ (holds (implicit p) (same ∙ a) dim))
              ∙ ap (m.link i) (sym (dart-left E u s l))

      pub link-own : (i : ℕ) → added S s ≡ true → arc_at S right s i ≡ absent → (edited E).link i (dart_of E u s) ≡ dart_of E u s
      unfolding new_link
      link-own i n a = link-pair i ∙ rw (a, n) refl

      pub tag-new : added S s ≡ true → (edited E).tag (dart_of E u s) ≡ m.tag (image E u (donor S s))
      unfolding edited new_word
      tag-new n = rw (pair_of_lem u s e h k, n) refl

      pub tag-kept : added S s ≡ false → (edited E).tag (dart_of E u s) ≡ m.tag (dart_of E u s)
      unfolding edited new_word
      tag-kept n = rw (pair_of_lem u s e h k, n) refl

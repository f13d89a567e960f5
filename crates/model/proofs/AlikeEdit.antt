-- An accepted edit at the same dart of alike well-formed maps leaves alike maps, with the same counts.
use Prim.Native.Nat.{ℕ, ◌+◌, ◌*◌, ◌≤◌, ◌<◌}
use mathlib.Core.Path.{◌≡◌, refl, sym, ap, ap₂, ◌∙◌}
use mathlib.Core.Logic.{⊎_elim}
use mathlib.Core.Bool.{Bool, true, false, cond, true≢false}
use Rattle.std.specs.Prelude.{Option, Some, None, unwrap_or}
use lib.Dec.{eqb}
use Rattle.base.specs.Test.{◌and◌, ◌or◌}
use Rattle.base.specs.Below.{any_below, count_below}
use Rattle.base.specs.First.{first, nth_lowest, some_if}
use Rattle.base.proofs.TestLaws.{and_same, cond_same}
use Rattle.base.proofs.FirstLaws.{first-same, nth_same}
use Rattle.model.specs.Map.{Map, State}
use Rattle.model.specs.WellFormed.{WellFormed}
use Rattle.model.specs.Scheme.{left, right, donor, orbit_dim, has, deleted, added}
use Rattle.model.specs.Conditions.{Arc, absent, explicit, implicit, arc_at}
use Rattle.model.specs.Site.{Site}
use Rattle.model.specs.Match.{image}
use Rattle.model.specs.Edit.{Pair, freed, is_free, orbit_size, added_darts, deleted_darts, room_of, rank, free_slot, dart_of, pair_of}
use Rattle.model.specs.Edit.{new_link, unnamed_link, new_tag, left_word, after_deletion, new_word, edited}
use Rattle.model.specs.Alike.{Alike}
use Rattle.model.proofs.AcceptedLaws.{one_side, donor-left}
use Rattle.model.proofs.ArcLaws.{explicit-end, implicit-from}
use Rattle.model.proofs.EditLaws.{Ready, kinds, pair-at, left-alive, bare-live, field_other}
use Rattle.model.proofs.RoomLaws.{freed-same}
use Rattle.model.proofs.AlikeLaws.{same-state, same-unused, same-room}
use Rattle.model.proofs.AlikeMatch.{moved, orbit-link-same, same-image}

-- ---- counts

module _ (E : Site) (m' : Map) (a : Alike E.map m') where
  pub same_size : orbit_size E ≡ orbit_size (moved E m')
  unfolding orbit_size
  same_size = ap (λ (k : ℕ). count_below k E.orbit) a.slots

  pub same-added : added_darts E ≡ added_darts (moved E m')
  unfolding added_darts
  same-added = ap (λ (k : ℕ). k * count_below E.scheme.nodes (added E.scheme)) same_size

  pub same-deleted : deleted_darts E ≡ deleted_darts (moved E m')
  unfolding deleted_darts
  same-deleted = ap (λ (k : ℕ). k * count_below E.scheme.nodes (deleted E.scheme)) same_size

  pub same-space : (n : ℕ) → WellFormed n E.map → WellFormed n m' → room_of E ≡ room_of (moved E m')
  unfolding room_of
  same-space n w w' = ap₂ (λ (j k : ℕ). j + k) (same-room E.map m' a n w w') same-deleted

-- ---- a word of the new map, by the pair of its slot

new-word-same : (E : Site) (m' : Map) (o : Option Pair) (old old' : ℕ) (f f' : ℕ → ℕ → ℕ)
    → (o ≡ None → old ≡ old')
    → ((p : Pair) → o ≡ Some p → f p.dart p.node ≡ f' p.dart p.node)
    → new_word E o old f ≡ new_word (moved E m') o old' f'
unfolding new_word
new-word-same E m' None old old' f f' stood new = stood refl
new-word-same E m' (Some p) old old' f f' stood new = new p refl

unnamed-same : (E : Site) (m' : Map) (b : Bool) (i x : ℕ) → (b ≡ false → E.map.link i x ≡ m'.link i x)
    → unnamed_link E b i x ≡ unnamed_link (moved E m') b i x
unnamed-same E m' true i x kept = refl
unnamed-same E m' false i x kept = kept refl

tag_same : (E : Site) (m' : Map) (b : Bool) (u s x : ℕ) → E.map.tag (image E u (donor E.scheme s)) ≡ m'.tag (image (moved E m') u (donor E.scheme s))
    → (b ≡ false → E.map.tag x ≡ m'.tag x) → new_tag E b u s x ≡ new_tag (moved E m') b u s x
tag_same E m' true u s x new kept = new
tag_same E m' false u s x new kept = kept refl

module _ (E : Site) (m' : Map) (a : Alike E.map m') (w : WellFormed E.scheme.n E.map) (w' : WellFormed E.scheme.n m')
    (ready : Ready E) where
  open E use {map as m, scheme as S, orbit as O}
  open ready use {accepted as g, good as o, match as A}

  abbrev E' : Site
  E' = moved E m'

  -- ---- the dart of a pair, the pair of a slot

  left_of : (s : ℕ) → s < S.nodes → added S s ≡ false → has S left s ≡ true
  left_of s h n = ⊎_elim (λ l. l) (λ e. absurd (true≢false (sym e ∙ n))) (kinds ready s h)

  -- the same slots are deleted, and the same can be taken
  same-freed : (x : ℕ) → freed E (image E) x ≡ freed E' (image E') x
  unfolding freed
  same-freed x =
      freed-same E (image E) (image E') (λ u s e h l. same-image E g m' a o A u e s h l) x
      ∙ ap (λ (k : ℕ). any_below k (λ u. O u and any_below S.nodes (λ s. deleted S s and eqb (image E' u s) x))) a.slots

  same-free : (x : ℕ) → x < m.slots → is_free E (image E) x ≡ is_free E' (image E') x
  unfolding is_free
  same-free x h = ap₂ (λ (p q : Bool). p or q) (same-unused m m' a S.n w w' x h) (same-freed x)

  pub same-dart : (u s : ℕ) → O u ≡ true → s < S.nodes → dart_of E u s ≡ dart_of E' u s
  unfolding dart_of free_slot rank
  same-dart u s e h = cond_same (added S s) _ _ _ _
      (λ n. ap (λ (k : Option ℕ). unwrap_or k 0) (nth_same m.slots _ _ (rank E u s) same-free
      ∙ ap (λ (z : ℕ). nth_lowest z (is_free E' (image E')) (rank E u s)) a.slots))
      (λ n. same-image E g m' a o A u e s h (left_of s h n))

  pub same-pair : (x : ℕ) → pair_of E x ≡ pair_of E' x
  unfolding pair_of
  same-pair x =
      first-same m.slots _ _ (λ u b. first-same S.nodes _ _ (λ s h.
      ap (λ (t : Bool). some_if t (record { dart = u; node = s }))
      (and_same (O u) (λ e. ap (λ (y : ℕ). has S right s and eqb y x) (same-dart u s e h)))))
      ∙ ap (λ (k : ℕ). first k (λ u. first S.nodes (λ s. some_if (O u and (has S right s and eqb (dart_of E' u s) x)) (record { dart = u; node = s }))))
      a.slots

  -- the dart of a donor is live, so it has the same tag
  donor-tag : (u s : ℕ) → O u ≡ true → s < S.nodes → m.tag (image E u (donor S s)) ≡ m'.tag (image E' u (donor S s))
  donor-tag u s e h =
      let below = g.shaped.donor_below s h in
      let is-left = donor-left S g s h in
      let d = A.darts u (o.slot u e) e (donor S s) below is-left in
      a.tag _ d.0 d.1 ∙ ap m'.tag (same-image E g m' a o A u e (donor S s) below is-left)

  -- ---- the new map

  module _ (x : ℕ) (h : x < m.slots) where
    -- a word that no pair has
    left-same : (v v' : ℕ) → (freed E (image E) x ≡ false → v ≡ v') → left_word E x v ≡ left_word E' x v'
    unfolding left_word
    left-same v v' stood = cond_same (freed E (image E) x) _ _ _ _ (λ d. refl) stood ∙ ap (λ (b : Bool). cond b 0 v') (same-freed x)

    new-state : (edited E).state x ≡ (edited E').state x
    unfolding edited after_deletion
    new-state =
        new-word-same E m' (pair_of E x) _ _ _ _ (λ n. left-same _ _ (λ d. same-state m m' a S.n w w' x h)) (λ p q. refl)
        ∙ ap (λ (z : Option Pair). new_word E' z (left_word E' x (m'.state x)) (λ u s. 1)) (same-pair x)

    -- where no pair has the slot, it was live before
    stood-live : (edited E).state x ≡ 1 → pair_of E x ≡ None → m.state x ≡ 1
    stood-live l n = (bare-live ready x (sym (field_other ready State x n) ∙ l)).0

    -- where a pair that is not added has it, too
    pair-live : (u s : ℕ) → O u ≡ true → s < S.nodes → dart_of E u s ≡ x → added S s ≡ false → m.state x ≡ 1
    pair-live u s e b d n = ap m.state (sym d) ∙ left-alive ready u s e b (left_of s b n)

    new-link-same : (i : ℕ) → i ≤ 3 → (u s : ℕ) → O u ≡ true → s < S.nodes → dart_of E u s ≡ x → (c : Arc) → arc_at S right s i ≡ c
        → new_link E u s c (unnamed_link E (added S s) i x) ≡ new_link E' u s c (unnamed_link E' (added S s) i x)
    unfolding new_link
    new-link-same i k u s e b d absent q = unnamed-same E m' (added S s) i x (λ n. a.link x h (pair-live u s e b d n) i k)
    new-link-same i k u s e b d (explicit t) q = same-dart u t e (explicit-end S right (one_side g right) s i t q).0
    new-link-same i k u s e b d (implicit p) q =
        let f = implicit-from S right s i p q in
        same-dart (m.link (orbit_dim S p) u) s (o.link u p e f.0) b
        ∙ ap (λ (v : ℕ). dart_of E' v s) (orbit-link-same E g m' a o u p e f.0)

    new-link : (edited E).state x ≡ 1 → (i : ℕ) → i ≤ 3 → (edited E).link i x ≡ (edited E').link i x
    unfolding edited after_deletion
    new-link l i k =
        new-word-same E m' (pair_of E x) _ _ _ _
        (λ n. left-same _ _ (λ d. a.link x h (stood-live l n) i k))
        (λ p q. let r = pair-at ready x p q in new-link-same i k _ _ r.0 r.1 r.3 _ refl)
        ∙ ap (λ (z : Option Pair). new_word E' z (left_word E' x (m'.link i x))
        (λ u s. new_link E' u s (arc_at S right s i) (unnamed_link E' (added S s) i x))) (same-pair x)

    new-tag : (edited E).state x ≡ 1 → (edited E).tag x ≡ (edited E').tag x
    unfolding edited after_deletion
    new-tag l =
        new-word-same E m' (pair_of E x) _ _ _ _
        (λ n. left-same _ _ (λ d. a.tag x h (stood-live l n)))
        (λ p q.
        let r = pair-at ready x p q in
        tag_same E m' (added S p.node) p.dart p.node x
        (donor-tag _ _ r.0 r.1)
        (λ n. a.tag x h (pair-live _ _ r.0 r.1 r.3 n)))
        ∙ ap (λ (z : Option Pair). new_word E' z (left_word E' x (m'.tag x)) (λ u s. new_tag E' (added S s) u s x)) (same-pair x)

  pub edited-alike : Alike (edited E) (edited E')
  unfolding edited
  edited-alike = record {
    slots = a.slots;
    live = λ x h. ((λ e. sym (new-state x h) ∙ e), (λ e. new-state x h ∙ e));
    link = λ x h l i k. new-link x h l i k;
    tag = λ x h l. new-tag x h l;
  }

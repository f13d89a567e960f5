-- The darts of any rewriting are accounted for: live darts after it and deleted darts are as many as live darts before it and added darts.
use Prim.Native.Nat.{ℕ, ◌+◌, ◌<◌}
use mathlib.Core.Path.{◌≡◌, refl, sym, ap, ◌∙◌, subst}
use mathlib.Core.Logic.{⊎_elim}
use mathlib.Core.Bool.{Bool, true, false, not, true≢false}
use native.Mathlib.Omega.{arith}
use lib.Dec.{eqb}
use borrow.Author.Tests.{eqb-true, eq-eqb, ne_eqb}
use Rattle.base.specs.Test.{◌and◌, ◌or◌}
use Rattle.base.specs.Below.{any_below, count_below}
use Rattle.base.proofs.TestLaws.{and_left, and_right, and_of, or_left, or_right, or_cases, impossible}
use Rattle.base.proofs.BelowLaws.{any_at, any_of, count_or, count_same}
use Rattle.base.proofs.PairLaws.{count-pairs}
use Rattle.model.specs.Map.{Map, State, live, unused}
use Rattle.model.specs.Scheme.{right, has, deleted, preserved, added}
use Rattle.model.specs.Accepted.{Accepted}
use Rattle.model.specs.Site.{Site}
use Rattle.model.specs.Edit.{freed, is_free, rank, orbit_size, added_darts, deleted_darts}
use Rattle.model.specs.Rewriting.{Rewriting}
use Rattle.model.proofs.KindLaws.{right-stays, deleted-left, preserved-left}
use Rattle.model.proofs.RankLaws.{rank-once}
use Rattle.model.proofs.MatchLaws.{GoodOrbit}
use Rattle.model.proofs.RoomLaws.{freed-at, freed_of}
use Rattle.model.proofs.RewritingOnce.{Role, right_pair, gone_pair, no_pair, role}

module _ (E : Site) (a : Accepted E.scheme) (o : GoodOrbit E) {m' : Map} {f : ℕ → ℕ → ℕ} (r : Rewriting E m' f) where
  open E use {map as m, scheme as S, orbit as O}

  -- x is the dart of an added pair
  taken : ℕ → Bool
  taken x = any_below m.slots (λ u. O u and any_below S.nodes (λ s. added S s and eqb (f u s) x))

  taken_of : (u s x : ℕ) → O u ≡ true → s < S.nodes → added S s ≡ true → f u s ≡ x → taken x ≡ true
  unfolding taken
  taken_of u s x e h k q = any_of m.slots _ u (o.slot u e) (and_of e (any_of S.nodes _ s h (and_of k (eq-eqb (f u s) x q))))

  taken_at : (x : ℕ) → taken x ≡ true → (u s : ℕ) × (O u ≡ true) × (s < S.nodes) × (added S s ≡ true) × (f u s ≡ x)
  unfolding taken
  taken_at x e =
      let b = any_at m.slots _ e in
      let c = any_at S.nodes _ (and_right _ _ b.2) in
      (b.0, c.0, and_left _ _ b.2, c.1, and_left _ _ c.2, eqb-true _ _ (and_right _ _ c.2))

  -- a live dart that the edit does not delete
  kept : ℕ → Bool
  kept x = live m x and not (freed E f x)

  kept_not_freed : (x : ℕ) → kept x ≡ true → freed E f x ≡ true → ⊥
  unfolding kept
  kept_not_freed x k g = true≢false (sym (and_right _ _ k) ∙ ap not g)

  -- a deleted dart was live
  freed-live : (x : ℕ) → freed E f x ≡ true → live m x ≡ true
  freed-live x e =
      let d = freed-at E f x e in
      let w = (r.assigned.darts d.0 d.2 d.3 d.1 d.4 (deleted-left S d.1 d.5)).1 in
      eq-eqb (m.state x) 1 (ap m.state (sym d.6) ∙ w)

  -- ---- before

  live-before : (x : ℕ) → live m x ≡ (kept x or freed E f x)
  unfolding kept ◌and◌ ◌or◌
  live-before x = go (live m x) (freed E f x) (freed-live x)
    where
      go : (l g : Bool) → (g ≡ true → l ≡ true) → l ≡ (l and not g or g)
      go true true h = refl
      go true false h = refl
      go false true h = h refl
      go false false h = refl

  -- ---- after

  preserved-kept : (u s : ℕ) → O u ≡ true → s < S.nodes → preserved S s ≡ true → has S right s ≡ true → kept (f u s) ≡ true
  unfolding kept
  preserved-kept u s e h k z =
      let l = preserved-left S s k in
      let slot = o.slot u e in
      and_of (eq-eqb _ _ (r.assigned.darts u slot e s h l).1) (ap not (impossible _ (λ g.
      let d = freed-at E f (f u s) g in
      let w = r.assigned.different u slot e s h l d.0 d.2 d.3 d.1 d.4 (deleted-left S d.1 d.5) (sym d.6) in
      true≢false (sym (subst (λ (t : ℕ). deleted S t ≡ true) (sym w.1) d.5) ∙ right-stays S s z))))

  -- neither kept nor taken, or not deleted and not taken
  none : (p q : Bool) → p ≡ false → q ≡ false → false ≡ (p or q)
  unfolding ◌or◌
  none p q e g = rw (e, g) refl

  alone : (l g t : Bool) → g ≡ false → t ≡ false → l ≡ ((l and not g) or t)
  unfolding ◌and◌ ◌or◌
  alone true g t e q = rw e refl
  alone false g t e q = sym q

  live-after : (x : ℕ) → live m' x ≡ (kept x or taken x)
  unfolding kept
  live-after x = by (role S a.shaped m.slots O f x o.slot)
    where
      by : Role S O f x → live m' x ≡ (kept x or taken x)
      by (right_pair u s e h z w) = ap (λ (y : ℕ). live m' y) (sym w) ∙ eq-eqb _ _ (r.alive u s e h z) ∙ sym (⊎_elim
          (λ k. or_left (taken x) (subst (λ (y : ℕ). kept y ≡ true) w (preserved-kept u s e h k z)))
          (λ k. or_right (kept x) (taken_of u s x e h k w))
          (or_cases (preserved S s) (added S s) z))
      by (gone_pair u s e h d w off) =
          let zero : m'.state x ≡ 0 = subst (λ (y : ℕ). m'.state y ≡ 0) w (r.gone u s e h d (λ v t c b n y. off v t c b n (y ∙ w)) State (omega arith)) in
          let gone = freed_of E f x u s (o.slot u e) e h d w in
          ne_eqb (m'.state x) 1 (λ q. omega arith)
          ∙ none (kept x) (taken x) (impossible (kept x) (λ k. kept_not_freed x k gone))
          (impossible (taken x) (λ t. let v = taken_at x t in off v.0 v.1 v.2 v.3 v.4 v.5))
      by (no_pair off) =
          let same : m'.state x ≡ m.state x = r.others x off State (omega arith) in
          ap (λ (k : ℕ). eqb k 1) same
          ∙ alone (live m x) (freed E f x) (taken x)
          (impossible (freed E f x) (λ g. let d = freed-at E f x g in off d.0 d.1 d.3 d.4 d.6))
          (impossible (taken x) (λ t. let v = taken_at x t in off v.0 v.1 v.2 v.3 v.5))

  -- ---- the counts

  deleted-counted : count_below m.slots (freed E f) ≡ deleted_darts E
  unfolding freed deleted_darts orbit_size
  deleted-counted = count-pairs m.slots S.nodes (deleted S) O f m.slots
      (λ u s b e h d. (r.assigned.darts u b e s h (deleted-left S s d)).0)
      (λ u s v t b e h d c i l j q. r.assigned.different u b e s h (deleted-left S s d) v c i t l (deleted-left S t j) q)

  added-counted : count_below m.slots taken ≡ added_darts E
  unfolding taken added_darts orbit_size rank
  added-counted = count-pairs m.slots S.nodes (added S) O f m.slots (λ u s b e h k. r.slot u s e h k)
      (λ u s v t b e h k c i l j q. rank-once E u s v t e i h l k j
      (sym (r.in_order u s e h k) ∙ ap (λ (y : ℕ). count_below y (is_free E f)) q ∙ r.in_order v t i l j))

  -- no new dart takes the slot of a kept one
  kept_not_taken : (x : ℕ) → kept x ≡ true → taken x ≡ true → ⊥
  unfolding kept is_free
  kept_not_taken x k t =
      let v = taken_at x t in
      let free : (unused m x or freed E f x) ≡ true =
      subst (λ (y : ℕ). (unused m y or freed E f y) ≡ true) v.5 (r.was_free v.0 v.1 v.2 v.3 v.4) in
      ⊎_elim
      (λ z. let zero = eqb-true (m.state x) 0 z in let one = eqb-true (m.state x) 1 (and_left _ _ k) in omega arith)
      (kept_not_freed x k)
      (or_cases _ _ free)

  pub live-counted : count_below m.slots (live m') + deleted_darts E ≡ count_below m.slots (live m) + added_darts E
  live-counted =
      let after = count_same m.slots (live m') _ (λ x b. live-after x) ∙ count_or m.slots kept taken (λ x b. kept_not_taken x) in
      let before = count_same m.slots (live m) _ (λ x b. live-before x) ∙ count_or m.slots kept (freed E f) (λ x b. kept_not_freed x) in
      let new = added-counted in
      let gone = deleted-counted in
      omega arith

-- The room for new darts: which slots an edit frees, and that the slots that are free for it are as many as the unused ones and the deleted darts.
use Prim.Native.Nat.{ℕ, ◌+◌, ◌<◌}
use mathlib.Core.Path.{◌≡◌, ap, ◌∙◌}
use mathlib.Core.Bool.{Bool, true}
use native.Mathlib.Omega.{arith}
use lib.Dec.{eqb}
use borrow.Author.Tests.{eqb-true, eq-eqb}
use Rattle.base.specs.Test.{◌or◌}
use Rattle.base.specs.Below.{count_below}
use Rattle.base.proofs.TestLaws.{and_left, and_right, and_of, and_same}
use Rattle.base.proofs.BelowLaws.{any_at, any_of, any_same, count_or}
use Rattle.base.proofs.PairLaws.{count-pairs}
use Rattle.model.specs.Map.{unused}
use Rattle.model.specs.Scheme.{left, has, deleted}
use Rattle.model.specs.Site.{Site}
use Rattle.model.specs.Match.{image, Assignment}
use Rattle.model.specs.Edit.{freed, is_free, orbit_size, deleted_darts, room_of}
use Rattle.model.proofs.KindLaws.{deleted-left}

module _ (E : Site) where
  open E use {map as m, scheme as S, orbit as O}

  pub freed-at : (f : ℕ → ℕ → ℕ) (x : ℕ) → freed E f x ≡ true
      → (u s : ℕ) × (u < m.slots) × (O u ≡ true) × (s < S.nodes) × (deleted S s ≡ true) × (f u s ≡ x)
  unfolding freed
  freed-at f x e =
      let a = any_at m.slots _ e in
      let b = any_at S.nodes _ (and_right _ _ a.2) in
      (a.0, b.0, a.1, and_left _ _ a.2, b.1, and_left _ _ b.2, eqb-true _ _ (and_right _ _ b.2))

  pub freed_of : (f : ℕ → ℕ → ℕ) (x u s : ℕ) → u < m.slots → O u ≡ true → s < S.nodes → deleted S s ≡ true → f u s ≡ x → freed E f x ≡ true
  unfolding freed
  freed_of f x u s b e h d q = any_of m.slots _ u b (and_of e (any_of S.nodes _ s h (and_of d (eq-eqb (f u s) x q))))

  pub freed-same : (f g : ℕ → ℕ → ℕ) → ((u s : ℕ) → O u ≡ true → s < S.nodes → has S left s ≡ true → f u s ≡ g u s)
      → (x : ℕ) → freed E f x ≡ freed E g x
  unfolding freed
  freed-same f g same x = any_same m.slots _ _ (λ u b. and_same (O u) (λ e. any_same S.nodes _ _ (λ s h.
      and_same (deleted S s) (λ d. ap (λ (y : ℕ). eqb y x) (same u s e h (deleted-left S s d))))))

  pub free-same : (f g : ℕ → ℕ → ℕ) → ((u s : ℕ) → O u ≡ true → s < S.nodes → has S left s ≡ true → f u s ≡ g u s)
      → (x : ℕ) → is_free E f x ≡ is_free E g x
  unfolding is_free
  free-same f g same x = ap (λ (b : Bool). unused m x or b) (freed-same f g same x)

  module _ (slot : (u : ℕ) → O u ≡ true → u < m.slots) (A : Assignment E (image E)) where
    -- the deleted darts are different, and none of them was unused
    pub room-is : count_below m.slots (is_free E (image E)) ≡ room_of E
    unfolding is_free room_of deleted_darts orbit_size freed
    room-is =
        count_or m.slots (unused m) (freed E (image E)) (λ x b p q.
        let r = freed-at (image E) x q in
        let z = (A.darts r.0 r.2 r.3 r.1 r.4 (deleted-left S r.1 r.5)).1 in
        let w : m.state x ≡ 0 = eqb-true _ _ p in
        let y = ap m.state r.6 in
        omega arith)
        ∙ ap (λ (k : ℕ). count_below m.slots (unused m) + k)
        (count-pairs m.slots S.nodes (deleted S) O (image E) m.slots
        (λ u s b e h d. (A.darts u b e s h (deleted-left S s d)).0)
        (λ u s v t b e h d c i l j q. A.different u b e s h (deleted-left S s d) v c i t l (deleted-left S t j) q))

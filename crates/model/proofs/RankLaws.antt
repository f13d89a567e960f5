-- The ranks of the added pairs: each below the number of added darts, and no two the same. What the dart of a pair is by the kind of its node.
use Prim.Native.Nat.{ℕ, ◌<◌}
use mathlib.Core.Path.{◌≡◌, sym, ap, ◌∙◌}
use mathlib.Core.Logic.{⊎_elim}
use mathlib.Core.Bool.{Bool, true, false, cond, true≢false}
use native.Mathlib.Nat.{suc-mul, mul-le-mul_right}
use native.Mathlib.Omega.{arith}
use borrow.Author.Tests.{eqb-true, ne_eqb}
use Rattle.base.specs.Below.{count_below}
use Rattle.model.specs.Scheme.{left, kind, has, added}
use Rattle.model.specs.Site.{Site}
use Rattle.model.specs.Match.{image}
use Rattle.model.specs.Edit.{orbit_size, added_darts, rank, free_slot, dart_of}
use Rattle.model.specs.declared.Scheme.{Scheme}
use Rattle.base.proofs.TestLaws.{or_cases, true_or_false}
use Rattle.base.proofs.BelowLaws.{count_lt, count_injective}
use Rattle.base.proofs.RowLaws.{digits}

pub left_not_added : (S : Scheme) (s : ℕ) → has S left s ≡ true → added S s ≡ false
left_not_added S s e = ⊎_elim
    (λ q. let k = eqb-true (kind S s) 1 q in ne_eqb (kind S s) 3 (λ z. omega arith))
    (λ q. let k = eqb-true (kind S s) 2 q in ne_eqb (kind S s) 3 (λ z. omega arith))
    (or_cases _ _ e)

pub added_not_left : (S : Scheme) (s : ℕ) → added S s ≡ true → has S left s ≡ false
added_not_left S s e = ⊎_elim (λ q. absurd (true≢false (sym e ∙ left_not_added S s q))) (λ q. q) (true_or_false (has S left s))

module _ (E : Site) where
  open E use {map as m, scheme as S, orbit as O}

  -- the dart of a left pair is its image
  pub dart-left : (u s : ℕ) → has S left s ≡ true → dart_of E u s ≡ image E u s
  unfolding dart_of
  dart-left u s l = ap (λ (b : Bool). cond b (free_slot E (rank E u s)) (image E u s)) (left_not_added S s l)

  -- the dart of an added pair is the free slot of its rank
  pub dart-added : (u s : ℕ) → added S s ≡ true → dart_of E u s ≡ free_slot E (rank E u s)
  unfolding dart_of
  dart-added u s a = ap (λ (b : Bool). cond b (free_slot E (rank E u s)) (image E u s)) a

  module _ (slot : (u : ℕ) → O u ≡ true → u < m.slots) where
    pub rank-low : (u s : ℕ) → O u ≡ true → s < S.nodes → added S s ≡ true → rank E u s < added_darts E
    unfolding rank added_darts orbit_size
    rank-low u s e h a =
        let cs = count_lt (added S) s S.nodes h a in
        let more = mul-le-mul_right (count_below S.nodes (added S)) (count_lt O u m.slots (slot u e) e) in
        let next = suc-mul (count_below u O) (count_below S.nodes (added S)) in
        omega arith

  pub rank-once : (u s v t : ℕ) → O u ≡ true → O v ≡ true → s < S.nodes → t < S.nodes → added S s ≡ true → added S t ≡ true
      → rank E u s ≡ rank E v t → (u ≡ v) × (s ≡ t)
  unfolding rank
  rank-once u s v t e f h l a b q =
      let d = digits (count_below S.nodes (added S)) _ _ _ _ (count_lt (added S) s S.nodes h a) (count_lt (added S) t S.nodes l b) q in
      (count_injective O u v e f d.0, count_injective (added S) s t a b d.1)

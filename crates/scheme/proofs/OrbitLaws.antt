-- The orbit type as it is read: what holds once its first p dimensions are.
use Prim.Native.Nat.{ℕ, ◌+◌, ◌≤◌, ◌<◌}
use mathlib.Core.Path.{◌≡◌, refl, sym, ap, ◌∙◌}
use mathlib.Core.Bool.{true, false}
use mathlib.Core.List.{List}
use native.Mathlib.Omega.{arith}
use lib.ListN.{set, replicate}
use lib.Dec.{ltb, leb}
use borrow.Author.Tests.{le-leb, lt-leb}
use Rattle.base.specs.Below.{all_below}
use Rattle.base.specs.Filled.{filled}
use Rattle.base.proofs.TestLaws.{and_left, and_right, and_of, refuted}
use Rattle.base.proofs.BelowLaws.{all-at, all_none, all_more, all-ends}
use Rattle.base.proofs.FilledLaws.{filled_none, filled_more, filled-all}
use Rattle.base.proofs.AscentLaws.{above, above_step, ascends, descends}
use Rattle.model.specs.Bytes.{byte, dimension_of, places_of, up_to}
use Rattle.model.specs.Scheme.{orbit_form, scheme_of}

module _ (b : List ℕ) where
  abbrev dim : ℕ → ℕ
  dim p = byte b (2 + p)

  -- `low` is the least dimension that may come next
  pub record Risen (p low : ℕ) (held : List ℕ) : Type 0 where
    pub dims : all_below p (λ q. leb (byte b (2 + q)) (dimension_of b)) ≡ true
    pub up : all_below p (λ q. all_below q (λ o. ltb (byte b (2 + o)) (byte b (2 + q)))) ≡ true
    pub next : low ≡ above dim p
    pub holds : held ≡ filled 4 p dim 0

  pub risen_none : {held : List ℕ} → held ≡ replicate 4 0 → Risen 0 0 held
  unfolding above
  risen_none e = record { dims = all_none _; up = all_none _; next = refl; holds = e ∙ filled_none 4 dim 0 }

  pub risen_more : {p low v : ℕ} {held : List ℕ} → Risen p low held → v ≡ byte b (2 + p) → p < 4 → low ≤ v → v ≤ dimension_of b
      → Risen (p + 1) (v + 1) (set held p v)
  risen_more {p} r e l h k = record {
    dims = all_more _ p r.dims (le-leb (dim p) (dimension_of b) (omega arith));
    up = all_more _ p r.up (ascends dim p (λ q s. all-at p _ r.up q s) (omega (arith, r.next)));
    next = ap (λ (x : ℕ). x + 1) e ∙ sym (above_step dim p);
    holds = filled_more 4 dim 0 p r.holds l e;
  }

  pub risen_low : {p low v : ℕ} {held : List ℕ} → Risen p low held → v ≡ byte b (2 + p) → p < places_of b → v < low → false ≡ orbit_form b
  unfolding orbit_form
  risen_low {p} r e l h = sym (refuted (λ q. all-at (places_of b) _ (and_right _ _ q) p l) (descends dim p (omega (arith, r.next))))

  pub risen_high : (p : ℕ) {v : ℕ} → v ≡ byte b (2 + p) → p < places_of b → dimension_of b < v → false ≡ orbit_form b
  unfolding orbit_form
  risen_high p e l h = sym (refuted (λ q. all-at (places_of b) _ (and_right _ _ (and_left _ _ q)) p l) (lt-leb _ _ (rw e at h)))

  pub risen_form : {p low : ℕ} {held : List ℕ} → Risen p low held → p ≤ places_of b → places_of b ≤ p → places_of b ≤ dimension_of b + 1 → true ≡ orbit_form b
  unfolding orbit_form
  risen_form {p} r h k few = sym (and_of (and_of (le-leb _ _ few) (sym (all-ends _ p _ r.dims h k))) (sym (all-ends _ p _ r.up h k)))

  pub risen_value : {p low : ℕ} {held : List ℕ} → Risen p low held → p ≤ places_of b → places_of b ≤ p → held ≡ (scheme_of b).orbit
  unfolding scheme_of
  risen_value {p} r h k =
      let same : p ≡ places_of b = omega arith in
      filled-all 4 dim 0 p _ r.holds (λ q l. ap (λ (j : ℕ). up_to j q (dim q) 0) same)

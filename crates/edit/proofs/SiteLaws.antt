-- The laws of `site::apply_at`: refusals 6 to 8, and what holds past them; and of `site::is_dart`.
use Prim.Native.Nat.{ℕ, ◌-◌, ◌≤◌, ◌<◌}
use mathlib.Core.Path.{◌≡◌, refl, ap, ◌∙◌}
use mathlib.Core.Logic.{◌⊎◌, ⊎_elim}
use mathlib.Core.Bool.{true, false, not}
use Rattle.std.specs.Prelude.{Option, Some, Err}
use mathlib.Core.List.{List}
use native.Mathlib.Omega.{arith}
use lib.Dec.{eqb}
use borrow.Author.Tests.{eq-eqb, ne_eqb, lt-ltb, le-ltb}
use Rattle.base.specs.Test.{◌and◌}
use Rattle.base.specs.Below.{count_below}
use Rattle.base.specs.First.{some_if, ◌or_else◌, there}
use Rattle.base.proofs.TestLaws.{and_of}
use Rattle.base.proofs.BelowLaws.{count_same, count_not}
use Rattle.model.specs.Map.{Map, live, unused}
use Rattle.model.specs.WellFormed.{well_formed}
use Rattle.model.specs.Accepted.{Accepted}
use Rattle.model.specs.Site.{Site, Sound}
use Rattle.model.specs.Scheme.{has_second}
use Rattle.model.specs.Calls.{is_dart, site_fault}
use Rattle.model.specs.Answer.{Answer}
use Rattle.model.specs.declared.Refusal.{Refusal}
use Rattle.model.specs.declared.Refusal.TheVariants.{OtherDimension, BadTable, NoDart}
use Rattle.model.proofs.WellFormedLaws.{well_formed_iff}
use Rattle.model.proofs.CallLaws.{live-dart}
use Rattle.edit.specs.Apply.{Settled, Applied, AppliedAt}

-- an edit whose first fault is a leaves the table as it was
pub refused : {fault : Option Refusal} {E : Site} {t : List ℕ} {f : Refusal} → fault ≡ Some f → Settled fault E t (Err f) t
unfolding there
refused e = record { answer = rw e refl; table = rw e refl }

module _ {n : ℕ} {E : Site} {t : List ℕ} where
  pub other-dimension : (x : ℕ) → x ≡ E.scheme.n → (x ≡ n → ⊥) → AppliedAt n E t (Err OtherDimension) t
  unfolding site_fault some_if ◌or_else◌
  other-dimension x e h = let q = ne_eqb E.scheme.n n (λ z. h (e ∙ z)) in refused (rw q refl)

  module _ (same : E.scheme.n ≡ n) where
    pub bad-table : well_formed n E.map ≡ false → AppliedAt n E t (Err BadTable) t
    unfolding site_fault some_if ◌or_else◌
    bad-table w = refused (rw (eq-eqb E.scheme.n n same, w) refl)

    module _ (w : well_formed n E.map ≡ true) where
      pub no_dart : (is_dart E.map E.dart and is_dart E.map E.other) ≡ false → AppliedAt n E t (Err NoDart) t
      unfolding site_fault some_if ◌or_else◌
      no_dart e = refused (rw (eq-eqb E.scheme.n n same, w, e) refl)

      pub applied : is_dart E.map E.dart ≡ true → is_dart E.map E.other ≡ true → {r : Answer} {t' : List ℕ} → Applied E t r t'
          → AppliedAt n E t r t'
      unfolding site_fault some_if ◌or_else◌
      applied d e a = rw (eq-eqb E.scheme.n n same, w, and_of d e) a

pub sound : {n : ℕ} {E : Site} → E.scheme.n ≡ n → well_formed n E.map ≡ true → is_dart E.map E.dart ≡ true → is_dart E.map E.other ≡ true
    → Accepted E.scheme → (has_second E.scheme ≡ false → E.other ≡ E.dart) → Sound E
sound {n} {E} same w d e a alone = record {
  accepted = a;
  well = (well_formed_iff E.scheme.n E.map).0 (ap (λ (k : ℕ). well_formed k E.map) same ∙ w);
  dart = live-dart E.map E.dart d;
  other = live-dart E.map E.other e;
  alone = alone;
}

-- ---- `site::is_dart`

module _ (m : Map) (x : ℕ) where
  pub dart-out : m.slots ≤ x → false ≡ is_dart m x
  unfolding ◌and◌
  dart-out h = rw (le-ltb x m.slots h)

  pub dart_in : x < m.slots → (s : ℕ) → s ≡ m.state x → eqb s 1 ≡ is_dart m x
  unfolding ◌and◌
  dart_in h s e = rw (lt-ltb x m.slots h, e)

-- in a well-formed map the slots that are not live are unused
pub unused-left : (n : ℕ) (m : Map) (k : ℕ) → well_formed n m ≡ true → k ≡ count_below m.slots (live m)
    → (k ≤ m.slots) × (m.slots - k ≡ count_below m.slots (unused m))
unused-left n m k w e =
    let N = m.slots in
    let all = count_not N (live m) in
    let rest : count_below N (λ x. not (live m x)) ≡ count_below N (unused m) =
    count_same N _ (unused m) (λ x h. either (m.state x) (((well_formed_iff n m).0 w).states x h)) in
    (omega arith, omega arith)
  where
    either : (s : ℕ) → (s ≡ 0) ⊎ (s ≡ 1) → not (eqb s 1) ≡ eqb s 0
    either s c = ⊎_elim (λ z. rw z refl) (λ z. rw z refl) c

-- The test of a call's sizes finds just those that are right.
use Prim.Native.Nat.{ℕ}
use mathlib.Core.Path.{◌≡◌}
use mathlib.Core.Logic.{inl, inr, ⊎_elim, ◌↔◌}
use mathlib.Core.Bool.{true}
use mathlib.Core.List.{List}
use borrow.Author.Tests.{eqb-true, eq-eqb, leb-true, le-leb}
use Rattle.base.proofs.TestLaws.{and_left, and_right, and_of, or_cases, or_left, or_right}
use Rattle.model.specs.Calls.{Sizes, sizes_ok}

pub sizes_iff : (n N : ℕ) (t : List ℕ) → (sizes_ok n N t ≡ true) ↔ Sizes n N t
sizes_iff n N t = (
  (λ e. record {
    dimension = ⊎_elim (λ w. inl (eqb-true n 2 w)) (λ w. inr (eqb-true n 3 w)) (or_cases _ _ (and_left _ _ (and_left _ _ (and_left _ _ e))));
    some = leb-true _ _ (and_right _ _ (and_left _ _ (and_left _ _ e)));
    few = leb-true _ _ (and_right _ _ (and_left _ _ e));
    long = eqb-true _ _ (and_right _ _ e);
  }),
  (λ s. and_of (and_of (and_of
      (⊎_elim (λ w. or_left _ (eq-eqb n 2 w)) (λ w. or_right _ (eq-eqb n 3 w)) s.dimension)
      (le-leb _ _ s.some)) (le-leb _ _ s.few)) (eq-eqb _ _ s.long)),
)

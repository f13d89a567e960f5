-- The laws of kinds: which sides a deleted, a preserved and an added node is on.
use Prim.Native.Nat.{ℕ}
use mathlib.Core.Path.{◌≡◌, sym, ◌∙◌}
use mathlib.Core.Logic.{⊎_elim}
use mathlib.Core.Bool.{true, false, true≢false}
use native.Mathlib.Omega.{arith}
use lib.Dec.{eqb}
use borrow.Author.Tests.{eqb-true, ne_eqb}
use Rattle.base.proofs.TestLaws.{or_cases, or_left, or_right}
use Rattle.model.specs.Scheme.{left, right, kind, has, deleted, preserved, added}
use Rattle.model.specs.declared.Scheme.{Scheme}

module _ (S : Scheme) (s : ℕ) where
  kind_not : (a b : ℕ) → (a ≡ b → ⊥) → eqb (kind S s) a ≡ true → eqb (kind S s) b ≡ false
  kind_not a b ne e = ne_eqb (kind S s) b (λ q. ne (sym (eqb-true _ _ e) ∙ q))

  pub right-stays : has S right s ≡ true → deleted S s ≡ false
  right-stays e = ⊎_elim (kind_not 2 1 (λ q. omega arith)) (kind_not 3 1 (λ q. omega arith)) (or_cases _ _ e)

  pub both-preserved : has S left s ≡ true → has S right s ≡ true → preserved S s ≡ true
  both-preserved l r = ⊎_elim
      (λ e. absurd (true≢false (sym e ∙ right-stays r)))
      (λ e. e)
      (or_cases _ _ l)

  pub deleted-left : deleted S s ≡ true → has S left s ≡ true
  deleted-left e = or_left _ e

  pub preserved-left : preserved S s ≡ true → has S left s ≡ true
  preserved-left e = or_right _ e

  pub preserved-right : preserved S s ≡ true → has S right s ≡ true
  preserved-right e = or_left _ e

  pub added-right : added S s ≡ true → has S right s ≡ true
  added-right e = or_right _ e

  pub preserved_not_added : preserved S s ≡ true → added S s ≡ false
  preserved_not_added e = kind_not 2 3 (λ q. omega arith) e

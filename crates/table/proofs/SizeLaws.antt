-- The laws of `sizes`: each test that fails makes `sizes_ok` false, and past the others it is the last.
use Prim.Native.Nat.{ℕ, ◌≤◌, ◌<◌}
use mathlib.Core.Path.{◌≡◌, sym, ◌∙◌}
use mathlib.Core.Logic.{◌⊎◌, ⊎_elim}
use mathlib.Core.Bool.{false}
use mathlib.Core.List.{List}
use native.Mathlib.Omega.{arith}
use lib.ListN.{length}
use lib.Dec.{eqb}
use borrow.Author.Tests.{eqb-true, eq-eqb}
use Rattle.base.proofs.TestLaws.{impossible, same_test}
use Rattle.model.specs.Map.{table_size, max_slots}
use Rattle.model.specs.Calls.{sizes_ok}
use Rattle.model.proofs.SizeLaws.{sizes_iff}

module _ (n N : ℕ) (t : List ℕ) where
  pub no_dimension : (n ≡ 2 → ⊥) → (n ≡ 3 → ⊥) → false ≡ sizes_ok n N t
  no_dimension h k = sym (impossible _ (λ e. ⊎_elim h k ((sizes_iff n N t).0 e).dimension))

  pub no_slot : N < 1 → false ≡ sizes_ok n N t
  no_slot h = sym (impossible _ (λ e. omega (arith, ((sizes_iff n N t).0 e).some)))

  pub many-slots : max_slots < N → false ≡ sizes_ok n N t
  many-slots h = sym (impossible _ (λ e. omega (arith, ((sizes_iff n N t).0 e).few)))

  pub length-is : (n ≡ 2) ⊎ (n ≡ 3) → 1 ≤ N → N ≤ max_slots → (size : ℕ) → size ≡ table_size N → eqb (length t) size ≡ sizes_ok n N t
  length-is d g h size e = same_test _ _
      (λ q. (sizes_iff n N t).1 (record { dimension = d; some = g; few = h; long = eqb-true _ _ q ∙ e }))
      (λ s. eq-eqb _ _ (((sizes_iff n N t).0 s).long ∙ sym e))

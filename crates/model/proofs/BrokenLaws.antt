-- A map that is not well-formed, as a load may leave it: a check and a write answer 7, so does an edit whose sizes and scheme are right, and each leaves
-- table and output as they were.
use Prim.Native.Nat.{ℕ}
use mathlib.Core.Path.{◌≡◌, refl}
use mathlib.Core.Bool.{true, false}
use Rattle.std.specs.Prelude.{None, Err}
use mathlib.Core.List.{List}
use borrow.Author.Tests.{eq-eqb}
use Rattle.base.specs.First.{some_if, there, ◌or_else◌}
use Rattle.model.specs.Map.{view}
use Rattle.model.specs.WellFormed.{well_formed}
use Rattle.model.specs.Scheme.{scheme_of}
use Rattle.model.specs.Calls.{sizes_ok, map_fault, table_fault, check_table, bytes_fault, takes, site_fault, stored_ok}
use Rattle.model.specs.Calls.{edit_fault_at, edit_fault, edit_answer, edit_table}
use Rattle.model.specs.Calls.{output_fault_at, write_fault, write_answer, write_out}
use Rattle.model.specs.declared.Darts.{Darts}
use Rattle.model.specs.declared.Refusal.TheVariants.{BadTable}

module _ (n N : ℕ) (t : List ℕ) (broken : well_formed n (view N t) ≡ false) where
  module _ (sizes : sizes_ok n N t ≡ true) where
    broken-fault : table_fault n N t ≡ some_if true BadTable
    unfolding table_fault map_fault some_if ◌or_else◌
    broken-fault = rw (sizes, broken) refl

    pub broken_check : check_table n N t ≡ Err BadTable
    unfolding check_table some_if
    broken_check = rw broken-fault refl

    pub broken-write : (out : List ℕ) → (write_answer n N t out ≡ Err BadTable) × (write_out n N t out ≡ out)
    unfolding write_answer write_out write_fault output_fault_at table_fault some_if ◌or_else◌ there
    broken-write out = (rw broken-fault refl, rw broken-fault refl)

  pub broken-edit : (store b : List ℕ) (d : Darts) → stored_ok n N t store ≡ true → bytes_fault (takes d b) b ≡ None → (scheme_of b).n ≡ n
      → (edit_answer n N t store b d ≡ Err BadTable) × (edit_table n N t store b d ≡ t)
  unfolding edit_answer edit_table edit_fault edit_fault_at site_fault some_if ◌or_else◌ there
  broken-edit store b d sizes scheme same =
      let dimension = eq-eqb (scheme_of b).n n same in (rw (sizes, scheme, dimension, broken) refl, rw (sizes, scheme, dimension, broken) refl)

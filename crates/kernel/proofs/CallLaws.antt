-- The sizes of a call, and a table check, refusal by refusal.
use Prim.Native.Nat.{ℕ, ◌*◌}
use mathlib.Core.Path.{◌≡◌, refl, sym, ap, ◌∙◌}
use mathlib.Core.Logic.{◌⊎◌}
use mathlib.Core.Bool.{Bool, true, false}
use mathlib.Core.List.{List}
use lib.ListN.{length}
use borrow.Author.Tests.{eqb-true, eq-eqb, ne_eqb}
use Rattle.std.specs.Prelude.{Ok, Err}
use Rattle.base.specs.Test.{◌and◌}
use Rattle.base.specs.First.{some_if, ◌or_else◌}
use Rattle.model.specs.Map.{view}
use Rattle.model.specs.WellFormed.{well_formed}
use Rattle.model.specs.Calls.{sizes_ok, stored_ok, map_fault, table_fault, check_table}
use Rattle.model.specs.declared.Refusal.TheVariants.{BadCall, BadTable}
use Rattle.model.specs.declared.Reply.TheVariants.{Done}
use Rattle.base.proofs.TestLaws.{and_left, and_right, and_no_right, and_true}
use Rattle.model.proofs.SizeLaws.{sizes_iff}
use Rattle.model.proofs.BrokenLaws.{broken_check}
use Rattle.table.specs.Words.{Sized}
use Rattle.demands.specs.Promises.{TableChecked}
use Rattle.demands.proofs.OneOutcome.{same_outcome}

module _ (n N : ℕ) (t : List ℕ) where
  pub sizes-read : sizes_ok n N t ≡ true → ((n ≡ 2) ⊎ (n ≡ 3)) × Sized N t
  sizes-read e = let s = (sizes_iff n N t).0 e in (s.dimension, record { few = s.few; long = s.long })

  -- the same of a call with a working store
  module _ (store : List ℕ) where
    pub stored-read : stored_ok n N t store ≡ true → ((n ≡ 2) ⊎ (n ≡ 3)) × (Sized N t × (length store ≡ 16 * N))
    stored-read e = let r = sizes-read (and_left _ _ e) in (r.0, (r.1, eqb-true _ _ (and_right _ _ e)))

    pub unfit : (length store ≡ 16 * N → ⊥) → stored_ok n N t store ≡ false
    unfit ne = and_no_right (sizes_ok n N t) (ne_eqb _ _ ne)

    pub fit : length store ≡ 16 * N → stored_ok n N t store ≡ sizes_ok n N t
    fit e = ap (λ (b : Bool). sizes_ok n N t and b) (eq-eqb _ _ e) ∙ and_true (sizes_ok n N t)

  pub is_1 : sizes_ok n N t ≡ false → TableChecked n N t (Err BadCall)
  unfolding check_table table_fault map_fault some_if ◌or_else◌
  is_1 e = same_outcome (rw e refl) refl refl refl

  pub is_7 : sizes_ok n N t ≡ true → well_formed n (view N t) ≡ false → TableChecked n N t (Err BadTable)
  is_7 e w = same_outcome (sym (broken_check n N t w e)) refl refl refl

  pub is_0 : sizes_ok n N t ≡ true → well_formed n (view N t) ≡ true → TableChecked n N t (Ok Done)
  unfolding check_table table_fault map_fault some_if ◌or_else◌
  is_0 e w = same_outcome (rw (e, w) refl) refl refl refl

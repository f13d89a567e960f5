-- What a table holds after one of its words was put, or one of its records became zeros.
use Prim.Native.Nat.{ℕ, ◌+◌, ◌*◌, ◌<◌}
use mathlib.Core.Path.{◌≡◌, sym, ◌∙◌}
use mathlib.Core.Logic.{⊎_elim}
use mathlib.Core.List.{List}
use native.Mathlib.Omega.{arith}
use lib.ListN.{length, get_or, set, length-set}
use lib.Seq.{get_or-set_same, get_or-set_other}
use Rattle.base.proofs.BelowLaws.{le_or_lt}
use Rattle.base.proofs.StepLaws.{steps_keep, steps_leave, steps-one}
use Rattle.model.specs.Map.{Field, dimension, record_size, offset, table_size, field_at, put}
use Rattle.model.proofs.MapLaws.{offset-below, field_at_lem, field_none, length-put}
use Rattle.table.specs.Words.{Sized, blanked}

pub put-sized : (t : List ℕ) (f : Field) (x v N : ℕ) → Sized N t → Sized N (put t f x v)
put-sized t f x v N s = record { few = s.few; long = length-put t f x v ∙ s.long }

-- a table of the same length
pub sized_same : {N : ℕ} {t t' : List ℕ} → Sized N t → length t' ≡ length t → Sized N t'
sized_same s e = record { few = s.few; long = e ∙ s.long }

-- ---- a record of zeros

module _ (N x : ℕ) where
  abbrev Long : List ℕ → Type 0
  Long t = length t ≡ table_size N

  step-long : (c : ℕ) (t : List ℕ) → Long t → Long (set t (record_size * x + c) 0)
  step-long c t e = length-set t (record_size * x + c) 0 ∙ e

  module _ (t : List ℕ) (e : Long t) where
    pub blank-long : Long (blanked x t)
    unfolding blanked
    blank-long = steps_keep _ Long step-long record_size t e

    pub blank-same : x < N → (f : Field) → field_at (blanked x t) f x ≡ 0
    unfolding blanked
    blank-same h f = ⊎_elim
        (λ l. let b = offset-below f l in
        field_at_lem _ f x l ∙ steps-one _ Long step-long (λ s. get_or s (record_size * x + offset f) 0) record_size (offset f) b
        (λ c s k ne o. get_or-set_other s (record_size * x + c) (record_size * x + offset f) 0 0 (λ q. ne (omega arith)))
        (λ w. 0) (λ s o. get_or-set_same s (record_size * x + offset f) 0 0 (omega arith)) t e)
        (λ l. field_none _ f x l)
        (le_or_lt (dimension f) 3)

    pub blank-other : (f : Field) (y : ℕ) → (y ≡ x → ⊥) → field_at (blanked x t) f y ≡ field_at t f y
    unfolding blanked
    blank-other f y ne = ⊎_elim
        (λ l. let b = offset-below f l in
        field_at_lem _ f y l ∙ steps_leave _ Long step-long (λ s. get_or s (record_size * y + offset f) 0) record_size
        (λ c s k o. get_or-set_other s (record_size * x + c) (record_size * y + offset f) 0 0 (λ q. ne (omega arith))) t e
        ∙ sym (field_at_lem t f y l))
        (λ l. field_none _ f y l ∙ sym (field_none t f y l))
        (le_or_lt (dimension f) 3)

-- The laws of `slots::row_starts`: the begins of the rows of the added nodes, one more in each turn.
use Prim.Native.Nat.{ℕ, ◌+◌, ◌*◌, ◌≤◌, ◌<◌}
use mathlib.Core.Path.{◌≡◌, refl, sym, ◌∙◌}
use mathlib.Core.Logic.{by_cases}
use mathlib.Core.List.{List}
use native.Mathlib.Decide.{ℕ_discrete}
use native.Mathlib.Nat.{mul-le-mul_right}
use native.Mathlib.Omega.{arith}
use lib.ListN.{length, get_or, set, length-set}
use lib.Seq.{get_or-set_same, get_or-set_other}
use Rattle.rewriting.specs.Darts.{row_start}
use Rattle.rewriting.specs.Slots.{Apart, RowsBegin}

pub rows_none : (N size : ℕ) (nodes rows : List ℕ) → RowsBegin N size nodes 0 rows rows
rows_none N size nodes rows = record { long = refl; at = λ a h. absurd (omega arith); other = λ v f. refl }

module _ (N size : ℕ) (nodes : List ℕ) (many : ℕ) (A : Apart N size nodes many) where
  -- the row of the a-th added node ends within its part of the store
  pub row_fits : (a : ℕ) → a < many → a * size + size ≤ N
  row_fits a h = let r = mul-le-mul_right size h in omega (arith, A.room)

  pub rows_more : (a : ℕ) (rows₀ rows : List ℕ) → length rows ≡ 16 → a < many → RowsBegin N size nodes a rows₀ rows
      → RowsBegin N size nodes (a + 1) rows₀ (set rows (get_or nodes a 0) (row_start N size a))
  rows_more a rows₀ rows l h k = record {
    long = length-set rows (get_or nodes a 0) (row_start N size a) ∙ k.long;
    at = λ b g. by_cases (ℕ_discrete b a)
        (λ e. rw e (get_or-set_same rows (get_or nodes a 0) (row_start N size a) 0 (omega (arith, A.below a h))))
        (λ ne. get_or-set_other rows (get_or nodes a 0) (get_or nodes b 0) (row_start N size a) 0 (A.once b a (omega arith) h) ∙ k.at b (omega arith));
    other = λ v f. get_or-set_other rows (get_or nodes a 0) v (row_start N size a) 0 (λ e. f a (omega arith) (sym e)) ∙ k.other v (λ b g. f b (omega arith));
  }

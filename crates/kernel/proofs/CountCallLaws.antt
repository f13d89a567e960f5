-- A count, refusal by refusal: behind the test of its sizes, and the call.
use Prim.Native.Nat.{ℕ, zero, suc, ◌≤◌, ◌<◌}
use mathlib.Core.Path.{◌≡◌, refl, sym, ◌∙◌}
use mathlib.Core.Bool.{true, false}
use mathlib.Core.List.{List, ◌++◌}
use native.Mathlib.Omega.{arith}
use lib.ListN.{length, drop, get_or}
use borrow.Author.Tests.{lt-ltb, le-ltb}
use Rattle.std.specs.Prelude.{Ok, Err}
use Rattle.std.proofs.lemmas.Grind.{same_number_lists}
use Rattle.base.specs.First.{some_if, ◌or_else◌, there}
use Rattle.model.specs.Map.{Map, view}
use Rattle.model.specs.WellFormed.{well_formed}
use Rattle.model.specs.Count.{counts}
use Rattle.model.specs.Calls.{zeros, stored_ok, map_fault, output_fault_at, count_size, count_fault, count_answer, count_store, count_out}
use Rattle.model.specs.Answer.{Answer}
use Rattle.model.specs.declared.Reply.TheVariants.{Done}
use Rattle.model.specs.declared.Refusal.TheVariants.{BadCall, BadTable, ShortOutput}
use Rattle.demands.specs.Promises.{MapCounted}
use Rattle.demands.proofs.OneOutcome.{same_outcome}
use Rattle.kernel.specs.Stages.{CountStaged}

-- ---- behind the test of the sizes

module _ (n : ℕ) (m : Map) (out : List ℕ) where
  pub staged_7 : well_formed n m ≡ false → CountStaged n m out (Err BadTable) out
  unfolding output_fault_at map_fault some_if ◌or_else◌ there
  staged_7 w = record { answer = rw w refl; output = rw w refl }

  module _ (w : well_formed n m ≡ true) where
    pub staged_12 : length out < count_size → CountStaged n m out (Err ShortOutput) out
    unfolding output_fault_at map_fault some_if ◌or_else◌ there
    staged_12 h = let s = lt-ltb (length out) count_size h in record { answer = rw (w, s) refl; output = rw (w, s) refl }

    pub staged_0 : count_size ≤ length out → (c out' : List ℕ) → c ≡ counts n m → out' ≡ c ++ drop count_size out → CountStaged n m out (Ok Done) out'
    unfolding output_fault_at map_fault some_if ◌or_else◌ there counts
    staged_0 h c out' q e = let s = le-ltb (length out) count_size h in record { answer = rw (w, s) refl; output = e ∙ rw (w, s, q) refl }

-- the six numbers that are copied, one by one: the live darts, then the five kinds of cells
pub six_copied : (c from part : List ℕ) → part ≡ from → length from ≡ count_size → length c ≡ count_size
    → get_or from 0 0 ≡ get_or c 0 0 → get_or from 1 0 ≡ get_or c 1 0 → get_or from 2 0 ≡ get_or c 2 0
    → get_or from 3 0 ≡ get_or c 3 0 → get_or from 4 0 ≡ get_or c 4 0 → get_or from 5 0 ≡ get_or c 5 0 → part ≡ c
six_copied c from part e lf lc e₀ e₁ e₂ e₃ e₄ e₅ = e ∙ same_number_lists _ _ (lf ∙ sym lc) each
  where
    each : (i : ℕ) → i < length from → get_or from i 0 ≡ get_or c i 0
    each zero h = e₀
    each (suc zero) h = e₁
    each (suc (suc zero)) h = e₂
    each (suc (suc (suc zero))) h = e₃
    each (suc (suc (suc (suc zero)))) h = e₄
    each (suc (suc (suc (suc (suc zero))))) h = e₅
    each (suc (suc (suc (suc (suc (suc i)))))) h = absurd (omega (arith, h, lf))

-- ---- the call

module _ (n N : ℕ) (t store out : List ℕ) where
  pub count_unfit : stored_ok n N t store ≡ false → MapCounted n N t store out (Err BadCall) store out
  unfolding count_answer count_store count_out count_fault output_fault_at map_fault some_if ◌or_else◌ there
  count_unfit e = same_outcome (rw e refl) refl (rw e refl) (rw e refl)

  pub count_staged : stored_ok n N t store ≡ true → (r : Answer) (store' out' : List ℕ) → CountStaged n (view N t) out r out'
      → store' ≡ zeros store → MapCounted n N t store out r store' out'
  unfolding count_answer count_store count_out count_fault
  count_staged q r store' out' s z = same_outcome (s.answer ∙ rw q refl) refl (z ∙ rw q refl) (s.output ∙ rw q refl)

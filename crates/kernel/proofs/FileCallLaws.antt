-- A load and a write, refusal by refusal.
use Prim.Native.Nat.{ℕ, ◌≤◌, ◌<◌}
use mathlib.Core.Path.{◌≡◌, refl, sym, ap, ◌∙◌}
use mathlib.Core.Bool.{Bool, true, false, not, cond}
use mathlib.Core.List.{List, ◌++◌}
use native.Mathlib.Omega.{arith}
use lib.ListN.{length, drop}
use lib.Dec.{ltb}
use borrow.Author.Tests.{lt-ltb, le-ltb}
use Rattle.std.specs.Prelude.{Ok, Err}
use Rattle.demands.proofs.OneOutcome.{same_outcome}
use Rattle.model.proofs.BrokenLaws.{broken-write}
use Rattle.demands.specs.Promises.{FileLoaded, FileWritten}
use Rattle.base.specs.Below.{count_below}
use Rattle.base.specs.First.{some_if, there, ◌or_else◌}
use Rattle.base.proofs.BelowLaws.{count_le}
use Rattle.model.specs.Map.{view, live}
use Rattle.model.specs.WellFormed.{well_formed}
use Rattle.model.specs.Answer.{answered}
use Rattle.model.specs.File.{live_darts, file, file_form}
use Rattle.model.specs.Calls.{sizes_ok, map_fault, load_fault_at, load_fault, load_answer, loaded, load_table}
use Rattle.model.specs.Calls.{output_fault_at, write_fault, write_answer, write_out}
use Rattle.model.specs.declared.Refusal.TheVariants.{BadCall, BadTable, BadFile, ShortOutput}
use Rattle.model.specs.declared.Reply.TheVariants.{Done, Written}
use Rattle.file.specs.Form.{file_size}
use Rattle.file.proofs.FormLaws.{three_le}
use Rattle.file.proofs.SectionLaws.{length-file}
use Rattle.kernel.proofs.CallLaws.{sizes-read}

-- ---- a load: 1, 11

module _ (n N : ℕ) (t b : List ℕ) where
  pub load_1 : sizes_ok n N t ≡ false → FileLoaded n N t b (Err BadCall) t
  unfolding load_answer load_table load_fault load_fault_at some_if ◌or_else◌
  load_1 e = same_outcome (rw e refl) (rw e refl) refl refl

  -- 11 where f, whether the file is in the form, is false, and 0 where it is true
  pub load_sized : sizes_ok n N t ≡ true → (f : Bool) → file_form n N b ≡ f → (t' : List ℕ) → t' ≡ loaded n N t b
      → FileLoaded n N t b (cond f (Ok Done) (Err BadFile)) t'
  unfolding load_answer load_table load_fault load_fault_at some_if ◌or_else◌
  load_sized s f q t' e = same_outcome (rw (s, q) (answer f)) (e ∙ rw s refl) refl refl
    where
      answer : (f : Bool) → cond f (Ok Done) (Err BadFile) ≡ answered Done (some_if (not f) BadFile)
      answer true = refl
      answer false = refl

-- ---- a write: 1, 7, 12

module _ (n N : ℕ) (t out : List ℕ) where
  pub write_1 : sizes_ok n N t ≡ false → FileWritten n N t out (Err BadCall) out
  unfolding write_answer write_out write_fault output_fault_at map_fault some_if ◌or_else◌ there
  write_1 e = same_outcome (rw e refl) refl refl (rw e refl)

  module _ (s : sizes_ok n N t ≡ true) where
    pub write_7 : well_formed n (view N t) ≡ false → FileWritten n N t out (Err BadTable) out
    write_7 w = let b = broken-write n N t w s out in same_outcome (sym b.0) refl refl (sym b.1)

    module _ (k : ℕ) (e : k ≡ count_below N (live (view N t))) where
      -- so the length of the file can be asked for
      pub write-few : (n ≤ 3) × (k ≤ 65535)
      write-few = let r = sizes-read n N t s in (three_le r.0, rw e (omega (arith, count_le N (live (view N t)), r.1.few)))

      pub write-live : k ≡ live_darts (view N t)
      unfolding live_darts
      write-live = e

      module _ (size : ℕ) (is : size ≡ file_size n k) where
        write-size : size ≡ length (file n (view N t))
        write-size = is ∙ ap (file_size n) write-live ∙ sym (length-file n (view N t) (omega (arith, write-few)))

        pub write-fits : size ≤ length out → length (file n (view N t)) ≤ length out
        write-fits h = rw (← write-size) h

        module _ (w : well_formed n (view N t) ≡ true) where
          pub write_12 : length out < size → FileWritten n N t out (Err ShortOutput) out
          unfolding write_answer write_out write_fault output_fault_at map_fault some_if ◌or_else◌ there
          write_12 h =
              let l : ltb (length out) (length (file n (view N t))) ≡ true = lt-ltb (length out) (length (file n (view N t))) (rw (← write-size) h) in
              same_outcome (rw (s, w, l) refl) refl refl (rw (s, w, l) refl)

          pub write_0 : (out' : List ℕ) → size ≤ length out → out' ≡ file n (view N t) ++ drop (length (file n (view N t))) out
              → FileWritten n N t out (Ok (Written size)) out'
          unfolding write_answer write_out write_fault output_fault_at map_fault some_if ◌or_else◌ there
          write_0 out' h z =
              let l : ltb (length out) (length (file n (view N t))) ≡ false = le-ltb (length out) (length (file n (view N t))) (write-fits h) in
              same_outcome (rw (s, w, l, write-size) refl) refl refl (z ∙ rw (s, w, l) refl)

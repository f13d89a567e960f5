-- The refusals of opening a map file, in their order: 11 if it names no n and N; 1 if the programs do not take its N; then 1 and 11 by its load, and
-- 7 by the check.
use Prim.Native.Nat.{ℕ}
use mathlib.Core.Path.{◌≡◌, refl, ap, ◌∙◌}
use mathlib.Core.Bool.{Bool, true, false, not, cond}
use mathlib.Core.List.{List}
use lib.ListN.{length}
use lib.Dec.{eqb, leb}
use Rattle.std.specs.Prelude.{Err}
use Rattle.base.specs.First.{some_if, ◌or_else◌}
use Rattle.model.specs.Map.{view}
use Rattle.model.specs.WellFormed.{well_formed}
use Rattle.model.specs.File.{file_form, file_map}
use Rattle.model.specs.Answer.{Answer, number, answered}
use Rattle.model.specs.Calls.{sizes_ok, map_fault, table_fault, check_table, load_fault_at, load_fault, load_answer, load_table}
use Rattle.model.specs.declared.Reply.TheVariants.{Done}
use Rattle.model.specs.declared.Refusal.TheVariants.{BadCall, BadTable, BadFile}
use Rattle.model.proofs.AlikeLaws.{words-formed}
use Rattle.model.proofs.HoldsLaws.{dimension-small, load-table, load_slotted}
use Rattle.program.specs.Opening.{most_slots, empty_table, file_dimension, file_slots, file_loaded, file_table, open_answer}

-- the first of three refusals
abbrev first_of : Bool → Bool → Bool → Answer
first_of sizes form well = answered Done (some_if (not sizes) BadCall or_else some_if (not form) BadFile or_else some_if (not well) BadTable)

-- a check that follows a load, if the sizes are right and the file is in the form
module _ (n N : ℕ) (t b : List ℕ) (s : sizes_ok n N t ≡ true) (f : file_form n N b ≡ true) where
  loaded-well : well_formed n (view N (load_table n N t b)) ≡ well_formed n (file_map n N b)
  unfolding file_map
  loaded-well = ap (λ (l : List ℕ). well_formed n (view N l)) (load-table n N t b s f) ∙ words-formed n (file_map n N b) (dimension-small n N t s)

  check_loaded : check_table n N (load_table n N t b) ≡ first_of true true (well_formed n (file_map n N b))
  unfolding check_table table_fault map_fault some_if ◌or_else◌
  check_loaded = rw ((load_slotted n N t b s).sizes, loaded-well) refl

-- a load with these tests, and c if it is done
composed : (sizes form well : Bool) (c : Answer) → (sizes ≡ true → form ≡ true → c ≡ first_of true true well)
    → let load = answered Done (some_if (not sizes) BadCall or_else some_if (not form) BadFile) in cond (eqb (number load) 0) c load ≡ first_of sizes form well
unfolding some_if ◌or_else◌
composed false form well c h = refl
composed true false well c h = refl
composed true true well c h = h refl refl

module _ (f : List ℕ) where
  abbrev n : ℕ
  n = file_dimension f

  abbrev N : ℕ
  N = file_slots f

  -- the load and the check, of a file that names n and N
  taken_refusals : cond (eqb (number (file_loaded f)) 0) (check_table n N (file_table f)) (file_loaded f)
      ≡ first_of (sizes_ok n N (empty_table N)) (file_form n N f) (well_formed n (file_map n N f))
  unfolding file_loaded file_table load_answer load_fault load_fault_at
  taken_refusals = composed (sizes_ok n N (empty_table N)) (file_form n N f) (well_formed n (file_map n N f)) _ (check_loaded n N (empty_table N) f)

  -- written out, to be read beside the order of the rules
  pub open_refusals : open_answer f ≡ answered Done (some_if (not (leb 3 (length f))) BadFile or_else some_if (not (leb N most_slots)) BadCall
      or_else some_if (not (sizes_ok n N (empty_table N))) BadCall or_else some_if (not (file_form n N f)) BadFile
      or_else some_if (not (well_formed n (file_map n N f))) BadTable)
  unfolding open_answer some_if ◌or_else◌
  open_refusals = go (leb 3 (length f)) (leb N most_slots)
    where
      go : (long few : Bool)
          → cond long (cond few (cond (eqb (number (file_loaded f)) 0) (check_table n N (file_table f)) (file_loaded f)) (Err BadCall)) (Err BadFile)
          ≡ answered Done (some_if (not long) BadFile or_else some_if (not few) BadCall or_else some_if (not (sizes_ok n N (empty_table N))) BadCall
          or_else some_if (not (file_form n N f)) BadFile or_else some_if (not (well_formed n (file_map n N f))) BadTable)
      go true true = taken_refusals
      go true false = refl
      go false few = refl

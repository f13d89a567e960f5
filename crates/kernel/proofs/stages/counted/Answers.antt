-- `kernel::stages::counted` meets its contract.
use Prim.Native.Nat.{ℕ}
use mathlib.Core.Path.{refl, ap}
use mathlib.Core.List.{List, ◌++◌}
use native.Mathlib.Omega.{arith}
use lib.ListN.{drop}
use borrow.Author.Rules.{rules}
use Rattle.model.proofs.WellFormedLaws.{well_formed_iff}
use Rattle.table.proofs.SurveyLaws.{survey_live, survey_broken}
use Rattle.kernel.proofs.CountCallLaws.{staged_7, staged_12, staged_0, six_copied}
use Rattle.kernel.proofs.stages.counted.Goals as goal

pub returns-in_default : goal.returns-in_default
returns-in_default c = staged_7 _ _ _ (survey_broken _ _ _ c.survey.ensures c.in_default.is)

pub returns-then-out-lt6 : goal.returns-then-out-lt6
returns-then-out-lt6 c = staged_12 _ _ _ (survey_live _ _ _ c.survey.ensures _ c.in-Some.is).0 (omega arith)

pub count-numbers-requires : goal.count-numbers-requires
count-numbers-requires c =
    let found = survey_live _ _ _ c.survey.ensures _ c.in-Some.is in record {
      dimension = c.requires.dimension;
      well_formed = (well_formed_iff _ _).0 found.0;
      darts_value = found.1;
      store_len = c.requires.store_len;
    }

pub returns : goal.returns
returns c =
    staged_0 _ _ _ (survey_live _ _ _ c.survey.ensures _ c.in-Some.is).0 (omega arith) _ _ c.count-numbers.ensures
    (ap (λ (l : List ℕ). l ++ drop 6 c.args.out.now)
    (six_copied _ _ _ c.copy_from_slice.ensures.after (search rules) (search rules) refl refl refl refl refl refl))

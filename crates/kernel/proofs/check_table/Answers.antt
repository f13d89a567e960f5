-- `kernel::check_table` meets its contract.
use Rattle.std.proofs.lemmas.Result.{err_from_is_err_and}
use Rattle.table.proofs.SurveyLaws.{survey_live, survey_broken}
use Rattle.kernel.proofs.CallLaws.{sizes-read, is_0, is_1, is_7}
use Rattle.kernel.proofs.check_table.Goals as goal

pub returns-in_err-check_sizes : goal.returns-in_err-check_sizes
returns-in_err-check_sizes c =
    let e = c.in_err-check_sizes.ensures in
    let p = err_from_is_err_and c.from_residual.result c.from_residual.ensures.1 in
    rw (p.1, p.2, e.0) (is_1 _ _ _ e.1)

pub invariant_of-lent : goal.invariant_of-lent
invariant_of-lent c =
    let a = c.args in
    record { sized = (sizes-read a.n a.slots a.table.now c.in_ok-check_sizes.ensures).1 }

pub survey-requires : goal.survey-requires
survey-requires c =
    let a = c.args in
    let asked = sizes-read a.n a.slots a.table.now c.in_ok-check_sizes.ensures in
    record { dimension = asked.0 }

pub returns-in-None : goal.returns-in-None
returns-in-None c = is_7 _ _ _ c.in_ok-check_sizes.ensures (survey_broken _ _ _ c.survey.ensures c.in-None.is)

pub returns-in-Some : goal.returns-in-Some
returns-in-Some c = is_0 _ _ _ c.in_ok-check_sizes.ensures (survey_live _ _ _ c.survey.ensures c.in-Some.field-0 c.in-Some.is).0

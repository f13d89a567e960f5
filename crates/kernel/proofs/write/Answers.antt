-- `kernel::write` meets its contract.
use native.Mathlib.Omega.{arith}
use Rattle.std.proofs.lemmas.Result.{err_from_is_err_and}
use Rattle.table.proofs.SurveyLaws.{survey_live, survey_broken}
use Rattle.kernel.proofs.CallLaws.{sizes-read}
use Rattle.kernel.proofs.FileCallLaws.{write_0, write_1, write_7, write_12, write-few, write-fits, write-live}
use Rattle.kernel.proofs.write.Goals as goal

pub returns-in_err-check_sizes : goal.returns-in_err-check_sizes
returns-in_err-check_sizes c =
    let e = c.in_err-check_sizes.ensures in
    let p = err_from_is_err_and c.from_residual.result c.from_residual.ensures.1 in
    rw (p.1, p.2, e.0) (write_1 _ _ _ _ e.1)

pub invariant_of-lent : goal.invariant_of-lent
invariant_of-lent c =
    let a = c.args in
    record { sized = (sizes-read a.n a.slots a.table.now c.in_ok-check_sizes.ensures).1 }

pub survey-requires : goal.survey-requires
survey-requires c =
    let a = c.args in
    let asked = sizes-read a.n a.slots a.table.now c.in_ok-check_sizes.ensures in
    record { dimension = asked.0 }

pub size-bytes-requires : goal.size-bytes-requires
size-bytes-requires c =
    let a = c.args in
    write-few a.n a.slots a.table.now a.out.now c.in_ok-check_sizes.ensures _
    (survey_live _ _ _ c.survey.ensures _ c.in-Some.is).1

pub returns-then-out-bytes : goal.returns-then-out-bytes
returns-then-out-bytes c =
    let found = survey_live _ _ _ c.survey.ensures _ c.in-Some.is in
    write_12 _ _ _ _ c.in_ok-check_sizes.ensures _ found.1 _ c.size-bytes.ensures.0 found.0 c.if-out-bytes.true

pub write-requires : goal.write-requires
write-requires c =
    let a = c.args in
    let s = c.in_ok-check_sizes.ensures in
    let live = (survey_live _ _ _ c.survey.ensures _ c.in-Some.is).1 in
    let asked = sizes-read a.n a.slots a.table.now s in record {
      dimension = asked.0;
      live_value = write-live a.n a.slots a.table.now a.out.now s _ live;
      file_in_bounds = write-fits a.n a.slots a.table.now a.out.now s _ live _ c.size-bytes.ensures.0 c.if-out-bytes.false;
    }

pub overflow_cast-result : goal.overflow_cast-result
overflow_cast-result c = omega (arith, c.size-bytes.ensures.1)

pub returns : goal.returns
returns c =
    let found = survey_live _ _ _ c.survey.ensures _ c.in-Some.is in
    write_0 _ _ _ _ c.in_ok-check_sizes.ensures _ found.1 _ c.size-bytes.ensures.0 found.0 _ c.if-out-bytes.false c.write.ensures

pub returns-in_default : goal.returns-in_default
returns-in_default c = write_7 _ _ _ _ c.in_ok-check_sizes.ensures (survey_broken _ _ _ c.survey.ensures c.in_default.is)

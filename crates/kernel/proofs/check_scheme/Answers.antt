-- `kernel::check_scheme` meets its contract.
use mathlib.Core.Path.{sym, ◌∙◌}
use Rattle.conditions.proofs.FaultLaws.{fault_none, fault_some}
use Rattle.scheme.proofs.ReadLaws.{broken-read}
use Rattle.kernel.proofs.StageLaws.{form-good, read-scheme, read-shaped, long-words, left-twice, right-twice, form-refused, form_judged}
use Rattle.kernel.proofs.StageLaws.{scheme-refused, scheme-done}
use Rattle.kernel.proofs.check_scheme.Goals as goal

pub returns-in_default : goal.returns-in_default
returns-in_default c = scheme-refused _ (form-refused _ _ (broken-read _ c.in_default.ensures))

pub judge-fault-requires : goal.judge-fault-requires
judge-fault-requires c =
    let e = c.in-Some.ensures in
    record {
      shaped = read-shaped _ _ e;
      words_len = long-words _ _ e;
      left_twice_value = left-twice _ _ e;
      right_twice_value = right-twice _ _ e;
    }

pub returns-in-Err : goal.returns-in-Err
returns-in-Err c =
    let e = c.in-Some.ensures in
    let found = fault_some _ _ (sym c.in-Err.is ∙ c.judge-fault.ensures.fault) in
    scheme-refused _ (form_judged _ _ _ (form-good _ _ e) (read-scheme _ _ e) ∙ found)

pub returns-in-Ok : goal.returns-in-Ok
returns-in-Ok c =
    let e = c.in-Some.ensures in
    let none = fault_none _ (sym c.in-Ok.is ∙ c.judge-fault.ensures.fault) in
    scheme-done _ (form_judged _ _ _ (form-good _ _ e) (read-scheme _ _ e) ∙ none)

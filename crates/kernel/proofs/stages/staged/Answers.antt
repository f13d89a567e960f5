-- `kernel::stages::staged` meets its contract.
use mathlib.Core.Path.{◌≡◌, refl, sym, ◌∙◌}
use mathlib.Core.Bool.{true}
use mathlib.Core.List.{List}
use Prim.Native.Nat.{ℕ}
use Rattle.std.specs.Prelude.{Option, Some}
use Rattle.std.proofs.lemmas.Result.{err_from_is_err_and}
use Rattle.model.specs.Conditions.{scheme_fault}
use Rattle.model.specs.Calls.{bytes_fault, takes}
use Rattle.model.specs.declared.Darts.{Darts}
use Rattle.model.specs.declared.Refusal.{Refusal}
use Rattle.scheme.specs.Reading.{reading}
use Rattle.scheme.specs.declared.Reading.{Reading}
use Rattle.scheme.proofs.ReadLaws.{broken-read}
use Rattle.conditions.proofs.FaultLaws.{fault_none, fault_some}
use Rattle.kernel.specs.Stages.{many_by}
use Rattle.kernel.proofs.StageLaws.{form-refused, form_judged, read-scheme, read-shaped, long-words, left-twice, right-twice, taken_is, taken-not}
use Rattle.kernel.proofs.StageLaws.{no_fault_accepted, no_fault_alone, stage_refused, stage_on}
use Rattle.kernel.proofs.stages.staged.Goals as goal

-- what was read of bytes that the call takes
module _ (D : Darts) (b : List ℕ) (r : Reading) (e : Some r ≡ reading b) (m : many_by D r.scheme.second ≡ true) where
  fault-is : {o : Option Refusal} → scheme_fault r.scheme ≡ o → bytes_fault (takes D b) b ≡ o
  fault-is f = form_judged _ b r.scheme (sym (taken_is D b r e _ refl) ∙ m) (read-scheme b r e) ∙ f

pub returns-in_default : goal.returns-in_default
returns-in_default c = let D = c.args.darts in stage_refused _ _ _ _ D (form-refused _ _ (taken-not D _ (broken-read _ c.in_default.ensures)))

pub returns-in_err-check_hooks : goal.returns-in_err-check_hooks
returns-in_err-check_hooks c =
    let D = c.args.darts in
    let p = err_from_is_err_and c.from_residual.result c.from_residual.ensures.1 in
    let e = c.in_err-check_hooks.ensures in
    rw (p.1, p.2, e.0) (stage_refused _ _ _ _ D (form-refused _ _ (sym (taken_is D _ _ c.in-Some.ensures _ refl) ∙ e.1)))

pub judge-fault-requires : goal.judge-fault-requires
judge-fault-requires c =
    let e = c.in-Some.ensures in
    record {
      shaped = read-shaped _ _ e;
      words_len = long-words _ _ e;
      left_twice_value = left-twice _ _ e;
      right_twice_value = right-twice _ _ e;
    }

pub returns-in_err-fault : goal.returns-in_err-fault
returns-in_err-fault c =
    let D = c.args.darts in
    let p = err_from_is_err_and c.from_residual-in_err-fault.result c.from_residual-in_err-fault.ensures.1 in
    let found = fault_some _ _ (sym c.in_err-fault.was ∙ c.judge-fault.ensures.fault) in
    rw (p.1, p.2) (stage_refused _ _ _ _ D (fault-is D _ _ c.in-Some.ensures c.in_ok-check_hooks.ensures found))

pub apply_at-requires : goal.apply_at-requires
apply_at-requires c =
    let D = c.args.darts in
    let s = read-scheme _ _ c.in-Some.ensures in
    let found = fault_none _ (sym c.in_ok-fault.was ∙ c.judge-fault.ensures.fault) in
    let none = fault-is D _ _ c.in-Some.ensures c.in_ok-check_hooks.ensures found in record {
      dimension = c.requires.dimension;
      accepted = no_fault_accepted D _ _ none s;
      other_value = no_fault_alone D _ _ none s c.first.ensures c.second.ensures;
      tree_of = c.judge-fault.ensures.tree;
      sized = c.requires.sized;
      store_len = c.requires.store_len;
    }

pub returns : goal.returns
returns c =
    let D = c.args.darts in
    let s = read-scheme _ _ c.in-Some.ensures in
    let found = fault_none _ (sym c.in_ok-fault.was ∙ c.judge-fault.ensures.fault) in
    let none = fault-is D _ _ c.in-Some.ensures c.in_ok-check_hooks.ensures found in
    stage_on _ _ _ _ D none s c.first.ensures c.second.ensures c.apply_at.ensures

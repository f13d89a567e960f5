-- `kernel::edit_at` meets its contract.
use Prim.Native.Nat.{ℕ}
use mathlib.Core.Path.{ap, ◌∙◌}
use lib.ListN.{replicate}
use Rattle.std.proofs.lemmas.Result.{err_from_is_err_and}
use Rattle.kernel.proofs.CallLaws.{stored-read}
use Rattle.kernel.proofs.StageLaws.{edit_unfit, edit_staged}
use Rattle.kernel.proofs.edit_at.Goals as goal

pub returns-in_err-check_store : goal.returns-in_err-check_store
returns-in_err-check_store c =
    let e = c.in_err-check_store.ensures in
    let p = err_from_is_err_and c.from_residual.result c.from_residual.ensures.1 in
    rw (p.1, p.2, e.0) (edit_unfit _ _ _ _ _ _ e.1)

pub staged-answer-requires : goal.staged-answer-requires
staged-answer-requires c =
    let a = c.args in
    let asked = stored-read a.n a.slots a.table.now a.store.now c.in_ok-check_store.ensures in
    record { dimension = asked.0; sized = asked.1.0; store_len = asked.1.1 }

pub returns : goal.returns
returns c =
    edit_staged _ _ _ _ _ _ c.in_ok-check_store.ensures _ _ _ c.staged-answer.ensures
    (c.clear.ensures ∙ ap (λ (z : ℕ). replicate z 0) c.staged-answer.auto.store)

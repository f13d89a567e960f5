-- `kernel::count` meets its contract.
use Prim.Native.Nat.{ℕ}
use mathlib.Core.Path.{ap, ◌∙◌}
use lib.ListN.{replicate}
use Rattle.std.proofs.lemmas.Result.{err_from_is_err_and}
use Rattle.kernel.proofs.CallLaws.{stored-read}
use Rattle.kernel.proofs.CountCallLaws.{count_unfit, count_staged}
use Rattle.kernel.proofs.count.Goals as goal

pub returns-in_err-check_store : goal.returns-in_err-check_store
returns-in_err-check_store c =
    let e = c.in_err-check_store.ensures in
    let p = err_from_is_err_and c.from_residual.result c.from_residual.ensures.1 in
    rw (p.1, p.2, e.0) (count_unfit _ _ _ _ _ e.1)

pub invariant_of-lent : goal.invariant_of-lent
invariant_of-lent c =
    let a = c.args in
    record { sized = (stored-read a.n a.slots a.table.now a.store.now c.in_ok-check_store.ensures).1.0 }

pub counted-counted-requires : goal.counted-counted-requires
counted-counted-requires c =
    let a = c.args in
    let asked = stored-read a.n a.slots a.table.now a.store.now c.in_ok-check_store.ensures in
    record { dimension = asked.0; store_len = asked.1.1 }

pub returns : goal.returns
returns c =
    count_staged _ _ _ _ _ c.in_ok-check_store.ensures _ _ _ c.counted-counted.ensures
    (c.clear.ensures ∙ ap (λ (z : ℕ). replicate z 0) c.counted-counted.auto.store)

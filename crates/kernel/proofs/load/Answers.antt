-- `kernel::load` meets its contract.
use mathlib.Core.Path.{sym, ◌∙◌}
use mathlib.Core.Bool.{true, false}
use Rattle.std.proofs.lemmas.Result.{err_from_is_err_and}
use Rattle.kernel.proofs.CallLaws.{sizes-read}
use Rattle.kernel.proofs.FileCallLaws.{load_1, load_sized}
use Rattle.kernel.proofs.load.Goals as goal

pub returns-in_err-check_sizes : goal.returns-in_err-check_sizes
returns-in_err-check_sizes c =
    let e = c.in_err-check_sizes.ensures in
    let p = err_from_is_err_and c.from_residual.result c.from_residual.ensures.1 in
    rw (p.1, p.2, e.0) (load_1 _ _ _ _ e.1)

pub load-requires : goal.load-requires
load-requires c =
    let a = c.args in
    let asked = sizes-read a.n a.slots a.table.now c.in_ok-check_sizes.ensures in
    record { dimension = asked.0; sized = asked.1 }

pub returns-then-not-load : goal.returns-then-not-load
returns-then-not-load c =
    load_sized _ _ _ _ c.in_ok-check_sizes.ensures false (sym c.load.ensures.0 ∙ c.if-not-load.true) _ c.load.ensures.1

pub returns : goal.returns
returns c =
    load_sized _ _ _ _ c.in_ok-check_sizes.ensures true (sym c.load.ensures.0 ∙ c.if-not-load.false) _ c.load.ensures.1

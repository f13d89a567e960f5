-- `kernel::check_store` meets its contract.
use mathlib.Core.Path.{refl, ◌∙◌}
use Rattle.std.proofs.lemmas.Result.{MatchResult-weaker}
use Rattle.kernel.proofs.CallLaws.{unfit, fit}
use Rattle.kernel.proofs.check_store.Goals as goal

pub returns-then-store-slots : goal.returns-then-store-slots
returns-then-store-slots c = let a = c.args in (refl, unfit a.n a.slots a.table.now a.store.now c.if-store-slots.true)

pub returns : goal.returns
returns c =
    let a = c.args in
    let same = fit a.n a.slots a.table.now a.store.now c.if-store-slots.false in
    MatchResult-weaker c.check_sizes.result c.check_sizes.ensures (λ u e. same ∙ e) (λ f e. (e.0, same ∙ e.1))

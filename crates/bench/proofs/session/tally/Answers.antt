-- `bench::session::tally` meets its contract.
use mathlib.Core.Path.{refl, sym, ◌∙◌}
use native.Mathlib.Omega.{arith}
use lib.Dec.{eqb}
use borrow.Author.Tests.{eq-eqb, ne_eqb}
use Rattle.base.proofs.BelowLaws.{count_le}
use Rattle.base.specs.Below.{count_below}
use Rattle.table.specs.Seen.{map_of}
use Rattle.bench.proofs.SessionLaws.{tally_hit, tally_miss}
use Rattle.bench.proofs.session.tally.Goals as goal
use Rattle.bench.proofs.session.tally.Goals.{then-state-s, else-state-s}

pub loop-x-init : goal.loop-x-init
unfolding count_below
loop-x-init c = refl

pub overflow_add-found : goal.overflow_add-found
overflow_add-found c = omega (arith, c.loop-x.invariant, count_le c.loop-x.x (λ y. eqb ((map_of c.args.table.now).state y) c.args.s))

pub loop-x-preserved : goal.loop-x-preserved
loop-x-preserved c =
    let inv = c.loop-x.invariant in
    elim c.if-state-s.branch [
      | then-state-s w ↦ rw w.found-is (tally_hit _ _ _ (eq-eqb _ _ (sym c.state.ensures ∙ w.if-state-s.true)) inv)
      | else-state-s w ↦ rw w.found-is (tally_miss _ _ _ (ne_eqb _ _ (λ e. w.if-state-s.false (c.state.ensures ∙ e))) inv)
    ]

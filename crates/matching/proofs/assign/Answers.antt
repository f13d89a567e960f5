-- `matching::assign` meets its contract.
use Rattle.std.proofs.Common.{refl, ◌∙◌}
use Rattle.matching.proofs.AssignLaws.{firm, ready, matched-at, unmatched}
use Rattle.matching.proofs.assign.Goals as goal

pub returns-in_err-hang : goal.returns-in_err-hang
returns-in_err-hang c = rw c.from_residual.ensures record { at = λ p. unmatched (c.in_err-hang.ensures.none refl p.ready) c.hang.auto.store }

pub rows-requires-clause-before_matching : goal.rows-requires-clause-before_matching
rows-requires-clause-before_matching c = ready c.requires.posed c.in_ok-hang.ensures

pub returns-in_err-rows : goal.returns-in_err-rows
returns-in_err-rows c = rw c.from_residual-in_err-rows.ensures record {
  at = λ p. unmatched (c.in_err-rows.ensures.none refl (ready p c.in_ok-hang.ensures)) (c.rows.auto.store ∙ c.hang.auto.store);
}

pub arcs-requires : goal.arcs-requires
arcs-requires c =
    let p = c.requires.posed in
    record { firm = firm (ready p c.in_ok-hang.ensures) (c.in_ok-rows.ensures.done refl) p.coded }

pub returns : goal.returns
returns c = rw c.then_some.ensures record { at = λ p. matched-at p c.in_ok-hang.ensures (c.in_ok-rows.ensures.done refl) _ c.arcs.ensures }

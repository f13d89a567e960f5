-- `scheme::nodes::mark` meets its contract.
use Prim.Native.Nat.{◌+◌}
use mathlib.Core.Path.{ap}
use Rattle.scheme.proofs.MarkLaws.{mark-gone, mark-none, mark-twice, mark-once}
use Rattle.scheme.proofs.nodes.mark.Goals as goal

pub returns-then-d-eq255 : goal.returns-then-d-eq255
returns-then-d-eq255 c = let m = mark-gone _ _ _ _ _ c.if-d-eq255.true in record { fits = m.0; targets_after = m.1 }

pub returns-then-n-d-clause-fits : goal.returns-then-n-d-clause-fits
returns-then-n-d-clause-fits c = mark-none _ _ _ _ c.args.p c.if-d-eq255.false c.if-n-d.true

pub returns-then-targets-at-clause-fits : goal.returns-then-targets-at-clause-fits
returns-then-targets-at-clause-fits c =
    mark-twice _ _ _ _ c.args.p c.if-d-eq255.false c.if-n-d.false (ap (λ x. c.args.base + x) c.from.ensures) c.if-targets-at.true

pub returns : goal.returns
returns c =
    let at = ap (λ x. c.args.base + x) c.from.ensures in
    let m = mark-once _ _ _ _ c.args.p c.if-d-eq255.false c.if-n-d.false at c.if-targets-at.false in
    record { fits = m.0; targets_after = m.1 }

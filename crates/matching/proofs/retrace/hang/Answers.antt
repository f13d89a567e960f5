-- `matching::retrace::hang` meets its contract.
use Rattle.matching.proofs.RetraceLaws.{ready, hung-none, hung-all}
use Rattle.matching.proofs.retrace.hang.Goals as goal

pub returns-in_err-tail : goal.returns-in_err-tail
returns-in_err-tail c = rw c.from_residual.ensures (hung-none c.if-roots-eq1.false c.in_err-tail.ensures)

pub retrace-requires : goal.retrace-requires
retrace-requires c = record { retracing = ready c.requires.before_hanging c.if-roots-eq1.false c.in_ok-tail.ensures }

pub returns : goal.returns
returns c = hung-all c.if-roots-eq1.false c.in_ok-tail.ensures c.retrace.ensures

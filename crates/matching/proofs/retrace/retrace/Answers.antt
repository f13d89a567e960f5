-- `matching::retrace::retrace` meets its contract.
use Rattle.std.proofs.Common.{◌∙◌, arith}
use Rattle.matching.proofs.RetraceLaws.{retracing, retrace_more, retrace_done, retrace_none}
use Rattle.matching.proofs.retrace.retrace.Goals as goal

pub expand-requires : goal.expand-requires
expand-requires c =
    let T = c.requires.retracing in
    record { retracing = retracing T (c.loop-head.invariant.1 T) c.loop-head-test.true }

pub returns-in_err-end : goal.returns-in_err-end
returns-in_err-end c =
    λ T.
    let D = c.loop-head.invariant.1 T in
    rw c.from_residual.ensures (retrace_none T (retrace_more T D (c.in_err-end.ensures (retracing T D c.loop-head-test.true))))

pub loop-head-preserved : goal.loop-head-preserved
loop-head-preserved c =
    let v = c.loop-head.invariant in (
      c.expand.auto.store ∙ v.0,
      λ T. retrace_more T (v.1 T) (c.in_ok-end.ensures (retracing T (v.1 T) c.loop-head-test.true)),
    )

pub returns : goal.returns
returns c = λ T. retrace_done T (c.loop-head.invariant.1 T) (omega arith)

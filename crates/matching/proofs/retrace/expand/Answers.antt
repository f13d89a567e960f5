-- `matching::retrace::expand` meets its contract.
use Rattle.std.proofs.Common.{◌<◌, arith}
use Rattle.matching.specs.Retrace.{Retracing}
use Rattle.matching.proofs.RetraceLaws.{few_positions, x_slot, dim-low, y_slot, q_next, expand_more, expand_none, expand_done}
use Rattle.matching.proofs.retrace.expand.Goals as goal

pub returns-then-p-k : goal.returns-then-p-k
returns-then-p-k c =
    λ T.
    let v = c.loop-p.invariant in
    let O = v.3 T in
    expand_done T O.0 O.1 v.1 c.if-p-k.true

pub link-y-requires : goal.link-y-requires
link-y-requires c =
    let T = c.requires.retracing in
    let position : c.loop-p.p < c.args.k = omega (arith, c.loop-p.invariant.0, c.if-p-k.false) in
    (x_slot T _ c.word-x.ensures, dim-low T _ c.word-x.ensures _ _ position c.from.ensures)

pub meet-requires-clause-slot : goal.meet-requires-clause-slot
meet-requires-clause-slot c =
    let T = c.requires.retracing in
    let v = c.loop-p.invariant in
    let O = v.3 T in
    let position : c.loop-p.p < c.args.k = omega (arith, v.0, c.if-p-k.false) in
    y_slot T _ c.word-x.ensures _ _ position c.from.ensures O.0 O.1 v.1 _ _ c.link-y.ensures c.word-q.ensures

pub meet-requires-clause-place : goal.meet-requires-clause-place
meet-requires-clause-place c =
    let T = c.requires.retracing in
    let v = c.loop-p.invariant in
    let O = v.3 T in
    let position : c.loop-p.p < c.args.k = omega (arith, v.0, c.if-p-k.false) in
    q_next T _ c.word-x.ensures _ _ position c.from.ensures O.0 O.1 v.1 _ _ c.link-y.ensures c.word-q.ensures

pub returns-in_err-end : goal.returns-in_err-end
returns-in_err-end c =
    let v = c.loop-p.invariant in
    let position : c.loop-p.p < c.args.k = omega (arith, v.0, c.if-p-k.false) in
    λ T.
    let O = v.3 T in
    rw c.from_residual.ensures
    (expand_none T _ c.word-x.ensures _ _ position c.from.ensures O.0 O.1 v.1 _ _ c.link-y.ensures c.word-q.ensures c.in_err-end.ensures)

pub loop-p-preserved : goal.loop-p-preserved
loop-p-preserved c =
    let v = c.loop-p.invariant in
    let position : c.loop-p.p < c.args.k = omega (arith, v.0, c.if-p-k.false) in
    let more : (T : Retracing _ _ _ _ _ _ _) → _ = λ T.
    let O = v.3 T in
    expand_more T _ c.word-x.ensures _ _ position c.from.ensures O.0 O.1 v.1 _ _ c.link-y.ensures c.word-q.ensures c.in_ok-end.ensures in
    let T₀ = c.requires.retracing in
    (omega arith, (more T₀).0, (more T₀).1.0.taken.long, λ T. (more T).1)

pub returns : goal.returns
returns c =
    λ T.
    let v = c.loop-p.invariant in
    let O = v.3 T in
    expand_done T O.0 O.1 v.1 (omega (arith, v.0, c.loop-p-test.false, few_positions T))

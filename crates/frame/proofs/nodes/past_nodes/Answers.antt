-- `frame::nodes::past_nodes` meets its contract.
use mathlib.Core.Path.{◌≡◌}
use native.Mathlib.Omega.{arith}
use Rattle.model.specs.Bytes.{nodes_of}
use Rattle.frame.proofs.FrameLaws.{node-passed, node-cut}
use Rattle.frame.proofs.nodes.past_nodes.Goals as goal

pub returns-in_err-next : goal.returns-in_err-next
returns-in_err-next c =
    let n = c.in_err-next.ensures in
    rw c.from_residual.ensures (node-cut c.requires.node_size c.from.ensures c.loop.invariant (omega (arith, c.requires.node_count.nodes_is)) n)

pub loop-preserved : goal.loop-preserved
loop-preserved c = node-passed c.requires.node_size c.from.ensures c.loop.invariant c.in_ok-next.ensures

pub returns : goal.returns
returns c =
    let same : c.loop.counter ≡ nodes_of c.args.bytes.now = omega (arith, c.requires.node_count.nodes_is) in
    rw same at c.loop.invariant

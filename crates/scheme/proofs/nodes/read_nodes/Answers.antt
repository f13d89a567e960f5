-- `scheme::nodes::read_nodes` meets its contract.
use mathlib.Core.Path.{◌≡◌, sym, ap, ◌∙◌}
use native.Mathlib.Omega.{arith}
use Rattle.std.specs.Option.{is_some}
use Rattle.base.proofs.BelowLaws.{all-stops}
use Rattle.model.specs.Bytes.{byte, nodes_of}
use Rattle.scheme.proofs.NodeLaws.{passed_none, passed-all}
use Rattle.scheme.proofs.nodes.read_nodes.Goals as goal
use Rattle.scheme.proofs.nodes.read_nodes.Goals.{After-from-s-end}

-- the count is that of the nodes
counted : (c : After-from-s-end) → c.from-s-end.result ≡ nodes_of c.args.bytes.now
counted c = c.from-s-end.ensures ∙ c.take-nodes.ensures.value_is ∙ ap (byte c.args.bytes.now) c.requires.at_count

pub loop-s-init : goal.loop-s-init
loop-s-init c =
    let w = c.requires.words_blank in
    let t = c.requires.targets_blank in
    passed_none _ (omega (arith, c.take-nodes.ensures.next_is, c.requires.at_count)) w.0 w.1 w.2 t.0 t.1

pub returns-in_err-next-clause-formed : goal.returns-in_err-next-clause-formed
returns-in_err-next-clause-formed c =
    let n = counted (goal.at.returns-in_err-next-clause-formed c).After-from-s-end in
    ap is_some c.from_residual.ensures ∙ all-stops _ c.loop-s.s _ (omega arith) (sym c.in_err-next.ensures.formed)

pub returns-clause-noded : goal.returns-clause-noded
returns-clause-noded c =
    let n = counted (goal.at.returns-clause-noded c).After-from-s-end in
    let h = c.requires.laid_out.headed in
    passed-all _ c.loop-s.invariant (omega arith) (omega arith)

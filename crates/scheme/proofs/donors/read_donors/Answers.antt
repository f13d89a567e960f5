-- `scheme::donors::read_donors` meets its contract.
use mathlib.Core.Path.{◌≡◌, sym, ap, ◌∙◌}
use native.Mathlib.Omega.{arith}
use borrow.Author.Tests.{not-true}
use Rattle.std.specs.Option.{is_some}
use Rattle.base.proofs.BelowLaws.{all-stops}
use Rattle.model.specs.Bytes.{byte, nodes_of}
use Rattle.scheme.proofs.DonorLaws.{none-formed, none_read, donated_none, donated_all}
use Rattle.scheme.proofs.donors.read_donors.Goals as goal
use Rattle.scheme.proofs.donors.read_donors.Goals.{After-from-s-end}

-- the count is that of the nodes
counted : (c : After-from-s-end) → c.from-s-end.result ≡ nodes_of c.args.bytes.now
counted c = c.from-s-end.ensures ∙ c.take-nodes.ensures.value_is ∙ ap (byte c.args.bytes.now) c.requires.at_count

pub returns-then-not-l : goal.returns-then-not-l
returns-then-not-l c =
    let none = sym c.requires.donors_placed.laid.headed.donors_is ∙ not-true _ c.if-not-l.true in
    record { formed = none-formed _ none; donors_after = none_read _ none c.requires.donors_blank }

pub loop-s-init : goal.loop-s-init
loop-s-init c = donated_none _ (omega (arith, c.take-nodes.ensures.next_is, c.requires.at_count)) c.requires.donors_blank

pub returns-in_err-next-clause-formed : goal.returns-in_err-next-clause-formed
returns-in_err-next-clause-formed c =
    let n = counted (goal.at.returns-in_err-next-clause-formed c).After-from-s-end in
    ap is_some c.from_residual.ensures ∙ all-stops _ c.loop-s.s _ (omega arith) (sym c.in_err-next.ensures.formed)

pub returns-clause-donors_after : goal.returns-clause-donors_after
returns-clause-donors_after c =
    let n = counted (goal.at.returns-clause-donors_after c).After-from-s-end in
    donated_all _ c.loop-s.invariant (omega arith) (omega arith)

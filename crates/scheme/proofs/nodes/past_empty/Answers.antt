-- `scheme::nodes::past_empty` meets its contract.
use Prim.Native.Nat.{◌+◌, ◌-◌}
use mathlib.Core.Path.{◌≡◌, ap, ◌∙◌}
use native.Mathlib.Omega.{arith}
use Rattle.std.specs.Option.{is_some}
use Rattle.frame.proofs.OptionLaws.{is_some-then_some}
use Rattle.scheme.proofs.StoredLaws.{part-empty}
use Rattle.scheme.proofs.nodes.past_empty.Goals as goal

pub returns-clause-formed : goal.returns-clause-formed
returns-clause-formed c =
    let a = c.args in
    let size : a.from.at + a.places - a.from.at ≡ a.places = omega arith in
    let tested = rw size at c.is_empty.ensures in
    ap is_some c.then_some.ensures ∙ is_some-then_some c.is_empty.result _ ∙ part-empty a.bytes.now a.from.at a.places c.requires tested

-- `scheme::nodes::read_word` meets its contract.
use Prim.Native.Nat.{◌+◌}
use mathlib.Core.Path.{◌≡◌, refl, sym, ap, ◌∙◌}
use native.Mathlib.Omega.{arith}
use Rattle.std.specs.Option.{is_some}
use Rattle.base.proofs.BelowLaws.{all_none, all_more, all-stops}
use Rattle.base.proofs.FilledLaws.{stored-none}
use Rattle.model.specs.Bytes.{byte}
use Rattle.scheme.specs.Words.{fits_at}
use Rattle.frame.proofs.PlaceLaws.{taken_at, stored-byte}
use Rattle.scheme.proofs.MarkLaws.{rowed-none, rowed-more, rowed-fits}
use Rattle.scheme.proofs.nodes.read_word.Goals as goal
use Rattle.scheme.proofs.nodes.read_word.Goals.{After-mark}

-- the byte at the cursor, and the place after it
took : (c : After-mark) → let a = c.args in
    (c.take-d.result.0 ≡ byte a.bytes.now (a.from.at + c.loop-p.p)) × (c.take-d.result.1.at ≡ a.from.at + (c.loop-p.p + 1))
took c = taken_at _ _ _ c.take-d.ensures c.loop-p.invariant.0

-- whether the byte fits
fits : (c : After-mark) → let a = c.args in is_some c.mark.result ≡ fits_at a.bytes.now a.n a.from.at c.loop-p.p
fits c =
    let n = c.requires.bounds in
    let i = c.loop-p.invariant in
    rowed-fits _ _ _ _ _ n.0 (omega arith) c.requires.row_clear.1 _ i.3 (omega arith) i.1 (took c).0 c.mark.ensures.fits

pub loop-p-init : goal.loop-p-init
loop-p-init c = (omega arith, all_none _, sym (stored-none _ _ _ _), sym (rowed-none _ _ _ _))

pub returns-in_err-mark-clause-formed : goal.returns-in_err-mark-clause-formed
returns-in_err-mark-clause-formed c =
    let f = fits (goal.at.returns-in_err-mark-clause-formed c).After-mark in
    ap is_some c.from_residual.ensures ∙ all-stops _ _ _ c.loop-p-test.true (sym f ∙ ap is_some c.in_err-mark.was)

pub loop-p-preserved : goal.loop-p-preserved
loop-p-preserved c =
    let t = took (goal.at.loop-p-preserved c).After-mark in
    let f = fits (goal.at.loop-p-preserved c).After-mark in
    let i = c.loop-p.invariant in
    let m = c.in_ok-mark.ensures in (
      t.1,
      all_more _ _ i.1 (sym f ∙ ap is_some c.in_ok-mark.was),
      stored-byte _ _ _ _ _ i.2 refl t.0,
      m.targets_after ∙ rowed-more _ _ _ _ _ i.3 t.0,
    )

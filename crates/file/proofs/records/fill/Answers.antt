-- `file::records::fill` meets its contract.
use mathlib.Core.Path.{◌≡◌, ◌∙◌}
use native.Mathlib.Omega.{arith}
use Rattle.file.proofs.FillLaws.{filled_none, filled_more, filled-all}
use Rattle.file.proofs.records.fill.Goals as goal

pub loop-k-init : goal.loop-k-init
loop-k-init g c = let a = c.requires.table_of_zeros in filled_none _ _ _ _ _ a.0 a.1

pub loop-k-preserved : goal.loop-k-preserved
loop-k-preserved g c =
    filled_more _ _ _ _ _ _ _ c.requires.formed (rw (← c.requires.darts_value) c.loop-k-test.true) c.loop-k.invariant c.enter.ensures

pub returns : goal.returns
returns g c =
    let end : c.loop-k.k ≡ c.args.darts = omega arith in
    filled-all _ _ _ _ _ _ (end ∙ c.requires.darts_value) c.loop-k.invariant

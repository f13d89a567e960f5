-- `rewriting::links::changes` meets its contract.
use Rattle.std.proofs.Common.{arith}
use lib.ListN.{length-set}
use Rattle.rewriting.proofs.LinkLaws.{changes_more}
use Rattle.rewriting.proofs.links.changes.Goals as goal

pub loop-k-preserved : goal.loop-k-preserved
loop-k-preserved c =
    let v = c.loop-k.invariant in
    (simp length-set v.0, changes_more _ _ _ _ _ (omega (arith, v.0)) c.change.ensures v.1)

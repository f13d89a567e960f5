-- `numbers::Cursor::put` meets its contract.
use mathlib.Core.Path.{refl}
use native.Mathlib.Omega.{arith}
use Rattle.base.specs.Digits.{bytes_of}
use Rattle.numbers.proofs.PlaceLaws.{put-more}
use Rattle.numbers.proofs.Cursor.put.Goals as goal

pub loop-i-init : goal.loop-i-init
unfolding bytes_of
loop-i-init g c = (omega arith, record { bytes = refl; after = omega arith })

pub loop-i-preserved : goal.loop-i-preserved
loop-i-preserved g c = put-more _ _ _ _ _ _ c.loop-i.invariant _ (omega arith)

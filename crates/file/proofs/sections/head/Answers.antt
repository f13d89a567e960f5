-- `file::sections::head` meets its contract.
use native.Mathlib.Omega.{arith}
use Rattle.file.specs.Sections.{head_bytes}
use Rattle.numbers.proofs.PlaceLaws.{put_then, put-room}
use Rattle.file.proofs.sections.head.Goals as goal

pub put-requires-clause-in_bounds : goal.put-requires-clause-in_bounds
put-requires-clause-in_bounds g c = put-room 1 _ _ _ _ _ c.put-next.ensures _ (omega arith)

pub returns : goal.returns
unfolding head_bytes
returns g c = put_then _ _ _ _ _ _ _ _ c.put-next.ensures c.put.ensures

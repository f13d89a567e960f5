-- `report::ahead::refuse` meets its contract: the line of refusal 11 is short.
use mathlib.Core.Path.{refl}
use native.Mathlib.Omega.{arith}
use Rattle.report.proofs.AheadLaws.{eleven_short}
use Rattle.report.proofs.ahead.refuse.Goals as goal

pub refused_line-requires : goal.refused_line-requires
refused_line-requires c = omega (arith, c.requires, eleven_short)

pub returns : goal.returns
returns c =
    let p = c.refused_line.ensures in
    record { state = refl; total = refl; lines = p; short = omega (arith, p.after, eleven_short) }

-- `program::lines::refused_line` meets its contract: its two parts are the line.
use native.Mathlib.Omega.{arith}
use Rattle.program.proofs.LineLaws.{refused-length, refused-put}
use Rattle.program.proofs.lines.refused_line.Goals as goal

pub field-first-requires : goal.field-first-requires
field-first-requires c = omega (arith, c.requires, refused-length c.args.number)

pub text-requires : goal.text-requires
text-requires c = omega (arith, c.requires, c.field-first.ensures.after, c.field-first.auto.out, refused-length c.args.number)

pub returns : goal.returns
returns c = refused-put _ _ _ _ _ _ _ c.field-first.ensures c.text.ensures

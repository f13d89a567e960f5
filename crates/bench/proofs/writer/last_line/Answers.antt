-- `bench::writer::last_line` meets its contract: its three parts are the line.
use native.Mathlib.Omega.{arith}
use Rattle.bench.proofs.LineLaws.{last-length, last-put}
use Rattle.bench.proofs.writer.last_line.Goals as goal

pub field-first-requires : goal.field-first-requires
field-first-requires c = omega (arith, c.requires, last-length c.args.live c.args.unused)

pub field-second-requires : goal.field-second-requires
field-second-requires c =
    omega (arith, c.requires, c.field-first.ensures.after, c.field-first.auto.out, last-length c.args.live c.args.unused)

pub text-requires : goal.text-requires
text-requires c =
    omega (
      arith,
      c.requires,
      c.field-first.ensures.after,
      c.field-first.auto.out,
      c.field-second.ensures.after,
      c.field-second.auto.out,
      last-length c.args.live
          c.args.unused,
    )

pub returns : goal.returns
returns c = last-put _ _ _ _ _ _ _ _ _ _ c.field-first.ensures c.field-second.ensures c.text.ensures

-- `program::lines::numbers_line` meets its contract.
use native.Mathlib.Omega.{arith}
use Rattle.program.proofs.LineLaws.{fields-none, rest-more, fields-room, end-room, first-room, rest-room, numbers_put}
use Rattle.program.proofs.lines.numbers_line.Goals as goal

pub decimal-next-requires : goal.decimal-next-requires
decimal-next-requires c = first-room c.args.values.now c.args.out.now _ c.requires.line_in_bounds

pub loop-value-init : goal.loop-value-init
loop-value-init c = fields-none _ _ _

pub field-next-requires : goal.field-next-requires
field-next-requires c =
    let room = rest-room _ _ _ c.requires.line_in_bounds _ _ c.decimal-next.ensures in
    fields-room _ _ _ _ _ _ c.loop-value.invariant room c.loop-value-test.true

pub loop-value-preserved : goal.loop-value-preserved
loop-value-preserved c = rest-more _ _ _ _ _ _ c.loop-value.invariant c.loop-value-test.true _ _ c.field-next.ensures

pub text-requires : goal.text-requires
text-requires c =
    let room = rest-room _ _ _ c.requires.line_in_bounds _ _ c.decimal-next.ensures in
    end-room _ _ _ _ _ _ c.loop-value.invariant room (omega arith)

pub returns : goal.returns
returns c =
    numbers_put _ _ _ c.requires.line_in_bounds _ _ c.decimal-next.ensures _ _ _ _ _ (omega arith) c.loop-value.invariant
    c.text.ensures

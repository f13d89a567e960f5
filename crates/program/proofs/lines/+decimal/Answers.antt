-- `program::lines::decimal` meets its contract: a small number is its digit, and else the last digit comes after the others.
use Prim.Native.Nat.{◌+◌, ◌≤◌}
use native.Mathlib.Omega.{arith}
use lib.ListN.{length}
use Rattle.program.proofs.DecimalLaws.{decimal-some}
use Rattle.program.proofs.WriterLaws.{tens_room, last-room, put_last, put_only}
use Rattle.program.proofs.lines.+decimal.Goals as goal

pub bounds-out-at : goal.bounds-out-at
bounds-out-at t c = omega (arith, decimal-some c.args.v)

pub overflow_add-result : goal.overflow_add-result
overflow_add-result t c = omega (arith, decimal-some c.args.v)

pub returns-then-v-lt10 : goal.returns-then-v-lt10
returns-then-v-lt10 t c = put_only _ _ _ _ c.if-v-lt10.true c.digit.ensures

pub decimal-last-requires : goal.decimal-last-requires
decimal-last-requires t c = (omega arith, tens_room c.args.out.now _ _ c.if-v-lt10.false c.ranges.v.fits c.requires)

pub bounds-out-last : goal.bounds-out-last
bounds-out-last t c =
    let room : c.decimal-last.result + 1 ≤ length c.decimal-last.new.out =
    last-room _ _ _ c.if-v-lt10.false c.ranges.v.fits _ _ c.decimal-last.ensures c.requires in
    omega arith

pub overflow_add-result-2 : goal.overflow_add-result-2
overflow_add-result-2 t c =
    let room : c.decimal-last.result + 1 ≤ length c.decimal-last.new.out =
    last-room _ _ _ c.if-v-lt10.false c.ranges.v.fits _ _ c.decimal-last.ensures c.requires in
    omega arith

pub returns : goal.returns
returns t c = put_last _ _ _ c.if-v-lt10.false c.ranges.v.fits _ _ _ c.decimal-last.ensures c.digit-2.ensures

-- `numbers::Cursor::number` meets its contract.
use mathlib.Core.Path.{◌≡◌, refl}
use native.Mathlib.Nat.{sub_self, sub-zero, add-zero}
use native.Mathlib.Omega.{arith}
use Rattle.base.specs.Digits.{number_at}
use Rattle.numbers.proofs.PlaceLaws.{byte_small, taken-more, taken-small}
use Rattle.numbers.proofs.Cursor.number.Goals as goal

pub loop-i-init : goal.loop-i-init
unfolding number_at
loop-i-init g c = rw sub_self (record { value = refl; small = omega arith; next = omega arith })

pub overflow_mul-value : goal.overflow_mul-value
overflow_mul-value g c = omega (arith, taken-small _ _ _ _ _ _ c.loop-i-test.true c.requires.width c.loop-i.invariant)

pub overflow_add-value : goal.overflow_add-value
overflow_add-value g c =
    let few = taken-small _ _ _ _ _ _ c.loop-i-test.true c.requires.width c.loop-i.invariant in
    omega (arith, few, byte_small c.args.b.now _ _ (λ i. omega (arith, c.type_inv.b i)) c.from.ensures)

pub loop-i-preserved : goal.loop-i-preserved
loop-i-preserved g c =
    let l = c.loop-i in
    let small = byte_small c.args.b.now _ _ (λ i. omega (arith, c.type_inv.b i)) c.from.ensures in
    taken-more _ _ _ _ _ _ _ c.loop-i-test.true l.auto.i _ (omega arith) c.from.ensures small l.invariant

pub returns : goal.returns
returns g c = let end : c.loop-i.i ≡ 0 = omega arith in rw (end, sub-zero, add-zero) at c.loop-i.invariant

-- `bench::framing::frame` meets its contract: each fault breaks a limit or the length.
use mathlib.Core.Path.{refl}
use native.Mathlib.Omega.{arith}
use Rattle.bench.proofs.FramingLaws.{fault}
use Rattle.bench.proofs.framing.frame.Goals as goal

pub returns-in_err-left : goal.returns-in_err-left
returns-in_err-left c =
    rw c.from_residual.ensures (fault c.args.input.now _ _ _ refl refl refl (λ x y z w. absurd (omega (arith, c.in_err-left.ensures))))

pub returns-in_err-left-2 : goal.returns-in_err-left-2
returns-in_err-left-2 c =
    rw c.from_residual-in_err-left-2.ensures
    (fault _ _ _ _ c.number-map.ensures.value refl refl (λ x y z w. absurd (omega (arith, c.in_ok-left.ensures, c.in_err-left-2.ensures))))

pub returns-in_err-left-3 : goal.returns-in_err-left-3
returns-in_err-left-3 c =
    rw c.from_residual-in_err-left-3.ensures
    (fault _ _ _ _ c.number-map.ensures.value c.number-scheme.ensures.value refl
    (λ x y z w. absurd (omega (arith, c.in_ok-left.ensures, c.in_ok-left-2.ensures, c.in_err-left-3.ensures))))

pub returns-then-left-darts : goal.returns-then-left-darts
returns-then-left-darts c =
    fault _ _ _ _ c.number-map.ensures.value c.number-scheme.ensures.value c.number-darts.ensures.value (λ x y z w. absurd (omega arith))

-- `program::opening::load` meets its contract: a load that is refused is the answer, and else the check is.
use mathlib.Core.Path.{refl}
use native.Mathlib.Omega.{arith}
use Rattle.std.proofs.lemmas.Result.{err_from_is_err_and}
use Rattle.model.proofs.AnswerLaws.{number_bounds}
use Rattle.demands.proofs.OneOutcome.{table_of_lem}
use Rattle.program.proofs.OpeningLaws.{load-refused, load-checked}
use Rattle.program.proofs.opening.load.Goals as goal

pub returns-in_err-load : goal.returns-in_err-load
returns-in_err-load c =
    let p = err_from_is_err_and c.from_residual.result c.from_residual.ensures.1 in
    let some = number_bounds c.in_err-load.field-0.0 in
    record {
      value = rw (p.1, p.2) (load-refused _ _ _ c.requires.named.0 _ c.requires.table_len c.requires.named.1 _ _ c.in_err-load.ensures
          (λ z. omega (arith, some.0)));
      table_after = table_of_lem c.load.ensures;
    }

pub returns : goal.returns
returns c =
    record {
      value = load-checked _ _ _ c.requires.named.0 _ c.requires.table_len c.requires.named.1 _ _ c.in_ok-load.ensures _ refl c.check_table.ensures;
      table_after = table_of_lem c.load.ensures;
    }

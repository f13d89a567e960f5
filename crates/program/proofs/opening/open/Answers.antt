-- `program::opening::open` meets its contract: the two refusals before the load, and what the load and the check answer.
use mathlib.Core.Path.{sym, ap, ◌∙◌}
use native.Mathlib.Omega.{arith}
use lib.Seq.{length-take-le}
use Rattle.std.proofs.lemmas.Result.{err_from_is_err_and}
use Rattle.model.specs.Answer.{number}
use Rattle.program.specs.Opening.{Named}
use Rattle.program.proofs.OpeningLaws.{named_of, short-answer, short-table, many-answer, many-table, taken-table}
use Rattle.program.proofs.opening.open.Goals as goal
use Rattle.program.proofs.opening.open.Goals.{After-number-slots}

-- the n and the number of slots that were read are those that the file names
named : (c : After-number-slots) → Named c.args.file.now c.number-n.result.0 c.number-slots.result.0
named c = named_of _ _ _ c.if-file-lt3.false c.number-n.ensures.value (rw c.number-n.ensures.next at c.number-slots.ensures.value)

pub returns-then-file-lt3 : goal.returns-then-file-lt3
returns-then-file-lt3 c =
    record { opened_as = short-answer _ c.if-file-lt3.true; table_after = short-table _ _ c.if-file-lt3.true }

pub returns-then-slots-gt-MOST_SLOTS : goal.returns-then-slots-gt-MOST_SLOTS
returns-then-slots-gt-MOST_SLOTS c =
    let n = named (goal.at.returns-then-slots-gt-MOST_SLOTS c).After-number-slots in
    let many = c.if-slots-gt-MOST_SLOTS.true in
    record { opened_as = many-answer _ _ _ n many; table_after = many-table _ _ _ n _ many }

pub slice_bounds-load-end-2 : goal.slice_bounds-load-end-2
slice_bounds-load-end-2 c = sym (length-take-le _ c.args.table.now (omega (arith, c.size-words.ensures, c.requires)))

pub load-requires : goal.load-requires
load-requires c =
    record {
      named = (named (goal.at.load-requires c).After-number-slots, c.if-slots-gt-MOST_SLOTS.false);
      table_len = length-take-le _ c.args.table.now (omega (arith, c.size-words.ensures, c.requires)) ∙ c.size-words.ensures;
    }

pub returns-in_err-load : goal.returns-in_err-load
returns-in_err-load c =
    let n = named (goal.at.returns-in_err-load c).After-number-slots in
    let p = err_from_is_err_and c.from_residual.result c.from_residual.ensures.1 in
    record {
      opened_as = rw (p.1, p.2) (sym c.in_err-load.ensures.value);
      table_after = taken-table _ _ _ n _ _ _ c.if-slots-gt-MOST_SLOTS.false c.size-words.ensures c.load.ensures.table_after;
    }

pub returns : goal.returns
returns c =
    let n = named (goal.at.returns c).After-number-slots in
    let few = c.if-slots-gt-MOST_SLOTS.false in
    record {
      opened_as = record { named = n; few = few; done = ap number (sym c.in_ok-load.ensures.value) };
      table_after = taken-table _ _ _ n _ _ _ few c.size-words.ensures c.load.ensures.table_after;
    }

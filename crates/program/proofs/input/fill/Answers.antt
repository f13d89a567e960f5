-- `program::input::fill` meets its contract: what is read goes behind what was read before.
use borrow.Author.Rules.{rules}
use Rattle.std.proofs.KnownBytes.{Consumes-trans}
use Rattle.program.proofs.InputLaws.{take_behind}
use Rattle.program.proofs.input.fill.Goals as goal

pub loop-done-preserved : goal.loop-done-preserved
loop-done-preserved g c =
    let l = c.loop-done in
    record {
      within = search rules;
      bytes = rw (take_behind l.done c.in_ok-got.got l.piece c.read.new.buf l.invariant.within c.in_ok-got.ensures.bound.0)
          (Consumes-trans _ _ _ _ _ l.invariant.bytes c.in_ok-got.ensures.bytes.0);
    }

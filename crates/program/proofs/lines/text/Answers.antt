-- `program::lines::text` meets its contract.
use Rattle.program.proofs.WriterLaws.{text_put}
use Rattle.program.proofs.lines.text.Goals as goal

pub returns : goal.returns
returns c = text_put _ _ _ _ c.copy_from_slice.ensures.after c.requires

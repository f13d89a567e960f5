-- `program::lines::field` meets its contract.
use Rattle.program.specs.Lines.{decimal}
use Rattle.numbers.proofs.PlaceLaws.{put_then}
use Rattle.program.proofs.WriterLaws.{room-first, room-left}
use Rattle.program.proofs.lines.field.Goals as goal

pub text-next-requires : goal.text-next-requires
text-next-requires c = room-first c.args.out.now _ c.args.lead.now _ c.requires

pub decimal-requires : goal.decimal-requires
decimal-requires c = room-left c.args.out.now _ c.args.lead.now (decimal c.args.v) _ _ c.text-next.ensures c.requires

pub returns : goal.returns
returns c = put_then _ _ _ _ _ _ _ _ c.text-next.ensures c.decimal.ensures

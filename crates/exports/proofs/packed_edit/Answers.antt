-- `exports::packed_edit` meets its contract.
use Rattle.model.specs.Sequence.{edit}
use Rattle.exports.proofs.PackLaws.{pack_ready, packed-is}
use Rattle.exports.proofs.packed_edit.Goals as goal

pub pack-requires : goal.pack-requires
pack-requires c = pack_ready _ _ _ (edit _ _) _ _ c.edit_at.ensures

pub returns : goal.returns
returns c = packed-is _ _ _ (edit _ _) _ _ c.edit_at.ensures c.pack.ensures

-- `exports::gmap_write` meets its contract.
use Rattle.model.specs.Sequence.{write}
use Rattle.exports.proofs.PackLaws.{pack_ready, packed-is}
use Rattle.exports.proofs.gmap_write.Goals as goal

pub pack-requires : goal.pack-requires
pack-requires c = pack_ready _ _ _ write _ _ c.write.ensures

pub returns : goal.returns
returns c = packed-is _ _ _ write _ _ c.write.ensures c.pack.ensures

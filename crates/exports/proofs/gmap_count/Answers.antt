-- `exports::gmap_count` meets its contract.
use Rattle.model.specs.Sequence.{count}
use Rattle.exports.proofs.PackLaws.{pack_ready, packed-is}
use Rattle.exports.proofs.gmap_count.Goals as goal

pub pack-requires : goal.pack-requires
pack-requires c = pack_ready _ _ _ count _ _ c.count.ensures

pub returns : goal.returns
returns c = packed-is _ _ _ count _ _ c.count.ensures c.pack.ensures

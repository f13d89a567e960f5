-- `exports::gmap_load` meets its contract.
use Rattle.model.specs.Sequence.{load}
use Rattle.exports.proofs.PackLaws.{pack_ready, packed-is}
use Rattle.exports.proofs.gmap_load.Goals as goal

pub pack-requires : goal.pack-requires
pack-requires c = pack_ready _ _ _ (load _) _ _ c.load.ensures

pub returns : goal.returns
returns c = packed-is _ _ _ (load _) _ _ c.load.ensures c.pack.ensures

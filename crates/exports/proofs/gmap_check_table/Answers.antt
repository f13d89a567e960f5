-- `exports::gmap_check_table` meets its contract.
use Rattle.model.specs.Sequence.{table_check}
use Rattle.exports.proofs.PackLaws.{pack_ready, packed-is}
use Rattle.exports.proofs.gmap_check_table.Goals as goal

pub pack-requires : goal.pack-requires
pack-requires c = pack_ready _ _ _ table_check _ _ c.check_table.ensures

pub returns : goal.returns
returns c = packed-is _ _ _ table_check _ _ c.check_table.ensures c.pack.ensures

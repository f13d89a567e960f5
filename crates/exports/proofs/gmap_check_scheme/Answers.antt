-- `exports::gmap_check_scheme` meets its contract.
use mathlib.Core.List.{[]}
use Rattle.model.specs.Sequence.{scheme_check}
use Rattle.exports.proofs.PackLaws.{pack_ready, packed-is}
use Rattle.exports.proofs.gmap_check_scheme.Goals as goal

pub pack-requires : goal.pack-requires
pack-requires c = pack_ready 0 0 [] (scheme_check _) _ _ c.check_scheme.ensures

pub returns : goal.returns
returns c = packed-is 0 0 [] (scheme_check _) _ _ c.check_scheme.ensures c.pack.ensures

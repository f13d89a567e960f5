-- `report::map::counts` meets its contract: a map that is well-formed is counted.
use mathlib.Core.Path.{refl}
use Rattle.report.proofs.MapLaws.{counted}
use Rattle.report.proofs.map.counts.Goals as goal

pub returns : goal.returns
returns c =
    let asked = counted _ _ _ _ c.requires.table_value c.requires.store_len _ refl _ _ _ c.count.ensures in record { value = asked.0; store_after = asked.1 }

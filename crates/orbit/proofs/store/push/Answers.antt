-- `orbit::store::push` meets its contract.
use Rattle.orbit.proofs.StoreLaws.{push_done}
use Rattle.orbit.proofs.store.push.Goals as goal

pub returns : goal.returns
returns c =
    push_done _ _ _ _ c.requires.taken c.requires.slot_without_place.0 c.requires.slot_without_place.1 c.keep.ensures
    c.keep-2.ensures

-- `file::records::enter` meets its contract.
use native.Mathlib.Omega.{arith}
use Rattle.file.proofs.RecordLaws.{entered, slot-below}
use Rattle.file.proofs.records.enter.Goals as goal

pub put_state-requires-clause-slot_in_table : goal.put_state-requires-clause-slot_in_table
put_state-requires-clause-slot_in_table g c =
    let d = c.requires.darts_value in
    (slot-below _ _ _ _ c.requires.formed _ _ d.0 d.1 _ _ (omega arith) c.number-slot.ensures.value).1

pub put_links-requires-clause-x_lt_slots : goal.put_links-requires-clause-x_lt_slots
put_links-requires-clause-x_lt_slots g c =
    let d = c.requires.darts_value in
    (slot-below _ _ _ _ c.requires.formed _ _ d.0 d.1 _ _ (omega arith) c.number-slot.ensures.value).1

pub put_tag-requires-clause-slot_in_table : goal.put_tag-requires-clause-slot_in_table
put_tag-requires-clause-slot_in_table g c =
    let d = c.requires.darts_value in
    (slot-below _ _ _ _ c.requires.formed _ _ d.0 d.1 _ _ (omega arith) c.number-slot.ensures.value).1

pub returns : goal.returns
returns g c =
    let d = c.requires.darts_value in
    let slot = slot-below _ _ _ _ c.requires.formed _ _ d.0 d.1 _ _ (omega arith) c.number-slot.ensures.value in
    entered _ _ _ _ _ _ _ _ _ _ _ _ _ slot.0 (rw (← d.0) (omega arith)) c.number-tag.ensures.value (rw (← d.0) (omega arith))
    c.read_links-links.ensures c.put_state.ensures c.put_links.ensures c.put_tag.ensures

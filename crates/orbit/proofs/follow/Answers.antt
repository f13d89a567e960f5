-- `orbit::follow` meets its contract: y has a place already (`followed-old`), or takes the next (`followed-new`).
use mathlib.Core.Path.{sym, ◌∙◌}
use Rattle.orbit.specs.Store.{mark}
use Rattle.orbit.proofs.WalkLaws.{followed-old, followed-new}
use Rattle.orbit.proofs.follow.Goals as goal

pub returns-then-m-ne0 : goal.returns-then-m-ne0
unfolding mark
returns-then-m-ne0 c =
    let r = c.requires in
    followed-old _ _ _ _ _ r.word_behind_places.0 r.word_behind_places.1 r.taken r.slot_in_table c.word-m.ensures c.if-m-ne0.true c.keep.ensures

pub push-requires-clause-slot_without_place : goal.push-requires-clause-slot_without_place
unfolding mark
push-requires-clause-slot_without_place c = (c.requires.slot_in_table, sym c.word-m.ensures ∙ c.if-m-ne0.false)

pub returns : goal.returns
returns c =
    let r = c.requires in
    followed-new _ _ _ _ _ r.word_behind_places.0 r.word_behind_places.1 r.taken r.slot_in_table c.push.ensures c.keep-2.ensures

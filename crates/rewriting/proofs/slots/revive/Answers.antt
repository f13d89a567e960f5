-- `rewriting::slots::revive` meets its contract.
use native.Mathlib.Omega.{arith}
use Rattle.model.specs.Map.{State, Link, Tag}
use Rattle.table.proofs.WordLaws.{sized_same}
use Rattle.table.proofs.WriteLaws.{put_view}
use Rattle.rewriting.proofs.SlotTurnLaws.{revived_of}
use Rattle.rewriting.proofs.slots.revive.Goals as goal

pub returns : goal.returns
returns c =
    let s = c.requires.sized in
    let h = c.requires.slot in
    let s₁ = sized_same s c.put_state.auto.table in
    let s₂ = sized_same s₁ c.put_link.auto.table in
    revived_of _ _ _ _ _ _ (put_view s State (omega arith) _ _ h c.put_state.ensures)
    (put_view s₁ (Link 3) (omega arith) _ _ h c.put_link.ensures) (put_view s₂ Tag (omega arith) _ _ h c.put_tag.ensures)

-- `frame::cursor::Cursor::count` meets its contract.
use Prim.Native.Nat.{◌+◌, ◌*◌, ◌<◌}
use mathlib.Core.Path.{◌≡◌, ap₂, ◌∙◌}
use mathlib.Core.Logic.{⊎_elim}
use native.Mathlib.Omega.{arith}
use lib.ListN.{length}
use Rattle.model.specs.Bytes.{byte}
use Rattle.frame.specs.Place.{after}
use Rattle.frame.proofs.PlaceLaws.{stepped, ended, section-count, section-bad, below-least, above_most, beyond}
use Rattle.frame.proofs.cursor.Cursor.count.Goals as goal
use Rattle.frame.proofs.cursor.Cursor.count.Goals.{In_ok-count}

-- the byte that was read
took : (c : In_ok-count) → let a = c.args in
    (a.self.at < length a.bytes.now) × (c.in_ok-count.count ≡ byte a.bytes.now a.self.at) × (c.in_ok-count.items.at ≡ a.self.at + 1)
took c = stepped _ c.in_ok-count.ensures

pub returns-in_err-count : goal.returns-in_err-count
unfolding after
returns-in_err-count c =
    c.from_residual.ensures ∙ section-bad _ _ _ _ _ (beyond _ _ _ _ _ (omega (arith, ended _ c.in_err-count.ensures)))

pub returns-then-count-least : goal.returns-then-count-least
returns-then-count-least c =
    let t = took (goal.at.returns-then-count-least c).In_ok-count in
    section-bad _ _ _ _ _ (⊎_elim (λ h. below-least _ _ _ _ _ (omega arith)) (λ h. above_most _ _ _ _ _ (omega arith)) c.then-count-least.either)

pub overflow_sub-bytes : goal.overflow_sub-bytes
overflow_sub-bytes c = let t = took (goal.at.overflow_sub-bytes c).In_ok-count in omega arith

pub returns-then-bytes-items : goal.returns-then-bytes-items
unfolding after
returns-then-bytes-items c =
    let t = took (goal.at.returns-then-bytes-items c).In_ok-count in
    let room = ap₂ ◌*◌ (c.from.ensures ∙ t.1) c.from-2.ensures in
    section-bad _ _ _ _ _ (beyond _ _ _ _ _ (omega (arith, room)))

pub returns : goal.returns
unfolding after
returns c =
    let t = took (goal.at.returns c).In_ok-count in
    let room = ap₂ ◌*◌ (c.from.ensures ∙ t.1) c.from-2.ensures in
    section-count _ _ _ _ _ t.1 (omega arith) (record { some = omega arith; few = omega arith; within = omega arith })

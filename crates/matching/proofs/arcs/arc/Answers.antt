-- `matching::arcs::arc` meets its contract.
use Rattle.std.proofs.Common.{◌≡◌, ◌+◌, ◌*◌, ◌-◌, get_or, refl, rules}
use Rattle.orbit.specs.Store.{next}
use Rattle.matching.proofs.ArcTestLaws.{code-none, code-explicit, code-hook, code-implicit, arc-read, turn_below, firm-implicit}
use Rattle.matching.proofs.arcs.arc.Goals as goal

pub returns-then-code-eq255 : goal.returns-then-code-eq255
returns-then-code-eq255 c =
    arc-read _ _ _ _ _ _ _ _ _ _ _ _ _ _ c.from-v.ensures c.from-code.ensures refl (code-none _ _ _ _ _ _ _ _ _ _ c.if-code-eq255.true)

pub returns-then-code-lt16 : goal.returns-then-code-lt16
returns-then-code-lt16 c =
    arc-read _ _ _ _ _ _ _ _ _ _ _ _ _ _ c.from-v.ensures c.from-code.ensures refl
    (code-explicit _ _ _ _ _ _ _ _ _ _ c.if-code-eq255.false _ c.if-code-lt16.true c.explicit.ensures)

pub returns-then-of_hook : goal.returns-then-of_hook
returns-then-of_hook c =
    arc-read _ _ _ _ _ _ _ _ _ _ _ _ _ _ c.from-v.ensures c.from-code.ensures refl
    (code-hook _ _ _ _ _ _ _ _ _ _ c.if-code-eq255.false c.if-code-lt16.false c.if-of_hook.true)

pub follows-requires-clause-place : goal.follows-requires-clause-place
follows-requires-clause-place c = λ r q h post.
    let e : q ≡ get_or c.args.store.now (4 * c.args.table.now.slots + 4 * r + (c.from-code.result - 16)) 0 = search rules in
    let turns = firm-implicit _ _ _ _ _ _ _ c.requires.firm _ _ c.requires.entry c.requires.dimension _ c.from-v.ensures _ c.from-code.ensures
    c.if-code-lt16.false c.if-code-eq255.false in
    turn_below _ _ _ _ _ _ e turns.1.1 h

pub returns : goal.returns
unfolding next
returns c =
    arc-read _ _ _ _ _ _ _ _ _ _ _ _ _ _ c.from-v.ensures c.from-code.ensures refl
    (code-implicit _ _ _ _ _ _ _ _ _ _ c.if-code-eq255.false _ c.if-code-lt16.false c.if-of_hook.false
    (c.follows.ensures (λ q. next c.args.table.now.slots c.args.store.now q (c.from-code.result - 16)) (λ r q h post. search rules)))

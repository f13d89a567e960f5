-- `rewriting::slots::lowest` meets its contract.
use Prim.Native.Nat.{ℕ, ◌+◌}
use mathlib.Core.Path.{refl}
use native.Mathlib.Omega.{arith}
use Rattle.table.specs.Seen.{map_of}
use Rattle.rewriting.proofs.SlotTurnLaws.{Scanned, scan_more, scan_found}
use Rattle.rewriting.proofs.slots.lowest.Goals as goal

pub returns-then-state-eq0 : goal.returns-then-state-eq0
returns-then-state-eq0 c =
    let past-1 = scan_more c.loop-from.invariant _ _ c.state.ensures c.loop-from-test.true refl in
    scan_found past-1 _ c.requires.slot_left c.state-in-loop-from.ensures c.if-state-eq0.true

pub returns-then-state-eq0-2 : goal.returns-then-state-eq0-2
returns-then-state-eq0-2 c =
    let Past : ℕ → Type 0 = λ k. Scanned (map_of c.args.table.now).state c.args.from (c.loop-from.y + k) in
    let past-1 : Past 1 = scan_more c.loop-from.invariant _ _ c.state.ensures c.loop-from-test.true refl in
    let past-2 : Past 2 = scan_more past-1 _ _ c.state-in-loop-from.ensures c.if-state-eq0.false (omega arith) in
    scan_found past-2 _ c.requires.slot_left c.state-in-loop-from-2.ensures c.if-state-eq0-2.true

pub returns-then-state-eq0-3 : goal.returns-then-state-eq0-3
returns-then-state-eq0-3 c =
    let Past : ℕ → Type 0 = λ k. Scanned (map_of c.args.table.now).state c.args.from (c.loop-from.y + k) in
    let past-1 : Past 1 = scan_more c.loop-from.invariant _ _ c.state.ensures c.loop-from-test.true refl in
    let past-2 : Past 2 = scan_more past-1 _ _ c.state-in-loop-from.ensures c.if-state-eq0.false (omega arith) in
    let past-3 : Past 3 = scan_more past-2 _ _ c.state-in-loop-from-2.ensures c.if-state-eq0-2.false (omega arith) in
    scan_found past-3 _ c.requires.slot_left c.state-in-loop-from-3.ensures c.if-state-eq0-3.true

pub loop-from-preserved : goal.loop-from-preserved
loop-from-preserved c =
    let Past : ℕ → Type 0 = λ k. Scanned (map_of c.args.table.now).state c.args.from (c.loop-from.y + k) in
    let past-1 : Past 1 = scan_more c.loop-from.invariant _ _ c.state.ensures c.loop-from-test.true refl in
    let past-2 : Past 2 = scan_more past-1 _ _ c.state-in-loop-from.ensures c.if-state-eq0.false (omega arith) in
    let past-3 : Past 3 = scan_more past-2 _ _ c.state-in-loop-from-2.ensures c.if-state-eq0-2.false (omega arith) in
    scan_more past-3 _ _ c.state-in-loop-from-3.ensures c.if-state-eq0-3.false (omega arith)

pub returns : goal.returns
returns c = scan_found c.loop-from.invariant _ c.requires.slot_left c.state.ensures c.loop-from-test.false

-- `rewriting::slots::give` meets its contract: the digits stand behind what the phases before have left, and the blocks take them from there.
use native.Mathlib.Omega.{arith}
use borrow.Author.Tests.{eqb-true}
use mathlib.Core.Path.{sym}
use Rattle.rewriting.proofs.SlotBlockLaws.{none-own, digits-own}
use Rattle.rewriting.proofs.SlotGiveLaws.{placed_of, apart_of, regiven, blocks_ready, granted-behind, granted, granted-none}
use Rattle.rewriting.proofs.slots.give.Goals as goal

pub returns-then-is_empty : goal.returns-then-is_empty
returns-then-is_empty c = λ R. granted-none R (eqb-true _ _ (sym c.if-is_empty.ensures))

pub row_starts-requires-clause-apart : goal.row_starts-requires-clause-apart
row_starts-requires-clause-apart c = apart_of c.requires.before_giving

pub mark_bits-requires : goal.mark_bits-requires
mark_bits-requires c =
    record {
      places_marked = placed_of (regiven c.requires.before_giving _ c.clear_bits.ensures.behind);
      no_digits = none-own _ _ _ _ c.clear_bits.ensures;
    }

pub blocks-requires-clause-before_blocks : goal.blocks-requires-clause-before_blocks
blocks-requires-clause-before_blocks c =
    let R₁ = regiven c.requires.before_giving _ c.clear_bits.ensures.behind in
    blocks_ready (regiven R₁ _ c.mark_bits.ensures.behind) (digits-own _ _ _ _ c.mark_bits.ensures)

pub returns : goal.returns
returns c =
    let z = c.clear_bits.ensures.behind in
    let d = c.mark_bits.ensures in
    λ R.
    let R₁ = regiven R _ z in
    let R₂ = regiven R₁ _ d.behind in
    granted-behind R _ z (granted-behind R₁ _ d.behind
    (granted R₂ c.row_starts.ensures (omega arith) (c.blocks-2.ensures (blocks_ready R₂ (digits-own _ _ _ _ d))).1))

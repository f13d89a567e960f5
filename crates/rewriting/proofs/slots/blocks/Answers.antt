-- `rewriting::slots::blocks` meets its contract.
use Rattle.std.proofs.Common.{arith}
use Rattle.table.proofs.WordLaws.{sized_same}
use Rattle.rewriting.proofs.SlotGiveLaws.{granting-start, block_of, next_block}
use Rattle.rewriting.proofs.slots.blocks.Goals as goal

pub loop-w-init : goal.loop-w-init
loop-w-init c = (c.requires.sized, λ R. granting-start R.grant R.bare R.tagged)

pub block-free-requires-clause-block : goal.block-free-requires-clause-block
block-free-requires-clause-block c =
    let R = c.requires.before_blocks in
    block_of R.before R.grant R.digits (c.loop-w.invariant.1 R) (omega (arith, c.loop-w-test.true, c.block_count-w-end.ensures)) _ c.pair-digits.ensures

pub loop-w-preserved : goal.loop-w-preserved
loop-w-preserved c =
    let v = c.loop-w.invariant in (
      sized_same v.0 c.block-free.auto.table,
      λ R. next_block R.before R.grant R.digits (v.1 R) (omega (arith, c.loop-w-test.true, c.block_count-w-end.ensures)) _ _ _ _
          c.pair-digits.ensures c.block-free.ensures,
    )

-- `matching::arcs::follows` meets its contract.
use native.Mathlib.Omega.{arith}
use borrow.Author.Tests.{ne_eqb}
use Rattle.matching.proofs.ArcTestLaws.{follows-none, follows-more, follows_stop, dart-read}
use Rattle.matching.proofs.arcs.follows.Goals as goal

pub loop-r-init : goal.loop-r-init
loop-r-init g c = λ next is. follows-none _ _ _ _ _

pub link-requires : goal.link-requires
link-requires g c = (dart-read _ _ _ _ _ _ c.requires.testable.slots (omega arith) (omega arith) c.word.ensures, c.requires.dimension)

pub returns-then-link-word : goal.returns-then-link-word
returns-then-link-word g c = λ next is.
    follows_stop _ _ _ _ _ _ _ _ _ _ (is _ _ c.loop-r-test.true c.to.ensures) c.word.ensures c.link.ensures c.word-in-loop-r.ensures
    _ c.loop-r-test.true (ne_eqb _ _ c.if-link-word.true)

pub loop-r-preserved : goal.loop-r-preserved
loop-r-preserved g c = λ next is.
    follows-more _ _ _ _ _ _ _ _ _ _ (is _ _ c.loop-r-test.true c.to.ensures) c.word.ensures c.link.ensures c.word-in-loop-r.ensures
    c.if-link-word.false (c.loop-r.invariant next is)

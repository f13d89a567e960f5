-- `conditions::tree::Tree::meet` meets its contract.
use Rattle.conditions.proofs.TreeLaws.{room, reach_push}
use Rattle.conditions.proofs.tree.Tree.meet.Goals as goal

pub push-requires : goal.push-requires
push-requires c =
    let s = c.requires.s_bound in
    (room _ _ _ c.requires.reaching.tree _ c.if-t-lt16.true c.if-not-self-t.true, s.1, s.0, c.if-t-lt16.true)

pub returns-then-not-self-t : goal.returns-then-not-self-t
returns-then-not-self-t c =
    let s = c.requires.s_bound in
    reach_push _ _ _ _ c.requires.reaching s.0 _ _ s.1 c.from-t.ensures c.if-t-lt16.true c.if-not-self-t.true _ c.push.ensures

-- `conditions::tree::Tree::join` meets its contract: a push if just one end is reached, else nothing.
use mathlib.Core.Path.{sym}
use mathlib.Core.Logic.{inl, inr}
use native.Mathlib.Omega.{arith}
use Rattle.conditions.proofs.TreeLaws.{room, joined_push}
use Rattle.conditions.proofs.tree.Tree.join.Goals as goal

pub push-requires : goal.push-requires
push-requires c =
    let r = c.requires in
    let dim = r.joining.dims c.args.a r.a_lt_count in
    let from = r.joining.from c.args.a r.a_lt_count in
    let to = r.joining.to c.args.a r.a_lt_count in
    (room _ _ _ r.spans _ (omega arith) c.if-not-self-t.true, omega arith, omega arith, omega arith)

pub push-requires-then-self-t : goal.push-requires-then-self-t
push-requires-then-self-t c =
    let r = c.requires in
    let dim = r.joining.dims c.args.a r.a_lt_count in
    let from = r.joining.from c.args.a r.a_lt_count in
    let to = r.joining.to c.args.a r.a_lt_count in
    (room _ _ _ r.spans _ (omega arith) c.if-self-s.false, omega arith, omega arith, omega arith)

pub returns-then-not-self-t : goal.returns-then-not-self-t
returns-then-not-self-t c =
    let r = c.requires in
    let to = r.joining.to c.args.a r.a_lt_count in
    joined_push _ _ _ _ r.spans _ _ _ r.a_lt_count (inl (sym c.part-s.ensures.0, sym c.part-t.ensures.0)) c.if-self-s.true c.if-not-self-t.true
    (omega arith) _ c.part-i.ensures.0 _ c.push.ensures

pub returns-then-self-t : goal.returns-then-self-t
returns-then-self-t c =
    let r = c.requires in
    let from = r.joining.from c.args.a r.a_lt_count in
    joined_push _ _ _ _ r.spans _ _ _ r.a_lt_count (inr (sym c.part-s.ensures.0, sym c.part-t.ensures.0)) c.if-self-t.true c.if-self-s.false
    (omega arith) _ c.part-i.ensures.0 _ c.push-then-self-t.ensures

-- `conditions::judge` meets its contract: what is reached, and the fault from it and the tables.
use native.Mathlib.Omega.{arith}
use Rattle.conditions.proofs.FaultLaws.{tree_asks, sized, judged}
use Rattle.conditions.proofs.SpanLaws.{tree_of}
use Rattle.conditions.proofs.judge.Goals as goal

pub reach_of-out-requires : goal.reach_of-out-requires
reach_of-out-requires c =
    let asked = tree_asks _ c.requires.shaped in
    record { nodes_bound = asked.0; joining = asked.1.0; aimed = asked.1.1.0; lefts = asked.1.1.1 }

pub returns-clause-tree : goal.returns-clause-tree
returns-clause-tree c =
    let t = tree_of _ c.requires.shaped _ c.reach_of-out.ensures.spanning in
    sized _ _ t _ (omega (arith, t.few))

pub returns-clause-fault : goal.returns-clause-fault
returns-clause-fault c =
    let r = c.requires in
    let g = c.reach_of-out.ensures in
    judged _ r.shaped r.words_len _ g.spanning _ _ r.left_twice_value r.right_twice_value _ g.out_value _ c.fault-found.ensures

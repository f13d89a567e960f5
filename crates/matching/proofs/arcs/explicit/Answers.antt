-- `matching::arcs::explicit` meets its contract.
use Rattle.std.proofs.Common.{refl, sym, ◌∙◌, true≢false, rules}
use native.Mathlib.Omega.{arith}
use borrow.Author.Tests.{eqb-true, eq-eqb, lt-ltb}
use Rattle.matching.proofs.ArcTestLaws.{explicit-later, explicit-tree, explicit_tested}
use Rattle.matching.proofs.arcs.explicit.Goals as goal
use Rattle.matching.proofs.arcs.explicit.Goals.{then-from-to, else-from-to}

pub returns-then-from-i : goal.returns-then-from-i
returns-then-from-i c =
    elim c.if-from-to.branch [
      | then-from-to w ↦ c.if-from-i.true ∙ explicit-later _ _ _ _ _ _ _ _ _ _ refl w.if-from-to.true
      | else-from-to w ↦ c.if-from-i.true ∙ explicit-tree _ _ _ _ _ _ _ _ _ _ refl _ w.from.ensures (eqb-true _ _ (sym w.value-is ∙ c.if-from-i.true))
    ]

pub returns-else-from-i : goal.returns-else-from-i
returns-else-from-i c =
    elim c.if-from-to.branch [
      | then-from-to w ↦ absurd (true≢false (sym (lt-ltb _ _ w.if-from-to.true) ∙ sym w.value-is ∙ c.if-from-i.false))
      | else-from-to w ↦
          explicit_tested _ _ _ _ _ _ _ _ _ _ refl _ w.if-from-to.false
          (λ e. true≢false (sym (eq-eqb _ _ (w.from.ensures ∙ e)) ∙ sym w.value-is ∙ c.if-from-i.false))
          _ (omega arith) (c.follows.ensures (λ q. q) (λ r q h post. search rules))
    ]

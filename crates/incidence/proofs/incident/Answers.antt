-- `incidence::incident` meets its contract: `all` tests the dimensions below 3.
use mathlib.Core.Path.{refl, sym, ◌∙◌}
use native.Mathlib.Omega.{arith}
use borrow.Author.Rules.{rules}
use borrow.Author.Tests.{lt-ltb}
use Rattle.incidence.proofs.IncidenceLaws.{incident_fewer, incident_three, incident_four}
use Rattle.base.proofs.RangeLaws.{all-below}
use Rattle.incidence.proofs.incident.Goals as goal

pub returns-else-all : goal.returns-else-all
returns-else-all c =
    c.if-all.false
    ∙ incident_fewer _ _ _ _ _ (omega arith) (sym (all-below refl _ _ c.all.ensures.ran (λ x b q k. search rules)) ∙ c.if-all.false)

pub returns-then-n-lt3 : goal.returns-then-n-lt3
returns-then-n-lt3 c =
    lt-ltb _ _ c.if-n-lt3.true
    ∙ incident_three _ _ _ _ _ 3 (omega arith) (omega arith) (sym (all-below refl _ _ c.all.ensures.ran (λ x b q k. search rules)) ∙ c.if-all.true)
    (omega arith) (omega arith)

pub returns-else-n-lt3 : goal.returns-else-n-lt3
returns-else-n-lt3 c =
    incident_four _ _ _ _ _ 3 (omega arith) (omega arith) (sym (all-below refl _ _ c.all.ensures.ran (λ x b q k. search rules)) ∙ c.if-all.true)
    (omega arith) (omega arith) _ (search rules)

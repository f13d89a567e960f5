-- `scheme::arcs::arc_fits` meets its contract.
use mathlib.Core.Bool.{not}
use mathlib.Core.Logic.{⊎_elim}
use mathlib.Core.Path.{ap, ◌∙◌}
use borrow.Author.Tests.{eq-eqb}
use Rattle.scheme.proofs.ArcTestLaws.{no_key, no_dimension, no_order, no_node, no_near, far-last}
use Rattle.scheme.proofs.arcs.arc_fits.Goals as goal

pub returns-then-key-low : goal.returns-then-key-low
returns-then-key-low c =
    ⊎_elim (λ h. no_key _ _ _ _ _ _ _ _ c.key.ensures.0 h)
    (λ p. ⊎_elim (λ h. no_dimension _ _ _ _ _ _ _ _ h.1)
    (λ q. ⊎_elim (λ h. no_order _ _ _ _ _ _ _ _ h.2) (λ h. no_node _ _ _ _ _ _ _ _ h.3) q) p)
    c.then-key-low.either

pub returns-then-kinds-from : goal.returns-then-kinds-from
returns-then-kinds-from c =
    far-last _ _ _ _ _ _ _ _ c.key.ensures.0 c.if-key-low.false c.if-n-dim.false c.if-far-near.false c.if-nodes-far.false
    c.from.ensures c.barred-other.ensures c.if-kinds-from.true c.from-then-kinds-from.ensures

pub returns-else-kinds-from : goal.returns-else-kinds-from
returns-else-kinds-from c =
    ap not (eq-eqb _ _ c.if-kinds-from.false) ∙ no_near _ _ _ _ _ _ _ _ c.from.ensures c.barred-other.ensures c.if-kinds-from.false

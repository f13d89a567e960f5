-- `rewriting::links::follow` meets its contract.
-- Each return is one of the kinds of arcs.
use mathlib.Core.Path.{refl}
use native.Mathlib.Omega.{arith}
use Rattle.rewriting.proofs.LinkLaws.{joined-node, joined-position, joined-none}
use Rattle.rewriting.proofs.links.follow.Goals as goal

pub join-requires : goal.join-requires
join-requires c = record {
  sized = c.requires.sized;
  holds_slots = c.requires.holds_slots;
  inside = c.requires.legible.node c.if-code-lt16.true;
  dimension = c.requires.dimension;
  turnable = λ l. absurd (omega arith);
}

pub join-requires-then-code-lt255 : goal.join-requires-then-code-lt255
join-requires-then-code-lt255 c = record {
  sized = c.requires.sized;
  holds_slots = c.requires.holds_slots;
  inside = c.requires.holds_slots.inside;
  dimension = c.requires.dimension;
  turnable = λ l. c.requires.legible.position l c.if-code-lt255.true;
}

pub returns-then-code-lt16 : goal.returns-then-code-lt16
returns-then-code-lt16 c = joined-node _ _ _ _ _ _ _ _ _ c.if-code-lt16.true c.join.ensures

pub returns-then-code-lt255 : goal.returns-then-code-lt255
returns-then-code-lt255 c = joined-position _ _ _ _ _ _ _ _ _ c.if-code-lt16.false c.if-code-lt255.true c.join-then-code-lt255.ensures

pub returns-else-code-lt255 : goal.returns-else-code-lt255
returns-else-code-lt255 c = joined-none _ _ _ _ _ _ _ _ _ c.if-code-lt255.false refl

-- `scheme::arcs::read_arcs` meets its contract.
use mathlib.Core.Path.{◌≡◌, sym, ap, ◌∙◌}
use native.Mathlib.Omega.{arith}
use Rattle.model.specs.Bytes.{byte, arc_count}
use Rattle.model.specs.Scheme.{arc_form}
use Rattle.scheme.specs.Words.{side_of}
use Rattle.scheme.proofs.ArcLaws.{reads, read_small, joined-none, joined-form-at, joined-more, joined-stops, joined-form, joined-read}
use Rattle.scheme.proofs.arcs.read_arcs.Goals as goal
use Rattle.scheme.proofs.arcs.read_arcs.Goals.{After-take-count, After-arc_fits}

-- the count is the bytes' count of arcs
counted : (c : After-take-count) → c.take-count.result.0 ≡ arc_count c.args.bytes.now (side_of c.args.side)
counted c = c.take-count.ensures.value_is ∙ ap (byte c.args.bytes.now) c.requires.arcs_placed.from_is

-- the test of an arc is that of the form
tested : (c : After-arc_fits) → c.arc_fits.result ≡ arc_form c.args.bytes.now (side_of c.args.side) c.loop.counter
tested c =
    let p = c.requires.arcs_placed in
    let h = p.laid.headed in
    let i = c.loop.invariant in
    joined-form-at _ _ _ _ _ p i (reads _ _ _ _ _ p i c.arc.ensures) h.n_is h.nodes_is c.arc_fits.ensures

pub loop-init : goal.loop-init
loop-init c = let v = c.requires.arrays_blank in joined-none _ _ _ _ _ c.requires.arcs_placed c.take-count.ensures.next_is v.1 v.2

pub returns-then-not-arc_fits-clause-formed : goal.returns-then-not-arc_fits-clause-formed
returns-then-not-arc_fits-clause-formed c =
    let n = counted (goal.at.returns-then-not-arc_fits-clause-formed c).After-take-count in
    let off = sym (tested (goal.at.returns-then-not-arc_fits-clause-formed c).After-arc_fits) ∙ c.if-not-arc_fits.true in
    joined-stops _ _ _ _ _ c.requires.arcs_placed c.loop.counter (omega arith) off

pub link-requires : goal.link-requires
link-requires c =
    let p = c.requires.arcs_placed in
    let held = sym (tested (goal.at.link-requires c).After-arc_fits) ∙ c.if-not-arc_fits.false in
    read_small _ _ _ _ _ p _ _ _ _ (reads _ _ _ _ _ p c.loop.invariant c.arc.ensures) held

pub loop-preserved : goal.loop-preserved
loop-preserved c =
    let i = c.loop.invariant in
    let p = c.requires.arcs_placed in
    let held = sym (tested (goal.at.loop-preserved c).After-arc_fits) ∙ c.if-not-arc_fits.false in
    joined-more _ _ _ _ _ p i (reads _ _ _ _ _ p i c.arc.ensures) held c.arc.ensures.next_is c.key-low.ensures.0 c.link.ensures

pub returns : goal.returns
returns c =
    let n = counted (goal.at.returns c).After-take-count in
    let p = c.requires.arcs_placed in
    let i = c.loop.invariant in
    record {
      formed = joined-form _ _ _ _ _ p i (omega arith) (omega arith);
      arcs_read = joined-read _ _ _ _ _ p i (omega arith) (omega arith) c.requires.arrays_blank.0 c.take-count.ensures.next_is
          (c.from.ensures ∙ n) c.copy.ensures;
    }

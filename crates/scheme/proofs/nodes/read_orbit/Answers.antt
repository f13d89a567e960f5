-- `scheme::nodes::read_orbit` meets its contract.
use Prim.Native.Nat.{◌+◌, ◌≤◌, ◌<◌}
use mathlib.Core.Path.{◌≡◌, ap, ◌∙◌}
use mathlib.Core.Logic.{⊎_elim}
use lib.ListN.{length}
use native.Mathlib.Omega.{arith}
use Rattle.model.specs.Bytes.{byte, dimension_of, places_of}
use Rattle.frame.proofs.PlaceLaws.{taken_at}
use Rattle.frame.proofs.FrameLaws.{dimension-small, places-small, count-inside}
use Rattle.scheme.proofs.OrbitLaws.{risen_none, risen_more, risen_low, risen_high, risen_form, risen_value}
use Rattle.scheme.proofs.nodes.read_orbit.Goals as goal
use Rattle.scheme.proofs.nodes.read_orbit.Goals.{After-from-p-end, After-take-d}

-- what the frame tells of the count and of n
known : (c : After-from-p-end) → let a = c.args in let b = a.bytes.now in
    (c.from-p-end.result ≡ places_of b) × (a.l.n ≡ dimension_of b) × (places_of b ≤ 4) × (2 + places_of b < length b) × (places_of b ≤ dimension_of b + 1)
    × (dimension_of b ≤ 3)
known c =
    let laid = c.requires.laid_out in
    let h = laid.headed in (
      c.from-p-end.ensures ∙ c.take-places.ensures.value_is ∙ ap (byte c.args.bytes.now) c.requires.at_count,
      h.n_is,
      places-small _ _ laid,
      count-inside _ _ laid,
      omega arith,
      dimension-small _ _ laid,
    )

-- the dimension that is read, and the place after it
took : (c : After-take-d) → let b = c.args.bytes.now in
    (c.take-d.result.0 ≡ byte b (2 + c.loop-p.p)) × (c.take-d.result.1.at ≡ 2 + (c.loop-p.p + 1))
took c = taken_at _ 2 _ c.take-d.ensures c.loop-p.invariant.0

pub loop-p-init : goal.loop-p-init
loop-p-init c = (omega (arith, c.take-places.ensures.next_is, c.requires.at_count), risen_none _ c.requires.orbit_blank)

pub returns-then-d-low-clause-formed : goal.returns-then-d-low-clause-formed
returns-then-d-low-clause-formed c =
    let k = known (goal.at.returns-then-d-low-clause-formed c).After-from-p-end in
    let t = took (goal.at.returns-then-d-low-clause-formed c).After-take-d in
    ⊎_elim (λ h. risen_low _ c.loop-p.invariant.1 t.0 (omega arith) h) (λ h. risen_high _ c.loop-p.p t.0 (omega arith) (omega arith)) c.then-d-low.either

pub loop-p-preserved : goal.loop-p-preserved
loop-p-preserved c =
    let k = known (goal.at.loop-p-preserved c).After-from-p-end in
    let t = took (goal.at.loop-p-preserved c).After-take-d in
    (t.1, risen_more _ c.loop-p.invariant.1 t.0 (omega arith) (omega arith) (omega arith))

pub returns : goal.returns
returns c =
    let k = known (goal.at.returns c).After-from-p-end in
    let i = c.loop-p.invariant in
    record {
      formed = risen_form _ i.1 (omega arith) (omega arith) (omega arith);
      orbit_after = (risen_value _ i.1 (omega arith) (omega arith), omega arith);
    }

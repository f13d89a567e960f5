-- The loop's invariant: the links are written for the first r darts.
use Rattle.model.specs.Map.{Link, view}
use Rattle.table.specs.Writes.{set_at, with_field}
use Rattle.table.proofs.StageLaws.{Stage}
use Rattle.orbit.specs.Store.{dart_at}
use Rattle.rewriting.specs.Links.{place_by}
use Rattle.rewriting.proofs.links.join.Given as goal

abbrev pub invariant-loop-r : goal.invariant-loop-r
invariant-loop-r l =
    Stage l.slots (view l.slots) l.initial.table
    (λ k m. with_field m (Link l.i)
    (set_at (m.link l.i) (dart_at l.store l.from k) (dart_at l.store l.to (place_by l.slots l.store l.code k)))) l.size l.r l.table

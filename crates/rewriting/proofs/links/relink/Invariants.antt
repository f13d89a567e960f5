-- The loop's invariant: the first k arcs are followed.
use Prim.Native.Nat.{◌*◌, ◌/◌, ◌%◌}
use lib.ListN.{get_or}
use Rattle.model.specs.Map.{Link, view}
use Rattle.table.specs.Writes.{with_field}
use Rattle.rewriting.specs.Links.{followed}
use Rattle.table.proofs.StageLaws.{Stage}
use Rattle.rewriting.proofs.links.relink.Given as goal

abbrev pub invariant-loop-k : goal.invariant-loop-k
invariant-loop-k l =
    Stage l.slots (view l.slots) l.initial.table
    (λ j m. with_field m (Link (j % 4))
    (followed l.slots l.store l.size l.rows (get_or l.rows (j / 4) 0) (get_or l.codes j 0) (m.link (j % 4)))) (4 * l.c) l.k l.table

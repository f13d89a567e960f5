-- The loop's invariant: the first k entries of the trees have their rows, of which the last ends at `end`.
use Rattle.std.proofs.Common.{◌≡◌, ◌*◌}
use Rattle.table.specs.Seen.{map_of}
use Rattle.matching.specs.Images.{RowsGrown}
use Rattle.matching.proofs.images.rows.Given as goal

abbrev pub invariant-loop-k : goal.invariant-loop-k
invariant-loop-k l =
    (l.end ≡ l.k * l.size)
    × RowsGrown (map_of l.table) l.nodes l.parents l.dims l.roots l.initial.store l.store l.rows l.size l.k

-- The loop's invariant: the first i links of x are put.
use Rattle.table.specs.Seen.{map_of}
use Rattle.numbers.specs.Places.{Put}
use Rattle.file.specs.Sections.{link_bytes}
use Rattle.file.proofs.sections.links.Given as goal

abbrev pub invariant-loop-i : goal.invariant-loop-i
invariant-loop-i g l = Put l.initial.out l.initial.at.at (link_bytes g.row.W (map_of l.table) l.x l.i) l.out l.at.at

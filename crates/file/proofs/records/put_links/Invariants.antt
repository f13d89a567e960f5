-- The loop's invariant: the first i links are put.
use mathlib.Core.Path.{◌≡◌}
use Rattle.file.specs.Records.{put_links, link_of}
use Rattle.file.proofs.records.put_links.Given as goal

abbrev pub invariant-loop-i : goal.invariant-loop-i
invariant-loop-i l = l.table ≡ put_links l.initial.table l.x (link_of l.links) l.i

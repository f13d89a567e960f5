-- `count::count` meets its contract: each kind of cell is the orbits of the dimensions that are listed for it.
use mathlib.Core.Path.{◌≡◌, refl, sym}
use mathlib.Core.Logic.{⊎_elim}
use native.Mathlib.Omega.{arith}
use Rattle.base.specs.Lists.{list, list_from}
use Rattle.base.proofs.BelowLaws.{count_le}
use Rattle.model.specs.Map.{live}
use Rattle.model.specs.Count.{all_but, all}
use Rattle.table.specs.Seen.{map_of}
use Rattle.count.proofs.CellKindLaws.{listed_cells, counts_are, volumes-none, volumes-some}
use Rattle.count.proofs.count.Goals as goal

pub overflow_cast-darts : goal.overflow_cast-darts
overflow_cast-darts c =
    let t = c.args.table.now in
    omega (arith, c.requires.darts_value, t.sized.few, count_le t.slots (live (map_of t)))

pub returns-then-n-eq2 : goal.returns-then-n-eq2
unfolding list list_from all_but
returns-then-n-eq2 c =
    let two = sym c.if-n-eq2.true in
    counts_are _ _ c.requires.darts_value
    (listed_cells _ 2 (all_but 0) two refl c.orbits-vertices.ensures)
    (listed_cells _ 2 (all_but 1) two refl c.orbits-edges.ensures)
    (listed_cells _ 2 (all_but 2) two refl c.orbits-faces.ensures)
    (listed_cells _ 3 all (omega arith) refl c.orbits-pieces.ensures)
    (volumes-none _ _ (sym two))

pub returns-else-n-eq2 : goal.returns-else-n-eq2
unfolding list list_from all_but
returns-else-n-eq2 c =
    let three : 3 ≡ c.args.n = ⊎_elim (λ e. absurd (omega arith)) (λ e. sym e) c.requires.dimension in
    counts_are _ _ c.requires.darts_value
    (listed_cells _ 3 (all_but 0) three refl c.orbits-vertices-else-n-eq2.ensures)
    (listed_cells _ 3 (all_but 1) three refl c.orbits-edges-else-n-eq2.ensures)
    (listed_cells _ 3 (all_but 2) three refl c.orbits-faces-else-n-eq2.ensures)
    (listed_cells _ 4 all (omega arith) refl c.orbits-pieces-else-n-eq2.ensures)
    (volumes-some _ _ (sym three) (listed_cells _ 3 (all_but 3) three refl c.orbits-volumes.ensures))

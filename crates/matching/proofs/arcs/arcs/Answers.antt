-- `matching::arcs::arcs` meets its contract.
use Rattle.std.proofs.Common.{◌≡◌, ◌*◌, ◌/◌, ◌%◌, ℕ, Bool, true, false, refl, rules, arith}
use Rattle.std.proofs.lemmas.Iterator.{cases_from_all, YieldsList-from_range}
use Rattle.table.specs.Seen.{map_of}
use Rattle.matching.specs.ArcTests.{arc_test, arcs_test}
use Rattle.base.proofs.RangeLaws.{all-range}
use Rattle.matching.proofs.arcs.arcs.Goals as goal

pub returns : goal.returns
unfolding arcs_test
returns c =
    let a = c.args in
    let test : ℕ → Bool = λ k. arc_test (map_of a.table.now) a.store.now a.size a.nodes.now a.dims.now a.roots a.codes.now a.rows.now (k / 4) (k % 4) in
    all-range (4 * a.count) test _
    (cases_from_all _ _ _ (λ k. test k ≡ true) (λ k. test k ≡ false) c.all.ensures.ran (YieldsList-from_range 0 _ (4 * a.count) refl (omega arith))
    (λ x q k. search rules) (λ x q k. search rules))

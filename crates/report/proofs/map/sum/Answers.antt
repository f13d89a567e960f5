-- `report::map::sum` meets its contract.
use Prim.Native.Nat.{ℕ, ◌+◌, ◌<◌}
use mathlib.Core.Path.{◌≡◌, sym, ◌∙◌}
use native.Mathlib.Omega.{arith}
use lib.ListN.{length, get_or}
use borrow.Author.Rules.{rules}
use Rattle.std.proofs.lemmas.Grind.{same_number_lists}
use Rattle.base.proofs.ListLaws.{length-list, get_or-list}
use Rattle.model.specs.Calls.{count_size}
use Rattle.report.specs.Report.{sum}
use Rattle.report.proofs.map.sum.Goals as goal

pub returns : goal.returns
unfolding sum
returns c =
    let long : length c.from_fn.result ≡ 6 = search rules in
    let each : (i : ℕ) → i < 6 → get_or c.from_fn.result i 0 ≡ get_or c.args.a i 0 + get_or c.args.c i 0 = search rules in
    same_number_lists _ _ (long ∙ sym (length-list count_size _)) (λ i h. each i (omega arith) ∙ sym (get_or-list count_size i _ 0 (omega arith)))

-- `report_main::main` meets its contract: the pieces lie within the buffers, and each step leaves fewer to come.
use Prim.Native.Nat.{ℕ, ◌*◌}
use mathlib.Core.Path.{refl, ◌∙◌}
use native.Mathlib.Omega.{arith}
use lib.ListN.{length-replicate}
use Rattle.model.specs.Map.{table_size}
use Rattle.program.specs.Opening.{most_slots}
use Rattle.report.proofs.EndLaws.{fewer, ready-within, wants-few}
use Rattle.report_main.proofs.main.Goals as goal

pub loop-want-init : goal.loop-want-init
loop-want-init c =
    record {
      bytes = length-replicate {A = ℕ} 65536 0;
      lines = length-replicate {A = ℕ} 4096 0;
      words = length-replicate {A = ℕ} (table_size most_slots) 0;
      places = length-replicate {A = ℕ} (16 * most_slots) 0;
      wanted = c.wanted-want.ensures;
      ready = refl;
    }

pub slice_bounds-input-end : goal.slice_bounds-input-end
slice_bounds-input-end c =
    let l = c.loop-want in
    omega (arith, l.invariant.bytes, l.invariant.wanted, wants-few l.state l.sums l.invariant.ready)

pub wanted-want-requires-in-loop-want : goal.wanted-want-requires-in-loop-want
wanted-want-requires-in-loop-want c = ready-within c.feed-fed.result.state c.feed-fed.result.sums c.feed-fed.ensures.fed_as.ready

pub loop-want-smaller : goal.loop-want-smaller
loop-want-smaller c = fewer _ _ _ _ _ _ c.feed-fed.ensures.fed_as (λ z. c.loop-want-test.true (c.loop-want.invariant.wanted ∙ z))

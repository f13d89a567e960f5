-- The loop's invariant: the buffers have their lengths, and the state is one to which a report comes. The measure is how many steps are left at most.
use Prim.Native.Nat.{◌*◌}
use mathlib.Core.Path.{◌≡◌}
use lib.ListN.{length}
use Rattle.model.specs.Map.{table_size}
use Rattle.program.specs.Opening.{most_slots}
use Rattle.report.specs.Steps.{wants}
use Rattle.report.specs.Promises.{Ready, most_steps}
use Rattle.report_main.proofs.main.Given as goal

abbrev pub invariant-loop-want : goal.invariant-loop-want
invariant-loop-want l =
    record {
      bytes : length l.input ≡ 65536;
      lines : length l.out ≡ 4096;
      words : length l.table ≡ table_size most_slots;
      places : length l.store ≡ 16 * most_slots;
      wanted : l.want ≡ wants l.state;
      ready : Ready l.state l.sums;
    }

abbrev pub decreases-loop-want : goal.decreases-loop-want
decreases-loop-want l = most_steps l.state

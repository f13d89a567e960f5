-- The loop's invariant: `good` says whether the first k slots are below the next.
use mathlib.Core.Path.{◌≡◌}
use Rattle.file.specs.Form.{rises}
use Rattle.file.proofs.form.rising.Given as goal

abbrev pub invariant-loop-k : goal.invariant-loop-k
invariant-loop-k g l = l.good ≡ rises g.row.W l.b l.k

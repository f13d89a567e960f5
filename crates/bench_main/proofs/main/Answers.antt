-- `bench_main::main` meets its contract: what is written lies within the buffer.
use Prim.Native.Nat.{◌≤◌}
use mathlib.Core.Path.{sym}
use native.Mathlib.Omega.{arith}
use lib.ListN.{length}
use lib.Seq.{length-take-le}
use Rattle.bench_main.proofs.main.Goals as goal

pub slice_bounds-write_all-end : goal.slice_bounds-write_all-end
slice_bounds-write_all-end c =
    let r = c.run-written in
    let fits : r.result ≤ length r.new.out = omega (arith, r.ensures.few, r.auto.out) in
    sym (length-take-le _ r.new.out fits)

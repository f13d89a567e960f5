-- `scheme::arcs::copy` meets its contract.
use Prim.Native.Nat.{◌+◌, ◌-◌}
use mathlib.Core.Path.{◌≡◌, ap, ◌∙◌}
use mathlib.Core.List.{List, ◌++◌}
use Prim.Native.Nat.{ℕ}
use native.Mathlib.Omega.{arith}
use lib.ListN.{take, drop}
use Rattle.scheme.proofs.StoredLaws.{stored-front}
use Rattle.scheme.proofs.arcs.copy.Goals as goal

pub returns : goal.returns
returns c =
    let a = c.args in
    let size : a.from.at + a.size - a.from.at ≡ a.size = omega arith in
    let r = c.requires in
    ap (λ (t : List ℕ). t ++ drop a.size a.arcs.now) (c.copy_from_slice.ensures.after ∙ ap (λ (m : ℕ). take m (drop a.from.at a.bytes.now)) size)
    ∙ stored-front a.arcs.now a.bytes.now a.from.at a.size r.0 (omega arith)

-- One outcome: two outcomes that the bench program's promise allows are equal, in the number of bytes and in the output.
use Prim.Native.Nat.{ℕ}
use mathlib.Core.Path.{◌≡◌, sym, ap, ◌∙◌}
use mathlib.Core.List.{List, ◌++◌}
use lib.ListN.{drop}
use Rattle.bench.specs.Bench.{printed}
use Rattle.bench.specs.Session.{Printed}

pub one-printed : {b out : List ℕ} {r r₂ : ℕ} {out' out₂ : List ℕ} → Printed b out r out' → Printed b out r₂ out₂ → (r ≡ r₂) × (out' ≡ out₂)
one-printed {b} {out} p q =
    let same = p.count ∙ sym q.count in
    (same, p.output ∙ ap (λ (k : ℕ). printed b ++ drop k out) same ∙ sym q.output)

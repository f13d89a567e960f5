-- One outcome: two outcomes that the promise of a step allows are equal, in state, sums, output, table and store.
use mathlib.Core.Path.{◌≡◌, sym, ◌∙◌}
use Prim.Native.Nat.{ℕ}
use mathlib.Core.List.{List}
use Rattle.report.specs.Promises.{FedAs, Worked}
use Rattle.report.specs.declared.State.{State}
use Rattle.report.specs.declared.Fed.{Fed}

pub one-fed : {s : State} {sums p out : List ℕ} {r r₂ : Fed} {out' out₂ : List ℕ} → FedAs s sums p out r out' → FedAs s sums p out r₂ out₂
    → (r ≡ r₂) × (out' ≡ out₂)
one-fed {r = r} {r₂ = r₂} x y =
    let state : r.state ≡ r₂.state = x.state ∙ sym y.state in
    let sums : r.sums ≡ r₂.sums = x.total ∙ sym y.total in
    let printed : r.printed ≡ r₂.printed = x.lines.after ∙ sym y.lines.after in
    (λ i. record { state = state i; sums = sums i; printed = printed i }, x.lines.bytes ∙ sym y.lines.bytes)

pub one-worked : {s : State} {p t u t' u' t₂ u₂ : List ℕ} → Worked s p t u t' u' → Worked s p t u t₂ u₂ → (t' ≡ t₂) × (u' ≡ u₂)
one-worked x y = (x.table ∙ sym y.table, x.store ∙ sym y.store)

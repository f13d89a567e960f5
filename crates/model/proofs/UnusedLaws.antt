-- In an unused record of a well-formed map the words beside the state may be anything: whatever is put there, the table holds a well-formed map like
-- the one before.
use Prim.Native.Nat.{ℕ, ◌≤◌}
use mathlib.Core.Path.{◌≡◌, refl, sym, ap, ◌∙◌}
use mathlib.Core.Logic.{inl, inr, ⊎_elim}
use mathlib.Core.List.{List}
use native.Mathlib.Omega.{arith}
use Rattle.model.specs.Map.{Field, State, Link, Tag, dimension, field_at, put, view}
use Rattle.model.specs.Alike.{Alike}
use Rattle.model.specs.Sequence.{Holds, BothHold}
use Rattle.model.proofs.MapLaws.{length-put, put_other}
use Rattle.model.proofs.AlikeLaws.{well-alike}
use Rattle.model.proofs.HoldsLaws.{dimension-small, sizes_too}

module _ (n N : ℕ) (t : List ℕ) (h : Holds n N t) (x : ℕ) (dead : (view N t).state x ≡ 0)
    (f : Field) (low : dimension f ≤ 3) (beside : State ≡ f → ⊥) (v : ℕ) where
  abbrev u : List ℕ
  u = put t f x v

  state-stays : (y : ℕ) → (view N u).state y ≡ (view N t).state y
  state-stays y = put_other t f x v low State y (λ e. beside)

  -- a word of a live record stands in another record
  word-stays : (y : ℕ) (g : Field) → (view N t).state y ≡ 1 → field_at u g y ≡ field_at t g y
  word-stays y g l = put_other t f x v low g y (λ e q. let z = ap (view N t).state e in omega arith)

  stays-alike : Alike (view N t) (view N u)
  stays-alike = record {
    slots = refl;
    live = λ y b. ((λ e. state-stays y ∙ e), (λ e. sym (state-stays y) ∙ e));
    link = λ y b l i k. sym (word-stays y (Link i) l);
    tag = λ y b l. sym (word-stays y Tag l);
  }

  unused-holds : Holds n N u
  unused-holds = record {
    sizes = sizes_too n N t h.sizes u (length-put t f x v);
    well = well-alike n (dimension-small n N t h.sizes) (view N t) (view N u) stays-alike h.well
        (λ y b. ⊎_elim (λ e. inl (state-stays y ∙ e)) (λ e. inr (state-stays y ∙ e)) (h.well.states y b));
  }

  pub unused_any : BothHold n N t u × Alike (view N t) (view N u)
  unused_any = (record { one = h; other = unused-holds }, stays-alike)

-- One outcome: two outcomes of a request that the promise allows are equal, in the answer, the table and what was lent.
use Prim.Native.Nat.{ℕ}
use mathlib.Core.Path.{◌≡◌, sym, ◌∙◌}
use mathlib.Core.List.{List}
use Rattle.model.specs.Sequence.{Request, Lent, Outcome}
use Rattle.model.specs.Answer.{Answer}
use Rattle.demands.specs.Promises.{Promised, outcome_with}

pub one-outcome : (n N : ℕ) (t : List ℕ) (q : Request) (l : Lent) (o p : Outcome) → Promised n N t q l o → Promised n N t q l p → o ≡ p
one-outcome n N t q l o p a b = a ∙ sym b

-- ---- outcomes part by part

-- outcomes with equal parts are equal
pub same_outcome : {r a : Answer} {t u store s out o : List ℕ} → r ≡ a → t ≡ u → store ≡ s → out ≡ o → outcome_with r t store out ≡ outcome_with a u s o
same_outcome p q v w i = outcome_with (p i) (q i) (v i) (w i)

-- and the other way
pub answer_of : {o p : Outcome} → o ≡ p → o.answer ≡ p.answer
answer_of e i = (e i).answer

pub table_of_lem : {o p : Outcome} → o ≡ p → o.table ≡ p.table
table_of_lem e i = (e i).table

pub store_of : {o p : Outcome} → o ≡ p → o.lent.store ≡ p.lent.store
store_of e i = (e i).lent.store

pub output_of : {o p : Outcome} → o ≡ p → o.lent.output ≡ p.lent.output
output_of e i = (e i).lent.output

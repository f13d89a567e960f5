-- What the kernel promises of every request: its outcome is the one that the definitions give, for all inputs. So two outcomes of one request are equal.
-- The calls' `ensures` are this promise at their request, each under its name. There r is the answer, and t', store' and out' are what table, store and
-- output hold afterwards. A call that takes no store or no output is promised with an empty one.
use Rattle.std.specs.Prelude.{ℕ, ◌≡◌, List, []}
use Rattle.model.specs.Sequence.{Request, table_check, scheme_check, edit, count, load, write, Lent, Outcome, outcome_of}
use Rattle.model.specs.declared.Darts.{Darts}
use Rattle.model.specs.Answer.{Answer}

abbrev pub Promised : ℕ → ℕ → List ℕ → Request → Lent → Outcome → Type 0
Promised n N t q l o = o ≡ outcome_of n N t q l

-- ---- the calls

-- a store and an output are lent
abbrev pub lending : List ℕ → List ℕ → Lent
lending store out = record { store = store; output = out }

abbrev pub nothing : Lent
nothing = lending [] []

-- the outcome with an answer, a table, a store and an output
abbrev pub outcome_with : Answer → List ℕ → List ℕ → List ℕ → Outcome
outcome_with r t store out = record { answer = r; table = t; lent = lending store out }

abbrev pub TableChecked : ℕ → ℕ → List ℕ → Answer → Type 0
TableChecked n N t r = Promised n N t table_check nothing (outcome_with r t [] [])

-- a scheme check is given no table
abbrev pub SchemeChecked : List ℕ → Answer → Type 0
SchemeChecked b r = Promised 0 0 [] (scheme_check b) nothing (outcome_with r [] [] [])

abbrev pub MapEdited : ℕ → ℕ → List ℕ → List ℕ → List ℕ → Darts → Answer → List ℕ → List ℕ → Type 0
MapEdited n N t store b D r t' store' = Promised n N t (edit b D) (lending store []) (outcome_with r t' store' [])

abbrev pub MapCounted : ℕ → ℕ → List ℕ → List ℕ → List ℕ → Answer → List ℕ → List ℕ → Type 0
MapCounted n N t store out r store' out' = Promised n N t count (lending store out) (outcome_with r t store' out')

abbrev pub FileLoaded : ℕ → ℕ → List ℕ → List ℕ → Answer → List ℕ → Type 0
FileLoaded n N t b r t' = Promised n N t (load b) nothing (outcome_with r t' [] [])

abbrev pub FileWritten : ℕ → ℕ → List ℕ → List ℕ → Answer → List ℕ → Type 0
FileWritten n N t out r out' = Promised n N t write (lending [] out) (outcome_with r t [] out')

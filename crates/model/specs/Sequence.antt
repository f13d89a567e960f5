-- Demand 3: "Take two well-formed maps of one dimension and slot count, with the same live slots and equal live records; unused records and working
-- stores may hold anything. Give both the same sequence of edits, checks, [loads] and writes at that dimension and slot count, with equal other arguments
-- and lent buffers of equal length." After every call both have the same live slots and equal live records, and answers and written files are equal;
-- both are well-formed "from the start and from each table check that answers 0 until the next load".
-- The definitions below say this in its order for one call; `AlikeRuns` of crates/demands/specs/Runs.antt says it of sequences of any kernel's calls.
use Rattle.std.specs.Prelude.{ℕ, ◌<◌, ◌≡◌, ◌⊎◌, Bool, true, false, cond, List, [], length, get_or, take, eqb}
use Rattle.base.specs.Test.{◌or◌}
use Rattle.model.specs.Map.{view}
use Rattle.model.specs.WellFormed.{WellFormed}
use Rattle.model.specs.Alike.{Alike}
use Rattle.model.specs.Answer.{Answer, number, values}
use Rattle.model.specs.Calls.{sizes_ok, check_table, check_scheme, edit_answer, edit_table, edit_store, count_size, count_answer, count_store, count_out}
use Rattle.model.specs.Calls.{load_answer, load_table, write_answer, write_out}
use Rattle.model.specs.declared.Darts.{Darts}

-- ---- two maps of one dimension and slot count, with the same live slots and equal live records

-- the table t holds a map of dimension n and N slots, each of them live or unused; whether the map is well-formed is not asked
pub record Slotted (n N : ℕ) (t : List ℕ) : Type 0 where
  pub sizes : sizes_ok n N t ≡ true
  pub states : (x : ℕ) → x < N → ((view N t).state x ≡ 0) ⊎ ((view N t).state x ≡ 1)

pub record AlikeTables (n N : ℕ) (t t' : List ℕ) : Type 0 where
  pub one : Slotted n N t
  pub other : Slotted n N t'
  pub alike : Alike (view N t) (view N t')

-- ---- two well-formed maps

-- the table t holds a well-formed map of dimension n and N slots; the table check answers 0 to just these (`holds_iff` of proofs/HoldsLaws.antt)
pub record Holds (n N : ℕ) (t : List ℕ) : Type 0 where
  pub sizes : sizes_ok n N t ≡ true
  pub well : WellFormed n (view N t)

pub record BothHold (n N : ℕ) (t t' : List ℕ) : Type 0 where
  pub one : Holds n N t
  pub other : Holds n N t'

-- ---- the same sequence, with equal other arguments and lent buffers of equal length

-- what is asked, with every argument but n, N, the table and what is lent
pub data Request : Type 0 where
  table_check : Request
  scheme_check : (scheme : List ℕ) → Request
  edit : (scheme : List ℕ) (darts : Darts) → Request
  count : Request
  load : (file : List ℕ) → Request
  write : Request

-- what is lent to a call, with what it holds: a working store to an edit and a count, an output to a count and a write
pub record Lent : Type 0 where
  pub store : List ℕ
  pub output : List ℕ

pub record Call : Type 0 where
  pub request : Request
  pub lent : Lent

pub record SameCall (c c' : Call) : Type 0 where
  pub request : c.request ≡ c'.request
  pub stores : length c.lent.store ≡ length c'.lent.store
  pub outputs : length c.lent.output ≡ length c'.lent.output

-- ---- what comes of every call

-- the answer, and what the table and what is lent hold afterwards
pub record Outcome : Type 0 where
  pub answer : Answer
  pub table : List ℕ
  pub lent : Lent

-- the outcome that the definitions of the calls (Calls.antt) give: what a call is not given to change stays as it was
module _ (n N : ℕ) (t : List ℕ) where
  abbrev pub outcome_of : Request → Lent → Outcome
  outcome_of table_check l = record { answer = check_table n N t; table = t; lent = l }
  outcome_of (scheme_check b) l = record { answer = check_scheme b; table = t; lent = l }
  outcome_of (edit b D) l = record {
    answer = edit_answer n N t l.store b D;
    table = edit_table n N t l.store b D;
    lent = record { store = edit_store n N t l.store b D; output = l.output };
  }
  outcome_of count l = record {
    answer = count_answer n N t l.store l.output;
    table = t;
    lent = record { store = count_store n N t l.store l.output; output = count_out n N t l.store l.output };
  }
  outcome_of (load b) l = record { answer = load_answer n N t b; table = load_table n N t b; lent = l }
  outcome_of write l = record {
    answer = write_answer n N t l.output;
    table = t;
    lent = record { store = l.store; output = write_out n N t l.output };
  }

  abbrev pub outcome : Call → Outcome
  outcome c = outcome_of c.request c.lent

-- the first k words or bytes of the output of a call that is done, none of one that is refused
abbrev pub done_output : ℕ → Outcome → List ℕ
done_output k o = take (cond (eqb (number o.answer) 0) k 0) o.lent.output

-- what a call has written: the numbers of a count, and of a write as many bytes as the answer counts
abbrev pub written : Request → Outcome → List ℕ
written table_check o = []
written (scheme_check b) o = []
written (edit b D) o = []
written count o = done_output count_size o
written (load b) o = []
written write o = done_output (get_or (values o.answer) 0 0) o

-- Whether both maps must be well-formed after a call that answers a: "from each table check that answers 0 until the next load". A table check that
-- answers 0 makes it so, a load ends it, and every other call leaves it as it was before, which is `known`.
abbrev pub known_after : Bool → Request → Answer → Bool
known_after known table_check a = known or eqb (number a) 0
known_after known (scheme_check b) a = known
known_after known (edit b D) a = known
known_after known count a = known
known_after known (load b) a = false
known_after known write a = known

-- a call and its outcome
pub record Event : Type 0 where
  pub call : Call
  pub outcome : Outcome

-- whether they are known to be well-formed after an event, where `known` says it of before
abbrev pub known_of : Bool → Event → Bool
known_of known e = known_after known e.call.request e.outcome.answer

-- both maps are still alike, answers and what is written are equal, and where the maps are known to be well-formed they are
pub record AlikeEvents (n N : ℕ) (known : Bool) (e e' : Event) : Type 0 where
  pub tables : AlikeTables n N e.outcome.table e'.outcome.table
  pub answers : e.outcome.answer ≡ e'.outcome.answer
  pub files : written e.call.request e.outcome ≡ written e'.call.request e'.outcome
  pub well : known ≡ true → BothHold n N e.outcome.table e'.outcome.table

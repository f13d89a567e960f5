-- What the exports return and leave, and what a program in C sees of it: the word taken apart, and the buffers.
use Rattle.std.specs.Prelude.{ℕ, ◌≡◌, List}
use Rattle.model.specs.Sequence.{Request, Lent, Outcome, outcome_of}
use Rattle.word.specs.Word.{packed, unpacked}

-- w is the word of a request's answer, and t' and l' are what the call leaves in the table and in what was lent
pub record Packed (n N : ℕ) (t : List ℕ) (q : Request) (l : Lent) (w : ℕ) (t' : List ℕ) (l' : Lent) : Type 0 where
  pub word : w ≡ packed (outcome_of n N t q l).answer
  pub table : t' ≡ (outcome_of n N t q l).table
  pub lent : l' ≡ (outcome_of n N t q l).lent

-- ---- what C sees

-- the answer that the word of the request holds, and the buffers
pub record Seen (n N : ℕ) (t : List ℕ) (q : Request) (l : Lent) (o : Outcome) : Type 0 where
  pub word : ℕ
  pub promised : Packed n N t q l word o.table o.lent
  pub answer : o.answer ≡ unpacked q word

-- A kernel: what each request may come to. The demands (Demands.antt) speak of any kernel.
-- A request q is made at n, N and the table t, with l lent to it. Its outcome o is the answer, and what the table and what was lent hold afterwards.
use Rattle.std.specs.Prelude.{ℕ, List}
use Rattle.model.specs.Sequence.{Request, Lent, Outcome}

pub record Kernel : Type 1 where
  pub Does : (n N : ℕ) (t : List ℕ) (q : Request) (l : Lent) (o : Outcome) → Type 0
  -- every request has an outcome: a kernel that allowed none would meet every demand
  pub responds : (n N : ℕ) (t : List ℕ) (q : Request) (l : Lent) → (o : Outcome) × Does n N t q l o

-- every outcome of K is one of L
abbrev pub Refines : Kernel → Kernel → Type 0
Refines K L = (n N : ℕ) (t : List ℕ) (q : Request) (l : Lent) (o : Outcome) → K.Does n N t q l o → L.Does n N t q l o

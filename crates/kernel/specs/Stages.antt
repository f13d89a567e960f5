-- What an edit or a count behind the test of its sizes comes to.
use Rattle.std.specs.Prelude.{ℕ, ◌≡◌, Bool, true, not, List, eqb}
use Rattle.base.specs.First.{◌or_else◌}
use Rattle.model.specs.Map.{Map}
use Rattle.model.specs.Count.{counts}
use Rattle.model.specs.Answer.{Answer, answered}
use Rattle.model.specs.Calls.{bytes_fault, takes, site_fault, site_of, output_fault_at, output_after, count_size}
use Rattle.model.specs.declared.Darts.{Darts}
use Rattle.model.specs.declared.Darts.TheVariants.{One, Two}
use Rattle.model.specs.declared.Reply.TheVariants.{Done}
use Rattle.edit.specs.Apply.{Settled}

-- as many hooks as darts, where `second` is the second hook or 0: `as_many` of a scheme
abbrev pub many_by : Darts → ℕ → Bool
many_by (One d) second = eqb second 0
many_by (Two d e) second = not (eqb second 0)

-- refusals 2 to 10
abbrev pub Staged : ℕ → ℕ → List ℕ → List ℕ → Darts → Answer → List ℕ → Type 0
Staged n N t b D = Settled (bytes_fault (takes D b) b or_else site_fault n (site_of N t b D)) (site_of N t b D) t

-- refusals 7 and 12 of a count, and the output that it leaves
pub record CountStaged (n : ℕ) (m : Map) (out : List ℕ) (r : Answer) (out' : List ℕ) : Type 0 where
  pub answer : r ≡ answered Done (output_fault_at true n m count_size out)
  pub output : out' ≡ output_after (output_fault_at true n m count_size out) (counts n m) out

-- Cycles, over the codes of arcs.
use Rattle.std.specs.Prelude.{ℕ, suc, ◌+◌, ◌-◌, ◌<◌, ◌≡◌, Bool, true, false, not, cond, List, get_or, eqb, ltb, leb}
use Rattle.std.specs.Prelude.{Option, Result, ⊤}
use Rattle.base.specs.Test.{◌and◌, ◌or◌}
use Rattle.base.specs.First.{first, some_if}
use Rattle.model.specs.Codes.{entry}
use Rattle.model.specs.Answer.{fault_of}
use Rattle.model.specs.declared.Refusal.{Refusal}
use Rattle.model.specs.declared.Refusal.TheVariants.{BadCycle}

-- two dimensions differ by at least 2
unfoldable pub far_apart : ℕ → ℕ → Bool
far_apart p q = leb (p + 2) q or leb (q + 2) p

module _ (codes : List ℕ) (s i j : ℕ) where
  -- the i-arc of s leads to a node, and the j-arc there to the node t: the i-arc and the j-arc after t lead back to s
  unfoldable pub goes_round : ℕ → Bool
  goes_round t = cond (ltb (entry codes t i) 16) (eqb (entry codes (entry codes t i) j) s) false

  -- s is on an ij-cycle, if its i-arc leads to a node whose j-arc has the code t
  unfoldable pub from_node : ℕ → Bool
  from_node t = cond (ltb t 16) (goes_round t) (cond (eqb t 255) false (eqb t (entry codes s j)))

-- a node is on an ij-cycle, if its i-arc is implicit with the code a and its j-arc has the code b
unfoldable pub from_place : List ℕ → List ℕ → ℕ → ℕ → ℕ → Bool
from_place orbit codes i a b = cond (ltb b 16) (eqb (entry codes b i) a)
    (cond (eqb b 255) false (far_apart (get_or orbit (a - 16) 0) (get_or orbit (b - 16) 0)))

-- s is on an ij-cycle
unfoldable pub cycle_by : List ℕ → List ℕ → ℕ → ℕ → ℕ → Bool
cycle_by orbit codes s i j = cond (ltb (entry codes s i) 16) (from_node codes s i j (entry codes (entry codes s i) j))
    (cond (eqb (entry codes s i) 255) false (from_place orbit codes i (entry codes s i) (entry codes s j)))

-- every code of a node is that of an arc: a node, a position, or none
pub record Coding (nodes : ℕ) (codes : List ℕ) : Type 0 where
  pub small : (s i : ℕ) → s < nodes → i < 4 → (entry codes s i ≡ 255 → ⊥) → entry codes s i < 20

-- node s, of this kind, meets the condition of cycles at the pair i, j
unfoldable pub pair_by : ℕ → List ℕ → List ℕ → List ℕ → ℕ → ℕ → ℕ → Bool
pair_by kind orbit lefts rights s i j =
    cond (eqb kind 1) true
    (cond (eqb kind 3) (cycle_by orbit rights s i j)
    (cond (cycle_by orbit lefts s i j) (cycle_by orbit rights s i j)
    (eqb (entry lefts s i) (entry rights s i) and eqb (entry lefts s j) (entry rights s j))))

module _ (orbit kinds lefts rights : List ℕ) where
  -- the offence of node s at the pair i, j, if i + 2 ≤ j and the node is wrong there
  unfoldable pub at_pair : ℕ → ℕ → ℕ → Option Refusal
  at_pair s i j = some_if (leb (i + 2) j and not (pair_by (get_or kinds s 0) orbit lefts rights s i j)) (BadCycle s i j)

  -- its offence at the first such pair with j ≤ n
  unfoldable pub at_node : ℕ → ℕ → Option Refusal
  at_node n s = first (suc n) (λ i. first (suc n) (at_pair s i))

  -- the offence of the least node that has one, at its first pair
  unfoldable pub cycles_fault : ℕ → ℕ → Result ⊤ Refusal
  cycles_fault n nodes = fault_of (first nodes (at_node n))

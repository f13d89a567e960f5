-- The report ends: from every state to which it comes, each step leaves fewer steps to take, and what it wants is within its limit.
use Prim.Native.Nat.{ℕ, zero, suc, ◌+◌, ◌≤◌, ◌<◌}
use mathlib.Core.Path.{◌≡◌, refl}
use mathlib.Core.Logic.{⊎_elim}
use mathlib.Core.Bool.{Bool, true, false, cond}
use mathlib.Core.List.{List}
use native.Mathlib.Omega.{arith}
use lib.ListN.{length, drop}
use lib.Dec.{leb}
use Rattle.base.specs.Digits.{number_at}
use Rattle.base.proofs.TestLaws.{true_or_false}
use Rattle.program.specs.Opening.{longest_file}
use Rattle.report.specs.Steps.{wants, length_ahead, state_ahead, state_after}
use Rattle.report.specs.Promises.{most_maps, SumsRoom, Within, Ready, most_steps, FedAs}
use Rattle.report.specs.declared.State.{State}
use Rattle.report.specs.declared.State.TheVariants.{Start, File, End}
use Rattle.report.specs.declared.Fed.{Fed}

-- ---- each step leaves fewer

-- if sums have room for k maps, k is at most the greatest number of maps
few_maps : (k : ℕ) (sums : List ℕ) → SumsRoom k sums → k ≤ most_maps
few_maps k sums r = omega (arith, r.few 0)

fewer-ahead : (left : ℕ) (tail : List ℕ) → most_steps (state_ahead left tail) ≤ left
unfolding state_ahead
fewer-ahead zero tail = omega arith
fewer-ahead (suc left) tail = ⊎_elim (λ t. rw t (omega arith)) (λ t. rw t (omega arith)) (true_or_false (length_ahead tail))

few-ahead : (left : ℕ) (tail sums : List ℕ) → Ready (state_ahead left tail) sums → most_steps (state_ahead left tail) ≤ most_maps
unfolding state_ahead
few-ahead zero tail sums r = omega arith
few-ahead (suc left) tail sums r = go (length_ahead tail) r
  where
    go : (t : Bool) → Ready (cond t (File left (number_at 2 tail 0)) End) sums → most_steps (cond t (File left (number_at 2 tail 0)) End) ≤ most_maps
    go true r = few_maps (left + 1) sums r.1
    go false r = omega arith

fewer-after : (s : State) (p sums : List ℕ) → Ready (state_after s p) sums → (wants s ≡ 0 → ⊥) → most_steps (state_after s p) < most_steps s
unfolding state_after
fewer-after Start p sums r ne = go (leb 2 (length p)) r
  where
    go : (t : Bool) → Ready (cond t (state_ahead (number_at 2 p 0) (drop 2 p)) End) sums
        → most_steps (cond t (state_ahead (number_at 2 p 0) (drop 2 p)) End) < most_maps + 1
    go true r = omega (arith, few-ahead (number_at 2 p 0) (drop 2 p) sums r)
    go false r = omega arith
fewer-after (File left long) p sums r ne = go (leb long (length p))
  where
    go : (t : Bool) → most_steps (cond t (state_ahead left (drop long p)) End) < left + 1
    go true = omega (arith, fewer-ahead left (drop long p))
    go false = omega arith
fewer-after End p sums r ne = absurd (ne refl)

pub fewer : (s : State) (sums p out : List ℕ) (r : Fed) (out' : List ℕ) → FedAs s sums p out r out' → (wants s ≡ 0 → ⊥)
    → most_steps r.state < most_steps s
fewer s sums p out r out' x ne = rw x.state (fewer-after s p r.sums (rw x.state at x.ready) ne)

-- ---- what is wanted is within its limit

pub ready-within : (s : State) (sums : List ℕ) → Ready s sums → Within s
ready-within Start sums r = tt
ready-within (File left long) sums r = r.0
ready-within End sums r = tt

pub wants-few : (s : State) (sums : List ℕ) → Ready s sums → wants s ≤ longest_file + 2
wants-few Start sums r = omega arith
wants-few (File left long) sums r = omega (arith, r.0)
wants-few End sums r = omega arith

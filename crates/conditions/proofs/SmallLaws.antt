-- The numbers of a scheme's fault are small: a node below 16, dimensions up to 3.
use Prim.Native.Nat.{ℕ, ◌≤◌, ◌<◌}
use mathlib.Core.Path.{◌≡◌, subst}
use mathlib.Core.Logic.{⊎_elim}
use Rattle.std.specs.Prelude.{Some}
use native.Mathlib.Omega.{arith}
use Rattle.base.proofs.FirstLaws.{or_else_cases, first-at, when-at, least_at}
use Rattle.model.specs.Conditions.{hook_fault, incidence_fault, cycle_fault, scheme_fault}
use Rattle.model.specs.Shaped.{Shaped}
use Rattle.model.specs.declared.Scheme.{Scheme}
use Rattle.model.specs.declared.Refusal.{Refusal}
use Rattle.model.specs.declared.Refusal.TheVariants.{BadHook, BadIncidence, BadCycle}
use Rattle.model.proofs.AcceptedLaws as AcceptedLaws
use Rattle.model.proofs.AcceptedLaws.{node-small, noted-at}

pub data SmallFault : Refusal → Type 0 where
  hook_small : {x : ℕ} → x < 16 → SmallFault (BadHook x)
  incidence_small : {x : ℕ} → x < 16 → SmallFault (BadIncidence x)
  cycle_small : {x i j : ℕ} → x < 16 → i ≤ 3 → j ≤ 3 → SmallFault (BadCycle x i j)

module _ (S : Scheme) (f : Shaped S) where
  hook-small : (x : ℕ) → hook_fault S ≡ Some x → x < 16
  unfolding hook_fault
  hook-small x e = ⊎_elim
      (λ w. node-small S f x (least_at _ _ x w).0)
      (λ w. node-small S f x (least_at _ _ x w.1).0)
      (or_else_cases _ _ x e)

  incidence-small : (x : ℕ) → incidence_fault S ≡ Some x → x < 16
  unfolding incidence_fault
  incidence-small x e = node-small S f x (least_at _ _ x e).0

  cycle_small_lem : (a : Refusal) → cycle_fault S ≡ Some a → SmallFault a
  unfolding cycle_fault
  cycle_small_lem a e =
      let n3 = AcceptedLaws.small S f in
      let s = first-at _ _ a e in
      let i = first-at _ _ a s.2 in
      let j = first-at _ _ a i.2 in
      subst SmallFault (when-at _ j.2).1 (cycle_small (node-small S f s.0 s.1) (omega (arith, i.1)) (omega (arith, j.1)))

  pub fault-small : (a : Refusal) → scheme_fault S ≡ Some a → SmallFault a
  unfolding scheme_fault
  fault-small a e = ⊎_elim
      (λ w. let n = noted-at BadHook _ a w in subst SmallFault n.2 (hook_small (hook-small n.0 n.1)))
      (λ w. ⊎_elim
      (λ v. let n = noted-at BadIncidence _ a v in subst SmallFault n.2 (incidence_small (incidence-small n.0 n.1)))
      (λ v. cycle_small_lem a v.1)
      (or_else_cases _ _ a w.1))
      (or_else_cases _ _ a e)

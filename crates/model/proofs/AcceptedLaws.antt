-- A scheme in the form that has no fault has what `Accepted` says.
use Prim.Native.Nat.{ℕ, suc, ◌+◌, ◌≤◌, ◌<◌}
use mathlib.Core.Path.{◌≡◌, refl, sym, ap, ◌∙◌, subst}
use mathlib.Core.Logic.{◌⊎◌, inl, inr, ⊎_elim, ◌↔◌}
use mathlib.Core.Bool.{Bool, true, not, cond, true≢false}
use Rattle.std.specs.Prelude.{Option, Some, None}
use native.Mathlib.Omega.{arith}
use lib.Dec.{eqb, leb}
use borrow.Author.Tests.{eqb-true, eqb-false, eq-eqb, leb-true, le-leb, not-false}
use Rattle.base.specs.Test.{◌and◌}
use Rattle.base.specs.First.{some_if, ◌or_else◌, there}
use Rattle.base.proofs.TestLaws.{and_left, and_right, and_of, not_both, brings, or_left, or_right, if_so, if_of, true_or_false}
use Rattle.base.proofs.BelowLaws.{all-at, all_of}
use Rattle.base.proofs.FirstLaws.{some_not_none, when-none, or_else_none, first-none, first-none_of, least-none, least-none_of}
use Rattle.model.specs.Scheme.{Side, left, right, kind, donor, has, deleted, preserved, added, first_hook, is_hook}
use Rattle.model.specs.Shaped.{Shaped}
use Rattle.model.specs.Conditions.{arc_at, arcs_of_dim, same_arc, on_cycle, Cycle, hook_ok, path_to, hook_fault, incidence_ok, incidence_fault, cycle_ok}
use Rattle.model.specs.Conditions.{cycle_fault, scheme_fault, noted}
use Rattle.model.specs.Accepted.{Incident, Cyclic, Consistent, Accepted}
use Rattle.model.specs.declared.Scheme.{Scheme}
use Rattle.model.proofs.CycleLaws.{cycle_at, cycle_of, same-arc, arc-same}
use Rattle.model.proofs.HookLaws.{first-hook, hook_iff, hook-below, found-reached, reached-found}
use Rattle.model.proofs.ArcLaws.{SingleSide}
use Rattle.model.specs.declared.Refusal.{Refusal}
use Rattle.model.specs.declared.Refusal.TheVariants.{BadHook, BadIncidence, BadCycle}

-- a refusal that names a node is given just where a node was found
pub noted-at : (f : ℕ → Refusal) (o : Option ℕ) (a : Refusal) → noted f o ≡ Some a → (s : ℕ) × (o ≡ Some s) × (f s ≡ a)
noted-at f None a e = absurd (some_not_none e refl)
noted-at f (Some s) a e = (s, refl, cc)

pub noted-none : (f : ℕ → Refusal) (o : Option ℕ) → noted f o ≡ None → o ≡ None
noted-none f None e = refl
noted-none f (Some s) e = absurd (some_not_none {o = Some (f s)} {a = f s} refl e)

one_of_three : (k : ℕ) → 1 ≤ k → k ≤ 3 → (eqb k 1 ≡ true) ⊎ ((eqb k 2 ≡ true) ⊎ (eqb k 3 ≡ true))
one_of_three k l h = ⊎_elim (λ e. inl e)
    (λ e. inr (⊎_elim (λ f. inl f)
    (λ f. inr (let a = eqb-false k 1 e in let c = eqb-false k 2 f in eq-eqb k 3 (omega arith)))
    (true_or_false (eqb k 2))))
    (true_or_false (eqb k 1))

-- ---- incidence at a node, as a test and as a rule

module _ (S : Scheme) (s : ℕ) where
  pub incident_iff : (incidence_ok S s ≡ true) ↔ Incident S s
  unfolding incidence_ok
  incident_iff = (
    (λ q. let at : (i : ℕ) → i ≤ S.n → _ = λ i l. all-at _ _ q i (omega arith) in record {
      single = λ side i l. single side i (and_left _ _ (and_left _ _ (and_left _ _ (at i l))));
      same = λ i l e. eqb-true _ _ (if_so _ (and_right _ _ (and_left _ _ (and_left _ _ (at i l)))) e);
      all_left = λ i l e. eqb-true _ _ (if_so _ (and_right _ _ (and_left _ _ (at i l))) e);
      all_right = λ i l e. eqb-true _ _ (if_so _ (and_right _ _ (at i l)) e);
    }),
    (λ a. all_of _ _ (λ i l. let k : i ≤ S.n = omega arith in
        and_of (and_of (and_of (and_of (le-leb _ _ (a.single left i k)) (le-leb _ _ (a.single right i k)))
        (if_of _ (λ e. eq-eqb _ _ (a.same i k e)))) (if_of _ (λ e. eq-eqb _ _ (a.all_left i k e))))
        (if_of _ (λ e. eq-eqb _ _ (a.all_right i k e))))),
  )
    where
      single : (side : Side) (i : ℕ) → (leb (arcs_of_dim S left s i) 1 and leb (arcs_of_dim S right s i) 1) ≡ true → arcs_of_dim S side s i ≤ 1
      single left i e = leb-true _ _ (and_left _ _ e)
      single right i e = leb-true _ _ (and_right _ _ e)

-- ---- cycles at a node and a pair of dimensions

module _ (S : Scheme) (s i j : ℕ) where
  -- what is asked of a preserved node that is on a left cycle, or on none
  abbrev kept_ok : Bool → Bool
  kept_ok c = cond c (on_cycle S right s i j) (same_arc (arc_at S left s i) (arc_at S right s i) and same_arc (arc_at S left s j) (arc_at S right s j))

  kept_by : kept_ok (on_cycle S left s i j) ≡ true → (Cycle S left s i j → Cycle S right s i j)
      × ((Cycle S left s i j → ⊥) → (arc_at S left s i ≡ arc_at S right s i) × (arc_at S left s j ≡ arc_at S right s j))
  kept_by q = (
    (λ c. cycle_at S right s i j (subst (λ (b : Bool). kept_ok b ≡ true) (cycle_of S left s i j c) q)),
    (λ c. ⊎_elim
        (λ t. absurd (c (cycle_at S left s i j t)))
        (λ t. let both = subst (λ (b : Bool). kept_ok b ≡ true) t q in (same-arc _ _ (and_left _ _ both), same-arc _ _ (and_right _ _ both)))
        (true_or_false (on_cycle S left s i j))),
  )

  kept_of : Cyclic S s i j → preserved S s ≡ true → kept_ok (on_cycle S left s i j) ≡ true
  kept_of a e = ⊎_elim
      (λ t. subst (λ (c : Bool). kept_ok c ≡ true) (sym t) (cycle_of S right s i j (a.kept_cycle e (cycle_at S left s i j t))))
      (λ t.
      let arcs = a.kept_arcs e (λ c. true≢false (sym (cycle_of S left s i j c) ∙ t)) in
      subst (λ (c : Bool). kept_ok c ≡ true) (sym t) (and_of (arc-same arcs.0) (arc-same arcs.1)))
      (true_or_false (on_cycle S left s i j))

  pub cyclic_iff : (cycle_ok S s i j ≡ true) ↔ Cyclic S s i j
  unfolding cycle_ok
  cyclic_iff = (
    (λ q. record {
      added_cycle = λ e. cycle_at S right s i j (if_so _ (and_left _ _ q) e);
      kept_cycle = λ e. (kept_by (if_so _ (and_right _ _ q) e)).0;
      kept_arcs = λ e. (kept_by (if_so _ (and_right _ _ q) e)).1;
    }),
    (λ a. and_of (if_of _ (λ e. cycle_of S right s i j (a.added_cycle e))) (if_of _ (kept_of a))),
  )

-- ---- the value of bytes in the form

module _ (S : Scheme) (f : Shaped S) where
  pub small : S.n ≤ 3
  small = ⊎_elim (λ e. omega arith) (λ e. omega arith) f.dimension

  pub at_least_two : 2 ≤ S.n
  at_least_two = ⊎_elim (λ e. omega arith) (λ e. omega arith) f.dimension

  pub node-small : (s : ℕ) → s < S.nodes → s < 16
  node-small s h = let n = f.nodes_few in omega arith

  pub kind_cases : (s : ℕ) → s < S.nodes → (deleted S s ≡ true) ⊎ ((preserved S s ≡ true) ⊎ (added S s ≡ true))
  kind_cases s h = let k = f.kinds s h in one_of_three (kind S s) k.0 k.1

  -- a node is on the left, or is added
  pub left_or_added : (s : ℕ) → s < S.nodes → (has S left s ≡ true) ⊎ (added S s ≡ true)
  left_or_added s h = ⊎_elim (λ e. inl (or_left _ e)) (⊎_elim (λ e. inl (or_right _ e)) (λ e. inr e)) (kind_cases s h)

  -- ---- a scheme without a fault is consistent, and the other way

  module _ (r : scheme_fault S ≡ None) where
    no_hook_lem : hook_fault S ≡ None
    unfolding scheme_fault
    no_hook_lem = noted-none BadHook _ (or_else_none _ _ r).0

    no_incidence_lem : incidence_fault S ≡ None
    unfolding scheme_fault
    no_incidence_lem = noted-none BadIncidence _ (or_else_none _ _ (or_else_none _ _ r).1).0

    no_cycle_lem : cycle_fault S ≡ None
    unfolding scheme_fault
    no_cycle_lem = (or_else_none _ _ (or_else_none _ _ r).1).1

    consistent : Consistent S
    unfolding hook_fault incidence_fault cycle_fault
    consistent = record {
      hooks = λ h e. (hook_iff S h).0 (brings e (least-none _ _ (or_else_none _ _ no_hook_lem).0 h (hook-below S f h e)));
      reach = λ s h l. found-reached S f s h (brings l (least-none _ _ (or_else_none _ _ no_hook_lem).1 s h));
      incidence = λ s h. (incident_iff S s).0 (not-false _ (least-none _ _ no_incidence_lem s h));
      cycles = λ s i j h ij jn. (cyclic_iff S s i j).0
          (brings (le-leb (i + 2) j ij) (when-none _ _ (first-none _ _ (first-none _ _ (first-none _ _ no_cycle_lem s h) i (omega arith)) j (omega arith))));
    }

    pub accepted : Accepted S
    accepted = record { shaped = f; consistent = consistent }

  module _ (a : Consistent S) where
    hook-none : hook_fault S ≡ None
    unfolding hook_fault ◌or_else◌
    hook-none =
        let wrong = least-none_of S.nodes _ (λ s h. not_both (is_hook S s) (hook_ok S s) (λ e. (hook_iff S s).1 (a.hooks s e))) in
        rw wrong (least-none_of S.nodes _ (λ s h. not_both (has S left s) (there (path_to S s)) (λ l. reached-found S f (a.reach s h l))))

    incidence-none : incidence_fault S ≡ None
    unfolding incidence_fault
    incidence-none = least-none_of S.nodes _ (λ s h. ap not ((incident_iff S s).1 (a.incidence s h)))

    cycle_none : cycle_fault S ≡ None
    unfolding cycle_fault some_if
    cycle_none = first-none_of S.nodes _ (λ s h. first-none_of (suc S.n) _ (λ i k. first-none_of (suc S.n) _ (λ j l.
        ap (λ (c : Bool). some_if c (BadCycle s i j))
        (not_both (leb (i + 2) j) (cycle_ok S s i j) (λ e. (cyclic_iff S s i j).1 (a.cycles s i j h (leb-true _ _ e) (omega arith)))))))

    consistent-free : scheme_fault S ≡ None
    unfolding scheme_fault ◌or_else◌
    consistent-free = rw (hook-none, incidence-none) cycle_none

  pub consistent_iff : (scheme_fault S ≡ None) ↔ Consistent S
  consistent_iff = (consistent, consistent-free)

-- each side of an accepted scheme has at most one arc of each dimension at a node
pub one_side : {S : Scheme} → Accepted S → (side : Side) → SingleSide S side
one_side a side = record { shaped = a.shaped.sides side; single = λ s i h l. (a.consistent.incidence s h).single side i l }

-- a donor is a left node: a named one by the form, and node 0 since it is a hook
pub donor-left : (S : Scheme) → Accepted S → (s : ℕ) → s < S.nodes → has S left (donor S s) ≡ true
donor-left S a s h = ⊎_elim
    (λ e. ap (has S left) e ∙ (a.consistent.hooks first_hook (first-hook S)).kind)
    (λ l. l)
    (a.shaped.donor_left s h)

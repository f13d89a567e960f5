-- What the numbers of a chain's refusals say: which of its tests were passed, and what table, store and output hold then.
use Prim.Native.Nat.{ℕ, ◌≤◌, ◌<◌}
use mathlib.Core.Path.{◌≡◌, refl, sym, ap, ◌∙◌}
use mathlib.Core.Logic.{◌⊎◌, ⊎_elim}
use mathlib.Core.Bool.{Bool, true, false, not, cond}
use Rattle.std.specs.Prelude.{Option, Some, None}
use mathlib.Core.List.{List}
use native.Mathlib.Omega.{arith}
use lib.ListN.{length}
use lib.Dec.{ltb}
use Rattle.base.specs.First.{some_if, ◌or_else◌, there}
use Rattle.base.proofs.FirstLaws.{first-at, when-at, some_not_none}
use Rattle.model.specs.Map.{view, table_of}
use Rattle.model.specs.WellFormed.{well_formed}
use Rattle.model.specs.Answer.{refusal_number, number, answered}
use Rattle.model.specs.Scheme.{scheme_of}
use Rattle.model.specs.Conditions.{hook_fault, incidence_fault, cycle_fault, scheme_fault, noted}
use Rattle.model.specs.Edit.{edited}
use Rattle.model.specs.File.{file_form, file_map}
use Rattle.model.specs.Site.{Site}
use Rattle.model.specs.Calls.{zeros, sizes_ok, map_fault, bytes_fault, fit_fault, site_fault, site_of, stored_ok, takes}
use Rattle.model.specs.Calls.{site_done, edit_fault_at, edit_fault, edit_answer, edit_table, edit_store}
use Rattle.model.specs.Calls.{output_fault_at, count_size, count_fault, count_answer, count_store, count_out}
use Rattle.model.specs.Calls.{load_fault_at, load_fault, load_answer, loaded, load_table, write_fault, write_answer, write_out}
use Rattle.model.proofs.HoldsLaws.{load-table}
use Rattle.model.specs.declared.Scheme.{Scheme}
use Rattle.model.specs.declared.Darts.{Darts}
use Rattle.model.specs.declared.Reply.{Reply}
use Rattle.model.specs.declared.Reply.TheVariants.{Done}
use Rattle.model.specs.declared.Refusal.{Refusal}
use Rattle.model.specs.declared.Refusal.TheVariants.{BadCall, BadForm, BadHook, BadIncidence, BadTable, BadFile, ShortOutput}

pub cond-true : {A : Type 0} (s : Bool) (a b : A) → s ≡ true → cond s a b ≡ a
cond-true s a b e = rw e

pub cond-false : {A : Type 0} (s : Bool) (a b : A) → s ≡ false → cond s a b ≡ b
cond-false s a b e = rw e

-- a chain in a chain
pub regroup : (a b c : Option Refusal) → (a or_else b) or_else c ≡ a or_else (b or_else c)
unfolding ◌or_else◌
regroup None b c = refl
regroup (Some x) b c = refl

-- ---- the numbers that a chain can give

-- whatever o gives has a number from j to k
pub record Within (j k : ℕ) (o : Option Refusal) : Type 0 where
  pub least : (f : Refusal) → o ≡ Some f → j ≤ refusal_number f
  pub most : (f : Refusal) → o ≡ Some f → refusal_number f ≤ k

module _ (j k : ℕ) where
  pub within_test : (t : Bool) (a : Refusal) → j ≤ refusal_number a → refusal_number a ≤ k → Within j k (some_if t a)
  within_test t a g h = record {
    least = λ b e. let same = ap refusal_number (when-at t e).1 in omega arith;
    most = λ b e. let same = ap refusal_number (when-at t e).1 in omega arith;
  }

  pub within_or : (o p : Option Refusal) → Within j k o → Within j k p → Within j k (o or_else p)
  unfolding ◌or_else◌
  within_or None p f g = g
  within_or (Some x) p f g = f

  within-noted : (f : ℕ → Refusal) (s : Option ℕ) → ((v : ℕ) → (j ≤ refusal_number (f v)) × (refusal_number (f v) ≤ k)) → Within j k (noted f s)
  within-noted f None h = record { least = λ a e. absurd (some_not_none e refl); most = λ a e. absurd (some_not_none e refl) }
  within-noted f (Some v) h = record {
    least = λ a e. let same : f v ≡ a = cc in let n = ap refusal_number same in omega (arith, (h v).0);
    most = λ a e. let same : f v ≡ a = cc in let n = ap refusal_number same in omega (arith, (h v).1);
  }

  pub within_more : {i l : ℕ} {o : Option Refusal} → i ≤ j → k ≤ l → Within j k o → Within i l o
  within_more g h w = record { least = λ a e. omega (arith, w.least a e); most = λ a e. omega (arith, w.most a e) }

cycle_number : (S : Scheme) (a : Refusal) → cycle_fault S ≡ Some a → refusal_number a ≡ 5
unfolding cycle_fault
cycle_number S a e =
    let at-node = first-at _ _ a e in
    let at_i = first-at _ _ a at-node.2 in
    let at_j = first-at _ _ a at_i.2 in
    ap refusal_number (sym (when-at _ at_j.2).1)

pub bytes-within : (taken : Bool) (b : List ℕ) → Within 2 5 (bytes_fault taken b)
unfolding bytes_fault scheme_fault
bytes-within taken b = within_or 2 5 _ _ (within_test 2 5 _ BadForm (omega arith) (omega arith)) (within_or 2 5 _ _
    (within-noted 2 5 BadHook (hook_fault (scheme_of b)) (λ v. (omega arith, omega arith))) (within_or 2 5 _ _
    (within-noted 2 5 BadIncidence (incidence_fault (scheme_of b)) (λ v. (omega arith, omega arith)))
    (record {
      least = λ a e. let five = cycle_number (scheme_of b) a e in omega arith;
      most = λ a e. let five = cycle_number (scheme_of b) a e in omega arith;
    })))

pub fit_within : (E : Site) → Within 9 10 (fit_fault E)
unfolding fit_fault
fit_within E = within_or 9 10 _ _ (within_test 9 10 _ _ (omega arith) (omega arith)) (within_test 9 10 _ _ (omega arith) (omega arith))

-- ---- what an answer's number says of the chain that gave it

-- any other answer than 0 comes of a refusal
pub refused-there : (o : Option Refusal) (reply : Reply) → (number (answered reply o) ≡ 0 → ⊥) → there o ≡ true
unfolding there
refused-there None reply h = absurd (h refl)
refused-there (Some a) reply h = refl

-- a part of the chain that cannot have given the answer gave nothing
pub past : {j k : ℕ} (i : ℕ) (c o : Option Refusal) (reply : Reply) → Within j k c → (i < j) ⊎ (k < i) → number (answered reply (c or_else o)) ≡ i
    → (c ≡ None) × (number (answered reply o) ≡ i)
unfolding ◌or_else◌
past i None o reply w h e = (refl, e)
past i (Some a) o reply w h e = absurd (⊎_elim (λ l. omega (arith, w.least a refl)) (λ l. omega (arith, w.most a refl)) h)

-- refusal 1, the first of a chain, says that a size is wrong, and any other answer that all are right
module _ (s : Bool) (rest : Option Refusal) (reply : Reply) (k : ℕ) (w : Within 2 k rest) where
  pub one-wrong : number (answered reply (some_if (not s) BadCall or_else rest)) ≡ 1 → s ≡ false
  unfolding some_if ◌or_else◌
  one-wrong e = go s e
    where
      other : (o : Option Refusal) → Within 2 k o → number (answered reply o) ≡ 1 → ⊥
      other None w e = omega arith
      other (Some a) w e = omega (arith, w.least a refl)

      go : (s : Bool) → number (answered reply (some_if (not s) BadCall or_else rest)) ≡ 1 → s ≡ false
      go true e = absurd (other rest w e)
      go false e = refl

  pub other-right : (number (answered reply (some_if (not s) BadCall or_else rest)) ≡ 1 → ⊥) → s ≡ true
  unfolding some_if ◌or_else◌
  other-right h = go s h
    where
      go : (s : Bool) → (number (answered reply (some_if (not s) BadCall or_else rest)) ≡ 1 → ⊥) → s ≡ true
      go true h = refl
      go false h = absurd (h refl)

-- ---- an edit

module _ (n N : ℕ) (t store b : List ℕ) (d : Darts) where
  -- the refusals behind the first
  edit_rest : Option Refusal
  edit_rest = bytes_fault (takes d b) b or_else site_fault n (site_of N t b d)

  edit-rest : Within 2 10 edit_rest
  unfolding edit_rest site_fault
  edit-rest = within_or 2 10 _ _ (within_more 2 5 (omega arith) (omega arith) (bytes-within (takes d b) b))
      (within_or 2 10 _ _ (within_test 2 10 _ _ (omega arith) (omega arith)) (within_or 2 10 _ _ (within_test 2 10 _ _ (omega arith) (omega arith))
      (within_or 2 10 _ _ (within_test 2 10 _ _ (omega arith) (omega arith)) (within_more 9 10 (omega arith) (omega arith) (fit_within (site_of N t b d))))))

  pub refused-edit : (number (edit_answer n N t store b d) ≡ 0 → ⊥) → edit_table n N t store b d ≡ t
  unfolding edit_answer edit_table site_done
  refused-edit h = cond-true _ t (table_of (edited (site_of N t b d))) (refused-there (edit_fault n N t store b d) _ h)

  pub edit-one : number (edit_answer n N t store b d) ≡ 1 → edit_store n N t store b d ≡ store
  unfolding edit_answer edit_store edit_fault edit_fault_at edit_rest site_done
  edit-one e = cond-false (stored_ok n N t store) (zeros store) store (one-wrong (stored_ok n N t store) edit_rest _ 10 edit-rest e)

  pub edit-others : (number (edit_answer n N t store b d) ≡ 1 → ⊥) → edit_store n N t store b d ≡ zeros store
  unfolding edit_answer edit_store edit_fault edit_fault_at edit_rest site_done
  edit-others h = cond-true (stored_ok n N t store) (zeros store) store (other-right (stored_ok n N t store) edit_rest _ 10 edit-rest h)

-- ---- a count

module _ (n N : ℕ) (t store out : List ℕ) where
  -- the refusals behind the first
  count_rest : Option Refusal
  count_rest = some_if (not (well_formed n (view N t))) BadTable or_else some_if (ltb (length out) count_size) ShortOutput

  count-rest : Within 2 12 count_rest
  unfolding count_rest
  count-rest = within_or 2 12 _ _ (within_test 2 12 _ _ (omega arith) (omega arith)) (within_test 2 12 _ _ (omega arith) (omega arith))

  -- the first stands alone
  count-chain : count_fault n N t store out ≡ some_if (not (stored_ok n N t store)) BadCall or_else count_rest
  unfolding count_fault output_fault_at map_fault count_rest
  count-chain = regroup _ _ _

  pub count-one : number (count_answer n N t store out) ≡ 1 → count_store n N t store out ≡ store
  unfolding count_answer count_store
  count-one e = cond-false (stored_ok n N t store) (zeros store) store
      (one-wrong (stored_ok n N t store) count_rest Done 12 count-rest (sym (ap (λ (o : Option Refusal). number (answered Done o)) count-chain) ∙ e))

  pub count-others : (number (count_answer n N t store out) ≡ 1 → ⊥) → count_store n N t store out ≡ zeros store
  unfolding count_answer count_store
  count-others h = cond-true (stored_ok n N t store) (zeros store) store (other-right (stored_ok n N t store) count_rest Done 12 count-rest
      (λ e. h (ap (λ (o : Option Refusal). number (answered Done o)) count-chain ∙ e)))

  pub refused-count : (number (count_answer n N t store out) ≡ 0 → ⊥) → count_out n N t store out ≡ out
  unfolding count_answer count_out
  refused-count h = cond-true _ out _ (refused-there (count_fault n N t store out) Done h)

-- ---- a load

-- 11 is given where the sizes are right and the file is not in the form, and 0 where it is
load-tests : (s f : Bool) → let r = answered Done (some_if (not s) BadCall or_else some_if (not f) BadFile) in
    (number r ≡ 11 → (s ≡ true) × (f ≡ false)) × (number r ≡ 0 → (s ≡ true) × (f ≡ true))
unfolding some_if ◌or_else◌
load-tests false f = ((λ e. absurd (omega arith)), (λ e. absurd (omega arith)))
load-tests true false = ((λ e. (refl, refl)), (λ e. absurd (omega arith)))
load-tests true true = ((λ e. absurd (omega arith)), (λ e. (refl, refl)))

module _ (n N : ℕ) (t b : List ℕ) where
  pub load_one : number (load_answer n N t b) ≡ 1 → load_table n N t b ≡ t
  unfolding load_answer load_table load_fault load_fault_at
  load_one e = cond-false (sizes_ok n N t) _ t
      (one-wrong (sizes_ok n N t) _ _ 11 (within_test 2 11 (not (file_form n N b)) BadFile (omega arith) (omega arith)) e)

  pub load_eleven : number (load_answer n N t b) ≡ 11 → load_table n N t b ≡ zeros t
  unfolding load_answer load_table loaded load_fault load_fault_at
  load_eleven e = let r = (load-tests (sizes_ok n N t) (file_form n N b)).0 e in rw (r.0, r.1) refl

  -- a load that is done has found the sizes right and the file in the form, and leaves the map of the file
  pub load-done : number (load_answer n N t b) ≡ 0 → (sizes_ok n N t ≡ true) × (file_form n N b ≡ true) × (load_table n N t b ≡ table_of (file_map n N b))
  unfolding load_answer load_fault load_fault_at
  load-done e = let r = (load-tests (sizes_ok n N t) (file_form n N b)).1 e in (r.0, r.1, load-table n N t b r.0 r.1)

-- ---- a write

pub refused-write : (n N : ℕ) (t out : List ℕ) → (number (write_answer n N t out) ≡ 0 → ⊥) → write_out n N t out ≡ out
unfolding write_answer write_out
refused-write n N t out h = cond-true _ out _ (refused-there (write_fault n N t out) _ h)

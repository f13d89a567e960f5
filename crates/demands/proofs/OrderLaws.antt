-- Demand 1: each request is answered with the first refusal of its list that applies, and is done where none does.
use Prim.Native.Nat.{ℕ, ◌+◌, ◌≤◌, ◌<◌}
use mathlib.Core.Path.{◌≡◌, refl, sym, ap, ◌∙◌, subst}
use mathlib.Core.Logic.{inl, inr, ◌↔◌}
use mathlib.Core.Bool.{Bool, true, false, not, true≢false}
use Rattle.std.specs.Prelude.{Option, Some, None, Ok}
use mathlib.Core.List.{List, [], ◌∷◌}
use lib.ListN.{length}
use lib.Dec.{eqb, ltb}
use borrow.Author.Tests.{eqb-true, eq-eqb, ne_eqb, ltb-true, lt-ltb}
use native.Mathlib.Omega.{arith}
use Rattle.base.specs.First.{some_if, ◌or_else◌}
use Rattle.base.proofs.TestLaws.{and_left, and_right, and_of, same_test}
use Rattle.base.proofs.BelowLaws.{count_same}
use Rattle.base.proofs.FirstLaws.{or_else_last}
use Rattle.model.specs.Map.{Map, view}
use Rattle.model.specs.Count.{smallest, cells, all_but, all, counts}
use Rattle.model.specs.WellFormed.{WellFormed}
use Rattle.model.specs.Scheme.{in_form, scheme_of}
use Rattle.model.specs.Accepted.{Accepted}
use Rattle.model.specs.Conditions.{hook_fault, incidence_fault, cycle_fault, scheme_fault, noted}
use Rattle.model.specs.Edit.{added_darts, room_of}
use Rattle.model.specs.File.{file, file_form}
use Rattle.model.specs.Answer.{Answer, answered}
use Rattle.model.specs.Site.{Site, Sound}
use Rattle.model.specs.Calls.{sizes_ok, map_fault, table_fault, check_table, bytes_fault, check_scheme, takes, fit_fault, site_fault, site_done}
use Rattle.model.specs.Calls.{site_of, stored_ok, edit_fault_at, edit_fault, edit_answer, output_fault_at, count_size, count_fault, count_answer}
use Rattle.model.specs.Calls.{load_fault_at, load_fault, load_answer, write_fault, write_answer}
use Rattle.model.specs.Sequence.{table_check, scheme_check, edit, count, load, write, Lent}
use Rattle.model.specs.declared.Darts.{Darts}
use Rattle.model.specs.declared.Reply.{Reply}
use Rattle.model.specs.declared.Reply.TheVariants.{Done}
use Rattle.model.specs.declared.Refusal.{Refusal}
use Rattle.model.specs.declared.Refusal.TheVariants.{BadCall, BadForm, BadHook, BadIncidence, OtherDimension, BadTable, NoDart, NoMatch, NoRoom}
use Rattle.model.specs.declared.Refusal.TheVariants.{BadFile, ShortOutput}
use Rattle.model.proofs.WellFormedLaws.{well_formed_iff}
use Rattle.model.proofs.SizeLaws.{sizes_iff}
use Rattle.model.proofs.CountLaws.{smallest_iff, all_but_small}
use Rattle.model.proofs.SchemeLaws.{shaped}
use Rattle.model.proofs.AcceptedLaws.{accepted, noted-at, noted-none}
use Rattle.model.proofs.CallLaws.{darts-alone}
use Rattle.demands.specs.Refusals.{Rule, when, FirstOf, hook_rule, incidence_rule, cycle_rule, scheme_rules, Matched, Crowded, Stored, broken, rules_of}
use Rattle.demands.specs.Demands.{Returned, Cells, Numbers}
use Rattle.demands.proofs.FaultLaws.{hook-found, hook-nowhere, incidence-found, incidence-nowhere, cycle_found, cycle_nowhere}
use Rattle.demands.proofs.FaultLaws.{many_iff, taken_iff, darts_iff, orbit_of, site-one, matched_iff}
use Rattle.demands.proofs.RefusalLaws.{regroup}

-- ---- one rule of a chain

-- c gives the refusal of the rule r where it applies, and o is what comes of the rest
module _ (r : Rule) (l : List Rule) (D : Answer → Type 0) where
  order-step : (c o : Option Refusal) (reply : Reply) → ((f : Refusal) → c ≡ Some f → r f) → (c ≡ None → (f : Refusal) → r f → ⊥)
      → (c ≡ None → FirstOf l D (answered reply o)) → FirstOf (r ∷ l) D (answered reply (c or_else o))
  unfolding FirstOf ◌or_else◌
  order-step None o reply g n rest = inr (n refl, rest refl)
  order-step (Some f) o reply g n rest = inl (f, refl, g f refl)

-- the refusal f, given where P does not hold
module _ {P : Type 0} (f : Refusal) (l : List Rule) (D : Answer → Type 0) where
  order_test : (t : Bool) → (t ≡ true) ↔ P → (o : Option Refusal) (reply : Reply)
      → (P → FirstOf l D (answered reply o)) → FirstOf (when (P → ⊥) f ∷ l) D (answered reply (some_if (not t) f or_else o))
  unfolding FirstOf some_if ◌or_else◌
  order_test true i o reply r = inr ((λ g h. h.0 (i.0 refl)), r (i.0 refl))
  order_test false i o reply r = inl (f, refl, ((λ p. true≢false (sym (i.1 p))), refl))

-- the same where the test is at the end of the chain
module _ {P : Type 0} (f : Refusal) (D : Answer → Type 0) where
  order-end : (t : Bool) → (t ≡ true) ↔ P → (reply : Reply) → (P → D (Ok reply)) → FirstOf (when (P → ⊥) f ∷ []) D (answered reply (some_if (not t) f))
  unfolding FirstOf some_if
  order-end true i reply r = inr ((λ g h. h.0 (i.0 refl)), r (i.0 refl))
  order-end false i reply r = inl (f, refl, ((λ p. true≢false (sym (i.1 p))), refl))

  -- the refusal f, given where P holds
  order-found : (t : Bool) → (t ≡ true) ↔ P → (reply : Reply) → ((P → ⊥) → D (Ok reply)) → FirstOf (when P f ∷ []) D (answered reply (some_if t f))
  unfolding FirstOf some_if
  order-found true i reply r = inl (f, refl, (i.0 refl, refl))
  order-found false i reply r = let no : P → ⊥ = λ p. true≢false (sym (i.1 p)) in inr ((λ g h. no h.0), r no)

-- a test is what it says
itself : (b : Bool) → (b ≡ true) ↔ (b ≡ true)
itself b = ((λ e. e), λ e. e)

-- ---- refusals 2 to 5, before any others

module _ (b : List ℕ) (l : List Rule) (D : Answer → Type 0) (o : Option Refusal) (reply : Reply) where
  conditions_order : in_form b ≡ true → (scheme_fault (scheme_of b) ≡ None → FirstOf l D (answered reply o))
      → FirstOf (hook_rule (scheme_of b) ∷ incidence_rule (scheme_of b) ∷ cycle_rule (scheme_of b) ∷ l) D
      (answered reply (scheme_fault (scheme_of b) or_else o))
  unfolding scheme_fault ◌or_else◌
  conditions_order form r =
      let S = scheme_of b in
      subst (λ (c : Option Refusal). FirstOf (hook_rule S ∷ incidence_rule S ∷ cycle_rule S ∷ l) D (answered reply c))
      (sym (regroup (noted BadHook (hook_fault S)) (noted BadIncidence (incidence_fault S) or_else cycle_fault S) o
      ∙ ap (λ (c : Option Refusal). noted BadHook (hook_fault S) or_else c) (regroup (noted BadIncidence (incidence_fault S)) (cycle_fault S) o)))
      (order-step (hook_rule S) _ D (noted BadHook (hook_fault S)) _ reply
      (λ f e. let q = noted-at BadHook _ f e in (q.0, hook-found S (shaped b form) q.0 q.1, sym q.2))
      (λ e f g. hook-nowhere S (shaped b form) (noted-none BadHook _ e) g.0 g.1)
      (λ no_hook. order-step (incidence_rule S) _ D (noted BadIncidence (incidence_fault S)) _ reply
      (λ f e. let q = noted-at BadIncidence _ f e in (q.0, incidence-found S q.0 q.1, sym q.2))
      (λ e f g. incidence-nowhere S (noted-none BadIncidence _ e) g.0 g.1)
      (λ no_incidence. order-step (cycle_rule S) l D (cycle_fault S) o reply
      (λ f e. cycle_found S f e)
      (λ e f g. cycle_nowhere S e g.0 g.1 g.2 g.3)
      (λ no_cycle. r (rw (no_hook, no_incidence) no_cycle)))))

  -- 2 is given for bytes that are not as P asks, which is the form at least
  bytes-order : {P : Type 0} (taken : Bool) → (taken ≡ true) ↔ P → (P → in_form b ≡ true)
      → (P → Accepted (scheme_of b) → FirstOf l D (answered reply o))
      → FirstOf (scheme_rules P b l) D (answered reply (bytes_fault taken b or_else o))
  unfolding bytes_fault
  bytes-order {P} taken is form r =
      subst (λ (c : Option Refusal). FirstOf (scheme_rules P b l) D (answered reply c)) (sym (regroup _ (scheme_fault (scheme_of b)) o))
      (order_test BadForm _ D taken is _ reply
      (λ p. conditions_order (form p) (λ e. r p (accepted (scheme_of b) (shaped b (form p)) e))))

-- ---- a table check and a scheme check

module _ (n N : ℕ) (t : List ℕ) where
  -- refusals 1 and 7, before any others; `fit` says whether the sizes are as P asks
  map-order : {P : Type 0} (fit : Bool) → (fit ≡ true) ↔ P → (l : List Rule) (D : Answer → Type 0) (o : Option Refusal) (reply : Reply)
      → (WellFormed n (view N t) → FirstOf l D (answered reply o))
      → FirstOf (when (P → ⊥) BadCall ∷ broken n N t ∷ l) D (answered reply (map_fault fit n (view N t) or_else o))
  unfolding map_fault
  map-order {P} fit is l D o reply r =
      subst (λ (c : Option Refusal). FirstOf (when (P → ⊥) BadCall ∷ broken n N t ∷ l) D (answered reply c)) (sym (regroup _ _ o))
      (order_test BadCall _ D fit is _ reply (λ s. order_test BadTable l D _ (well_formed_iff n (view N t)) o reply r))

  pub table-order : (l : Lent) → FirstOf (rules_of n N t table_check l) (Returned n N t table_check) (check_table n N t)
  unfolding check_table table_fault FirstOf
  table-order l =
      subst (λ (c : Option Refusal). FirstOf (rules_of n N t table_check l) (Returned n N t table_check) (answered Done c)) (or_else_last (table_fault n N t))
      (map-order (sizes_ok n N t) (sizes_iff n N t) [] (Returned n N t table_check) None Done (λ w. refl))

  pub scheme-order : (b : List ℕ) (l : Lent) → FirstOf (rules_of n N t (scheme_check b) l) (Returned n N t (scheme_check b)) (check_scheme b)
  unfolding check_scheme FirstOf
  scheme-order b l =
      subst (λ (c : Option Refusal). FirstOf (rules_of n N t (scheme_check b) l) (Returned n N t (scheme_check b)) (answered Done c))
      (or_else_last (bytes_fault (in_form b) b))
      (bytes-order b [] (Returned n N t (scheme_check b)) None Done (in_form b) (itself (in_form b)) (λ f. f) (λ f a. refl))

  -- ---- a load

  pub load-order : (b : List ℕ) (l : Lent) → FirstOf (rules_of n N t (load b) l) (Returned n N t (load b)) (load_answer n N t b)
  unfolding load_answer load_fault load_fault_at
  load-order b l = order_test BadCall _ (Returned n N t (load b)) (sizes_ok n N t) (sizes_iff n N t) _ Done
      (λ s. order-end BadFile (Returned n N t (load b)) (file_form n N b) (itself (file_form n N b)) Done (λ f. refl))

  -- ---- a count and a write

  -- refusals 1, 7 and 12, where the output is to hold `size` numbers or bytes
  output-order : {P : Type 0} (fit : Bool) → (fit ≡ true) ↔ P → (size : ℕ) (out : List ℕ) (D : Answer → Type 0) (reply : Reply) → D (Ok reply)
      → FirstOf (when (P → ⊥) BadCall ∷ broken n N t ∷ when (length out < size) ShortOutput ∷ []) D
      (answered reply (output_fault_at fit n (view N t) size out))
  unfolding output_fault_at
  output-order fit is size out D reply d = map-order fit is _ D _ reply
      (λ w. order-found ShortOutput D (ltb (length out) size) ((λ e. ltb-true _ _ e), (λ e. lt-ltb _ _ e)) reply (λ no. d))

  pub stored_iff : (store : List ℕ) → (stored_ok n N t store ≡ true) ↔ Stored n N t store
  stored_iff store = (
    (λ e. ((sizes_iff n N t).0 (and_left _ _ e), eqb-true _ _ (and_right _ _ e))),
    (λ p. and_of ((sizes_iff n N t).1 p.0) (eq-eqb _ _ p.1)),
  )

  pub count-order : (l : Lent) → FirstOf (rules_of n N t count l) (Returned n N t count) (count_answer n N t l.store l.output)
  unfolding count_answer count_fault
  count-order l = output-order _ (stored_iff l.store) count_size l.output (Returned n N t count) Done refl

  pub write-order : (l : Lent) → FirstOf (rules_of n N t write l) (Returned n N t write) (write_answer n N t l.output)
  unfolding write_answer write_fault
  write-order l = output-order _ (sizes_iff n N t) (length (file n (view N t))) l.output (Returned n N t write) _ refl

-- ---- an edit

module _ (n N : ℕ) (t b : List ℕ) (d : Darts) (l : Lent) where
  abbrev D : Answer → Type 0
  D = Returned n N t (edit b d)

  dimension_iff : (eqb (scheme_of b).n n ≡ true) ↔ ((scheme_of b).n ≡ n)
  dimension_iff = (eqb-true _ _, eq-eqb _ _)

  -- refusals 9 and 10
  fit_order : Sound (site_of N t b d)
      → FirstOf (when (Matched N t b d → ⊥) NoMatch ∷ when (Crowded N t b d) NoRoom ∷ []) D
      (answered (site_done (site_of N t b d)) (fit_fault (site_of N t b d)))
  unfolding fit_fault site_done
  fit_order g =
      let E = site_of N t b d in
      let o = orbit_of N t b d g in
      order_test NoMatch _ D _ (matched_iff N t b d g) _ _
      (λ m. order-found NoRoom D (ltb (room_of E) (added_darts E)) (
        (λ e. record { orbit = E.orbit; is_orbit = o; few = ltb-true _ _ e }),
        (λ c. lt-ltb _ _ (subst (λ (F : Site). room_of F < added_darts F) (site-one N t b d g c.is_orbit) c.few)),
      ) _ (λ no. (E.orbit, o, refl)))

  pub edit-order : FirstOf (rules_of n N t (edit b d) l) D (edit_answer n N t l.store b d)
  unfolding edit_answer edit_fault edit_fault_at site_fault
  edit-order = order_test BadCall _ D _ (stored_iff n N t l.store) _ _
      (λ s. bytes-order b _ D _ _ (takes d b) (taken_iff d b) (λ taken. taken.0)
      (λ taken a. order_test OtherDimension _ D _ dimension_iff _ _
      (λ same. order_test BadTable _ D _ (well_formed_iff n (view N t)) _ _
      (λ w. order_test NoDart _ D _ (darts_iff N t d) _ _
      (λ p. fit_order (record {
        accepted = a;
        well = subst (λ (k : ℕ). WellFormed k (view N t)) (sym same) w;
        dart = p.0;
        other = p.1;
        alone = darts-alone d (scheme_of b) ((many_iff d (scheme_of b)).1 taken.1);
      }))))))

-- ---- the numbers of a count

-- the computed cells are the cells
cells_are : (m : Map) (k : ℕ) (dim : ℕ → ℕ) (n : ℕ) → WellFormed n m → ((p : ℕ) → p < k → dim p ≤ n) → Cells m k dim (cells m k dim)
unfolding cells
cells_are m k dim n w dims = record { smallest = smallest m k dim; is = λ x h. smallest_iff m k dim n w dims x h; many = refl }

-- and no other number of them is
pub cells-only : (m : Map) (k : ℕ) (dim : ℕ → ℕ) (n : ℕ) → WellFormed n m → ((p : ℕ) → p < k → dim p ≤ n) → {c : ℕ} → Cells m k dim c → c ≡ cells m k dim
unfolding cells
cells-only m k dim n w dims C = C.many ∙ count_same m.slots _ _ (λ x h.
    let i = smallest_iff m k dim n w dims x h in
    same_test _ _ (λ e. i.1 ((C.is x h).0 e)) (λ e. (C.is x h).1 (i.0 e)))

pub numbers_are : (n N : ℕ) (t : List ℕ) → WellFormed n (view N t) → Numbers n N t (counts n (view N t))
unfolding counts
numbers_are n N t w =
    let m = view N t in
    record {
      six = refl;
      darts = refl;
      vertices = cells_are m n (all_but 0) n w (all_but_small n 0);
      edges = cells_are m n (all_but 1) n w (all_but_small n 1);
      faces = cells_are m n (all_but 2) n w (all_but_small n 2);
      pieces = cells_are m (n + 1) all n w (λ p h. omega arith);
      volumes = λ e. rw (eq-eqb n 3 e) (cells_are m n (all_but 3) n w (all_but_small n 3));
      flat = λ e. rw (ne_eqb n 3 (λ u. absurd (omega arith))) refl;
    }

-- The customer's three demands hold of our kernel: what holds of the outcome that the definitions give holds of every outcome that is promised.
use Prim.Native.Nat.{ℕ, ◌≤◌, ◌<◌}
use mathlib.Core.Path.{◌≡◌, refl, sym, ap, ◌∙◌, subst}
use mathlib.Core.Logic.{◌↔◌}
use mathlib.Core.Bool.{true}
use Rattle.std.specs.Prelude.{Option, None}
use mathlib.Core.List.{List}
use lib.ListN.{length, get_or}
use Rattle.base.specs.First.{some_if, ◌or_else◌, there}
use Rattle.base.proofs.FirstLaws.{or_else_none}
use Rattle.model.specs.Map.{view}
use Rattle.model.specs.Scheme.{in_form, scheme_of}
use Rattle.model.specs.Accepted.{Consistent}
use Rattle.model.specs.Count.{counts}
use Rattle.model.specs.Answer.{number, answered}
use Rattle.model.specs.Calls.{check_table, bytes_fault, check_scheme, count_fault, count_answer, count_out, load_table}
use Rattle.model.specs.Sequence.{Request, table_check, scheme_check, edit, count, load, write, Lent, Outcome, outcome_of, Event, known_of, AlikeEvents}
use Rattle.model.specs.Sequence.{AlikeTables, written}
use Rattle.model.specs.declared.Refusal.{Refusal}
use Rattle.model.specs.declared.Reply.TheVariants.{Done}
use Rattle.model.proofs.AnswerLaws.{answered-free}
use Rattle.model.proofs.WellFormedLaws.{well_formed_iff}
use Rattle.model.proofs.SchemeLaws.{shaped}
use Rattle.model.proofs.AcceptedLaws.{consistent_iff}
use Rattle.model.proofs.CallLaws.{passed, output-passed}
use Rattle.model.proofs.SequenceLaws.{event_of, call-alike}
use Rattle.demands.specs.Promises.{Promised}
use Rattle.demands.specs.Ours.{ours}
use Rattle.demands.specs.Refusals.{FirstOf, rules_of}
use Rattle.demands.specs.Demands.{Returned, CountLeft, Left, Demand1, EditDone, FileAccepted, Demand2, Demand3}
use Rattle.demands.proofs.OrderLaws.{table-order, scheme-order, edit-order, count-order, load-order, write-order, numbers_are}
use Rattle.demands.proofs.RefusalLaws.{refused-edit, edit-one, edit-others, count-one, count-others, refused-count, load_one, load_eleven, refused-write}
use Rattle.demands.proofs.AdmitLaws.{no_match_lem, nine_is, free_applicable, edit-done}
use Rattle.demands.proofs.OneOutcome.{answer_of, table_of_lem, output_of}
use Rattle.demands.proofs.RunLaws.{AlikeCall, alike_runs}
use Rattle.demands.proofs.FileDemandLaws.{load-filed, write_done, written-loaded, accepted-written}

-- ---- demand 1

pub in_order_lem : (n N : ℕ) (t : List ℕ) (q : Request) (l : Lent) → FirstOf (rules_of n N t q l) (Returned n N t q) (outcome_of n N t q l).answer
in_order_lem n N t table_check l = table-order n N t l
in_order_lem n N t (scheme_check b) l = scheme-order n N t b l
in_order_lem n N t (edit b d) l = edit-order n N t b d l
in_order_lem n N t count l = count-order n N t l
in_order_lem n N t (load b) l = load-order n N t b l
in_order_lem n N t write l = write-order n N t l

-- a count that is done leaves the numbers of the map
count_left : (n N : ℕ) (t : List ℕ) (l : Lent) → CountLeft n N t l (outcome_of n N t count l)
unfolding count_fault count_answer count_out there
count_left n N t l = record {
  table = refl;
  cleared = record { after_one = count-one n N t l.store l.output; after_others = count-others n N t l.store l.output };
  refused = refused-count n N t l.store l.output;
  done = λ e. let free = answered-free Done (count_fault n N t l.store l.output) e in (
    counts n (view N t),
    numbers_are n N t ((well_formed_iff n (view N t)).0 (output-passed _ n (view N t) _ _ free).1),
    rw free refl,
  );
}

pub left : (n N : ℕ) (t : List ℕ) (q : Request) (l : Lent) → Left n N t q l (outcome_of n N t q l)
left n N t table_check l = record { table = refl; lent = refl }
left n N t (scheme_check b) l = record { table = refl; lent = refl }
left n N t (edit b d) l = record {
  refused = refused-edit n N t l.store b d;
  cleared = record { after_one = edit-one n N t l.store b d; after_others = edit-others n N t l.store b d };
  output = refl;
}
left n N t count l = count_left n N t l
left n N t (load b) l = record { after_one = load_one n N t b; after_eleven = load_eleven n N t b; done = load-filed n N t b; lent = refl }
left n N t write l = record { table = refl; store = refl; refused = refused-write n N t l.output }

pub demand1 : Demand1 ours
demand1 = record {
  order = λ n N t q l o p. subst (FirstOf (rules_of n N t q l) (Returned n N t q)) (sym (answer_of p)) (in_order_lem n N t q l);
  leaves = λ n N t q l o p. subst (Left n N t q l) (sym p) (left n N t q l);
}

-- ---- demand 2

module _ (b : List ℕ) where
  scheme-free : (in_form b ≡ true) × Consistent (scheme_of b) → bytes_fault (in_form b) b ≡ None
  unfolding bytes_fault some_if ◌or_else◌
  scheme-free p = rw (p.0, (consistent_iff (scheme_of b) (shaped b p.0)).1 p.1) refl

  scheme_iff : (number (check_scheme b) ≡ 0) ↔ ((in_form b ≡ true) × Consistent (scheme_of b))
  unfolding check_scheme bytes_fault
  scheme_iff = (
    (λ e.
        let parts = or_else_none _ _ (answered-free Done (bytes_fault (in_form b) b) e) in
        let form = passed _ _ parts.0 in
        (form, (consistent_iff (scheme_of b) (shaped b form)).0 parts.1)),
    (λ p. ap (λ (o : Option Refusal). number (answered Done o)) (scheme-free p)),
  )

-- what is written is loaded again ..
loaded_again : (n N : ℕ) (t : List ℕ) (l : Lent) (o : Outcome) → Promised n N t write l o → number o.answer ≡ 0 → ((i : ℕ) → get_or t i 0 < 4294967296)
    → (u : List ℕ) (k : Lent) (p : Outcome) → length u ≡ length t → Promised n N u (load (written write o)) k p
    → (j : Lent) (c : Outcome) → Promised n N p.table table_check j c
    → (number p.answer ≡ 0) × (number c.answer ≡ 0) × AlikeTables n N t p.table
loaded_again n N t l o w e small u k p len q j c r =
    let again = written-loaded n N t l (sym (ap number (answer_of w)) ∙ e) small u len in
    let loads : Promised n N u (load (written write (outcome_of n N t write l))) k p =
    subst (λ (x : Outcome). Promised n N u (load (written write x)) k p) w q in
    let table = table_of_lem loads in (
      ap number (answer_of loads) ∙ again.0,
      ap number (answer_of r) ∙ ap (λ (x : List ℕ). number (check_table n N x)) table ∙ again.1,
      subst (AlikeTables n N t) (sym table) again.2,
    )

-- .. and what is loaded is written again
written_again : (n N : ℕ) (t b t' : List ℕ) → FileAccepted ours n N t b t' → ((i : ℕ) → get_or b i 0 < 256) → (l : Lent) (o : Outcome)
    → length b ≤ length l.output → Promised n N t' write l o → (number o.answer ≡ 0) × (written write o ≡ b)
written_again n N t b t' a bytes l o len p =
    let table : t' ≡ load_table n N t b = sym a.leaves ∙ table_of_lem a.loads in
    let passes = sym (ap number (answer_of a.checks) ∙ ap (λ (x : List ℕ). number (check_table n N x)) table) ∙ a.passes in
    let again = accepted-written n N t b (sym (ap number (answer_of a.loads)) ∙ a.done) passes bytes l len in
    let writes : Promised n N (load_table n N t b) write l o = subst (λ (x : List ℕ). Promised n N x write l o) table p in
    (ap number (answer_of writes) ∙ again.0, ap (written write) writes ∙ again.1)

pub demand2 : Demand2 ours
demand2 = record {
  accepted = λ n N t b l o p. ((λ e. (scheme_iff b).0 (sym (ap number (answer_of p)) ∙ e)), (λ a. ap number (answer_of p) ∙ (scheme_iff b).1 a));
  no_match = λ n N t b d l o p. (
    (λ e. nine_is n N t b d l (sym (answer_of p) ∙ e)),
    (λ a. answer_of p ∙ no_match_lem n N t b d l a.0 a.1),
  );
  edits = λ n N t b d l o p a. subst (EditDone n N t b d) (sym p) (edit-done n N t b d l a);
  only_then = λ n N t b d l o p e. free_applicable n N t b d l (sym (ap number (answer_of p)) ∙ e);
  writes = λ n N t l o p h room. let w = write_done n N t l h room in (answer_of p ∙ w.0, output_of p ∙ w.1);
  written_loaded = loaded_again;
  accepted_written = written_again;
}

-- ---- demand 3

-- one call of alike maps leaves alike maps
event_alike : AlikeCall ours
event_alike n N t t' a known k e e' same p p' =
    subst (λ (o : Outcome). let f : Event = record { call = e.call; outcome = o } in AlikeEvents n N (known_of known f) f e') (sym p)
    (subst (λ (o : Outcome). AlikeEvents n N (known_of known (event_of n N t e.call)) (event_of n N t e.call) (record { call = e'.call; outcome = o }))
    (sym p') (call-alike n N t t' a known k e.call e'.call same))

pub demand3 : Demand3 ours
demand3 = record { edits = demand2; throughout = alike_runs ours event_alike }

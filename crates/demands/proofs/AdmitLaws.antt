-- Which edits are done, and what an edit that is done comes to: the tests of an edit pass just where none of its refusals applies.
use Prim.Native.Nat.{ℕ, ◌*◌, ◌≤◌, ◌<◌}
use mathlib.Core.Path.{◌≡◌, refl, sym, ap, ◌∙◌, subst}
use mathlib.Core.Logic.{◌⊎◌, inl, inr, ⊎_elim}
use mathlib.Core.Bool.{Bool, true, false, not, true≢false}
use Rattle.std.specs.Prelude.{Option, None, Ok, Err}
use mathlib.Core.List.{List}
use native.Mathlib.Omega.{arith}
use lib.ListN.{length}
use lib.Dec.{eqb, ltb}
use borrow.Author.Tests.{eqb-true, eq-eqb, ltb-false, le-ltb}
use Rattle.base.specs.Test.{◌and◌}
use Rattle.base.specs.First.{some_if, ◌or_else◌}
use Rattle.base.proofs.TestLaws.{and_left, and_right, and_of}
use Rattle.base.proofs.FirstLaws.{when-none, or_else_none}
use Rattle.model.specs.Map.{view}
use Rattle.model.specs.WellFormed.{WellFormed, well_formed}
use Rattle.model.specs.Scheme.{scheme_of}
use Rattle.model.specs.Match.{matches}
use Rattle.model.specs.Edit.{added_darts, room_of, dart_of, edited}
use Rattle.model.specs.Rewriting.{Rewriting}
use Rattle.model.specs.Answer.{refusal_number, number, answered}
use Rattle.model.specs.Site.{Site, Sound}
use Rattle.model.specs.Calls.{bytes_fault, first_dart, second_dart, takes, is_dart, fit_fault, site_fault, site_done, site_of, stored_ok}
use Rattle.model.specs.Calls.{edit_fault_at, edit_fault, edit_answer, edit_table}
use Rattle.model.specs.Sequence.{edit, Lent, Outcome, outcome_of}
use Rattle.model.specs.declared.Darts.{Darts}
use Rattle.model.specs.declared.Reply.{Reply}
use Rattle.model.specs.declared.Refusal.{Refusal}
use Rattle.model.specs.declared.Refusal.TheVariants.{NoMatch, NoRoom}
use Rattle.model.proofs.AnswerLaws.{answered-free}
use Rattle.model.proofs.SizeLaws.{sizes_iff}
use Rattle.model.proofs.WellFormedLaws.{well_formed_iff}
use Rattle.model.proofs.SchemeLaws.{shaped}
use Rattle.model.proofs.AcceptedLaws.{consistent_iff}
use Rattle.model.proofs.EditLaws.{Ready}
use Rattle.model.proofs.RewritingLaws.{rewriting}
use Rattle.model.proofs.RewritingOnce.{edit-once}
use Rattle.model.proofs.CallLaws.{passed, darts-alone, ready, edit-table}
use Rattle.model.proofs.HoldsLaws.{edit-holds}
use Rattle.demands.specs.Refusals.{Orbit, site_over, Matched}
use Rattle.demands.specs.Demands.{done_at, Admitted, Applicable, EditDone}
use Rattle.demands.proofs.FaultLaws.{many_iff, taken_iff, darts_iff, orbit_of, site-one, matched_iff}
use Rattle.demands.proofs.RefusalLaws.{within_test, bytes-within, past}

-- refusal 9 comes before 10
missed : (s r : Bool) (reply : Reply) → (s ≡ true → ⊥) → answered reply (some_if (not s) NoMatch or_else some_if r NoRoom) ≡ Err NoMatch
unfolding some_if ◌or_else◌
missed true r reply f = absurd (f refl)
missed false r reply f = refl

module _ (n N : ℕ) (t b : List ℕ) (d : Darts) (l : Lent) where
  abbrev E : Site
  E = site_of N t b d

  abbrev store : List ℕ
  store = l.store

  -- where none of 1 to 8 applies, 9 and 10 are left
  admitted-fault : Admitted n N t store b d → edit_fault n N t store b d ≡ fit_fault E
  unfolding edit_fault edit_fault_at site_fault bytes_fault some_if ◌or_else◌
  admitted-fault a = rw (
    and_of ((sizes_iff n N t).1 a.sizes) (eq-eqb (length store) (16 * N) a.stored),
    (taken_iff d b).1 (a.form, a.many),
    (consistent_iff (scheme_of b) (shaped b a.form)).1 a.consistent,
    eq-eqb (scheme_of b).n n a.dimension,
    (well_formed_iff n (view N t)).1 a.well,
    (darts_iff N t d).1 (a.dart, a.other),
  )

  -- an answer that no refusal from 1 to 8 has says that none of them applies
  module _ (k : ℕ) (far : (k ≡ 0) ⊎ (8 < k)) (reply : Reply) where
    beside : (j : ℕ) → 1 ≤ j → j ≤ 8 → (k < j) ⊎ (j < k)
    beside j g h = ⊎_elim (λ e. inl (omega arith)) (λ l. inr (omega arith)) far

    -- one test of the chain
    by_test : (s : Bool) (a : Refusal) (o : Option Refusal) → 1 ≤ refusal_number a → refusal_number a ≤ 8
        → number (answered reply (some_if (not s) a or_else o)) ≡ k → (s ≡ true) × (number (answered reply o) ≡ k)
    by_test s a o g h e =
        let within = within_test (refusal_number a) (refusal_number a) (not s) a (omega arith) (omega arith) in
        let p = past k (some_if (not s) a) o reply within (beside (refusal_number a) g h) e in
        (passed s a p.0, p.1)

    admitted-by : number (answered reply (edit_fault n N t store b d)) ≡ k
        → Admitted n N t store b d × (number (answered reply (fit_fault E)) ≡ k)
    unfolding edit_fault edit_fault_at site_fault bytes_fault
    admitted-by e =
        let p1 = by_test (stored_ok n N t store) _ _ (omega arith) (omega arith) e in
        let p2 = past k (bytes_fault (takes d b) b) _ reply (bytes-within (takes d b) b)
        (⊎_elim (λ z. inl (omega arith)) (λ l. inr (omega arith)) far) p1.1 in
        let bytes = or_else_none _ _ p2.0 in
        let taken = (taken_iff d b).0 (passed _ _ bytes.0) in
        let p6 = by_test (eqb (scheme_of b).n n) _ _ (omega arith) (omega arith) p2.1 in
        let p7 = by_test (well_formed n (view N t)) _ _ (omega arith) (omega arith) p6.1 in
        let p8 = by_test (is_dart (view N t) (first_dart d) and is_dart (view N t) (second_dart d)) _ _ (omega arith) (omega arith) p7.1 in
        let darts = (darts_iff N t d).0 p8.0 in (
          record {
            sizes = (sizes_iff n N t).0 (and_left _ _ p1.0);
            stored = eqb-true _ _ (and_right _ _ p1.0);
            form = taken.0;
            many = taken.1;
            consistent = (consistent_iff (scheme_of b) (shaped b taken.0)).0 bytes.1;
            dimension = eqb-true _ _ p6.0;
            well = (well_formed_iff n (view N t)).0 p7.0;
            dart = darts.0;
            other = darts.1;
          },
          p8.1,
        )

  module _ (a : Admitted n N t store b d) where
    pub sound : Sound E
    sound = record {
      accepted = record { shaped = shaped b a.form; consistent = a.consistent };
      well = subst (λ (k : ℕ). WellFormed k (view N t)) (sym a.dimension) a.well;
      dart = a.dart;
      other = a.other;
      alone = darts-alone d (scheme_of b) ((many_iff d (scheme_of b)).1 a.many);
    }

    -- the laws of the match at these darts
    is-matched : matches E ≡ true → Matched N t b d
    is-matched = (matched_iff N t b d sound).0

    matched-is : Matched N t b d → matches E ≡ true
    matched-is = (matched_iff N t b d sound).1

    one-site : {O : ℕ → Bool} → Orbit N t b d O → site_over N t b d O ≡ E
    one-site = site-one N t b d sound

    -- no match is refusal 9
    pub no_match_lem : (Matched N t b d → ⊥) → edit_answer n N t store b d ≡ Err NoMatch
    unfolding edit_answer fit_fault
    no_match_lem never = rw (admitted-fault a) (missed (matches E) _ _ (λ m. never (is-matched m)))

  -- and refusal 9 is no match
  pub nine_is : edit_answer n N t store b d ≡ Err NoMatch → Admitted n N t store b d × (Matched N t b d → ⊥)
  unfolding edit_answer fit_fault site_done some_if ◌or_else◌
  nine_is e =
      let p = admitted-by 9 (inr (omega arith)) _ (ap number e) in (
        p.0,
        λ m. fits (ltb (room_of E) (added_darts E)) _ _ (matched-is p.0 m) p.1,
      )
    where
      fits : (r s : Bool) (reply : Reply) → s ≡ true → number (answered reply (some_if (not s) NoMatch or_else some_if r NoRoom)) ≡ 9 → ⊥
      fits true true reply m e = omega arith
      fits false true reply m e = omega arith
      fits r false reply m e = true≢false (sym m)

  -- ---- an edit that is done

  -- there is room for the added darts
  abbrev Roomy : Site → Type 0
  Roomy F = added_darts F ≤ room_of F

  pub applicable_free : Applicable n N t store b d → edit_fault n N t store b d ≡ None
  unfolding fit_fault some_if ◌or_else◌
  applicable_free a = admitted-fault a.admitted ∙ rw (
    matched-is a.admitted a.match,
    le-ltb (room_of E) (added_darts E)
        (subst Roomy (one-site a.admitted a.match.is_orbit) a.room),
  )

  pub free_applicable : number (edit_answer n N t store b d) ≡ 0 → Applicable n N t store b d
  unfolding edit_answer fit_fault site_done
  free_applicable e =
      let p = admitted-by 0 (inl refl) _ e in
      let free = or_else_none _ _ (answered-free _ _ p.1) in
      let m = is-matched p.0 (passed _ _ free.0) in
      record {
        admitted = p.0;
        match = m;
        room = subst Roomy (sym (one-site p.0 m.is_orbit))
            (ltb-false (room_of E) (added_darts E) (when-none _ NoRoom free.1));
      }

  module _ (a : Applicable n N t l.store b d) where
    at : Ready E
    at = ready n N t store b d (applicable_free a)

    done-answer : edit_answer n N t store b d ≡ Ok (site_done E)
    unfolding edit_answer
    done-answer = ap (λ (o : Option Refusal). answered (site_done E) o) (applicable_free a)

    pub edit-done : EditDone n N t b d (outcome_of n N t (edit b d) l)
    unfolding site_done
    edit-done = record {
      orbit = E.orbit;
      is_orbit = orbit_of N t b d (sound a.admitted);
      new = edited E;
      dart = dart_of E;
      rewriting = rewriting at;
      table = edit-table n N t store b d (applicable_free a);
      answer = done-answer;
      well = edit-holds n N t store b d (applicable_free a);
    }

    -- and what demand 2 says of an edit is all of it: it has our answer and our table
    pub done-is : (o : Outcome) → EditDone n N t b d o → (o.answer ≡ edit_answer n N t store b d) × (o.table ≡ edit_table n N t store b d)
    unfolding site_done
    done-is o e =
        let same : site_over N t b d e.orbit ≡ E = one-site a.admitted e.is_orbit in
        let own : Rewriting E e.new e.dart = subst (λ (F : Site). Rewriting F e.new e.dart) same e.rewriting in (
          e.answer ∙ ap done_at same ∙ sym done-answer,
          e.table ∙ edit-once at own ∙ sym (edit-table n N t store b d (applicable_free a)),
        )

-- The stages of an edit, refusal by refusal.
use Prim.Native.Nat.{ℕ}
use mathlib.Core.Path.{◌≡◌, refl, sym, ap, ◌∙◌, subst}
use mathlib.Core.Logic.{by_cases}
use mathlib.Core.Bool.{Bool, true, false, not}
use Rattle.std.specs.Prelude.{Some, None, Ok, Err}
use mathlib.Core.List.{List}
use native.Mathlib.Decide.{ℕ_discrete}
use native.Mathlib.Omega.{arith}
use lib.ListN.{length}
use borrow.Author.Tests.{eqb-true, eqb-false, eq-eqb, ne_eqb, ltb-true, ltb-false, lt-ltb, le-ltb, not-true}
use Rattle.base.specs.First.{some_if, ◌or_else◌, there}
use Rattle.base.specs.Test.{◌and◌}
use Rattle.base.proofs.TestLaws.{same_test}
use Rattle.base.proofs.ListLaws.{length-list}
use Rattle.model.specs.Answer.{Answer}
use Rattle.model.specs.Map.{view}
use Rattle.model.specs.Scheme.{left, right, in_form, words_of, scheme_of, has_second}
use Rattle.model.specs.Conditions.{scheme_fault}
use Rattle.model.specs.Twice.{twice_of}
use Rattle.model.specs.Accepted.{Accepted}
use Rattle.model.specs.Shaped.{Shaped}
use Rattle.model.specs.Site.{site_at}
use Rattle.model.specs.Calls.{zeros, bytes_fault, check_scheme, first_dart, second_dart, as_many, takes, stored_ok}
use Rattle.model.specs.Calls.{edit_fault_at, edit_fault, edit_answer, edit_table, edit_store}
use Rattle.model.specs.declared.Scheme.{Scheme}
use Rattle.model.specs.declared.Darts.{Darts}
use Rattle.model.specs.declared.Darts.TheVariants.{One, Two}
use Rattle.model.specs.declared.Reply.TheVariants.{Done}
use Rattle.model.specs.declared.Refusal.{Refusal}
use Rattle.model.specs.declared.Refusal.TheVariants.{BadCall, BadForm}
use Rattle.model.proofs.SchemeLaws.{shaped}
use Rattle.model.proofs.CallLaws.{bytes-accepted, bytes-many, darts-alone}
use Rattle.scheme.specs.Reading.{reading}
use Rattle.scheme.specs.declared.Reading.{Reading}
use Rattle.scheme.proofs.ReadLaws.{formed-read}
use Rattle.demands.specs.Promises.{SchemeChecked, MapEdited}
use Rattle.demands.proofs.OneOutcome.{same_outcome}
use Rattle.edit.specs.Apply.{AppliedAt}
use Rattle.edit.proofs.SiteLaws.{refused}
use Rattle.kernel.specs.Stages.{many_by, Staged}

-- ---- the scheme's bytes

module _ (b : List ℕ) (r : Reading) (e : Some r ≡ reading b) where
  pub form-good : in_form b ≡ true
  form-good = (formed-read b e).0

  pub read-scheme : r.scheme ≡ scheme_of b
  read-scheme = ap (λ (x : Reading). x.scheme) (formed-read b e).1

  pub read-shaped : Shaped r.scheme
  read-shaped = rw read-scheme (shaped b form-good)

  pub long-words : length r.scheme.lwords ≡ 64
  unfolding scheme_of words_of
  long-words = rw read-scheme (length-list 64 _)

  pub left-twice : r.ltwice ≡ twice_of r.scheme left
  left-twice = rw (formed-read b e).1 refl

  pub right-twice : r.rtwice ≡ twice_of r.scheme right
  right-twice = rw (formed-read b e).1 refl

-- refusals 2 to 5, where `taken` says whether the call takes the bytes
pub form-refused : (taken : Bool) (b : List ℕ) → taken ≡ false → bytes_fault taken b ≡ Some BadForm
unfolding bytes_fault some_if ◌or_else◌
form-refused taken b e = rw e

pub form_judged : (taken : Bool) (b : List ℕ) (S : Scheme) → taken ≡ true → S ≡ scheme_of b → bytes_fault taken b ≡ scheme_fault S
unfolding bytes_fault some_if ◌or_else◌
form_judged taken b S e s = rw (e, s)

-- ---- the darts

-- the number of hooks is tested by the second hook
many_by_lem : (D : Darts) (S : Scheme) → many_by D S.second ≡ as_many D S
many_by_lem (One d) S = same_test _ _
    (λ e. ap not (le-ltb 0 S.second (omega (arith, eqb-true S.second 0 e))))
    (λ e. eq-eqb S.second 0 (omega (arith, ltb-false 0 S.second (not-true _ e))))
many_by_lem (Two d e) S = same_test _ _
    (λ q. let ne = eqb-false S.second 0 (not-true _ q) in
    by_cases (ℕ_discrete S.second 0) (λ z. absurd (ne z)) (λ z. lt-ltb 0 S.second (omega arith)))
    (λ q. let some = ltb-true 0 S.second q in ap not (ne_eqb S.second 0 (λ z. absurd (omega arith))))

-- so what is read of the bytes tells whether the call takes them
pub taken_is : (D : Darts) (b : List ℕ) (r : Reading) → Some r ≡ reading b → (q : Bool) → q ≡ many_by D r.scheme.second → q ≡ takes D b
unfolding ◌and◌
taken_is D b r e q m = m ∙ many_by_lem D r.scheme ∙ ap (as_many D) (read-scheme b r e) ∙ rw (form-good b r e) refl

pub taken-not : (D : Darts) (b : List ℕ) → in_form b ≡ false → takes D b ≡ false
unfolding ◌and◌
taken-not D b e = rw e refl

-- ---- all stages

module _ (n N : ℕ) (t b : List ℕ) (D : Darts) where
  pub stage_refused : {f : Refusal} → bytes_fault (takes D b) b ≡ Some f → Staged n N t b D (Err f) t
  unfolding ◌or_else◌
  stage_refused e = refused (rw e refl)

  pub stage_on : {S : Scheme} {d e : ℕ} {r : Answer} {t' : List ℕ} → bytes_fault (takes D b) b ≡ None → S ≡ scheme_of b
      → d ≡ first_dart D → e ≡ second_dart D → AppliedAt n (site_at (view N t) S d e) t r t' → Staged n N t b D r t'
  unfolding ◌or_else◌
  stage_on {S} {d} {e} {r} {t'} f s p q a =
      rw f (subst (λ (x : Scheme). AppliedAt n (site_at (view N t) x (first_dart D) (second_dart D)) t r t') s
      (subst (λ (x : ℕ). AppliedAt n (site_at (view N t) S x (second_dart D)) t r t') p
      (subst (λ (x : ℕ). AppliedAt n (site_at (view N t) S d x) t r t') q a)))

-- bytes with no fault are an accepted scheme's, and one with a single hook is for one dart
module _ (D : Darts) (b : List ℕ) (S : Scheme) (f : bytes_fault (takes D b) b ≡ None) (s : S ≡ scheme_of b) where
  pub no_fault_accepted : Accepted S
  no_fault_accepted = subst Accepted (sym s) (bytes-accepted D b f)

  pub no_fault_alone : {d e : ℕ} → d ≡ first_dart D → e ≡ second_dart D → has_second S ≡ false → e ≡ d
  no_fault_alone p q h = q ∙ darts-alone D S (subst (λ (x : Scheme). as_many D x ≡ true) (sym s) (bytes-many D b f)) h ∙ sym p

-- ---- the calls

module _ (b : List ℕ) where
  pub scheme-refused : {f : Refusal} → bytes_fault (in_form b) b ≡ Some f → SchemeChecked b (Err f)
  unfolding check_scheme
  scheme-refused e = same_outcome (rw e refl) refl refl refl

  pub scheme-done : bytes_fault (in_form b) b ≡ None → SchemeChecked b (Ok Done)
  unfolding check_scheme
  scheme-done e = same_outcome (rw e refl) refl refl refl

module _ (n N : ℕ) (t store b : List ℕ) (d : Darts) where
  pub edit_unfit : stored_ok n N t store ≡ false → MapEdited n N t store b d (Err BadCall) t store
  unfolding edit_answer edit_table edit_store edit_fault edit_fault_at some_if ◌or_else◌ there
  edit_unfit e = same_outcome (rw e refl) (rw e refl) (rw e refl) refl

  pub edit_staged : stored_ok n N t store ≡ true → (r : Answer) (t' store' : List ℕ) → Staged n N t b d r t' → store' ≡ zeros store
      → MapEdited n N t store b d r t' store'
  unfolding edit_answer edit_table edit_store edit_fault edit_fault_at some_if ◌or_else◌
  edit_staged q r t' store' s z = same_outcome (s.answer ∙ rw q refl) (s.table ∙ rw q refl) (z ∙ rw q refl) refl

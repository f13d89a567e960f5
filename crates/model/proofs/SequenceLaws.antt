-- Demand 3 for one call: alike maps answer alike and stay alike, and where both are known to be well-formed they are. specs/Sequence.antt has its words
-- as definitions.
use Prim.Native.Nat.{ℕ}
use mathlib.Core.Path.{◌≡◌, refl, sym, ap, ◌∙◌, subst}
use mathlib.Core.Logic.{⊎_elim}
use mathlib.Core.Bool.{Bool, true, true≢false}
use mathlib.Core.List.{List}
use lib.ListN.{length}
use lib.Dec.{eqb}
use borrow.Author.Tests.{eqb-true}
use Rattle.base.specs.Test.{◌or◌}
use Rattle.base.proofs.TestLaws.{or_cases}
use Rattle.model.specs.Map.{view}
use Rattle.model.specs.Alike.{Alike}
use Rattle.model.specs.Answer.{number}
use Rattle.model.specs.Calls.{check_table}
use Rattle.model.specs.Sequence.{AlikeTables, BothHold, Request, table_check, scheme_check, edit, count, load, write, Lent, Call, SameCall}
use Rattle.model.specs.Sequence.{outcome_of, outcome}
use Rattle.model.specs.Sequence.{known_after, Event, known_of, AlikeEvents}
use Rattle.model.proofs.HoldsLaws.{holds_iff, holds_slotted, edit-kept}
use Rattle.model.proofs.AlikeCalls.{same_check, same-edit, edit-alike, same_count, same_numbers, same_load, load-alike, same_write, same-written}

-- well-formed maps that are alike are alike tables
pub alike-tables : (n N : ℕ) (t t' : List ℕ) → BothHold n N t t' → Alike (view N t) (view N t') → AlikeTables n N t t'
alike-tables n N t t' h a = record { one = holds_slotted n N t h.one; other = holds_slotted n N t' h.other; alike = a }

-- a call with the outcome that the definitions give
abbrev pub event_of : ℕ → ℕ → List ℕ → Call → Event
event_of n N t c = record { call = c; outcome = outcome n N t c }

module _ (n N : ℕ) (t t' : List ℕ) (a : AlikeTables n N t t') (known : Bool) (k : known ≡ true → BothHold n N t t') where
  -- a table check that answers 0 has found both well-formed
  check_well : (known or eqb (number (check_table n N t)) 0) ≡ true → BothHold n N t t'
  check_well e = ⊎_elim k (λ z. let zero = eqb-true _ _ z in record {
    one = (holds_iff n N t).1 zero;
    other = (holds_iff n N t').1 (sym (ap number (same_check n N t t' a)) ∙ zero);
  }) (or_cases _ _ e)

  request-alike : (r : Request) (l l' : Lent) → length l.store ≡ length l'.store → length l.output ≡ length l'.output
      → AlikeEvents n N (known_after known r (outcome_of n N t r l).answer)
      (record { call = record { request = r; lent = l }; outcome = outcome_of n N t r l })
      (record { call = record { request = r; lent = l' }; outcome = outcome_of n N t' r l' })
  request-alike table_check l l' e o = record { tables = a; answers = same_check n N t t' a; files = refl; well = check_well }
  request-alike (scheme_check b) l l' e o = record { tables = a; answers = refl; files = refl; well = k }
  request-alike (edit b d) l l' e o = record {
    tables = edit-alike n N t t' a l.store l'.store e b d;
    answers = same-edit n N t t' a l.store l'.store e b d;
    files = refl;
    well = λ s. record { one = edit-kept n N t l.store b d (k s).one; other = edit-kept n N t' l'.store b d (k s).other };
  }
  request-alike count l l' e o = record {
    tables = a;
    answers = same_count n N t t' a l l' e o;
    files = same_numbers n N t t' a l l' e o;
    well = k;
  }
  request-alike (load b) l l' e o = record {
    tables = load-alike n N t t' a b;
    answers = same_load n N t t' a b;
    files = refl;
    well = λ s. absurd (true≢false (sym s));
  }
  request-alike write l l' e o = record { tables = a; answers = same_write n N t t' a l l' o; files = same-written n N t t' a l l' o; well = k }

  pub call-alike : (c c' : Call) → SameCall c c' → AlikeEvents n N (known_of known (event_of n N t c)) (event_of n N t c) (event_of n N t' c')
  call-alike c c' s = subst (λ (r : Request). AlikeEvents n N (known_of known (event_of n N t c))
      (record { call = c; outcome = outcome_of n N t c.request c.lent })
      (record { call = record { request = r; lent = c'.lent }; outcome = outcome_of n N t' r c'.lent }))
      s.request (request-alike c.request c.lent c'.lent s.stores s.outputs)

-- Opening a map file step by step: the n and N that it names, its load, the check, and what the table holds.
use Prim.Native.Nat.{ℕ, ◌≤◌, ◌<◌}
use mathlib.Core.Path.{◌≡◌, refl, sym, ap, ap₂, ◌∙◌, subst}
use mathlib.Core.Logic.{by_cases}
use mathlib.Core.Bool.{Bool, true, false, cond}
use mathlib.Core.List.{List, ◌++◌}
use native.Mathlib.Decide.{ℕ_discrete}
use native.Mathlib.Omega.{arith}
use lib.Dec.{eqb, leb}
use lib.ListN.{length, take, drop, length-replicate}
use lib.Seq.{length-take-le, take_at}
use borrow.Author.Tests.{le-leb, lt-leb, leb-true, eq-eqb, ne_eqb, eqb-false}
use Rattle.std.specs.Prelude.{Result, Ok, Err}
use Rattle.base.specs.Test.{◌and◌, ◌or◌}
use Rattle.base.specs.Digits.{number_at}
use Rattle.base.proofs.TestLaws.{and_of, and_no_left, and_no_right}
use Rattle.model.specs.Answer.{Answer, number, answered}
use Rattle.model.specs.Map.{table_size, max_slots}
use Rattle.model.specs.Calls.{check_table, load_fault_at, load_fault, load_answer, load_table}
use Rattle.model.specs.declared.Reply.TheVariants.{Done}
use Rattle.model.specs.declared.Refusal.{Refusal}
use Rattle.model.specs.declared.Refusal.TheVariants.{BadCall, BadFile}
use Rattle.model.proofs.AnswerLaws.{number_bounds}
use Rattle.model.proofs.HoldsLaws.{table-length, load_slotted}
use Rattle.demands.specs.Promises.{TableChecked, FileLoaded}
use Rattle.demands.proofs.OneOutcome.{answer_of, table_of_lem}
use Rattle.demands.proofs.RefusalLaws.{load-done}
use Rattle.program.specs.Opening.{most_slots, empty_table, file_dimension, file_slots, file_loaded, file_table, open_answer, open_table}
use Rattle.program.specs.Opening.{Named, MapOpen, OpenedAs}
use Rattle.program.specs.declared.opening.Opened.{Opened}

-- ---- a load asks for no more of a table than its length

module _ (n N : ℕ) (t u b : List ℕ) (e : length t ≡ length u) where
  load_as : load_answer n N t b ≡ load_answer n N u b
  unfolding load_answer load_fault
  load_as =
      ap (λ (k : ℕ). answered Done (load_fault_at ((eqb n 2 or eqb n 3) and leb 1 N and leb N max_slots and eqb k (table_size N)) n N b)) e

  -- what it leaves if it is done
  table_as : number (load_answer n N t b) ≡ 0 → load_table n N t b ≡ load_table n N u b
  table_as z = (load-done n N t b z).2 ∙ sym (load-done n N u b (ap number (sym load_as) ∙ z)).2

-- ---- n and N

pub named_of : (f : List ℕ) (n N : ℕ) → 3 ≤ length f → n ≡ number_at 1 f 0 → N ≡ number_at 2 f 1 → Named f n N
unfolding number_at file_dimension file_slots
named_of f n N h e g = record { long = h; dimension = rw e (omega arith); slots = g }

-- ---- the answer, case by case

module _ (f : List ℕ) where
  pub short-answer : length f < 3 → open_answer f ≡ Err BadFile
  unfolding open_answer
  short-answer h = rw (lt-leb 3 (length f) h) refl

  module _ (long : 3 ≤ length f) (few : file_slots f ≤ most_slots) where
    -- a map that is not loaded is not checked
    refused-answer : (number (file_loaded f) ≡ 0 → ⊥) → open_answer f ≡ file_loaded f
    unfolding open_answer
    refused-answer ne = rw (le-leb 3 (length f) long, le-leb (file_slots f) most_slots few, ne_eqb _ _ ne) refl

    checked-answer : number (file_loaded f) ≡ 0 → open_answer f ≡ check_table (file_dimension f) (file_slots f) (file_table f)
    unfolding open_answer
    checked-answer z = rw (le-leb 3 (length f) long, le-leb (file_slots f) most_slots few, eq-eqb _ _ z) refl

module _ (f : List ℕ) (n N : ℕ) (named : Named f n N) where
  -- ---- the map is loaded in a table for its slots, and checked

  module _ (t : List ℕ) (sized : length t ≡ table_size N) where
    blank-long : length t ≡ length (empty_table N)
    blank-long = sized ∙ sym (length-replicate (table_size N) 0)

    load-file : load_answer n N t f ≡ file_loaded f
    unfolding file_loaded
    load-file =
        load_as n N t (empty_table N) f blank-long
        ∙ ap₂ (λ (i j : ℕ). load_answer i j (empty_table j) f) named.dimension named.slots

    pub table-file : number (file_loaded f) ≡ 0 → load_table n N t f ≡ file_table f
    unfolding file_table
    table-file z =
        table_as n N t (empty_table N) f blank-long (ap number load-file ∙ z)
        ∙ ap₂ (λ (i j : ℕ). load_table i j (empty_table j) f) named.dimension named.slots

    module _ (few : N ≤ most_slots) (r : Answer) (t' : List ℕ) (x : FileLoaded n N t f r t') where
      few-file : file_slots f ≤ most_slots
      few-file = rw (← named.slots) few

      answer-file : r ≡ file_loaded f
      answer-file = answer_of x ∙ load-file

      pub load-refused : (number r ≡ 0 → ⊥) → r ≡ open_answer f
      load-refused ne = answer-file ∙ sym (refused-answer f named.long few-file (λ z. ne (ap number answer-file ∙ z)))

      pub load-checked : (c : Answer) → number r ≡ 0 → TableChecked n N t' c → c ≡ open_answer f
      load-checked c z y =
          let zero : number (file_loaded f) ≡ 0 = ap number (sym answer-file) ∙ z in
          let checked : check_table n N t' ≡ check_table (file_dimension f) (file_slots f) (file_table f) =
          ap (check_table n N) (table_of_lem x ∙ table-file zero)
          ∙ ap₂ (λ (i j : ℕ). check_table i j (file_table f)) named.dimension named.slots in
          answer_of y ∙ checked ∙ sym (checked-answer f named.long few-file zero)

  -- ---- the table

  -- more slots than a table has
  pub many-answer : most_slots < N → open_answer f ≡ Err BadCall
  unfolding open_answer
  many-answer h =
      let over : leb (file_slots f) most_slots ≡ false = lt-leb (file_slots f) most_slots (omega (arith, named.slots)) in
      rw (le-leb 3 (length f) named.long, over) refl

  pub many-table : (t : List ℕ) → most_slots < N → t ≡ open_table f t
  unfolding open_table
  many-table t h =
      let over : leb (file_slots f) most_slots ≡ false = lt-leb (file_slots f) most_slots (omega (arith, named.slots)) in
      rw (and_no_right (leb 3 (length f)) over) refl

  pub taken-table : (t p : List ℕ) (w : ℕ) → N ≤ most_slots → w ≡ table_size N → p ≡ load_table n N (take w t) f → p ++ drop w t ≡ open_table f t
  unfolding open_table
  taken-table t p w h e g =
      let few : leb (file_slots f) most_slots ≡ true = le-leb (file_slots f) most_slots (omega (arith, named.slots)) in
      rw (and_of (le-leb 3 (length f) named.long) few, g, e, ← named.dimension, ← named.slots) refl

pub short-table : (f t : List ℕ) → length f < 3 → t ≡ open_table f t
unfolding open_table
short-table f t h = rw (and_no_left (leb (file_slots f) most_slots) (lt-leb 3 (length f) h)) refl

-- ---- if the map is open

-- a file that is not refused has passed the check
pub open_checked : (f : List ℕ) → number (open_answer f) ≡ 0 → number (check_table (file_dimension f) (file_slots f) (file_table f)) ≡ 0
unfolding open_answer
open_checked f z = go (leb 3 (length f)) (leb (file_slots f) most_slots) (eqb (number (file_loaded f)) 0)
    (check_table (file_dimension f) (file_slots f) (file_table f)) (file_loaded f) (eqb-false (number (file_loaded f)) 0) z
  where
    go : (long few done : Bool) (c l : Answer) → (done ≡ false → number l ≡ 0 → ⊥)
        → number (cond long (cond few (cond done c l) (Err BadCall)) (Err BadFile)) ≡ 0 → number c ≡ 0
    go true true true c l ne z = z
    go true true false c l ne z = absurd (ne refl z)
    go true false done c l ne z = absurd (omega (arith, z))
    go false few done c l ne z = absurd (omega (arith, z))

-- and names no more slots than the programs take
pub open_few : (f : List ℕ) → number (open_answer f) ≡ 0 → file_slots f ≤ most_slots
unfolding open_answer
open_few f z = go (leb 3 (length f)) (leb (file_slots f) most_slots) _ (leb-true (file_slots f) most_slots) z
  where
    go : (long few : Bool) (c : Answer) → (few ≡ true → file_slots f ≤ most_slots) → number (cond long (cond few c (Err BadCall)) (Err BadFile)) ≡ 0
        → file_slots f ≤ most_slots
    go true true c h z = h refl
    go true false c h z = absurd (omega (arith, z))
    go false few c h z = absurd (omega (arith, z))

module _ (f : List ℕ) (n N : ℕ) (m : MapOpen f n N) where
  open_loaded : number (file_loaded f) ≡ 0
  open_loaded = by_cases (ℕ_discrete (number (file_loaded f)) 0) (λ z. z)
      (λ ne. absurd (ne (ap number (sym (refused-answer f m.named.long (rw (← m.named.slots) m.few) ne)) ∙ m.done)))

  pub open_long : length (file_table f) ≡ table_size N
  open_long =
      let blank : length (empty_table N) ≡ table_size N = length-replicate (table_size N) 0 in
      let sizes = (load-done n N (empty_table N) f (ap number (load-file f n N m.named (empty_table N) blank) ∙ open_loaded)).0 in
      ap length (sym (table-file f n N m.named (empty_table N) blank open_loaded))
      ∙ table-length n N (load_table n N (empty_table N) f) (load_slotted n N (empty_table N) f sizes).sizes

  -- the map's table is at the start, whatever the table held before
  pub open_words : (t : List ℕ) → length t ≡ table_size most_slots → take (table_size N) (open_table f t) ≡ file_table f
  open_words t e =
      let part = take (table_size N) t in
      let sized : length part ≡ table_size N = length-take-le (table_size N) t (omega (arith, e, m.few)) in
      let left = load_table n N part f in
      let same : left ≡ file_table f = table-file f n N m.named part sized open_loaded in
      ap (take (table_size N)) (sym (taken-table f n N m.named t left (table_size N) m.few refl refl))
      ∙ take_at left (drop (table_size N) t) (table_size N) (ap length same ∙ open_long) ∙ same

-- ---- what a file was found to be

pub open_of : (f g : List ℕ) (r : Result Opened Refusal) (map : Opened) → f ≡ g → r ≡ Ok map → OpenedAs f r → MapOpen g map.n map.slots
open_of f g r map e h x = subst (λ (l : List ℕ). MapOpen l map.n map.slots) e (subst (OpenedAs f) h x)

-- the number k of the refusal is that of the answer
pub refused_of : (f g : List ℕ) (r : Result Opened Refusal) (e : Refusal) (k : ℕ) → f ≡ g → r ≡ Err e → OpenedAs f r → k ≡ number (Err e)
    → (k ≡ number (open_answer g)) × (k ≡ 0 → ⊥)
refused_of f g r e k s h x q = (
  q ∙ ap number (sym (subst (λ (l : List ℕ). OpenedAs l (Err e)) s (subst (OpenedAs f) h x))),
  λ z. omega (arith, (number_bounds e).0),
)

-- A map of the report: its line, the sums with its counts, and what it leaves in table and store. The sums cannot overflow.
use Prim.Native.Nat.{ℕ, ◌+◌, ◌*◌, ◌≤◌}
use mathlib.Core.Path.{◌≡◌, refl, ap, ◌∙◌}
use mathlib.Core.Logic.{⊎_elim}
use mathlib.Core.Bool.{true, false}
use mathlib.Core.List.{List, ◌++◌, append-nil}
use native.Mathlib.Omega.{arith}
use lib.ListN.{length, get_or, take, drop, replicate, get_or-eq_default, drop_of_length-le}
use borrow.Author.Tests.{eq-eqb, ne_eqb, eqb-true, le-ltb}
use Rattle.base.specs.First.{some_if, ◌or_else◌, there}
use Rattle.base.proofs.TestLaws.{and_of, true_or_false}
use Rattle.base.proofs.BelowLaws.{le_or_lt}
use Rattle.base.proofs.ListLaws.{get_or-list, length-list}
use Rattle.model.specs.Answer.{Answer, number}
use Rattle.model.specs.Map.{Map, view, table_size}
use Rattle.model.specs.Count.{counts}
use Rattle.model.specs.Calls.{count_size, check_table, map_fault, output_fault_at, count_fault, count_store, count_out}
use Rattle.model.proofs.AnswerLaws.{number-few}
use Rattle.model.proofs.CountLaws.{counts-few, counts-six}
use Rattle.model.proofs.HoldsLaws.{holds_iff}
use Rattle.model.proofs.WellFormedLaws.{well_formed_iff}
use Rattle.demands.specs.Promises.{MapCounted}
use Rattle.demands.proofs.OneOutcome.{store_of, output_of}
use Rattle.numbers.specs.Places.{Put}
use Rattle.program.specs.Lines.{refused_line}
use Rattle.program.specs.Opening.{most_slots, file_dimension, file_slots, file_table, open_answer, open_table, MapOpen}
use Rattle.program.proofs.LineLaws.{refused-few}
use Rattle.program.proofs.OpeningLaws.{open_words, open_checked, open_few}
use Rattle.report.specs.Report.{count_line, sum, accepted, file_counts, map_line, summed}
use Rattle.report.specs.Steps.{store_counted}
use Rattle.report.specs.Promises.{longest_line, SumsRoom, Few, Lined, MapWorked}
use Rattle.report.proofs.LineLaws.{few-short}

-- ---- the numbers of a map

pub few_of : (n : ℕ) (m : Map) (c : List ℕ) → c ≡ counts n m → m.slots ≤ most_slots → Few c
few_of n m c e h = rw e (record { six = counts-six n m; few = λ i. omega (arith, counts-few n m i, h) })

-- a map that is well-formed is counted, and its store comes back zero
module _ (n N : ℕ) (t u : List ℕ) (z : number (check_table n N t) ≡ 0) (s : length u ≡ 16 * N) where
  pub counted : (out : List ℕ) → length out ≡ count_size → (r : Answer) (u' out' : List ℕ) → MapCounted n N t u out r u' out'
      → (out' ≡ counts n (view N t)) × (u' ≡ replicate (16 * N) 0)
  unfolding count_store count_out count_fault output_fault_at map_fault some_if ◌or_else◌ there
  counted out six r u' out' x =
      let h = (holds_iff n N t).1 z in
      let fits = and_of h.sizes (eq-eqb (length u) (16 * N) s) in
      let whole : counts n (view N t) ++ drop (length (counts n (view N t))) out ≡ counts n (view N t) =
      ap (λ (k : List ℕ). counts n (view N t) ++ k)
      (drop_of_length-le out {i = length (counts n (view N t))} (omega (arith, counts-six n (view N t), six))) ∙ append-nil _ in (
        output_of x ∙ rw (fits, (well_formed_iff n (view N t)).1 h.well, le-ltb (length out) count_size (omega arith)) whole,
        store_of x ∙ rw (fits, s) refl,
      )

-- ---- a file that is not refused

module _ (f : List ℕ) where
  pub accepted_of : number (open_answer f) ≡ 0 → accepted f ≡ true
  unfolding accepted
  accepted_of z = eq-eqb _ _ z

  pub refused_of : (k : ℕ) → (k ≡ number (open_answer f)) × (k ≡ 0 → ⊥) → accepted f ≡ false
  unfolding accepted
  refused_of k r = ne_eqb _ _ (λ z. r.1 (r.0 ∙ z))

  pub few-counts : accepted f ≡ true → Few (file_counts f)
  unfolding accepted file_counts
  few-counts a = few_of (file_dimension f) (view (file_slots f) (file_table f)) _ refl (open_few f (eqb-true _ _ a))

-- ---- the file is refused

module _ (f : List ℕ) (k : ℕ) (no : (k ≡ number (open_answer f)) × (k ≡ 0 → ⊥)) where
  pub refused-room : (out : List ℕ) → longest_line ≤ length out → 0 + length (refused_line k) ≤ length out
  refused-room out h = omega (arith, refused-few k (omega (arith, no.0, number-few (open_answer f))))

  pub refused_lined : (sums out : List ℕ) (printed : ℕ) (out' : List ℕ) → Put out 0 (refused_line k) out' printed
      → Lined f sums out (record { printed = printed; sums = sums }) out'
  unfolding summed map_line
  refused_lined sums out printed out' p =
      let a = refused_of f k no in
      record {
        total = rw a refl;
        line = rw (a, ← no.0) p;
        short = omega (arith, p.after, refused-few k (omega (arith, no.0, number-few (open_answer f))));
      }

  pub refused-worked : (t u t' : List ℕ) → t' ≡ open_table f t → MapWorked f t u t' u
  unfolding store_counted
  refused-worked t u t' e = record { table = e; store = rw (refused_of f k no) refl }

-- ---- the sums

sum-at : (a c : List ℕ) (i : ℕ) → length a ≡ count_size → length c ≡ count_size → get_or (sum a c) i 0 ≡ get_or a i 0 + get_or c i 0
unfolding sum
sum-at a c i x y = ⊎_elim (λ h. rw (past a x h, past c y h, past (sum a c) (length-list count_size _) h) refl) (λ h. get_or-list count_size i _ 0 h)
    (le_or_lt count_size i)
  where
    past : (l : List ℕ) → length l ≡ count_size → count_size ≤ i → get_or l i 0 ≡ 0
    past l e h = get_or-eq_default l 0 (omega (arith, e, h))

room-sum : (left : ℕ) (a c : List ℕ) → SumsRoom (left + 1) a → Few c → SumsRoom left (sum a c)
unfolding sum
room-sum left a c r f = record {
  six = length-list count_size _;
  few = λ i. omega (arith, sum-at a c i r.six f.six, r.few i, f.few i);
}

-- a map that is counted adds no more than its slots, and one that is refused adds nothing
pub room-summed : (f : List ℕ) (left : ℕ) (sums : List ℕ) → SumsRoom (left + 1) sums → SumsRoom left (summed f sums)
unfolding summed
room-summed f left sums room = ⊎_elim
    (λ a. rw a (room-sum left sums (file_counts f) room (few-counts f a)))
    (λ a. rw a (record { six = room.six; few = λ i. omega (arith, room.few i) }))
    (true_or_false (accepted f))

-- ---- its map is open

module _ (f : List ℕ) (n N : ℕ) (m : MapOpen f n N) (t t' : List ℕ) (long : length t ≡ table_size most_slots) (left : t' ≡ open_table f t)
    (w : ℕ) (size : w ≡ table_size N) where
  -- the words of the map
  map-words : take w t' ≡ file_table f
  map-words = rw (left, size) (open_words f n N m t long)

  pub map-well : number (check_table n N (take w t')) ≡ 0
  map-well = rw (map-words, m.named.dimension, m.named.slots) (open_checked f m.done)

  module _ (c : List ℕ) (is : c ≡ counts n (view N (take w t'))) where
    pub map-few : Few c
    map-few = few_of n (view N (take w t')) c is m.few

    pub map_lined : (sums total out : List ℕ) (printed : ℕ) (out' : List ℕ) → Put out 0 (count_line c) out' printed → total ≡ sum sums c
        → Lined f sums out (record { printed = printed; sums = total }) out'
    unfolding summed map_line file_counts
    map_lined sums total out printed out' p e =
        let a = accepted_of f m.done in
        let same : c ≡ counts (file_dimension f) (view (file_slots f) (file_table f)) =
        is ∙ rw (map-words, m.named.dimension, m.named.slots) refl in
        record {
          total = rw (a, ← same) e;
          line = rw (a, ← same) p;
          short = omega (arith, p.after, few-short c map-few);
        }

  pub map-worked : (u v : List ℕ) → v ≡ replicate (16 * N) 0 → MapWorked f t u t' (v ++ drop (16 * N) u)
  unfolding store_counted
  map-worked u v z = record { table = left; store = rw (accepted_of f m.done, z, m.named.slots) refl }

-- The file calls of demands 1 and 2: what a load leaves, and what is written, loaded again, and written back.
use Prim.Native.Nat.{ℕ, ◌≤◌, ◌<◌}
use mathlib.Core.Path.{◌≡◌, refl, sym, ap, ◌∙◌, subst}
use mathlib.Core.Logic.{⊎_elim, inl, inr}
use mathlib.Core.Bool.{true, cond}
use Rattle.std.specs.Prelude.{None, Ok}
use mathlib.Core.List.{List, ◌++◌}
use native.Mathlib.Omega.{arith}
use lib.ListN.{length, get_or, drop}
use borrow.Author.Tests.{eqb-true, eqb-false, eq-eqb, ne_eqb, le-ltb}
use Rattle.base.specs.First.{some_if, there, ◌or_else◌}
use Rattle.base.proofs.TestLaws.{true_or_false}
use Rattle.base.proofs.BelowLaws.{le_or_lt}
use Rattle.model.specs.Map.{Map, Field, State, Link, Tag, field_of, dimension, field_at, view, table_of, live}
use Rattle.model.specs.Alike.{Alike}
use Rattle.model.specs.File.{file, darts, slot_at, file_form, file_map}
use Rattle.model.specs.WellFormed.{WellFormed}
use Rattle.model.specs.Answer.{number}
use Rattle.model.specs.Calls.{sizes_ok, table_fault, check_table, load_fault_at, load_fault, load_answer, load_table, output_fault_at}
use Rattle.model.specs.Calls.{write_fault, write_answer, write_out}
use Rattle.model.specs.Sequence.{Holds, AlikeTables, write, Lent, outcome_of, written}
use Rattle.model.specs.declared.Reply.TheVariants.{Written}
use Rattle.model.proofs.MapLaws.{field_at_lem, field_none, field_words, length-words}
use Rattle.model.proofs.AnswerLaws.{answered-free}
use Rattle.model.proofs.SizeLaws.{sizes_iff}
use Rattle.model.proofs.WellFormedLaws.{well_formed_iff}
use Rattle.model.proofs.CallLaws.{output-passed}
use Rattle.model.proofs.AlikeCalls.{write-written}
use Rattle.model.proofs.HoldsLaws.{holds-free, holds_iff, holds_slotted, sizes_too, words_hold, dimension-small}
use Rattle.model.proofs.FileLaws.{same-file, slot-below, filed-live, filed-tag, filed-link, filed-own, filed-zero}
use Rattle.model.proofs.AlikeLaws.{alike-sym, alike_trans, words-alike, well-alike}
use Rattle.file.proofs.RoundTrip.{written-form, load-back, written_back}
use Rattle.demands.specs.Demands.{Filed}
use Rattle.demands.proofs.RefusalLaws.{cond-true, cond-false, load-done}

-- the map in the file of a well-formed map is like it
module _ (n N : ℕ) (t : List ℕ) (h : Holds n N t) (small : (i : ℕ) → get_or t i 0 < 4294967296) where
  abbrev m : Map
  m = view N t

  abbrev k : Map
  k = file_map n N (file n m)

  back : (f : Field) (x : ℕ) → dimension f ≤ 3 → x < N → field_of k f x ≡ cond (live m x) (field_of m f x) 0
  back = load-back n m (omega (arith, dimension-small n N t h.sizes)) ((sizes_iff n N t).0 h.sizes).few
      ((sizes_iff n N t).0 h.sizes).dimension h.well (λ x g l. rw (field_at_lem t Tag x (omega arith)) (small _))

  back-live : (f : Field) (x : ℕ) → dimension f ≤ 3 → x < N → m.state x ≡ 1 → field_of m f x ≡ field_of k f x
  back-live f x b g l = sym (back f x b g ∙ cond-true (live m x) _ _ (eq-eqb _ _ l))

  back-unused : (x : ℕ) → x < N → (m.state x ≡ 1 → ⊥) → k.state x ≡ 0
  back-unused x g l = back State x (omega arith) g ∙ cond-false (live m x) _ _ (ne_eqb _ _ l)

  file-alike : Alike m k
  unfolding file_map
  file-alike = record {
    slots = refl;
    live = λ x g. (
      λ l. sym (back-live State x (omega arith) g l) ∙ l,
      λ l. ⊎_elim (λ e. eqb-true _ _ e) (λ e. let z = back-unused x g (eqb-false _ _ e) in absurd (omega arith)) (true_or_false (live m x)),
    );
    link = λ x g l i b. back-live (Link i) x b g l;
    tag = λ x g l. back-live Tag x (omega arith) g l;
  }

  file-well : WellFormed n k
  unfolding file_map
  file-well = well-alike n (dimension-small n N t h.sizes) m k file-alike h.well
      (λ x g. ⊎_elim (λ e. inr (sym (back-live State x (omega arith) g (eqb-true _ _ e)) ∙ eqb-true _ _ e))
      (λ e. inl (back-unused x g (eqb-false _ _ e))) (true_or_false (live m x)))

  table-alike : Alike m (view N (table_of k))
  unfolding file_map
  table-alike = alike_trans file-alike (alike-sym (words-alike k))

  -- the file is loaded, whatever was in the table
  load-free : (u : List ℕ) → sizes_ok n N u ≡ true → number (load_answer n N u (file n m)) ≡ 0
  unfolding load_answer load_fault load_fault_at ◌or_else◌ some_if
  load-free u s =
      let form = written-form n m (omega (arith, dimension-small n N t h.sizes)) ((sizes_iff n N t).0 h.sizes).few in
      rw (s, form) refl

-- the file of the table that a load leaves is the file of the map that was loaded
one-file : (n N : ℕ) (b : List ℕ) → n ≤ 3 → file n (view N (table_of (file_map n N b))) ≡ file n (file_map n N b)
unfolding file_map
one-file n N b small = same-file n small (view N (table_of (file_map n N b))) (file_map n N b) (words-alike (file_map n N b))

-- the table of a file in the form has the file's records, and nothing else
module _ (n N : ℕ) (b : List ℕ) (small : n ≤ 3) (form : file_form n N b ≡ true) where
  abbrev M : Map
  M = file_map n N b

  word_of : (k : ℕ) → k < darts b → (f : Field) → dimension f ≤ 3 → field_at (table_of M) f (slot_at b k) ≡ field_of M f (slot_at b k)
  unfolding file_map
  word_of k h f l = field_words M (slot_at b k) (slot-below n N b form k h) f l

  filed : Filed n N b (table_of M)
  unfolding file_map
  filed = record {
    long = length-words M;
    live = λ k h. word_of k h State (omega arith) ∙ filed-live n N b form k h;
    tag = λ k h. word_of k h Tag (omega arith) ∙ filed-tag n N b form k h;
    link = λ k h i l. word_of k h (Link i) (omega arith) ∙ filed-link n N b form k h i l;
    flat = λ two k h. word_of k h (Link 3) (omega arith) ∙ filed-own n N b form k h 3 (omega arith);
    zero = λ x h other f. ⊎_elim
        (λ l. field_words M x h f l ∙ filed-zero n N b form x other f)
        (λ l. field_none (table_of M) f x l)
        (le_or_lt (dimension f) 3);
  }

-- so a load that is done leaves them
pub load-filed : (n N : ℕ) (t b : List ℕ) → number (load_answer n N t b) ≡ 0 → Filed n N b (load_table n N t b)
load-filed n N t b e =
    let done = load-done n N t b e in
    subst (Filed n N b) (sym done.2) (filed n N b (dimension-small n N t done.0) done.1)

-- a write that is not refused has room for the file of a well-formed map, and leaves it
module _ (n N : ℕ) (t : List ℕ) (l : Lent) where
  abbrev out : List ℕ
  out = l.output

  pub write-holds : write_fault n N t out ≡ None → Holds n N t × (length (file n (view N t)) ≤ length out)
  unfolding write_fault
  write-holds q =
      let p = output-passed _ n (view N t) _ out q in
      (record { sizes = p.0; well = (well_formed_iff n (view N t)).0 p.1 }, p.2)

  write-free : Holds n N t → length (file n (view N t)) ≤ length out → write_fault n N t out ≡ None
  unfolding write_fault output_fault_at table_fault ◌or_else◌ some_if
  write-free h room = rw (holds-free n N t h, le-ltb (length out) (length (file n (view N t))) room) refl

  -- a well-formed map with room for its file is written
  pub write_done : Holds n N t → length (file n (view N t)) ≤ length out
      → (write_answer n N t out ≡ Ok (Written (length (file n (view N t)))))
      × (write_out n N t out ≡ file n (view N t) ++ drop (length (file n (view N t))) out)
  unfolding write_answer write_out there
  write_done h room = let free = write-free h room in (rw free refl, rw free refl)

  -- what has been written is the file
  write-leaves : write_fault n N t out ≡ None → written write (outcome_of n N t write l) ≡ file n (view N t)
  unfolding there
  write-leaves free = write-written n N t l ∙ cond-false _ _ _ (ap there free)

-- the file of a well-formed map is loaded again, and passes the check
pub written-loaded : (n N : ℕ) (t : List ℕ) (l : Lent) → number (write_answer n N t l.output) ≡ 0 → ((i : ℕ) → get_or t i 0 < 4294967296)
    → (u : List ℕ) → length u ≡ length t → let b = written write (outcome_of n N t write l) in
    (number (load_answer n N u b) ≡ 0) × (number (check_table n N (load_table n N u b)) ≡ 0) × AlikeTables n N t (load_table n N u b)
unfolding write_answer file_map
written-loaded n N t l e small u len =
    let free : write_fault n N t l.output ≡ None = answered-free _ _ e in
    let h = (write-holds n N t l free).0 in
    let loads = load-free n N t h small u (sizes_too n N t h.sizes u len) in
    let table : load_table n N u (file n (view N t)) ≡ table_of (file_map n N (file n (view N t))) = (load-done n N u (file n (view N t)) loads).2 in
    let held : Holds n N (load_table n N u (file n (view N t))) =
    subst (Holds n N) (sym table) (words_hold n N t h.sizes (file_map n N (file n (view N t))) refl (file-well n N t h small)) in
    subst (λ (b : List ℕ). (number (load_answer n N u b) ≡ 0) × (number (check_table n N (load_table n N u b)) ≡ 0) × AlikeTables n N t (load_table n N u b))
    (sym (write-leaves n N t l free)) (
      loads,
      (holds_iff n N (load_table n N u (file n (view N t)))).0 held,
      record {
        one = holds_slotted n N t h;
        other = holds_slotted n N (load_table n N u (file n (view N t))) held;
        alike = subst (λ (v : List ℕ). Alike (view N t) (view N v)) (sym table) (table-alike n N t h small);
      },
    )

-- a file that is loaded and passes the check is written back byte for byte
pub accepted-written : (n N : ℕ) (t b : List ℕ) → number (load_answer n N t b) ≡ 0 → number (check_table n N (load_table n N t b)) ≡ 0
    → ((i : ℕ) → get_or b i 0 < 256) → (l : Lent) → length b ≤ length l.output → let o = outcome_of n N (load_table n N t b) write l in
    (number o.answer ≡ 0) × (written write o ≡ b)
accepted-written n N t b loads passes bytes l len =
    let done = load-done n N t b loads in
    let h : Holds n N (load_table n N t b) = (holds_iff n N (load_table n N t b)).1 passes in
    let same : file n (view N (load_table n N t b)) ≡ b = ap (λ (u : List ℕ). file n (view N u)) done.2
    ∙ one-file n N b (dimension-small n N t done.0) ∙ written_back n N b done.1 bytes in
    let room : length (file n (view N (load_table n N t b))) ≤ length l.output = subst (λ (c : List ℕ). length c ≤ length l.output) (sym same) len in (
      ap number (write_done n N (load_table n N t b) l h room).0,
      write-leaves n N (load_table n N t b) l (write-free n N (load_table n N t b) l h room) ∙ same,
    )

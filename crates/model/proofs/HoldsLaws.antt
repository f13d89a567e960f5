-- Tables that hold a well-formed map: the table check finds just these, the table of a well-formed map is one, and so is a table of zeros.
use Prim.Native.Nat.{ℕ, ◌*◌, ◌≤◌, ◌<◌}
use mathlib.Core.Path.{◌≡◌, refl, sym, ap, ◌∙◌, subst}
use mathlib.Core.Logic.{inl, inr, ⊎_elim, ◌↔◌}
use mathlib.Core.Bool.{Bool, true, false, cond}
use Rattle.std.specs.Prelude.{Option, Some, None, Ok}
use mathlib.Core.List.{List, []}
use native.Mathlib.Omega.{arith}
use lib.ListN.{length, take, replicate, length-replicate}
use lib.Seq.{take-append_seam}
use lib.Dec.{eqb}
use borrow.Author.Tests.{eq-eqb, ne_eqb}
use Rattle.base.specs.Test.{◌and◌, bit}
use Rattle.base.specs.First.{some_if, there, ◌or_else◌}
use Rattle.base.proofs.TestLaws.{true_or_false}
use Rattle.base.proofs.FirstLaws.{or_else_none}
use Rattle.model.specs.Map.{Map, State, view, table_of, table_size}
use Rattle.model.specs.WellFormed.{WellFormed}
use Rattle.model.specs.Edit.{edited}
use Rattle.model.specs.File.{file_form, file_map, place_of}
use Rattle.model.specs.Answer.{refusal_number, number, values, answered}
use Rattle.model.specs.Calls.{zeros, sizes_ok, map_fault, table_fault, check_table, site_of, edit_fault, edit_table, edit_store}
use Rattle.model.specs.Calls.{loaded, load_table, output_after}
use Rattle.model.specs.Sequence.{Slotted, Holds}
use Rattle.model.specs.declared.Darts.{Darts}
use Rattle.model.specs.declared.Refusal.{Refusal}
use Rattle.model.specs.declared.Reply.{Reply}
use Rattle.model.specs.declared.Reply.TheVariants.{Done}
use Rattle.model.proofs.AnswerLaws.{answered-free, number_bounds}
use Rattle.model.proofs.SizeLaws.{sizes_iff}
use Rattle.model.proofs.WellFormedLaws.{well_formed_iff}
use Rattle.model.proofs.MapLaws.{field_zero, field_words, length-words}
use Rattle.model.proofs.AlikeLaws.{words-well}
use Rattle.model.proofs.CallLaws.{passed, granted, edit-table, edit-table-well, refused-table}

module _ (n N : ℕ) (t : List ℕ) where
  pub holds-free : Holds n N t → table_fault n N t ≡ None
  unfolding table_fault map_fault some_if ◌or_else◌
  holds-free h = rw (h.sizes, (well_formed_iff n (view N t)).1 h.well) refl

  pub holds_of : table_fault n N t ≡ None → Holds n N t
  unfolding table_fault map_fault
  holds_of q = let r = or_else_none _ _ q in record { sizes = passed _ _ r.0; well = (well_formed_iff n (view N t)).0 (passed _ _ r.1) }

  -- a table check answers 0 just where the table holds a well-formed map
  pub holds_iff : Holds n N t ↔ (number (check_table n N t) ≡ 0)
  unfolding check_table
  holds_iff = ((λ h. ap (λ (o : Option Refusal). number (answered Done o)) (holds-free h)), (λ e. holds_of (answered-free Done (table_fault n N t) e)))

  pub holds_slotted : Holds n N t → Slotted n N t
  holds_slotted h = record { sizes = h.sizes; states = h.well.states }

  module _ (s : sizes_ok n N t ≡ true) where
    pub dimension-small : n ≤ 3
    dimension-small = ⊎_elim (λ e. omega arith) (λ e. omega arith) ((sizes_iff n N t).0 s).dimension

    pub table-length : length t ≡ table_size N
    table-length = ((sizes_iff n N t).0 s).long

    -- another table of as many words has its sizes right too
    pub sizes_too : (u : List ℕ) → length u ≡ length t → sizes_ok n N u ≡ true
    sizes_too u e =
        let z = (sizes_iff n N t).0 s in
        (sizes_iff n N u).1 (record { dimension = z.dimension; some = z.some; few = z.few; long = e ∙ z.long })

    -- the table of a well-formed map of N slots holds it
    pub words_hold : (m : Map) → m.slots ≡ N → WellFormed n m → Holds n N (table_of m)
    words_hold m e w = record {
      sizes = sizes_too (table_of m) (length-words m ∙ ap table_size e ∙ sym table-length);
      well = subst (λ (k : ℕ). WellFormed n (view k (table_of m))) e (words-well n m dimension-small w);
    }

    -- the table of zeros has no live dart
    pub zeros_hold : Holds n N (zeros t)
    zeros_hold = record {
      sizes = sizes_too (zeros t) (length-replicate (length t) 0);
      well = record {
        states = λ x h. inl (field_zero (length t) State x);
        below = λ x h l i k. absurd (dead x h l);
        alive = λ x h l i k. absurd (dead x h l);
        back = λ x h l i k. absurd (dead x h l);
        flat = λ two x h l. absurd (dead x h l);
        square = λ x h l i j ij jn. absurd (dead x h l);
      };
    }
      where
        dead : (x : ℕ) → x < N → (view N (zeros t)).state x ≡ 1 → ⊥
        dead x h l = omega (arith, field_zero (length t) State x)

-- ---- what the calls leave

-- an edit that is not refused
pub edit-holds : (n N : ℕ) (t store b : List ℕ) (d : Darts) → edit_fault n N t store b d ≡ None → Holds n N (edit_table n N t store b d)
unfolding edited
edit-holds n N t store b d q =
    let g = granted n N t store b d q in
    record {
      sizes = sizes_too n N t g.sizes (edit_table n N t store b d)
          (ap length (edit-table n N t store b d q) ∙ length-words (edited (site_of N t b d)) ∙ sym (table-length n N t g.sizes));
      well = (well_formed_iff n (view N (edit_table n N t store b d))).0 (edit-table-well n N t store b d q);
    }

-- an edit of a well-formed map, refused or not
pub edit-kept : (n N : ℕ) (t store b : List ℕ) (d : Darts) → Holds n N t → Holds n N (edit_table n N t store b d)
edit-kept n N t store b d h = go (edit_fault n N t store b d) refl
  where
    go : (o : Option Refusal) → edit_fault n N t store b d ≡ o → Holds n N (edit_table n N t store b d)
    go None q = edit-holds n N t store b d q
    go (Some r) q = rw (refused-table n N t store b d r q) h

-- an edit's store is zero afterwards, save where its length is wrong
module _ (n N : ℕ) (t store b : List ℕ) (d : Darts) (s : sizes_ok n N t ≡ true) where
  pub store-zero : length store ≡ 16 * N → edit_store n N t store b d ≡ replicate (16 * N) 0
  unfolding edit_store ◌and◌
  store-zero e = rw (s, eq-eqb (length store) (16 * N) e) (ap (λ (k : ℕ). replicate k 0) e)

  pub store_kept : (length store ≡ 16 * N → ⊥) → edit_store n N t store b d ≡ store
  unfolding edit_store ◌and◌
  store_kept ne = rw (s, ne_eqb (length store) (16 * N) ne) refl

-- a load whose sizes are right: every slot is live or unused afterwards, whatever the file
module _ (n N : ℕ) (t b : List ℕ) (s : sizes_ok n N t ≡ true) where
  filed_slotted : Slotted n N (table_of (file_map n N b))
  unfolding file_map
  filed_slotted = record {
    sizes = sizes_too n N t s (table_of (file_map n N b)) (length-words (file_map n N b) ∙ sym (table-length n N t s));
    states = λ x h.
        let same = field_words (file_map n N b) x h State (omega arith) in
        ⊎_elim (λ e. inr (same ∙ ap bit e)) (λ e. inl (same ∙ ap bit e)) (true_or_false (there (place_of b x)));
  }

  -- a file in the form leaves its map
  pub load-table : file_form n N b ≡ true → load_table n N t b ≡ table_of (file_map n N b)
  unfolding load_table loaded
  load-table f = rw (s, f) refl

  pub load_slotted : Slotted n N (load_table n N t b)
  unfolding load_table loaded
  load_slotted = rw s (go (file_form n N b))
    where
      go : (c : Bool) → Slotted n N (cond c (table_of (file_map n N b)) (zeros t))
      go true = filed_slotted
      go false = holds_slotted n N (zeros t) (zeros_hold n N t s)

-- ---- what a call has written to its output

-- a call that is done has written v, a refused one nothing; `reply` is what it returns where no refusal is found, and `size` how long v is by its values
pub written_is : (o : Option Refusal) (reply : Reply) (size : List ℕ → ℕ) (v out : List ℕ) → size (values (Ok reply)) ≡ length v
    → take (cond (eqb (number (answered reply o)) 0) (size (values (answered reply o))) 0) (output_after o v out) ≡ cond (there o) [] v
unfolding there
written_is None reply size v out long = rw long (take-append_seam v _)
written_is (Some f) reply size v out long = rw (ne_eqb (refusal_number f) 0 (λ e. omega (arith, (number_bounds f).0)))

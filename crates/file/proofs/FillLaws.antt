-- A table that is filled dart by dart becomes the table of the file's map.
use Prim.Native.Nat.{ℕ, ◌+◌, ◌≤◌, ◌<◌}
use mathlib.Core.Path.{◌≡◌, refl, sym, ap, ◌∙◌}
use mathlib.Core.Logic.{⊎_elim}
use mathlib.Core.Bool.{true, cond}
use Rattle.std.specs.Prelude.{Option, Some, None}
use mathlib.Core.List.{List}
use native.Mathlib.Omega.{arith}
use lib.ListN.{length, replicate, length-replicate}
use lib.Dec.{eqb, leb}
use borrow.Author.Tests.{eqb-true, eqb-false, eq-eqb, ne_eqb}
use Rattle.base.specs.First.{least, there, first, some_if, ◌or_else◌}
use Rattle.base.proofs.TestLaws.{true_or_false}
use Rattle.base.proofs.BelowLaws.{below_suc}
use Rattle.base.proofs.FirstLaws.{first_step, least_at, least-only}
use Rattle.model.specs.Map.{Field, State, Link, Tag, field_of, dimension, table_size, field_at, table_of, max_slots}
use Rattle.model.specs.File.{at_place, darts_in, slot_in, link_in, place_in, map_in}
use Rattle.model.proofs.MapLaws.{field_zero, words_are}
use Rattle.table.specs.Words.{Sized}
use Rattle.file.specs.Records.{Formed, row_of, put_row, word_of}
use Rattle.file.proofs.RecordLaws.{row_sized, row_same, row_other}

-- the words of t are those of the first k darts of the file
pub record Filled (w n N : ℕ) (b : List ℕ) (k : ℕ) (t : List ℕ) : Type 0 where
  pub sized : Sized N t
  pub held : (x : ℕ) (f : Field) → x < N → dimension f ≤ 3 → field_at t f x ≡ word_of w n b k x f

pub filled_none : (w n N : ℕ) (b t : List ℕ) → N ≤ max_slots → t ≡ replicate (table_size N) 0 → Filled w n N b 0 t
unfolding word_of least first
filled_none w n N b t h e = record {
  sized = record { few = h; long = ap length e ∙ length-replicate (table_size N) 0 };
  held = λ x f l h. ap (λ (z : List ℕ). field_at z f x) e ∙ field_zero (table_size N) f x;
}

-- ---- one dart more

module _ (w n : ℕ) (b : List ℕ) (k x : ℕ) (f : Field) where
  or_none : (o : Option ℕ) → (o or_else None) ≡ o
  unfolding ◌or_else◌
  or_none None = refl
  or_none (Some a) = refl

  word-other : (slot_in w b k ≡ x → ⊥) → word_of w n b (k + 1) x f ≡ word_of w n b k x f
  unfolding word_of least some_if
  word-other d =
      let same : least (k + 1) (λ o. eqb (slot_in w b o) x) ≡ least k (λ o. eqb (slot_in w b o) x) = rw (first_step, ne_eqb (slot_in w b k) x d) (or_none _) in
      ap (λ (o : Option ℕ). at_place o (λ j. row_of w n b j f)) same

  word-here : slot_in w b k ≡ x → ((j : ℕ) → j < k → slot_in w b j < slot_in w b k) → word_of w n b (k + 1) x f ≡ row_of w n b k f
  unfolding word_of
  word-here e up = ap (λ (o : Option ℕ). at_place o (λ j. row_of w n b j f))
      (least-only (k + 1) _ k (omega arith) (eq-eqb _ _ e) only)
    where
      only : (j : ℕ) → j < k + 1 → eqb (slot_in w b j) x ≡ true → j ≡ k
      only j h t =
          let same : slot_in w b j ≡ x = eqb-true _ _ t in
          ⊎_elim (λ w. w) (λ w. absurd (let u = up j w in omega arith)) (below_suc {n = k} (omega arith))

pub filled_more : (w n N : ℕ) (b : List ℕ) (k : ℕ) (t t' : List ℕ) → Formed w n N b → k < darts_in w b → Filled w n N b k t
    → t' ≡ put_row t (slot_in w b k) (row_of w n b k) → Filled w n N b (k + 1) t'
filled_more w n N b k t t' F g u e = rw e (record {
  sized = row_sized t (slot_in w b k) (row_of w n b k) N u.sized;
  held = λ x f l h. ⊎_elim
      (λ q.
      let y = eqb-true _ _ q in
      ap (field_at (put_row t (slot_in w b k) (row_of w n b k)) f) (sym y)
      ∙ row_same t (slot_in w b k) (row_of w n b k) N u.sized (F.below k g) f h
      ∙ sym (word-here w n b k x f y (λ j d. F.ascends j k d g)))
      (λ q.
      let y = eqb-false _ _ q in
      row_other t (slot_in w b k) (row_of w n b k) x f (λ e. y (sym e)) ∙ u.held x f l h ∙ sym (word-other w n b k x f y))
      (true_or_false (eqb (slot_in w b k) x));
})

-- ---- all darts

module _ (w n N : ℕ) (b : List ℕ) where
  pub record_is : (x : ℕ) (o : Option ℕ) → place_in w b x ≡ o → ((k : ℕ) → o ≡ Some k → slot_in w b k ≡ x)
      → (f : Field) → field_of (map_in w n N b) f x ≡ at_place o (λ j. row_of w n b j f)
  unfolding map_in there row_of
  record_is x None q same State = rw q refl
  record_is x None q same (Link i) = rw q refl
  record_is x None q same Tag = rw q refl
  record_is x (Some k) q same State = rw q refl
  record_is x (Some k) q same (Link i) = rw q (ap (cond (leb i n) (link_in w b n k i)) (sym (same k refl)))
  record_is x (Some k) q same Tag = rw q refl

  pub filled-all : (k : ℕ) (t : List ℕ) → k ≡ darts_in w b → Filled w n N b k t → t ≡ table_of (map_in w n N b)
  unfolding map_in word_of place_in
  filled-all k t e u = words_are (map_in w n N b) t u.sized.long (λ f x l h.
      u.held x f h l ∙ ap (λ (j : ℕ). word_of w n b j x f) e
      ∙ sym (record_is x _ refl (λ k q. eqb-true _ _ (least_at _ _ k q).1) f))

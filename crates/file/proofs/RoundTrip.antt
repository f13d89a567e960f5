-- The round trip: a map that is written and loaded again is the same, and a file in the form is written back byte for byte.
-- The length of a file is `length-file` of proofs/SectionLaws.antt; that maps which are alike have one file is `same-file` of the model.
use Prim.Native.Nat.{ℕ, ◌+◌, ◌*◌, ◌^◌, ◌≤◌, ◌<◌}
use mathlib.Core.Path.{◌≡◌, refl, sym, ap, ◌∙◌}
use mathlib.Core.Logic.{◌⊎◌, ⊎_elim}
use mathlib.Core.Bool.{true, false, cond, true≢false}
use Rattle.std.specs.Prelude.{Some, None}
use mathlib.Core.List.{List}
use native.Mathlib.Nat.{eq-or-lt_of_le}
use native.Mathlib.Omega.{arith}
use lib.ListN.{get_or}
use lib.Dec.{ltb, leb}
use borrow.Author.Tests.{eqb-true, eq-eqb, ne_eqb, ltb-true, ltb-false, lt-ltb, leb-true, leb-false}
use Rattle.base.specs.Below.{count_below}
use Rattle.base.specs.Digits.{number_at}
use Rattle.base.proofs.TestLaws.{and_of, true_or_false}
use Rattle.base.proofs.BelowLaws.{all_of, count_lt, count_reaches}
use Rattle.base.proofs.FirstLaws.{some_not_none, least-only, least-none_of}
use Rattle.model.specs.Map.{Map, Field, State, Link, Tag, field_of, dimension, live, max_slots}
use Rattle.model.specs.WellFormed.{WellFormed}
use Rattle.model.specs.File.{width, live_darts, tags_from, file_in, file, darts_in, slot_in, tag_in, link_in, place_in, form_in, map_in, file_form, file_map}
use Rattle.table.proofs.SlotLaws.{two_le}
use Rattle.file.specs.Form.{head_ok, counts_ok, frame_ok, slots_ok}
use Rattle.file.specs.Records.{row_of}
use Rattle.file.specs.declared.sections.Part.TheVariants.{Slots, Tags, Links}
use Rattle.file.proofs.FormLaws.{form-is}
use Rattle.file.proofs.FillLaws.{record_is}
use Rattle.file.proofs.SectionLaws.{length_in, few-live}
use Rattle.file.proofs.ReadLaws.{all-bytes}
use Rattle.file.proofs.WrittenLaws.{start, count-back, head_back, slot-back, tag_back, link-back}

-- ---- written, then loaded

module _ (w n : ℕ) (m : Map) (h : n < 256) (few : m.slots < 256 ^ w) where
  abbrev b : List ℕ
  b = file_in w n m

  small : live_darts m < 256 ^ w
  small = omega (arith, few-live n m _ refl)

  darts-loaded : darts_in w b ≡ live_darts m
  unfolding start
  darts-loaded = count-back w n m Slots small

  -- the k-th dart of the file is the k-th live one
  dart-at : (k : ℕ) → k < live_darts m → (x : ℕ) × (x < m.slots) × (live m x ≡ true) × (count_below x (live m) ≡ k) × (slot_in w b k ≡ x)
  unfolding live_darts
  dart-at k l =
      let r = count_reaches (live m) m.slots k l in
      let x : ℕ = r.0 in
      let g : x < m.slots = r.1 in
      (x, g, r.2, r.3, ap (slot_in w b) (sym r.3) ∙ slot-back w n m x g (eqb-true _ _ r.2) (omega arith))

  ordered : (j k : ℕ) → j < k → k < live_darts m → slot_in w b j < slot_in w b k
  ordered j k l g =
      let d = dart-at j (omega arith) in
      let e = dart-at k g in
      let x : ℕ = d.0 in
      let y : ℕ = e.0 in
      let cx : count_below x (live m) ≡ j = d.3 in
      let cy : count_below y (live m) ≡ k = e.3 in
      rw (d.4, e.4) (⊎_elim
      (λ (t : ltb x y ≡ true). ltb-true x y t)
      (λ (t : ltb x y ≡ false). ⊎_elim
      (λ (q : y ≡ x). let same : count_below y (live m) ≡ count_below x (live m) = ap (λ (z : ℕ). count_below z (live m)) q in absurd (omega arith))
      (λ (q : y < x). let less : count_below y (live m) < count_below x (live m) = count_lt (live m) y x q e.2 in absurd (omega arith))
      (eq-or-lt_of_le (ltb-false x y t)))
      (true_or_false (ltb x y)))

  -- the file of a map is in the form
  form-back : form_in w n m.slots b ≡ true
  unfolding frame_ok head_ok counts_ok slots_ok start
  form-back =
      let e = head_back w n m h few in
      let tags = count-back w n m Tags small in
      let links = count-back w n m Links small in
      form-is w n m.slots b ∙ rw darts-loaded (and_of
      (and_of (and_of (and_of (eq-eqb _ _ e.0) (eq-eqb _ _ e.1)) (and_of (eq-eqb _ _ tags) (eq-eqb _ _ links))) (eq-eqb _ _ (length_in w n m)))
      (all_of (live_darts m) _ (λ k l. let d = dart-at k l in and_of
      (lt-ltb (slot_in w b k) m.slots (rw d.4 d.1)) (all_of k _ (λ o g. lt-ltb (slot_in w b o) (slot_in w b k) (ordered o k g l))))))

  place-live : (x : ℕ) → x < m.slots → m.state x ≡ 1 → place_in w b x ≡ Some (count_below x (live m))
  unfolding live_darts place_in
  place-live x g e = rw darts-loaded
      (least-only (live_darts m) _ (count_below x (live m)) (count_lt (live m) x m.slots g (eq-eqb _ _ e)) (eq-eqb _ _ (slot-back w n m x g e (omega arith)))
      (λ j l t. let d = dart-at j l in sym d.3 ∙ ap (λ (y : ℕ). count_below y (live m)) (sym d.4 ∙ eqb-true _ _ t)))

  place-unused : (x : ℕ) → live m x ≡ false → place_in w b x ≡ None
  unfolding place_in
  place-unused x e = rw darts-loaded (least-none_of (live_darts m) _ (λ k l.
      let d = dart-at k l in
      ne_eqb (slot_in w b k) x (λ q. true≢false (sym d.2 ∙ ap (live m) (sym d.4 ∙ q) ∙ e))))

  module _ (d : (n ≡ 2) ⊎ (n ≡ 3)) (W : WellFormed n m) (tags : (x : ℕ) → x < m.slots → m.state x ≡ 1 → m.tag x < 4294967296) where
    link-loaded : (x : ℕ) → x < m.slots → m.state x ≡ 1 → (i : ℕ) → i ≤ 3
        → cond (leb i n) (link_in w b n (count_below x (live m)) i) (slot_in w b (count_below x (live m))) ≡ m.link i x
    unfolding link_in
    link-loaded x g e i l = rw darts-loaded (⊎_elim
        (λ (t : leb i n ≡ true). let k = leb-true i n t in
        rw t (link-back w n m x g e i k (omega (arith, W.below x g e i k))))
        (λ (t : leb i n ≡ false). let two : n ≡ 2 = omega (arith, leb-false i n t, two_le d) in
        let three : i ≡ 3 = omega (arith, leb-false i n t, two_le d) in
        rw (t, three) (slot-back w n m x g e (omega arith) ∙ sym (W.flat two x g e)))
        (true_or_false (leb i n)))

    live_record : (x : ℕ) → x < m.slots → m.state x ≡ 1 → (f : Field) → dimension f ≤ 3 → row_of w n b (count_below x (live m)) f ≡ field_of m f x
    unfolding row_of tag_in
    live_record x g e State l = sym e
    live_record x g e (Link i) l = link-loaded x g e i l
    live_record x g e Tag l = ap (λ (L : ℕ). number_at 4 b (tags_from w L + w + 4 * count_below x (live m))) darts-loaded ∙ tag_back w n m x g e (tags x g e)

    -- written and loaded again, a map has its live records, and zeros in all others
    record_back : (f : Field) (x : ℕ) → dimension f ≤ 3 → x < m.slots → field_of (map_in w n m.slots b) f x ≡ cond (live m x) (field_of m f x) 0
    record_back f x l g = ⊎_elim
        (λ (t : live m x ≡ true). let e = eqb-true (m.state x) 1 t in
        rw t (record_is w n m.slots b x (Some (count_below x (live m))) (place-live x g e)
        (λ k q. let z : count_below x (live m) ≡ k = cc in ap (slot_in w b) (sym z) ∙ slot-back w n m x g e (omega arith)) f
        ∙ live_record x g e f l))
        (λ (t : live m x ≡ false). rw t (record_is w n m.slots b x None (place-unused x t) (λ k q. absurd (some_not_none q refl)) f))
        (true_or_false (live m x))

-- the same of a map file, whose numbers are large enough for its slots
module _ (n : ℕ) (m : Map) (h : n < 256) (few : m.slots ≤ max_slots) where
  pub written-form : file_form n m.slots (file n m) ≡ true
  written-form = form-back width n m h (omega arith)

  pub load-back : (n ≡ 2) ⊎ (n ≡ 3) → WellFormed n m → ((x : ℕ) → x < m.slots → m.state x ≡ 1 → m.tag x < 4294967296)
      → (f : Field) (x : ℕ) → dimension f ≤ 3 → x < m.slots → field_of (file_map n m.slots (file n m)) f x ≡ cond (live m x) (field_of m f x) 0
  unfolding file_map
  load-back = record_back width n m h (omega arith)

-- ---- loaded, then written

-- a file in the form, well-formed or not, is the file of the map that it holds
pub written_back : (n N : ℕ) (b : List ℕ) → file_form n N b ≡ true → ((i : ℕ) → get_or b i 0 < 256) → file n (file_map n N b) ≡ b
unfolding file_map
written_back n N b t bytes = all-bytes width n N b t bytes

-- The view and the table are two forms of one thing: a table is the words of its view, and a map is the view of its words.
use Prim.Native.Nat.{ℕ, zero, suc, ◌+◌, ◌*◌, ◌/◌, ◌%◌, ◌≤◌, ◌<◌}
use mathlib.Core.Path.{◌≡◌, refl, sym, ap, ◌∙◌}
use mathlib.Core.Logic.{⊎_elim}
use mathlib.Core.List.{List}
use native.Mathlib.Omega.{arith}
use lib.ListN.{length, get_or, replicate, length-set}
use lib.Seq.{get_or-set_same, get_or-set_other, ext_get_or}
use borrow.Author.Tests.{le-leb, lt-leb}
use Rattle.model.specs.Map.{Map, Field, State, Link, Tag, field_of, dimension, record_size, offset, record_of, table_size, field_at, put, view}
use Rattle.model.specs.Map.{table_of}
use Rattle.base.proofs.BelowLaws.{le_or_lt}
use Rattle.base.proofs.ListLaws.{length-joined, get_or-joined}

-- ---- the fields and their offsets

pub state_not_tag : State ≡ Tag → ⊥
state_not_tag e = let z : ◌≡◌ {A = ℕ} 0 1 = cc in omega arith

pub state_not_link : {i : ℕ} → State ≡ Link i → ⊥
state_not_link e = let z : ◌≡◌ {A = ℕ} 0 1 = cc in omega arith

pub tag_not_link : {i : ℕ} → Tag ≡ Link i → ⊥
tag_not_link e = let z : ◌≡◌ {A = ℕ} 0 1 = cc in omega arith

pub offset-below : (f : Field) → dimension f ≤ 3 → offset f < record_size
offset-below State h = omega arith
offset-below (Link i) h = omega arith
offset-below Tag h = omega arith

pub offset-once : (f g : Field) → dimension f ≤ 3 → dimension g ≤ 3 → offset f ≡ offset g → f ≡ g
offset-once State State h l e = refl
offset-once State (Link j) h l e = absurd (omega arith)
offset-once State Tag h l e = absurd (omega arith)
offset-once (Link i) State h l e = absurd (omega arith)
offset-once (Link i) (Link j) h l e = ap Link (omega arith)
offset-once (Link i) Tag h l e = absurd (omega arith)
offset-once Tag State h l e = absurd (omega arith)
offset-once Tag (Link j) h l e = absurd (omega arith)
offset-once Tag Tag h l e = refl

-- every offset is that of a field
field_in : (c : ℕ) → c < record_size → (f : Field) × (dimension f ≤ 3) × (offset f ≡ c)
field_in zero h = (State, omega arith, refl)
field_in (suc zero) h = (Link 0, omega arith, refl)
field_in (suc (suc zero)) h = (Link 1, omega arith, refl)
field_in (suc (suc (suc zero))) h = (Link 2, omega arith, refl)
field_in (suc (suc (suc (suc zero)))) h = (Link 3, omega arith, refl)
field_in (suc (suc (suc (suc (suc zero))))) h = (Tag, omega arith, refl)
field_in (suc (suc (suc (suc (suc (suc c)))))) h = absurd (omega arith)

-- ---- the word of a field in a table

module _ (t : List ℕ) (f : Field) (x : ℕ) where
  pub field_at_lem : dimension f ≤ 3 → field_at t f x ≡ get_or t (record_size * x + offset f) 0
  unfolding field_at
  field_at_lem h = rw (le-leb _ _ h) refl

  pub field_none : 3 < dimension f → field_at t f x ≡ 0
  unfolding field_at
  field_none h = rw (lt-leb _ _ h) refl

-- in zeros every word is 0
pub field_zero : (n : ℕ) (f : Field) (x : ℕ) → field_at (replicate n 0) f x ≡ 0
field_zero n f x = ⊎_elim
    (λ l. field_at_lem _ f x l ∙ at n _)
    (λ l. field_none _ f x l)
    (le_or_lt (dimension f) 3)
  where
    at : (n k : ℕ) → get_or (replicate {A = ℕ} n 0) k 0 ≡ 0
    at zero k = refl
    at (suc n) zero = refl
    at (suc n) (suc k) = at n k

-- ---- a word that is put

module _ (t : List ℕ) (f : Field) (x v : ℕ) where
  pub length-put : length (put t f x v) ≡ length t
  unfolding put
  length-put = length-set t (record_size * x + offset f) v

  module _ (l : dimension f ≤ 3) where
    pub put_same : (N : ℕ) → length t ≡ table_size N → x < N → field_at (put t f x v) f x ≡ v
    unfolding put
    put_same N e h = field_at_lem _ f x l ∙ get_or-set_same t (record_size * x + offset f) v 0 (omega (arith, offset-below f l))

    -- the word of another slot or another field
    pub put_other : (g : Field) (y : ℕ) → (y ≡ x → g ≡ f → ⊥) → field_at (put t f x v) g y ≡ field_at t g y
    unfolding put
    put_other g y ne = ⊎_elim
        (λ k. field_at_lem _ g y k
        ∙ get_or-set_other t (record_size * x + offset f) (record_size * y + offset g) v 0
        (λ e. ne (omega (arith, offset-below f l, offset-below g k)) (offset-once g f k l (omega (arith, offset-below f l, offset-below g k))))
        ∙ sym (field_at_lem t g y k))
        (λ k. field_none _ g y k ∙ sym (field_none t g y k))
        (le_or_lt (dimension g) 3)

-- ---- the view of a map's words is the map

pub length-words : (m : Map) → length (table_of m) ≡ table_size m.slots
unfolding table_of
length-words m = length-joined record_size (record_of m) (λ x. refl) m.slots

module _ (m : Map) (x : ℕ) (h : x < m.slots) where
  in_record : (f : Field) → dimension f ≤ 3 → get_or (record_of m x) (offset f) 0 ≡ field_of m f x
  in_record State l = refl
  in_record (Link zero) l = refl
  in_record (Link (suc zero)) l = refl
  in_record (Link (suc (suc zero))) l = refl
  in_record (Link (suc (suc (suc zero)))) l = refl
  in_record (Link (suc (suc (suc (suc i))))) l = absurd (omega arith)
  in_record Tag l = refl

  in_table : (f : Field) → dimension f ≤ 3 → get_or (table_of m) (record_size * x + offset f) 0 ≡ field_of m f x
  unfolding table_of
  in_table f l = get_or-joined record_size (record_of m) (λ y. refl) m.slots x (offset f) 0 h (offset-below f l) ∙ in_record f l

  pub field_words : (f : Field) → dimension f ≤ 3 → field_at (table_of m) f x ≡ field_of m f x
  field_words f l = field_at_lem (table_of m) f x l ∙ in_table f l

-- ---- the words of a view are the table

pub field_view : (N : ℕ) (t : List ℕ) (f : Field) (x : ℕ) → field_at t f x ≡ field_of (view N t) f x
field_view N t State x = refl
field_view N t (Link i) x = refl
field_view N t Tag x = refl

-- a table that has the words of m is the table of m
pub words_are : (m : Map) (t : List ℕ) → length t ≡ table_size m.slots
    → ((f : Field) (x : ℕ) → dimension f ≤ 3 → x < m.slots → field_at t f x ≡ field_of m f x) → t ≡ table_of m
words_are m t e same = ext_get_or 0 t (table_of m) (e ∙ sym (length-words m)) (λ i h.
    let x : i / record_size < m.slots = omega arith in
    let f = field_in (i % record_size) (omega arith) in
    let at : record_size * (i / record_size) + offset f.0 ≡ i = omega (arith, f.2) in
    ap (λ (k : ℕ). get_or t k 0) (sym at) ∙ sym (field_at_lem t f.0 _ f.1) ∙ same f.0 _ f.1 x ∙ sym (in_table m _ x f.0 f.1)
    ∙ ap (λ (k : ℕ). get_or (table_of m) k 0) at)

-- The records of a file's darts as they are entered into a table.
use Prim.Native.Nat.{ℕ, zero, suc, ◌+◌, ◌*◌, ◌≤◌, ◌<◌}
use mathlib.Core.Path.{◌≡◌, refl, sym, ap, ◌∙◌}
use mathlib.Core.Logic.{⊎_elim}
use mathlib.Core.List.{List, [], ◌∷◌}
use native.Mathlib.Nat.{mul-le-mul_left}
use native.Mathlib.Omega.{arith}
use lib.ListN.{length}
use borrow.Author.Tests.{le-leb}
use Rattle.base.specs.Lists.{list, list_from}
use Rattle.base.specs.Digits.{number_at}
use Rattle.base.proofs.BelowLaws.{below_suc}
use Rattle.model.specs.Map.{Field, State, Link, Tag, dimension, field_at, put}
use Rattle.model.proofs.MapLaws.{state_not_tag, state_not_link, tag_not_link, put_same, put_other}
use Rattle.table.specs.Words.{Sized}
use Rattle.table.proofs.WordLaws.{put-sized}
use Rattle.model.specs.File.{slots_from, tags_from, links_from, darts_in, slot_in, tag_in, link_in}
use Rattle.numbers.specs.Places.{NumberRead}
use Rattle.numbers.specs.declared.Cursor.{Cursor}
use Rattle.file.specs.Records.{Formed, LinksOf, link_of, link_word, row_of, put_row, put_links}

-- ---- the links of a dart

pub links-sized : (N : ℕ) (t : List ℕ) (x : ℕ) (g : ℕ → ℕ) (k : ℕ) → Sized N t → Sized N (put_links t x g k)
unfolding put_links
links-sized N t x g zero s = s
links-sized N t x g (suc k) s = put-sized (put_links t x g k) (Link k) x (g k) N (links-sized N t x g k s)

module _ (w n : ℕ) (b : List ℕ) (at x : ℕ) where
  -- a number that is read at the i-th place of the links
  pub link_here : (i p v : ℕ) → i ≤ n → p ≡ at + w * i → v ≡ number_at w b p → v ≡ link_word w n b at x i
  unfolding link_word
  link_here i p v h e f = rw (le-leb i n h, ← e) f

  -- with n = 2 the last is x itself
  pub link-flat : n ≡ 2 → x ≡ link_word w n b at x 3
  unfolding link_word
  link-flat e = rw e refl

-- four links, as they are put
pub links-put : (t t1 t2 t3 t4 : List ℕ) (x : ℕ) (l : List ℕ) → t1 ≡ put t (Link 0) x (link_of l 0) → t2 ≡ put t1 (Link 1) x (link_of l 1)
    → t3 ≡ put t2 (Link 2) x (link_of l 2) → t4 ≡ put t3 (Link 3) x (link_of l 3) → t4 ≡ put_links t x (link_of l) 4
unfolding put_links
links-put t t1 t2 t3 t4 x l p q r s = rw (s, r, q, p) refl

-- the links of x, where the first three were read one after the other
pub links-of : (w n : ℕ) (b : List ℕ) (at x : ℕ) (r s t : ℕ × Cursor) (last : ℕ) → 2 ≤ n → NumberRead w b at r → NumberRead w b r.1.at s
    → NumberRead w b s.1.at t → last ≡ link_word w n b at x 3 → LinksOf w n b at x (r.0 ∷ s.0 ∷ t.0 ∷ last ∷ [])
unfolding list list_from
links-of w n b at x r s t last h e f g l = rw (
  ← l,
  ← link_here w n b at x 0 _ _ (omega arith) (omega arith) e.value,
  ← link_here w n b at x 1 _ _ (omega arith) (omega arith) f.value,
  ← link_here w n b at x 2 _ _ (omega arith) (omega arith) g.value,
) refl

-- ---- a record

module _ (t : List ℕ) (x : ℕ) (g : ℕ → ℕ) where
  -- a word of another slot, or one that is no link
  links_leave : (k : ℕ) → k ≤ 4 → (y : ℕ) (f : Field) → (y ≡ x → (i : ℕ) → f ≡ Link i → ⊥) → field_at (put_links t x g k) f y ≡ field_at t f y
  unfolding put_links
  links_leave zero h y f off = refl
  links_leave (suc k) h y f off = put_other (put_links t x g k) (Link k) x (g k) (omega arith) f y (λ e. off e k) ∙ links_leave k (omega arith) y f off

  links-same : (N : ℕ) → Sized N t → x < N → (k i : ℕ) → k ≤ 4 → i < k → field_at (put_links t x g k) (Link i) x ≡ g i
  unfolding put_links
  links-same N s b zero i h l = absurd (omega arith)
  links-same N s b (suc k) i h l = ⊎_elim
      (λ e. rw e (put_same (put_links t x g k) (Link k) x (g k) (omega arith) N (links-sized N t x g k s).long b))
      (λ w. put_other (put_links t x g k) (Link k) x (g k) (omega arith) (Link i) x (λ p q. let z : i ≡ k = ap dimension q in omega arith)
      ∙ links-same N s b k i (omega arith) w)
      (below_suc l)

module _ (t : List ℕ) (x : ℕ) (g : Field → ℕ) where
  pub row_sized : (N : ℕ) → Sized N t → Sized N (put_row t x g)
  unfolding put_row
  row_sized N s = put-sized _ Tag x (g Tag) N (links-sized N _ x _ 4 (put-sized t State x (g State) N s))

  pub row_other : (y : ℕ) (f : Field) → (y ≡ x → ⊥) → field_at (put_row t x g) f y ≡ field_at t f y
  unfolding put_row
  row_other y f ne = put_other _ Tag x (g Tag) (omega arith) f y (λ e q. ne e)
      ∙ links_leave _ x _ 4 (omega arith) y f (λ e i q. ne e)
      ∙ put_other t State x (g State) (omega arith) f y (λ e q. ne e)

  pub row_same : (N : ℕ) → Sized N t → x < N → (f : Field) → dimension f ≤ 3 → field_at (put_row t x g) f x ≡ g f
  unfolding put_row
  row_same N s h State l = put_other _ Tag x (g Tag) (omega arith) State x (λ e. state_not_tag)
      ∙ links_leave _ x _ 4 (omega arith) x State (λ e i. state_not_link)
      ∙ put_same t State x (g State) (omega arith) N s.long h
  row_same N s h (Link i) l = put_other _ Tag x (g Tag) (omega arith) (Link i) x (λ e q. tag_not_link (sym q))
      ∙ links-same _ x _ N (put-sized t State x (g State) N s) h 4 i (omega arith) (omega arith)
  row_same N s h Tag l = put_same _ Tag x (g Tag) (omega arith) N (links-sized N _ x _ 4 (put-sized t State x (g State) N s)).long h

-- the words of the k-th dart, as they are put
pub entered : (w n : ℕ) (b : List ℕ) (k x v at tagged : ℕ) (l : List ℕ) (t t1 t2 t3 : List ℕ)
    → x ≡ slot_in w b k → at ≡ links_from w (darts_in w b) + w + w * ((n + 1) * k) → v ≡ number_at 4 b tagged
    → tagged ≡ tags_from w (darts_in w b) + w + 4 * k → LinksOf w n b at x l
    → t1 ≡ put t State x 1 → t2 ≡ put_links t1 x (link_of l) 4 → t3 ≡ put t2 Tag x v → t3 ≡ put_row t (slot_in w b k) (row_of w n b k)
unfolding put_row row_of put_links link_word link_in tag_in list list_from
entered w n b k x v at tagged l t t1 t2 t3 e f g h u p q r = rw (r, q, p, u, g, h, f, e) refl

-- the links of a dart stand within the bytes, and its slot is below the number of slots
module _ (w n N : ℕ) (b : List ℕ) (F : Formed w n N b) (L k : ℕ) (e : L ≡ darts_in w b) (h : k < L) where
  size : length b ≡ links_from w L + w + w * ((n + 1) * L)
  size = rw (F.size, e) (omega arith)

  pub links-room : links_from w L + w + w * ((n + 1) * k) + w * (n + 1) ≤ length b
  links-room = let l : k + 1 ≤ L = omega arith in omega (arith, size, mul-le-mul_left w (mul-le-mul_left (n + 1) l))

  pub slot-room : slots_from w + w + w * k + w ≤ slots_from w + w + w * L
  slot-room = let l : k + 1 ≤ L = omega arith in omega (arith, mul-le-mul_left w l)

  -- the slot that was read is below the number of slots
  pub slot-below : (x at : ℕ) → at ≡ slots_from w + w + w * k → x ≡ number_at w b at → (x ≡ slot_in w b k) × (x < N)
  unfolding slot_in
  slot-below x at q f = let g : x ≡ slot_in w b k = f ∙ ap (number_at w b) q in (g, rw g (F.below k (rw (← e) h)))

-- Laws of writing in a map, and that a table is written as its map is. A phase that writes needs to know no more of the table.
use Prim.Native.Nat.{ℕ, zero, suc, ◌≤◌, ◌<◌}
use mathlib.Core.Path.{◌≡◌, refl, sym, ap, ◌∙◌}
use mathlib.Core.Logic.{by_cases}
use mathlib.Core.Bool.{Bool, true, false, cond}
use mathlib.Core.List.{List}
use native.Mathlib.Decide.{ℕ_discrete}
use lib.Dec.{eqb}
use borrow.Author.Tests.{eq-eqb, ne_eqb}
use Rattle.base.specs.Steps.{steps}
use Rattle.model.specs.Map.{Map, Field, State, Link, Tag, field_of, dimension, field_at, put, view, table_of}
use Rattle.model.proofs.MapLaws.{state_not_tag, state_not_link, tag_not_link, put_same, put_other, field_view, words_are}
use Rattle.table.specs.Words.{Sized, blanked}
use Rattle.table.specs.Writes.{set_at, with_field, zeroed}
use Rattle.table.proofs.WordLaws.{blank-same, blank-other}

-- ---- a word, and the words of a field

module _ (l : ℕ → ℕ) (x v : ℕ) where
  pub set_same : set_at l x v x ≡ v
  unfolding set_at
  set_same = rw (eq-eqb x x refl) refl

  pub set_other : (y : ℕ) → (y ≡ x → ⊥) → set_at l x v y ≡ l y
  unfolding set_at
  set_other y ne = rw (ne_eqb y x ne) refl

  -- words that are v at x, and those of l elsewhere
  set_is : (w : ℕ → ℕ) → w x ≡ v → ((y : ℕ) → (y ≡ x → ⊥) → w y ≡ l y) → (y : ℕ) → w y ≡ set_at l x v y
  set_is w here other y = by_cases (ℕ_discrete y x) (λ e. rw e (here ∙ sym set_same)) (λ ne. other y ne ∙ sym (set_other y ne))

module _ (m : Map) (i : ℕ) (l : ℕ → ℕ) where
  -- the i-links of m, once l replaces them
  pub links-same : (with_field m (Link i) l).link i ≡ l
  unfolding with_field
  links-same = rw (eq-eqb i i refl) refl

  -- a word stays as it was if it is no i-link, or if l agrees with m there
  pub links_leave : (f : Field) (y : ℕ) → (f ≡ Link i → l y ≡ m.link i y) → field_of (with_field m (Link i) l) f y ≡ field_of m f y
  unfolding with_field
  links_leave State y same = refl
  links_leave (Link j) y same = by_cases (ℕ_discrete j i)
      (λ e. rw (eq-eqb j i e) (same (ap Link e) ∙ ap (λ (k : ℕ). m.link k y) (sym e)))
      (λ ne. rw (ne_eqb j i ne) refl)
  links_leave Tag y same = refl

  links_again : (k : ℕ → ℕ) → with_field (with_field m (Link i) l) (Link i) k ≡ with_field m (Link i) k
  unfolding with_field
  links_again k = λ o. record { slots = m.slots; state = m.state; link = λ j. last (eqb j i) (m.link j) o; tag = m.tag }
    where
      last : (b : Bool) (n : ℕ → ℕ) → cond b k (cond b l n) ≡ cond b k n
      last true n = refl
      last false n = refl

-- m with its own i-links is m
pub links-own : (m : Map) (i : ℕ) → with_field m (Link i) (m.link i) ≡ m
unfolding with_field
links-own m i = λ o. record { slots = m.slots; state = m.state; link = λ j. own j o; tag = m.tag }
  where
    own : (j : ℕ) → cond (eqb j i) (m.link i) (m.link j) ≡ m.link j
    own j = by_cases (ℕ_discrete j i) (λ e. rw e (rw (eq-eqb i i refl) refl)) (λ ne. rw (ne_eqb j i ne) refl)

-- steps that write only i-links, as steps over these links
pub links-steps : (i : ℕ) (g : ℕ → (ℕ → ℕ) → ℕ → ℕ) (n : ℕ) (m : Map)
    → steps n (λ r a. with_field a (Link i) (g r (a.link i))) m ≡ with_field m (Link i) (steps n g (m.link i))
unfolding steps
links-steps i g zero m = sym (links-own m i)
links-steps i g (suc n) m =
    let l = steps n g (m.link i) in
    ap (λ (a : Map). with_field a (Link i) (g n (a.link i))) (links-steps i g n m)
    ∙ ap (λ (k : ℕ → ℕ). with_field (with_field m (Link i) l) (Link i) (g n k)) (links-same m i l)
    ∙ links_again m i l (g n l)

pub zeroed-same : (m : Map) (x : ℕ) (f : Field) → field_of (zeroed x m) f x ≡ 0
unfolding zeroed
zeroed-same m x State = set_same _ x 0
zeroed-same m x (Link i) = set_same _ x 0
zeroed-same m x Tag = set_same _ x 0

pub zeroed-other : (m : Map) (x : ℕ) (f : Field) (y : ℕ) → (y ≡ x → ⊥) → field_of (zeroed x m) f y ≡ field_of m f y
unfolding zeroed
zeroed-other m x State y ne = set_other _ x 0 y ne
zeroed-other m x (Link i) y ne = set_other _ x 0 y ne
zeroed-other m x Tag y ne = set_other _ x 0 y ne

-- ---- the same in a table

module _ {N : ℕ} {t : List ℕ} (s : Sized N t) (x : ℕ) (h : x < N) where
  module _ (v : ℕ) where
    word-put : (f : Field) → dimension f ≤ 3 → (y : ℕ) → field_at (put t f x v) f y ≡ set_at (field_at t f) x v y
    word-put f l = set_is _ x v _ (put_same t f x v l N s.long h) (λ y ne. put_other t f x v l f y (λ e q. ne e))

    view-put : (f : Field) → dimension f ≤ 3 → view N (put t f x v) ≡ with_field (view N t) f (set_at (field_of (view N t) f) x v)
    unfolding with_field
    view-put State l = λ o. record {
      slots = N;
      state = λ y. word-put State l y o;
      link = λ j y. put_other t State x v l (Link j) y (λ e q. state_not_link (sym q)) o;
      tag = λ y. put_other t State x v l Tag y (λ e q. state_not_tag (sym q)) o;
    }
    view-put (Link i) l = λ o. record {
      slots = N;
      state = λ y. put_other t (Link i) x v l State y (λ e. state_not_link) o;
      link = λ j y. linked j y o;
      tag = λ y. put_other t (Link i) x v l Tag y (λ e. tag_not_link) o;
    }
      where
        linked : (j y : ℕ) → field_at (put t (Link i) x v) (Link j) y ≡ cond (eqb j i) (set_at (field_at t (Link i)) x v) (field_at t (Link j)) y
        linked j y = by_cases (ℕ_discrete j i)
            (λ e. rw e (rw (eq-eqb i i refl) (word-put (Link i) l y)))
            (λ ne. rw (ne_eqb j i ne) (put_other t (Link i) x v l (Link j) y (λ e q. ne (ap dimension q))))
    view-put Tag l = λ o. record {
      slots = N;
      state = λ y. put_other t Tag x v l State y (λ e. state_not_tag) o;
      link = λ j y. put_other t Tag x v l (Link j) y (λ e q. tag_not_link (sym q)) o;
      tag = λ y. word-put Tag l y o;
    }

  word_blank : (f : Field) (y : ℕ) → field_at (blanked x t) f y ≡ set_at (field_at t f) x 0 y
  word_blank f = set_is _ x 0 _ (blank-same N x t s.long h f) (λ y ne. blank-other N x t s.long f y ne)

  view-blank : view N (blanked x t) ≡ zeroed x (view N t)
  unfolding zeroed
  view-blank = λ o. record {
    slots = N;
    state = λ y. word_blank State y o;
    link = λ i y. word_blank (Link i) y o;
    tag = λ y. word_blank Tag y o;
  }

-- the map of a table in which a word was put, or a record became zeros
pub put_view : {N : ℕ} {t t' : List ℕ} → Sized N t → (f : Field) → dimension f ≤ 3 → (x v : ℕ) → x < N → t' ≡ put t f x v
    → view N t' ≡ with_field (view N t) f (set_at (field_of (view N t) f) x v)
put_view {N} s f l x v h e = ap (view N) e ∙ view-put s x h v f l

pub blank-view : {N : ℕ} {t t' : List ℕ} → Sized N t → (x : ℕ) → x < N → t' ≡ blanked x t → view N t' ≡ zeroed x (view N t)
blank-view {N} s x h e = ap (view N) e ∙ view-blank s x h

-- a table that shows the words of m is the table of m
pub shown-words : (m : Map) (t : List ℕ) → Sized m.slots t
    → ((f : Field) (x : ℕ) → dimension f ≤ 3 → x < m.slots → field_of (view m.slots t) f x ≡ field_of m f x) → t ≡ table_of m
shown-words m t s same = words_are m t s.long (λ f x l h. field_view m.slots t f x ∙ same f x l h)

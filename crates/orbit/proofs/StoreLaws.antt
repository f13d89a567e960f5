-- The laws of `store`: what stands in the store after one word of it was set, after a slot took a place, and after all marks were cleared.
use Prim.Native.Nat.{ℕ, ◌+◌, ◌*◌, ◌-◌, ◌≤◌, ◌<◌}
use mathlib.Core.Path.{◌≡◌, sym, ap, ◌∙◌}
use mathlib.Core.Logic.{◌≢◌, by_cases}
use mathlib.Core.Bool.{true, false}
use mathlib.Core.List.{List}
use native.Mathlib.Decide.{ℕ_discrete, dec_lt}
use native.Mathlib.Omega.{arith}
use lib.Dec.{leb, ltb}
use lib.ListN.{length, get_or, set, drop, replicate, length-set, length-append, length-replicate, length-drop, get_or-replicate, get_or-append}
use lib.Seq.{get_or-set_same, get_or-set_other}
use borrow.Author.Tests.{lt-ltb, le-ltb, le-leb, ltb-true, leb-true}
use Rattle.base.specs.Test.{◌and◌}
use Rattle.base.specs.Below.{count_below}
use Rattle.base.proofs.TestLaws.{and_left, and_right, and_of, same_test}
use Rattle.base.proofs.BelowLaws.{count_same, count-one-more, count_room, count-zero}
use Rattle.orbit.specs.Store.{mark, place, marked, among, Taken}
use Rattle.orbit.specs.Places.{pushed, Pushed, unmarked, Blank}

-- ---- one word

module _ (s : List ℕ) (i v : ℕ) where
  pub mark-set-same : i < length s → mark (set s i v) i ≡ v
  unfolding mark
  mark-set-same h = get_or-set_same s i v 0 h

  pub mark-set-other : (x : ℕ) → x ≢ i → mark (set s i v) x ≡ mark s x
  unfolding mark
  mark-set-other x ne = get_or-set_other s i x v 0 ne

  pub place-set-other : (N e : ℕ) → N + e ≢ i → place N (set s i v) e ≡ place N s e
  unfolding place
  place-set-other N e ne = get_or-set_other s i (N + e) v 0 ne

pub place-set-same : (N : ℕ) (s : List ℕ) (e v : ℕ) → N + e < length s → place N (set s (N + e) v) e ≡ v
unfolding place
place-set-same N s e v h = get_or-set_same s (N + e) v 0 h

-- ---- marks

module _ (s : List ℕ) (size x : ℕ) where
  pub among-at : among s size x ≡ true → (1 ≤ mark s x) × (mark s x ≤ size)
  unfolding among
  among-at a = (ltb-true 0 (mark s x) (and_left _ _ a), leb-true (mark s x) size (and_right _ _ a))

  pub among_of : 1 ≤ mark s x → mark s x ≤ size → among s size x ≡ true
  unfolding among
  among_of h k = and_of (lt-ltb 0 (mark s x) h) (le-leb (mark s x) size k)

pub among_same : (s s' : List ℕ) (size x : ℕ) → mark s x ≡ mark s' x → among s size x ≡ among s' size x
unfolding among
among_same s s' size x e = ap (λ (k : ℕ). ltb 0 k and leb k size) e

pub mark_le : (N : ℕ) (s : List ℕ) (end : ℕ) → Taken N s end → (x : ℕ) → x < N → mark s x ≤ end
mark_le N s end t x l = by_cases (dec_lt 0 (mark s x)) (λ h. (t.found x l h).0) (λ h. omega arith)

-- what is marked stands among the places that are taken
pub among-all : (N : ℕ) (s : List ℕ) (end : ℕ) → Taken N s end → (x : ℕ) → x < N → among s end x ≡ marked s x
unfolding marked
among-all N s end t x l = same_test _ _
    (λ a. lt-ltb 0 (mark s x) (among-at s end x a).0)
    (λ a. let h = ltb-true 0 (mark s x) a in among_of s end x h (t.found x l h).0)

-- the slot at a place is marked
pub place-marked : {N : ℕ} {s : List ℕ} {end x : ℕ} → Taken N s end → (e : ℕ) → e < end → place N s e ≡ x → marked s x ≡ true
unfolding marked
place-marked {N} {s} {end} {x} t e h q = let here : mark s x ≡ e + 1 = ap (mark s) (sym q) ∙ t.back e h in lt-ltb 0 (mark s x) (omega arith)

-- and a marked slot stands at a place
pub marked-place : {N : ℕ} {s : List ℕ} {end : ℕ} → Taken N s end → (x : ℕ) → x < N → marked s x ≡ true → (e : ℕ) × (e < end) × (place N s e ≡ x)
unfolding marked
marked-place {N} {s} t x l a =
    let one = ltb-true 0 (mark s x) a in
    let f = t.found x l one in
    (mark s x - 1, omega (arith, one, f.0), f.1)

-- ---- a word behind the places

module _ (N : ℕ) (s : List ℕ) (i v : ℕ) (behind : 2 * N ≤ i) where
  pub mark-set-behind : (x : ℕ) → x < N → mark (set s i v) x ≡ mark s x
  mark-set-behind x h = mark-set-other s i v x (λ q. absurd (omega arith))

  pub place-set-behind : (e : ℕ) → e < N → place N (set s i v) e ≡ place N s e
  place-set-behind e h = place-set-other s i v N e (λ q. absurd (omega arith))

  pub taken-set-behind : (end : ℕ) → Taken N s end → Taken N (set s i v) end
  unfolding marked
  taken-set-behind end t =
      let at : (e : ℕ) → e < end → place N (set s i v) e ≡ place N s e = λ e h. place-set-behind e (omega (arith, t.fits)) in
      record {
        long = simp length-set t.long;
        fits = t.fits;
        slot = λ e h. rw (at e h) (t.slot e h);
        back = λ e h. ap (mark (set s i v)) (at e h) ∙ mark-set-behind (place N s e) (t.slot e h) ∙ t.back e h;
        found = λ x h m.
            let mx : mark (set s i v) x ≡ mark s x = mark-set-behind x h in
            let f = t.found x h (omega arith) in
            (omega (arith, f.0), ap (λ (z : ℕ). place N (set s i v) (z - 1)) mx ∙ at (mark s x - 1) (omega (arith, f.0)) ∙ f.1);
        total = count_same N (marked (set s i v)) (marked s) (λ x h. ap (ltb 0) (mark-set-behind x h)) ∙ t.total;
      }

-- ---- a place more

module _ (N : ℕ) (s : List ℕ) (end y : ℕ) where
  pub length-pushed : length (pushed N s end y) ≡ length s
  unfolding pushed
  length-pushed = simp length-set

  -- a word that is neither the mark of y nor the new place
  pub pushed-other : (i : ℕ) → i ≢ y → i ≢ N + end → get_or (pushed N s end y) i 0 ≡ get_or s i 0
  unfolding pushed
  pushed-other i ne nf = get_or-set_other (set s y (end + 1)) (N + end) i y 0 nf ∙ get_or-set_other s y i (end + 1) 0 ne

  pub pushed-place-other : (e : ℕ) → y < N → e ≢ end → place N (pushed N s end y) e ≡ place N s e
  unfolding place
  pushed-place-other e l ne = pushed-other (N + e) (λ h. absurd (omega arith)) (λ h. ne (omega arith))

  pub pushed-mark-other : (x : ℕ) → x < N → x ≢ y → mark (pushed N s end y) x ≡ mark s x
  unfolding mark
  pushed-mark-other x l ne = pushed-other x ne (λ h. absurd (omega arith))

  module _ (t : Taken N s end) (l : y < N) where
    pub pushed-place : place N (pushed N s end y) end ≡ y
    unfolding pushed
    pushed-place = place-set-same N (set s y (end + 1)) end y (simp length-set (omega (arith, t.long, t.fits)))

    pub pushed-mark : mark (pushed N s end y) y ≡ end + 1
    unfolding pushed
    pushed-mark = mark-set-other (set s y (end + 1)) (N + end) y y (λ h. absurd (omega arith)) ∙ mark-set-same s y (end + 1) (omega (arith, t.long))

    module _ (fresh : mark s y ≡ 0) where
      unmarked_y : marked s y ≡ false
      unfolding marked
      unmarked_y = le-ltb 0 (mark s y) (omega arith)

      -- a slot without a mark leaves a place free
      pub room : end < N
      room = omega (arith, t.total, count_room N (marked s) y l unmarked_y)

      -- y stands at no place
      pub nowhere : (e : ℕ) → e < end → place N s e ≢ y
      nowhere e h q = let r : mark s y ≡ e + 1 = ap (mark s) (sym q) ∙ t.back e h in absurd (omega arith)

      more : count_below N (marked (pushed N s end y)) ≡ count_below N (marked s) + 1
      unfolding marked
      more = count-one-more N (marked s) (marked (pushed N s end y)) y l unmarked_y (lt-ltb 0 (mark (pushed N s end y) y) (omega (arith, pushed-mark)))
          (λ x h ne. ap (ltb 0) (pushed-mark-other x h ne))

      pub taken-pushed : Taken N (pushed N s end y) (end + 1)
      taken-pushed = record {
        long = length-pushed ∙ t.long;
        fits = omega (arith, room);
        slot = λ e h. by_cases (ℕ_discrete e end)
            (λ q. rw (q, pushed-place) l)
            (λ ne. rw (pushed-place-other e l ne) (t.slot e (omega arith)));
        back = λ e h. by_cases (ℕ_discrete e end)
            (λ q. rw (q, pushed-place) pushed-mark)
            (λ ne. let h' : e < end = omega arith in
            ap (mark (pushed N s end y)) (pushed-place-other e l ne) ∙ pushed-mark-other (place N s e) (t.slot e h') (nowhere e h') ∙ t.back e h');
        found = λ x h m. by_cases (ℕ_discrete x y)
            (λ q. let mx : mark (pushed N s end y) x ≡ end + 1 = rw q pushed-mark in
            let at : mark (pushed N s end y) x - 1 ≡ end = omega arith in
            (omega arith, ap (place N (pushed N s end y)) at ∙ pushed-place ∙ sym q))
            (λ ne. let mx : mark (pushed N s end y) x ≡ mark s x = pushed-mark-other x h ne in
            let f = t.found x h (omega arith) in (
              omega (arith, f.0),
              ap (λ (z : ℕ). place N (pushed N s end y) (z - 1)) mx
                  ∙ pushed-place-other (mark s x - 1) l (λ q. absurd (omega (arith, f.0))) ∙ f.1,
            ));
        total = omega (arith, more, t.total);
      }

      -- the two stores of a push
      pub push_done : {a b : List ℕ} → a ≡ set s y (end + 1) → b ≡ set a (N + end) y → Pushed N s end y b
      unfolding pushed
      push_done e f = let w : _ ≡ pushed N s end y = f ∙ ap (λ (z : List ℕ). set z (N + end) y) e in record { is = w; taken = rw w taken-pushed }

-- the place that was taken holds the slot
pub pushed-here : (N : ℕ) (s : List ℕ) (end y : ℕ) → Taken N s end → y < N → (s' : List ℕ) → Pushed N s end y s' → place N s' end ≡ y
pushed-here N s end y t l s' p = ap (λ (z : List ℕ). place N z end) p.is ∙ pushed-place N s end y t l

-- the places before it hold what they held
pub pushed-places : (N : ℕ) (s : List ℕ) (end y : ℕ) → y < N → (s' : List ℕ) → Pushed N s end y s' → (e : ℕ) → e < end → place N s' e ≡ place N s e
pushed-places N s end y l s' p e h = ap (λ (z : List ℕ). place N z e) p.is ∙ pushed-place-other N s end y e l (λ q. absurd (omega arith))

-- ---- no marks

pub unmarked-blank : (N : ℕ) (s : List ℕ) → length s ≡ 16 * N → Blank N (unmarked N s)
unfolding unmarked mark
unmarked-blank N s e = record {
  long = simp (length-append, length-replicate, length-drop) (omega arith);
  none = λ x h. get_or-append (replicate N 0) (drop N s) 0 x (simp length-replicate h) ∙ get_or-replicate N x 0 0 h;
}

-- in a store without marks no place is taken
pub blank-taken : (N : ℕ) (s : List ℕ) → Blank N s → Taken N s 0
unfolding marked
blank-taken N s b = record {
  long = b.long;
  fits = omega arith;
  slot = λ i h. absurd (omega arith);
  back = λ i h. absurd (omega arith);
  found = λ x h m. absurd (omega (arith, b.none x h));
  total = count-zero N (marked s) (λ x h. le-ltb 0 (mark s x) (omega (arith, b.none x h)));
}

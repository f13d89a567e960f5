-- The laws of `slots::clear_bits`, `slots::mark_bits` and `slots::block`: the orbit darts taken ascending, from a binary digit for each.
use Prim.Native.Nat.{ℕ, ◌+◌, ◌*◌, ◌-◌, ◌/◌, ◌%◌, ◌^◌, ◌≤◌, ◌<◌}
use mathlib.Core.Path.{◌≡◌, refl, sym, ap, ap₂, ◌∙◌, subst}
use mathlib.Core.Logic.{inl, by_cases}
use mathlib.Core.Bool.{Bool, true, false, true≢false}
use mathlib.Core.List.{List}
use native.Mathlib.Decide.{ℕ_discrete, dec_lt}
use native.Mathlib.Omega.{arith}
use lib.Count.{count_trailing_zeros}
use lib.Dec.{leb}
use lib.ListN.{length, get_or, set, length-set}
use lib.Pow.{pow_pos}
use lib.Seq.{get_or-set_same, get_or-set_other}
use borrow.Author.Tests.{ltb-true, lt-ltb, leb-true, le-leb}
use Rattle.base.specs.Test.{◌and◌, bit}
use Rattle.base.specs.Below.{count_below}
use Rattle.base.specs.Binary.{binary}
use Rattle.base.proofs.TestLaws.{and_left, and_right, and_of, impossible, same_test}
use Rattle.base.proofs.BelowLaws.{count-step, count_gap}
use Rattle.base.proofs.BinaryLaws.{binary-same, binary-below, binary-more, binary-none, binary-zero, binary_lowest, shifted}
use Rattle.model.specs.Map.{Map}
use Rattle.orbit.specs.Store.{mark, place}
use Rattle.orbit.specs.At.{At, site, of_slots}
use Rattle.rewriting.specs.Darts.{Grant}
use Rattle.rewriting.specs.Slots.{Granting, Turn, early, PlacesMarked, NoDigits, digit_words, Digits, Block}
use Rattle.orbit.proofs.StoreLaws.{among-at, among_of}
use Rattle.orbit.proofs.PlaceLaws.{marked_in}
use Rattle.rewriting.proofs.SlotTurnLaws.{good}

-- ---- a digit for each of the first places

early-at : (N : ℕ) (s : List ℕ) (r x : ℕ) → early N s r x ≡ true → (x < N) × (1 ≤ mark s x) × (mark s x ≤ r)
unfolding early
early-at N s r x e = let m = among-at s r x (and_right _ _ e) in (ltb-true x N (and_left _ _ e), m.0, m.1)

early_of : (N : ℕ) (s : List ℕ) (r x : ℕ) → x < N → 1 ≤ mark s x → mark s x ≤ r → early N s r x ≡ true
unfolding early
early_of N s r x h l m = and_of (lt-ltb x N h) (among_of s r x l m)

-- ---- no digit

pub bits_none : (N : ℕ) (s : List ℕ) → NoDigits N s 0 s
bits_none N s = record { behind = record { long = refl; kept = λ i h. refl }; zeros = λ w h. absurd (omega arith) }

module _ (N : ℕ) (s : List ℕ) (long : length s ≡ 16 * N) (k : ℕ) (h : k < digit_words N) (l : List ℕ) (z : NoDigits N s k l) where
  pub word-inside : 8 * N + k < length l
  word-inside = omega (arith, z.behind.long)

  pub bits_more : (at : ℕ) (l' : List ℕ) → at ≡ 8 * N + k → l' ≡ set l at 0 → NoDigits N s (k + 1) l'
  bits_more at l' e f = rw (f, e) (record {
    behind = record {
      long = length-set l (8 * N + k) 0 ∙ z.behind.long;
      kept = λ i g. get_or-set_other l (8 * N + k) i 0 0 (λ q. absurd (omega arith)) ∙ z.behind.kept i g;
    };
    zeros = λ w g. by_cases (ℕ_discrete w k)
        (λ q. ap (λ (y : ℕ). get_or (set l (8 * N + k) 0) (8 * N + y) 0) q ∙ get_or-set_same l (8 * N + k) 0 0 word-inside)
        (λ ne. get_or-set_other l (8 * N + k) (8 * N + w) 0 0 (λ q. ne (omega arith)) ∙ z.zeros w (omega arith));
  })

-- the same of a store by itself
pub none-own : (N : ℕ) (s : List ℕ) (k : ℕ) (l : List ℕ) → NoDigits N s k l → NoDigits N l k l
none-own N s k l z = record { behind = record { long = refl; kept = λ i h. refl }; zeros = z.zeros }

pub digits-none : (N : ℕ) (s l : List ℕ) → NoDigits N s (digit_words N) l → Digits N s 0 l
digits-none N s l z = record {
  behind = z.behind;
  at = λ w h. z.zeros w h ∙ sym (binary-zero 32 _ (λ k l. impossible _ (λ e. let m = early-at N s 0 (32 * w + k) e in omega arith)));
}

-- ---- one digit more

module _ (N : ℕ) (s : List ℕ) (size : ℕ) (P : PlacesMarked N s size) (r : ℕ) (h : r < size) where
  fresh : early N s r (place N s r) ≡ false
  fresh = impossible _ (λ e. let m = early-at N s r (place N s r) e in omega (arith, P.back r h))

  here : early N s (r + 1) (place N s r) ≡ true
  here = early_of N s (r + 1) (place N s r) (P.slot r h) (omega (arith, P.back r h)) (omega (arith, P.back r h))

  -- no other slot has that mark
  elsewhere : (x : ℕ) → (x ≡ place N s r → ⊥) → early N s (r + 1) x ≡ early N s r x
  elsewhere x ne = same_test _ _
      (λ e. let m = early-at N s (r + 1) x e in by_cases (ℕ_discrete (mark s x) (r + 1))
      (λ q. let k : mark s x - 1 ≡ r = omega arith in
      absurd (ne (sym (P.found x m.0 (among_of s size x m.1 (omega arith))) ∙ ap (place N s) k)))
      (λ q. early_of N s r x m.0 m.1 (omega arith)))
      (λ e. let m = early-at N s r x e in early_of N s (r + 1) x m.0 m.1 (omega arith))

  word_fits : place N s r / 32 < digit_words N
  word_fits = omega (arith, P.slot r h)

  -- u is what the code reads for the dart
  module _ (l : List ℕ) (d : Digits N s r l) (u : ℕ) (e : u ≡ get_or l (N + r) 0) where
    dart-is : u ≡ place N s r
    unfolding place
    dart-is = e ∙ d.behind.kept (N + r) (omega (arith, P.fits))

    shift : (1 * 2 ^ (u % 32)) % 2 ^ 64 ≡ 2 ^ (u % 32)
    shift = shifted (u % 32) (omega arith)

    inside : u / 32 < digit_words N
    inside = rw dart-is word_fits

    pub mark-word : 8 * N + u / 32 < length l
    mark-word = omega (arith, inside, d.behind.long, P.long)

    -- old is the word of digits in which the dart stands
    module _ (old : ℕ) (o : old ≡ get_or l (8 * N + u / 32) 0) where
      sum_is : old + (1 * 2 ^ (u % 32)) % 2 ^ 64 ≡ binary 32 (λ k. early N s (r + 1) (32 * (u / 32) + k))
      sum_is =
          let x : 32 * (u / 32) + u % 32 ≡ place N s r = omega (arith, dart-is) in
          ap₂ ◌+◌ (o ∙ d.at (u / 32) inside) shift ∙ sym (binary-more 32 _ _ (u % 32) (omega arith)
          (ap (early N s r) x ∙ fresh) (ap (early N s (r + 1)) x ∙ here) (λ j g ne. elsewhere (32 * (u / 32) + j) (λ q. ne (omega arith))))

      pub mark-room : old + (1 * 2 ^ (u % 32)) % 2 ^ 64 < 2 ^ 32
      mark-room = rw sum_is (binary-below 32 _)

      pub mark-more : (l' : List ℕ) → l' ≡ set l (8 * N + u / 32) (old + (1 * 2 ^ (u % 32)) % 2 ^ 64) → Digits N s (r + 1) l'
      mark-more l' f =
          let at : ℕ = 8 * N + u / 32 in
          let v : ℕ = old + (1 * 2 ^ (u % 32)) % 2 ^ 64 in
          rw f (record {
            behind = record {
              long = length-set l at v ∙ d.behind.long;
              kept = λ i g. get_or-set_other l at i v 0 (λ q. absurd (omega arith)) ∙ d.behind.kept i g;
            };
            at = λ w b. by_cases (ℕ_discrete w (u / 32))
                (λ q. ap (λ (k : ℕ). get_or (set l at v) (8 * N + k) 0) q ∙ get_or-set_same l at v 0 mark-word
                ∙ sum_is ∙ ap (λ (k : ℕ). binary 32 (λ j. early N s (r + 1) (32 * k + j))) (sym q))
                (λ ne. get_or-set_other l at (8 * N + w) v 0 (λ q. ne (omega arith)) ∙ d.at w b
                ∙ binary-same 32 _ _ (λ k g. sym (elsewhere (32 * w + k)
                (λ z. ne (let y : 32 * w + k ≡ u = z ∙ sym dart-is in omega arith)))));
          })

-- the digits of a store as those of its own places
pub digits-own : (N : ℕ) (s : List ℕ) (size : ℕ) (l : List ℕ) → Digits N s size l → Digits N l size l
unfolding mark
digits-own N s size l d = record {
  behind = record { long = refl; kept = λ i h. refl };
  at = λ w h. d.at w h ∙ binary-same 32 _ _ (λ k g. same_test _ _
      (λ e. let m = early-at N s size (32 * w + k) e in let q = d.behind.kept (32 * w + k) (omega arith) in
      early_of N l size (32 * w + k) m.0 (omega arith) (omega arith))
      (λ e. let m = early-at N l size (32 * w + k) e in let q = d.behind.kept (32 * w + k) (omega arith) in
      early_of N s size (32 * w + k) m.0 (omega arith) (omega arith)));
}

-- in the end every orbit dart has its digit
pub early-orbit : {m : Map} {s : List ℕ} {A : At m} {size many : ℕ} → Grant A s size many → (x : ℕ) → early m.slots s size x ≡ (site A).orbit x
early-orbit {m} {s} {A} {size} G x = let N = m.slots in same_test _ _
    (λ e. let m = early-at N s size x e in sym (G.walked.is x m.0) ∙ among_of s size x m.1 m.2)
    (λ e. let m = marked_in G.walked x e in early_of N s size x ((good G).slot x e) m.0 m.1)

-- ---- the darts of one word of digits

-- the orbit darts of the word below 64 × w + passed have their pairs; `rest` has a digit for each of the others
pub record Passed {m₀ : Map} (A : At m₀) (s₀ : List ℕ) (size many w rest from : ℕ) (m : Map) (s : List ℕ) : Type 0 where
  pub passed : ℕ
  pub few : passed ≤ 64
  pub digits : rest ≡ binary 64 (λ k. leb passed k and (site A).orbit (64 * w + k))
  pub granting : Granting A s₀ size (count_below (64 * w + passed) (site A).orbit * many) from m s

pub passed_none : {N : ℕ} {m : Map} {s : List ℕ} {size many w number free : ℕ} (B : Block N m s size many w number free)
    → Passed B.at B.store size many w number free m s
passed_none {N} {m} {s} {size} {many} {w} {number} {free} B =
    let z : 64 * w ≡ 64 * w + 0 = omega arith in
    record {
      passed = 0;
      few = omega arith;
      digits = B.digits ∙ binary-same 64 _ _ (λ k l. same_test _ _ (λ e. and_of (le-leb 0 k (omega arith)) e) (λ e. and_right _ _ e));
      granting = subst (λ (x : ℕ). Granting B.at B.store size (count_below x (site B.at).orbit * many) free m s) z B.granting;
    }

module _ (before : Map) {N : ℕ} {m : Map} {s₀ s : List ℕ} {A : At (of_slots N before)} {size many w rest from : ℕ} (G : Grant A s₀ size many)
    (p : Passed A s₀ size many w rest from m s) where
  open site A use {orbit as O}

  same_count : (j : ℕ) → p.passed ≤ j → ((k : ℕ) → p.passed ≤ k → k < j → O (64 * w + k) ≡ false)
      → Granting A s₀ size (count_below (64 * w + j) O * many) from m s
  same_count j h f =
      let c : count_below (64 * w + j) O ≡ count_below (64 * w + p.passed) O = count_gap O (64 * w + p.passed) (64 * w + j) (omega arith)
      (λ z l g. let k : 64 * w + (z - 64 * w) ≡ z = omega arith in ap O (sym k) ∙ f (z - 64 * w) (omega arith) (omega arith)) in
      rw c p.granting

  pub passed-all : rest ≡ 0 → Granting A s₀ size (count_below (64 * w + 64) O * many) from m s
  passed-all e = same_count 64 p.few
      (λ k l h. impossible _ (λ q. true≢false (sym (and_of (le-leb p.passed k l) q) ∙ binary-none 64 _ (sym p.digits ∙ e) k h)))

  module _ (some : rest ≡ 0 → ⊥) (j : ℕ) (is : j ≡ count_trailing_zeros 64 rest) where
    lowest_digit : (j < 64) × ((leb p.passed j and O (64 * w + j)) ≡ true) × ((i : ℕ) → i < j → (leb p.passed i and O (64 * w + i)) ≡ false)
    lowest_digit =
        let q : j ≡ count_trailing_zeros 64 (binary 64 (λ k. leb p.passed k and O (64 * w + k))) = is ∙ ap (count_trailing_zeros 64) p.digits in
        rw q (binary_lowest 64 (λ k. leb p.passed k and O (64 * w + k)) (omega (arith, p.digits)))

    pub in_word : j < 64
    in_word = lowest_digit.0

    in_orbit_lem : O (64 * w + j) ≡ true
    in_orbit_lem = and_right _ _ lowest_digit.1

    late : p.passed ≤ j
    late = leb-true p.passed j (and_left _ _ lowest_digit.1)

    skipped : (k : ℕ) → p.passed ≤ k → k < j → O (64 * w + k) ≡ false
    skipped k l h = impossible _ (λ q. true≢false (sym (and_of (le-leb p.passed k l) q) ∙ lowest_digit.2 k h))

    rest-is : rest ≡ binary 64 (λ k. leb (j + 1) k and O (64 * w + k)) + 2 ^ j
    rest-is = p.digits ∙ binary-more 64 _ _ j in_word
        (impossible _ (λ e. let l = leb-true (j + 1) j (and_left _ _ e) in omega arith))
        lowest_digit.1
        (λ k l ne. same_test _ _
        (λ e. by_cases (dec_lt k j)
        (λ b. absurd (true≢false (sym e ∙ lowest_digit.2 k b)))
        (λ b. and_of (le-leb (j + 1) k (omega arith)) (and_right _ _ e)))
        (λ e. let b = leb-true (j + 1) k (and_left _ _ e) in and_of (le-leb p.passed k (omega (arith, late))) (and_right _ _ e)))

    -- the digit taken off, as the machine does it
    pub digit-less : ((1 * 2 ^ j) % 2 ^ 64 ≤ rest) × (rest - (1 * 2 ^ j) % 2 ^ 64 < rest)
    digit-less =
        let e = shifted j in_word in
        let l = pow_pos j in
        rw e (omega (arith, rest-is), omega (arith, rest-is))

    pub dart-fits : 64 * w + j < N
    dart-fits = (good G).slot (64 * w + j) in_orbit_lem

    next : Granting A s₀ size (count_below (64 * w + j) O * many) from m s
    next = same_count j late skipped

    same-mark : mark s (64 * w + j) ≡ mark s₀ (64 * w + j)
    unfolding mark
    same-mark = p.granting.kept (64 * w + j) (inl (omega (arith, (good G).slot (64 * w + j) in_orbit_lem)))

    pub mark-some : (k : ℕ) → k ≡ get_or s (64 * w + j) 0 → 1 ≤ k
    unfolding mark
    mark-some k q = omega (arith, same-mark, marked_in G.walked (64 * w + j) in_orbit_lem)

    pub turn_of : (k : ℕ) → k ≡ get_or s (64 * w + j) 0 → Turn N m s size many (k - 1) from
    unfolding mark
    turn_of k q = record {
      before = before;
      at = A;
      store = s₀;
      grant = G;
      dart = 64 * w + j;
      in_orbit = in_orbit_lem;
      place = omega (arith, mark-some k q, same-mark);
      granting = next;
    }

    -- after the pairs of the lowest dart that is left
    pub passed-more : (k rest' from' : ℕ) (m' : Map) (s' : List ℕ) → k ≡ get_or s (64 * w + j) 0
        → rest' ≡ rest - (1 * 2 ^ j) % 2 ^ 64
        → ((T : Turn N m s size many (k - 1) from)
        → Granting T.at T.store size (count_below T.dart (site T.at).orbit * many + many) from' m' s')
        → Passed A s₀ size many w rest' from' m' s'
    unfolding turn_of
    passed-more k rest' from' m' s' q e f =
        let c : count_below (64 * w + j + 1) O ≡ count_below (64 * w + j) O + 1 =
        count-step (64 * w + j) O ∙ ap (λ (b : Bool). count_below (64 * w + j) O + bit b) in_orbit_lem in
        let a : 64 * w + (j + 1) ≡ 64 * w + j + 1 = omega arith in
        let d : (count_below (64 * w + j) O + 1) * many ≡ count_below (64 * w + j) O * many + many = omega arith in
        record {
          passed = j + 1;
          few = omega (arith, in_word);
          digits = let h = shifted j in_word in omega (arith, rest-is);
          granting = rw (a, c, d) (f (turn_of k q));
        }

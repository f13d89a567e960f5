-- The laws of `arcs`: the loop of `follows` with one place more, the first place at which the arc does not hold, and the end; then each
-- way out of `explicit` and `arc`, and the loop of `arcs`.
use Prim.Native.Nat.{ℕ, ◌+◌, ◌*◌, ◌-◌, ◌/◌, ◌%◌, ◌≤◌, ◌<◌}
use mathlib.Core.Path.{◌≡◌, sym, ap, ◌∙◌}
use mathlib.Core.Bool.{Bool, true, false}
use mathlib.Core.List.{List}
use native.Mathlib.Omega.{arith}
use lib.ListN.{get_or}
use lib.Dec.{eqb}
use borrow.Author.Tests.{eq-eqb, ne_eqb, lt-ltb, le-ltb}
use Rattle.base.specs.Test.{◌or◌}
use Rattle.base.proofs.TestLaws.{or_left, or_right}
use Rattle.base.proofs.BelowLaws.{all_none, all_more, all-stops, all-ends}
use Rattle.model.specs.Map.{Map}
use Rattle.orbit.specs.Store.{next, dart_at}
use Rattle.matching.specs.ArcTests.{Slots, Testable, Turns, Firm, follows, explicit_test, implicit_test, code_test, arc_test, arcs_test}

module _ (link : ℕ → ℕ) (s : List ℕ) (from base : ℕ) (to : ℕ → ℕ) where
  pub follows-none : follows link s 0 from base to ≡ true
  unfolding follows
  follows-none = all_none _

  -- q, x, y, z are what the loop reads at place r
  module _ (r q x y z : ℕ) (n : q ≡ to r) (a : x ≡ get_or s (from + r) 0) (b : y ≡ link x) (c : z ≡ get_or s (base + q) 0) where
    read : eqb y z ≡ eqb (link (dart_at s from r)) (dart_at s base (to r))
    unfolding dart_at
    read = rw (b, a, c, n)

    pub follows-more : y ≡ z → follows link s r from base to ≡ true → follows link s (r + 1) from base to ≡ true
    unfolding follows
    follows-more e f = all_more _ r f (sym read ∙ eq-eqb y z e)

    pub follows_stop : (size : ℕ) → r < size → eqb y z ≡ false → false ≡ follows link s size from base to
    unfolding follows
    follows_stop size h e = all-stops _ r size h (sym read ∙ e)

  pub follows-done : (r size : ℕ) → r ≤ size → size ≤ r → follows link s r from base to ≡ true → true ≡ follows link s size from base to
  unfolding follows
  follows-done r size h l e = all-ends _ r size e h l

-- ---- what is read

-- a word of a row of darts, wherever in the row it stands
pub dart-read : (N : ℕ) (s : List ℕ) (from size k x : ℕ) → Slots N s from size → from ≤ k → k < from + size → x ≡ get_or s k 0 → x < N
unfolding dart_at
dart-read N s from size k x o l h e = let place : k ≡ from + (k - from) = omega arith in rw (e, place) (o.slot (k - from) (omega arith))

pub turn_below : (N : ℕ) (s : List ℕ) (p r q size : ℕ) → q ≡ get_or s (4 * N + 4 * r + p) 0 → Turns N s p size → r < size → q < size
unfolding next
turn_below N s p r q size e o h = rw e (o.place r h)

-- ---- one arc

module _ (m : Map) (s : List ℕ) (size : ℕ) (dims rows : List ℕ) (j i from : ℕ) where
  module _ (t to : ℕ) (e : to ≡ get_or rows t 0) where
    pub explicit-later : from < to → true ≡ explicit_test m s size dims rows j i from t
    unfolding explicit_test ◌or◌
    explicit-later h = rw (← e, lt-ltb from to h)

    pub explicit-tree : (x : ℕ) → x ≡ get_or dims j 0 → x ≡ i → true ≡ explicit_test m s size dims rows j i from t
    unfolding explicit_test
    explicit-tree x d q = sym (or_left _ (or_right _ (rw (← d) (eq-eqb x i q))))

    pub explicit_tested : (r : Bool) → to ≤ from → (get_or dims j 0 ≡ i → ⊥) → (k : ℕ) → k ≡ size → r ≡ follows (m.link i) s k from to (λ q. q) → r
        ≡ explicit_test m s size dims rows j i from t
    unfolding explicit_test ◌or◌
    explicit_tested r h other k q f = rw (← e, le-ltb from to h, ne_eqb (get_or dims j 0) i other, ← q) f

  pub code-none : (roots code : ℕ) → code ≡ 255 → true ≡ code_test m s size dims rows j i from roots code
  unfolding code_test
  code-none roots code e = rw (eq-eqb code 255 e)

  module _ (roots code : ℕ) (some : code ≡ 255 → ⊥) where
    pub code-explicit : (r : Bool) → code < 16 → r ≡ explicit_test m s size dims rows j i from code → r ≡ code_test m s size dims rows j i from roots code
    unfolding code_test
    code-explicit r h e = rw (ne_eqb code 255 some, lt-ltb code 16 h) e

    pub code-hook : 16 ≤ code → j < roots → true ≡ code_test m s size dims rows j i from roots code
    unfolding code_test implicit_test ◌or◌
    code-hook h z = rw (ne_eqb code 255 some, le-ltb code 16 h, lt-ltb j roots z)

    pub code-implicit : (r : Bool) → 16 ≤ code → roots ≤ j → r ≡ follows (m.link i) s size from from (λ q. next m.slots s q (code - 16)) → r
        ≡ code_test m s size dims rows j i from roots code
    unfolding code_test implicit_test ◌or◌
    code-implicit r h late e = rw (ne_eqb code 255 some, le-ltb code 16 h, le-ltb j roots late) e

-- v, code and from are what the test of an arc reads
pub arc-read : (m : Map) (s : List ℕ) (size : ℕ) (nodes dims : List ℕ) (roots : ℕ) (codes rows : List ℕ) (j i v code from : ℕ) (r : Bool)
    → v ≡ get_or nodes j 0 → code ≡ get_or codes (4 * v + i) 0 → from ≡ get_or rows v 0
    → r ≡ code_test m s size dims rows j i from roots code → r ≡ arc_test m s size nodes dims roots codes rows j i
unfolding arc_test
arc-read m s size nodes dims roots codes rows j i v code from r a b c e = rw (← a, ← c, ← b) e

-- ---- every arc

module _ (m : Map) (s : List ℕ) (size : ℕ) (nodes dims : List ℕ) (roots : ℕ) (codes rows : List ℕ) where
  pub arcs-none : arcs_test m s size nodes dims roots codes rows 0 ≡ true
  unfolding arcs_test
  arcs-none = all_none _

  module _ (k : ℕ) (r : Bool) (e : r ≡ arc_test m s size nodes dims roots codes rows (k / 4) (k % 4)) where
    pub arcs-more : r ≡ true → arcs_test m s size nodes dims roots codes rows k ≡ true → arcs_test m s size nodes dims roots codes rows (k + 1) ≡ true
    unfolding arcs_test
    arcs-more h f = all_more _ k f (sym e ∙ h)

    pub arcs_stop : r ≡ false → (bound : ℕ) → k < bound → false ≡ arcs_test m s size nodes dims roots codes rows bound
    unfolding arcs_test
    arcs_stop h bound l = all-stops _ k bound l (sym e ∙ h)

  pub arcs-done : (k bound : ℕ) → k ≤ bound → bound ≤ k → arcs_test m s size nodes dims roots codes rows k ≡ true → true
      ≡ arcs_test m s size nodes dims roots codes rows bound
  unfolding arcs_test
  arcs-done k bound h l e = all-ends _ k bound e h l

-- ---- what the tests of an arc ask for

module _ (N : ℕ) (s : List ℕ) (size : ℕ) (nodes codes rows : List ℕ) (count : ℕ) (f : Firm N s size nodes codes rows count)
    (j i : ℕ) (h : j < count) (k : i < 4) (v : ℕ) (a : v ≡ get_or nodes j 0) where
  pub firm-node : v < 16
  firm-node = rw a (f.node j h)

  module _ (code : ℕ) (b : code ≡ get_or codes (4 * v + i) 0) where
    code_is : code ≡ get_or codes (4 * get_or nodes j 0 + i) 0
    code_is = b ∙ ap (λ (z : ℕ). get_or codes (4 * z + i) 0) a

    testable : (to : ℕ) → to + size ≤ 2 * N → Testable N s size (get_or rows v 0) to
    testable to o = record {
      long = f.long;
      few = f.few;
      from_inside = rw a (f.row j h);
      to_inside = o;
      slots = rw a (f.slots j h);
    }

    pub firm-explicit : code < 16 → Testable N s size (get_or rows v 0) (get_or rows code 0)
    firm-explicit g = testable (get_or rows code 0) (rw code_is (f.target j i h k (rw code_is at g)))

    pub firm-implicit : 16 ≤ code → (code ≡ 255 → ⊥) → Testable N s size (get_or rows v 0) (get_or rows v 0) × ((code - 16 < 4) × Turns N s (code - 16) size)
    firm-implicit g ne =
        let r = f.turn j i h k (rw code_is at g) (λ q. ne (code_is ∙ q)) in
        let same = code_is in
        (testable (get_or rows v 0) (rw a (f.row j h)), (omega (arith, r.0), rw code_is r.1))

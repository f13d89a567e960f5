-- The laws of `images::row`: a row while its darts take their places.
use Prim.Native.Nat.{ℕ, ◌+◌, ◌*◌, ◌-◌, ◌≤◌, ◌<◌}
use mathlib.Core.Path.{◌≡◌, refl, sym, ap, ◌∙◌}
use mathlib.Core.Logic.{by_cases}
use mathlib.Core.Bool.{true, false, true≢false}
use mathlib.Core.List.{List}
use native.Mathlib.Decide.{ℕ_discrete}
use native.Mathlib.Omega.{arith}
use lib.ListN.{get_or}
use Rattle.base.proofs.TestLaws.{same_test}
use Rattle.orbit.specs.Store.{mark, place, next, dart_at, Taken, Kept}
use Rattle.orbit.specs.Places.{Pushed}
use Rattle.matching.specs.Retrace.{Longer}
use Rattle.matching.specs.Images.{RowLinked, Row, RowMade}
use Rattle.orbit.proofs.StoreLaws.{pushed-other, pushed-place-other, pushed-here, among-at, among_of}

-- ---- a store with further places

-- a row that begins at a place is read there
pub dart-place : (N : ℕ) (s : List ℕ) (e r base : ℕ) → base ≡ N + e → dart_at s base r ≡ place N s (e + r)
unfolding dart_at place
dart-place N s e r base h = let same : base + r ≡ N + (e + r) = omega arith in ap (λ (k : ℕ). get_or s k 0) same

module _ (N : ℕ) (s s' : List ℕ) (end : ℕ) (l : Longer N s s' end) where
  pub longer-dart : (from r : ℕ) → N ≤ from → from + r < N + end → dart_at s' from r ≡ dart_at s from r
  longer-dart from r h k =
      let e : from ≡ N + (from - N) = omega arith in
      dart-place N s' (from - N) r from e ∙ l.places (from - N + r) (omega arith) ∙ sym (dart-place N s (from - N) r from e)

  pub longer-less : (few : ℕ) → few ≤ end → Longer N s s' few
  longer-less few h = record { places = λ e k. l.places e (omega arith); rest = l.rest }

  pub longer_trans : (s'' : List ℕ) → Longer N s' s'' end → Longer N s s'' end
  longer_trans s'' k = record { places = λ e h. k.places e h ∙ l.places e h; rest = λ i h. k.rest i h ∙ l.rest i h }

  module _ (end' : ℕ) (t : Taken N s end) (t' : Taken N s' end') (more : end ≤ end') where
    -- a slot with a place keeps its mark
    pub longer-mark : (x : ℕ) → x < N → 1 ≤ mark s x → mark s' x ≡ mark s x
    longer-mark x h m =
        let f = t.found x h m in
        let at : place N s' (mark s x - 1) ≡ x = l.places (mark s x - 1) (omega (arith, f.0)) ∙ f.1 in
        let back : mark s' (place N s' (mark s x - 1)) ≡ mark s x - 1 + 1 = t'.back (mark s x - 1) (omega (arith, f.0)) in
        let same : mark s' x ≡ mark s' (place N s' (mark s x - 1)) = ap (mark s') (sym at) in
        omega arith

    -- a slot at one of the first places stood there
    pub longer-found : (x : ℕ) → x < N → 1 ≤ mark s' x → mark s' x ≤ end → mark s x ≡ mark s' x
    longer-found x h m k =
        let f = t'.found x h m in
        let at : place N s (mark s' x - 1) ≡ x = sym (l.places (mark s' x - 1) (omega arith)) ∙ f.1 in
        let back : mark s (place N s (mark s' x - 1)) ≡ mark s' x - 1 + 1 = t.back (mark s' x - 1) (omega arith) in
        let same : mark s x ≡ mark s (place N s (mark s' x - 1)) = ap (mark s) (sym at) in
        omega arith

    -- the first places keep their darts, marks and links
    pub longer-kept : (few : ℕ) → few ≤ end → Kept N s s' few
    unfolding next
    longer-kept few b = record {
      long = t'.long ∙ sym t.long;
      places = λ r h. l.places r (omega arith);
      marks = λ x h. same_test _ _
          (λ a. let p = among-at s' few x a in let e = longer-found x h p.0 (omega arith) in among_of s few x (omega arith) (omega arith))
          (λ a. let p = among-at s few x a in let e = longer-mark x h p.0 in among_of s' few x (omega arith) (omega arith));
      ranks = λ x h a. longer-mark x h (among-at s few x a).0;
      nexts = λ r p h k. l.rest (4 * N + 4 * r + p) (omega arith);
    }

-- ---- one dart more

-- a dart that takes the place `end` leaves the places before it and what is behind the places
pub pushed-longer : (N : ℕ) (s s' : List ℕ) (end y : ℕ) → y < N → Pushed N s end y s' → Longer N s s' end
pushed-longer N s s' end y l p = record {
  places = λ e h. ap (λ (z : List ℕ). place N z e) p.is ∙ pushed-place-other N s end y e l (λ q. absurd (omega arith));
  rest = λ k h. let fits = p.taken.fits in
      ap (λ (z : List ℕ). get_or z k 0) p.is ∙ pushed-other N s end y k (λ q. absurd (omega arith)) (λ q. absurd (omega arith));
}

pub mark-read : (s : List ℕ) (y w : ℕ) → w ≡ get_or s y 0 → w ≡ 0 → mark s y ≡ 0
unfolding mark
mark-read s y w e z = sym e ∙ z

module _ (N : ℕ) (link : ℕ → ℕ) (from : ℕ) (s : List ℕ) (end : ℕ) where
  pub row-none : Taken N s end → Row N link from s s end 0
  row-none t = record {
    taken = let same : end + 0 ≡ end = omega arith in rw same t;
    longer = record { places = λ e h. refl; rest = λ k h. refl };
    darts = λ q h. absurd (omega arith);
  }

  module _ (s' : List ℕ) (r : ℕ) (c : Row N link from s s' end r) (from_place : N ≤ from) (inside : from + r < N + end) where
    read : (x : ℕ) → x ≡ get_or s' (from + r) 0 → x ≡ dart_at s from r
    unfolding dart_at
    read x e = e ∙ longer-dart N s s' end c.longer from r from_place inside

    pub row-slot : (x : ℕ) → x ≡ get_or s' (from + r) 0 → x < N
    row-slot x e =
        let at : dart_at s' from r ≡ place N s' (from - N + r) = dart-place N s' (from - N) r from (omega arith) in
        let d : dart_at s' from r ≡ dart_at s from r = longer-dart N s s' end c.longer from r from_place inside in
        let b : place N s' (from - N + r) < N = c.taken.slot (from - N + r) (omega arith) in
        let q = read x e in
        omega arith

    module _ (x y : ℕ) (a : x ≡ get_or s' (from + r) 0) (b : y ≡ link x) where
      at : y ≡ link (dart_at s from r)
      at = b ∙ ap link (read x a)

      pub row_below : (size : ℕ) → r < size → RowLinked N link s from size → y < N
      row_below size h o = rw at (o.slot r h)

      pub row-clash : (size w : ℕ) → r < size → w ≡ get_or s' y 0 → (w ≡ 0 → ⊥) → RowMade N link from s s' end size false
      unfolding mark
      row-clash size w h e ne = record {
        done = λ q. absurd (true≢false (sym q));
        clash = λ q. (
          r,
          h,
          c,
          (let z : w ≡ mark s' (link (dart_at s from r)) = e ∙ ap (λ (k : ℕ). get_or s' k 0) at in omega (arith, z, ne)),
        );
      }

      pub row_more : (s'' : List ℕ) → y < N → Pushed N s' (end + r) y s'' → Row N link from s s'' end (r + 1)
      row_more s'' l p =
          let longer : Longer N s' s'' (end + r) = pushed-longer N s' s'' (end + r) y l p in
          record {
            taken = let same : end + (r + 1) ≡ end + r + 1 = omega arith in rw same p.taken;
            longer = longer_trans N s s' end c.longer s'' (longer-less N s' s'' (end + r) longer end (omega arith));
            darts = λ q h. by_cases (ℕ_discrete q r)
                (λ e. rw e (pushed-here N s' (end + r) y c.taken l s'' p ∙ at))
                (λ ne. longer.places (end + q) (omega arith) ∙ c.darts q (omega arith));
          }

  pub row_done : (s' : List ℕ) (r : ℕ) → Row N link from s s' end r → (size : ℕ) → r ≤ size → size ≤ r → RowMade N link from s s' end size true
  row_done s' r c size h l = record { done = λ q. let same : r ≡ size = omega arith in rw (← same) c; clash = λ q. absurd (true≢false q) }

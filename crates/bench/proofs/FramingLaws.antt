-- The framing. The counts that were read are those of the input. An input that breaks a limit or the length is a fault, and stays one if it is cut.
use Prim.Native.Nat.{ℕ, ◌+◌, ◌*◌, ◌≤◌, ◌<◌}
use mathlib.Core.Path.{◌≡◌, refl, sym, ap, ap₂, ◌∙◌, subst}
use mathlib.Core.Logic.{⊎_elim}
use mathlib.Core.Bool.{true, false}
use Rattle.std.specs.Prelude.{Option, Some, None}
use mathlib.Core.List.{List}
use native.Mathlib.Omega.{arith}
use lib.ListN.{length, take}
use lib.Seq.{take_all, length-take-le}
use borrow.Author.Tests.{leb-true, eqb-true, le-leb, eq-eqb}
use Rattle.base.specs.Digits.{number_at}
use Rattle.base.proofs.TestLaws.{and_left, and_right, and_of, true_or_false, impossible}
use Rattle.base.proofs.BelowLaws.{le_or_lt}
use Rattle.program.specs.Opening.{longest_file}
use Rattle.bench.specs.Bench.{map_length, scheme_length, dart_count, framed, longest_scheme, most_darts, longest_input, printed}
use Rattle.bench.specs.Input.{Laid, FramingOf}
use Rattle.bench.specs.declared.framing.Layout.{Layout}

module _ (b : List ℕ) (map scheme darts : ℕ) (x : map ≡ number_at 2 b 0) (y : scheme ≡ number_at 2 b (2 + map))
    (z : darts ≡ number_at 2 b (4 + map + scheme)) where
  pub map-length : map_length b ≡ map
  map-length = sym x

  pub scheme-length : scheme_length b ≡ scheme
  scheme-length = ap (λ (k : ℕ). number_at 2 b (2 + k)) map-length ∙ sym y

  pub dart-count : dart_count b ≡ darts
  dart-count = ap₂ (λ (j k : ℕ). number_at 2 b (4 + j + k)) map-length scheme-length ∙ sym z

  pub fault : (map ≤ longest_file → scheme ≤ longest_scheme → darts ≤ most_darts → length b ≡ 6 + map + scheme + 2 * darts → ⊥) → framed b ≡ false
  unfolding framed
  fault f = ⊎_elim
      (λ t.
      let size : length b ≡ 6 + map_length b + scheme_length b + 2 * dart_count b = eqb-true _ _ (and_right _ _ t) in
      absurd (f
      (subst (λ (k : ℕ). k ≤ longest_file) map-length (leb-true _ _ (and_left _ _ (and_left _ _ (and_left _ _ t)))))
      (subst (λ (k : ℕ). k ≤ longest_scheme) scheme-length (leb-true _ _ (and_right _ _ (and_left _ _ (and_left _ _ t)))))
      (subst (λ (k : ℕ). k ≤ most_darts) dart-count (leb-true _ _ (and_right _ _ (and_left _ _ t))))
      (omega (arith, size, map-length, scheme-length, dart-count))))
      (λ e. e)
      (true_or_false (framed b))

module _ (b : List ℕ) (l : Layout) (k : Laid b l) where
  pub laid-framed : framed b ≡ true
  unfolding framed
  laid-framed =
      let m = map-length b l.map l.scheme l.darts k.map k.scheme k.darts in
      let s = scheme-length b l.map l.scheme l.darts k.map k.scheme k.darts in
      let d = dart-count b l.map l.scheme l.darts k.map k.scheme k.darts in
      rw (d, s, m) (and_of (and_of (and_of (le-leb _ _ k.map_fits) (le-leb _ _ k.scheme_fits)) (le-leb _ _ k.darts_fit)) (eq-eqb _ _ k.size))

-- ---- what the framing was found to be

pub fault_of_lem : (b : List ℕ) (f : Option Layout) → f ≡ None → FramingOf b f → framed b ≡ false
fault_of_lem b f e x = subst (FramingOf b) e x

pub laid_of : (b : List ℕ) (f : Option Layout) (l : Layout) → f ≡ Some l → FramingOf b f → Laid b l
laid_of b f l e x = subst (FramingOf b) e x

-- ---- how long an input is

pub framed-short : (b : List ℕ) → framed b ≡ true → length b ≤ longest_input
unfolding framed
framed-short b t =
    let size : length b ≡ 6 + map_length b + scheme_length b + 2 * dart_count b = eqb-true _ _ (and_right _ _ t) in
    let map = leb-true (map_length b) longest_file (and_left _ _ (and_left _ _ (and_left _ _ t))) in
    let scheme = leb-true (scheme_length b) longest_scheme (and_right _ _ (and_left _ _ (and_left _ _ t))) in
    let darts = leb-true (dart_count b) most_darts (and_right _ _ (and_left _ _ t)) in
    omega (arith, size, map, scheme, darts)

long-fault : (b : List ℕ) → longest_input < length b → framed b ≡ false
long-fault b h = impossible _ (λ t. omega (arith, framed-short b t))

-- A buffer of k bytes is longer than the longest input that is framed. What is read of an input into it prints what the whole input does: if the
-- input is cut, both are framing faults.
pub cut-printed : (b : List ℕ) (k : ℕ) → longest_input < k → printed (take k b) ≡ printed b
unfolding printed
cut-printed b k h = ⊎_elim
    (λ (l : length b ≤ k). ap printed (take_all k b l))
    (λ (l : k < length b).
    let cut = long-fault (take k b) (omega (arith, length-take-le k b (omega arith))) in
    rw (cut, long-fault b (omega arith)) refl)
    (le_or_lt (length b) k)

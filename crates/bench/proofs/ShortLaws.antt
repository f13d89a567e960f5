-- No line is long: the numbers of an edit's answer are small.
use Prim.Native.Nat.{ℕ, ◌*◌, ◌≤◌, ◌<◌}
use mathlib.Core.Path.{◌≡◌, refl, sym, subst}
use Rattle.std.specs.Prelude.{Option, Some, None, Ok, Err}
use mathlib.Core.List.{List}
use native.Mathlib.Nat.{mul-le-mul_left}
use native.Mathlib.Omega.{arith}
use lib.ListN.{length}
use borrow.Author.Tests.{ne_eqb}
use Rattle.base.specs.Below.{count_below}
use Rattle.base.proofs.BelowLaws.{count_le}
use Rattle.model.specs.Answer.{Answer, number, answered}
use Rattle.model.specs.Bytes.{nodes_of}
use Rattle.model.specs.Scheme.{scheme_of, deleted}
use Rattle.model.specs.Match.{image}
use Rattle.model.specs.Edit.{is_free, orbit_size, added_darts, deleted_darts}
use Rattle.model.specs.Calls.{site_done, site_of, edit_fault, edit_answer}
use Rattle.bench.specs.Bench.{shown, dart_line, last_line}
use Rattle.model.specs.declared.Darts.TheVariants.{One}
use Rattle.model.specs.declared.Reply.TheVariants.{Edited}
use Rattle.model.specs.declared.Refusal.{Refusal}
use Rattle.model.proofs.AnswerLaws.{number-few, number_bounds}
use Rattle.model.proofs.CallLaws.{granted, ready}
use Rattle.model.proofs.EditLaws.{enough}
use Rattle.model.proofs.SchemeLaws.{nodes-few}
use Rattle.program.proofs.DecimalLaws.{decimal-short}
use Rattle.program.proofs.LineLaws.{digits}
use Rattle.program.specs.Opening.{most_slots}
use Rattle.bench.proofs.LineLaws.{dart-length, last-length}

-- ---- the line of an edit

refused-short : (d : ℕ) (a : Answer) → d < 100000 → (number a ≡ 0 → ⊥) → length (dart_line d a) ≤ 23
refused-short d a h f =
    let none-shown : (j : ℕ) → shown a j ≡ 0 = λ j. rw (ne_eqb (number a) 0 f) refl in
    let one : (j : ℕ) → digits (shown a j) ≤ 1 = λ j. subst (λ (v : ℕ). digits v ≤ 1) (sym (none-shown j)) (decimal-short 0 0 (omega arith)) in
    omega (arith, dart-length d a, decimal-short 4 d h, decimal-short 1 (number a) (omega (arith, number-few a)), one 0, one 1, one 2)

done-short : (d o e f : ℕ) → d < most_slots → o ≤ most_slots → e ≤ most_slots → f ≤ 16 * most_slots → length (dart_line d (Ok (Edited o e f))) ≤ 23
done-short d o e f h x y z =
    omega (
      arith,
      dart-length d (Ok (Edited o e f)),
      decimal-short 3 d (omega arith),
      decimal-short 0 0 (omega arith),
      decimal-short 3 o (omega arith),
      decimal-short 3 e (omega arith),
      decimal-short 4 f (omega arith),
    )

module _ (n N : ℕ) (few : N ≤ most_slots) (t store b : List ℕ) (d : ℕ) where
  granted-short : edit_fault n N t store b (One d) ≡ None → length (dart_line d (Ok (site_done (site_of N t b (One d))))) ≤ 23
  unfolding site_done orbit_size deleted_darts scheme_of
  granted-short q =
      let g = granted n N t store b (One d) q in
      let O = (site_of N t b (One d)).orbit in
      let orbits : count_below N O ≤ N = count_le N O in
      let nodes : count_below (nodes_of b) (deleted (scheme_of b)) ≤ 16 = omega (arith, count_le (nodes_of b) (deleted (scheme_of b)), nodes-few b g.form) in
      let E = site_of N t b (One d) in
      let room : added_darts E ≤ most_slots = omega (arith, enough (ready n N t store b (One d) q), count_le N (is_free E (image E))) in
      let gone : count_below N O * count_below (nodes_of b) (deleted (scheme_of b)) ≤ 16 * most_slots =
      omega (arith, mul-le-mul_left (count_below N O) nodes) in
      done-short d _ _ _ (omega (arith, g.dart.slot)) (omega arith) room gone

  pub line-short : d < 100000 → length (dart_line d (edit_answer n N t store b (One d))) ≤ 23
  unfolding edit_answer
  line-short h = go (edit_fault n N t store b (One d)) refl
    where
      go : (o : Option Refusal) → edit_fault n N t store b (One d) ≡ o
          → length (dart_line d (answered (site_done (site_of N t b (One d))) (edit_fault n N t store b (One d)))) ≤ 23
      go None q = rw q (granted-short q)
      go (Some f) q = rw q (refused-short d (Err f) h (λ e. omega (arith, (number_bounds f).0)))

-- ---- the last line

pub last-few : (x y : ℕ) → x ≤ most_slots → y ≤ most_slots → length (last_line x y) ≤ 22
last-few x y h k = omega (arith, last-length x y, decimal-short 3 x (omega arith), decimal-short 3 y (omega arith))

-- The line of six numbers, and that no line is long.
use Prim.Native.Nat.{ℕ, ◌+◌, ◌*◌, ◌≤◌}
use mathlib.Core.Path.{◌≡◌, sym, ap, ◌∙◌}
use mathlib.Core.List.{List}
use native.Mathlib.Omega.{arith}
use lib.ListN.{length, get_or, length-append}
use lib.Seq.{ext_get_or}
use Rattle.base.specs.Lists.{list, list_from, joined}
use Rattle.base.proofs.ListLaws.{get_or-list, length-list}
use Rattle.model.specs.Calls.{count_size}
use Rattle.numbers.specs.Places.{Put}
use Rattle.program.specs.Lines.{fields, numbers_line}
use Rattle.program.proofs.DecimalLaws.{decimal-short}
use Rattle.program.proofs.LineLaws.{digits}
use Rattle.program.specs.Opening.{most_slots}
use Rattle.report.specs.Report.{count_line}
use Rattle.report.specs.Promises.{most_maps, longest_line, SumsRoom, Few}

-- the six numbers of an array are those of its line
module _ (c : List ℕ) (six : length c ≡ count_size) where
  count_numbers : count_line c ≡ numbers_line c
  unfolding count_line
  count_numbers = ap numbers_line (ext_get_or 0 _ _ (length-list count_size _ ∙ sym six)
      (λ k l. get_or-list count_size k _ 0 (omega (arith, l, length-list count_size (λ i. get_or c i 0)))))

  pub count_room : (at size : ℕ) → at + length (count_line c) ≤ size → at + length (numbers_line c) ≤ size
  count_room at size h = rw (← count_numbers) h

  pub count-put : (l : List ℕ) (at : ℕ) (l' : List ℕ) (p : ℕ) → Put l at (numbers_line c) l' p → Put l at (count_line c) l' p
  count-put l at l' p z = rw count_numbers z

count-length : (c : List ℕ) → length (count_line c)
    ≡ digits (get_or c 0 0) + digits (get_or c 1 0) + digits (get_or c 2 0) + digits (get_or c 3 0) + digits (get_or c 4 0) + digits (get_or c 5 0) + 6
unfolding count_line numbers_line fields joined list list_from
count-length c = simp length-append (omega arith)

-- six numbers that are no greater than the greatest total
pub count-short : (c : List ℕ) → ((i : ℕ) → get_or c i 0 ≤ most_slots * most_maps) → length (count_line c) ≤ longest_line
count-short c few =
    let eight : (i : ℕ) → digits (get_or c i 0) ≤ 8 = λ i. decimal-short 7 (get_or c i 0) (omega (arith, few i)) in
    omega (arith, count-length c, eight 0, eight 1, eight 2, eight 3, eight 4, eight 5)

pub room-short : (k : ℕ) (sums : List ℕ) → SumsRoom k sums → length (count_line sums) ≤ longest_line
room-short k sums r = count-short sums (λ i. omega (arith, r.few i))

pub few-short : (c : List ℕ) → Few c → length (count_line c) ≤ longest_line
few-short c f = count-short c (λ i. omega (arith, f.few i))

-- The steps of the report, each with its piece of the input, print the report of the whole input.
use Prim.Native.Nat.{ℕ, zero, suc, ◌+◌, ◌*◌, ◌≤◌, ◌<◌}
use mathlib.Core.Path.{◌≡◌, refl, sym, ap, ap₂, ◌∙◌}
use mathlib.Core.Logic.{⊎_elim}
use mathlib.Core.Bool.{Bool, true, false, cond}
use mathlib.Core.List.{List, [], ◌++◌, append-nil, append_assoc}
use native.Mathlib.Omega.{arith}
use lib.ListN.{length, take, drop, length-take, length-drop}
use lib.Seq.{take-add, drop_at, length-take-le, take-take, drop-drop, get_or-take, take-append_seam}
use lib.Dec.{eqb, leb}
use borrow.Author.Tests.{le-leb, leb-true}
use Rattle.base.specs.Test.{◌and◌}
use Rattle.base.specs.Digits.{number_at}
use Rattle.base.proofs.TestLaws.{and_of, and_left, and_right, and_no_left, true_or_false, eqb_same, same_test}
use Rattle.base.proofs.ListLaws.{sets-start}
use Rattle.numbers.specs.Places.{Put}
use Rattle.program.specs.Lines.{refused_line}
use Rattle.program.specs.Opening.{longest_file}
use Rattle.report.specs.Report.{count_line, map_line, summed, whole, first_file, behind_first, maps_from, reported}
use Rattle.report.specs.Steps.{wants, length_ahead, state_ahead, lines_ahead, state_after, lines_after, with_file, sums_after, steps_from}
use Rattle.report.specs.Promises.{none, ReportRun, ended, fed}
use Rattle.report.specs.declared.State.{State}
use Rattle.report.specs.declared.State.TheVariants.{Start, File, End}

-- ---- pieces of the input

-- the first k bytes of a piece of k + j, and what follows them
piece_start : (k j : ℕ) (b : List ℕ) → take k (take (k + j) b) ≡ take k b
piece_start k j b = take-take k (k + j) b (omega arith)

piece_rest : (k j : ℕ) (b : List ℕ) → k ≤ length b → drop k (take (k + j) b) ≡ take j (drop k b)
piece_rest k j b h = rw (take-add k j b) (drop_at (take k b) (take j (drop k b)) k (length-take-le k b h))

-- a piece has its first k bytes just if the input has them
piece_long : (k j : ℕ) (b : List ℕ) → leb k (length (take (k + j) b)) ≡ leb k (length b)
piece_long k j b = same_test _ _
    (λ t. le-leb k (length b) (omega (arith, leb-true k _ t, length-take (k + j) b)))
    (λ t. le-leb k _ (omega (arith, leb-true k _ t, length-take (k + j) b)))

-- the number in its first two bytes is that of the input, even if they are missing
two_start : (j : ℕ) (b : List ℕ) → number_at 2 (take (2 + j) b) 0 ≡ number_at 2 b 0
unfolding number_at
two_start j b = ap₂ (λ (l h : ℕ). l + 256 * (h + 256 * 0)) (get_or-take (2 + j) b 0 0 (omega arith)) (get_or-take (2 + j) b 1 0 (omega arith))

-- ---- the end

steps-end : (k : ℕ) (sums b : List ℕ) → steps_from k End sums b ≡ []
unfolding steps_from lines_after state_after with_file
steps-end zero sums b = refl
steps-end (suc k) sums b = steps-end k sums b

-- what is printed last
last-steps : (l : List ℕ) (k : ℕ) (sums b : List ℕ) → l ++ steps_from k End sums b ≡ l
last-steps l k sums b = rw (steps-end k sums b) (append-nil l)

-- ---- the maps that are left; `rest` is what is left of the input

-- the file of a map, if the steps after it print the maps after it
file-steps : (left k : ℕ)
    → ((sums rest : List ℕ)
    → lines_ahead left sums (take 2 rest) ++ steps_from k (state_ahead left (take 2 rest)) sums (drop 2 rest) ≡ maps_from left sums rest)
    → (long : ℕ) (sums rest : List ℕ) → let p = take (long + 2) rest in
    lines_after (File left long) p sums ++ steps_from k (state_after (File left long) p) (sums_after (File left long) p sums) (drop (long + 2) rest)
    ≡ cond (leb long (length rest)) (map_line (take long rest) ++ maps_from left (summed (take long rest) sums) (drop long rest)) (refused_line 11)
unfolding lines_after state_after with_file
file-steps left k after long sums rest = ⊎_elim
    (λ t.
    let there : leb long (length (take (long + 2) rest)) ≡ true = piece_long long 2 rest ∙ t in
    rw (there, t, piece_start long 2 rest, piece_rest long 2 rest (leb-true _ _ t), ← drop-drop 2 long rest)
    (append_assoc (map_line (take long rest)) _ _ ∙ ap (λ (l : List ℕ). map_line (take long rest) ++ l) (after _ _)))
    (λ t.
    let missing : leb long (length (take (long + 2) rest)) ≡ false = piece_long long 2 rest ∙ t in
    rw (missing, t) (last-steps (refused_line 11) k _ _))
    (true_or_false (leb long (length rest)))

-- the piece before ends with the length of the next map, or with what there is of it
length_tail : (rest : List ℕ) → length_ahead (take 2 rest) ≡ (leb 2 (length rest) and leb (number_at 2 rest 0) longest_file)
unfolding length_ahead
length_tail rest = rw (piece_long 2 0 rest, two_start 0 rest) refl

none_tail : (rest : List ℕ) → eqb (length (take 2 rest)) 0 ≡ eqb (length rest) 0
none_tail rest = eqb_same (length (take 2 rest)) 0 (length rest) 0 (λ e. omega (arith, e, length-take 2 rest)) (λ e. omega (arith, e, length-take 2 rest))

-- if the length is there, the file is whole just if that many bytes come after it
whole_is : (rest : List ℕ) → (leb 2 (length rest) and leb (number_at 2 rest 0) longest_file) ≡ true
    → whole rest ≡ leb (number_at 2 rest 0) (length (drop 2 rest))
unfolding whole
whole_is rest t = same_test _ _
    (λ w.
    let fits : 2 + number_at 2 rest 0 ≤ length rest = leb-true _ _ (and_right _ _ w) in
    le-leb (number_at 2 rest 0) (length (drop 2 rest)) (omega (arith, length-drop 2 rest)))
    (λ w.
    let two : 2 ≤ length rest = leb-true _ _ (and_left _ _ t) in
    let fits : number_at 2 rest 0 ≤ length (drop 2 rest) = leb-true _ _ w in
    and_of t (le-leb (2 + number_at 2 rest 0) (length rest) (omega (arith, length-drop 2 rest))))

-- the steps print the maps that are left, and end the report
ahead-steps : (left k : ℕ) → left ≤ k → (sums rest : List ℕ)
    → lines_ahead left sums (take 2 rest) ++ steps_from k (state_ahead left (take 2 rest)) sums (drop 2 rest) ≡ maps_from left sums rest
unfolding lines_ahead state_ahead maps_from steps_from whole first_file behind_first
ahead-steps zero k h sums rest =
    last-steps _ k sums (drop 2 rest) ∙ ap (λ (t : Bool). cond t (count_line sums) (refused_line 11)) (none_tail rest)
ahead-steps (suc left) zero h sums rest = absurd (omega arith)
ahead-steps (suc left) (suc k) h sums rest = ⊎_elim
    (λ t.
    let there : length_ahead (take 2 rest) ≡ true = length_tail rest ∙ t in
    rw (there, two_start 0 rest, whole_is rest t, ← drop-drop (number_at 2 rest 0) 2 rest)
    (file-steps left k (ahead-steps left k (omega arith)) (number_at 2 rest 0) sums (drop 2 rest)))
    (λ t.
    let missing : length_ahead (take 2 rest) ≡ false = length_tail rest ∙ t in
    rw (missing, and_no_left (leb (2 + number_at 2 rest 0) (length rest)) t) (last-steps (refused_line 11) (suc k) sums (drop 2 rest)))
    (true_or_false (leb 2 (length rest) and leb (number_at 2 rest 0) longest_file))

-- ---- all of the input

-- one step for the number of maps and one for each map are enough, and more change nothing
pub steps_report : (b : List ℕ) (k : ℕ) → number_at 2 b 0 < k → steps_from k Start none b ≡ reported b
unfolding steps_from lines_after state_after with_file reported
steps_report b zero h = absurd (omega arith)
steps_report b (suc k) h = ⊎_elim
    (λ t.
    let there : leb 2 (length (take 4 b)) ≡ true = piece_long 2 2 b ∙ t in
    rw (there, t, two_start 2 b, piece_rest 2 2 b (leb-true _ _ t), ← drop-drop 2 2 b) (ahead-steps (number_at 2 b 0) k (omega arith) none (drop 2 b)))
    (λ t.
    let missing : leb 2 (length (take 4 b)) ≡ false = piece_long 2 2 b ∙ t in
    rw (missing, t) (last-steps (refused_line 11) k none (drop 4 b)))
    (true_or_false (leb 2 (length b)))

-- ---- a run

-- what a step prints is at the start of its output
printed-start : (out lines out' : List ℕ) (printed : ℕ) → length lines ≤ length out → Put out 0 lines out' printed → take printed out' ≡ lines
printed-start out lines out' printed h p =
    let size : printed ≡ length lines = omega (arith, p.after) in
    rw (p.bytes, size, sets-start out lines h) (take-append_seam lines (drop (length lines) out))

-- a run prints what its steps do, and further steps nothing
run_steps : {s : State} {sums b l : List ℕ} → ReportRun s sums b l → (n : ℕ) × ((j : ℕ) → steps_from (n + j) s sums b ≡ l)
unfolding steps_from
run_steps {sums = sums} {b = b} ended = (0, λ j. let same : 0 + j ≡ j = omega arith in rw same (steps-end j sums b))
run_steps {s} {sums} {b} (fed {out = out} room x rest) =
    let p = take (wants s) b in
    let after = run_steps rest in
    let m = after.0 in (
      suc m,
      λ j.
          let more : suc m + j ≡ suc (m + j) = omega arith in
          let fits : length (lines_after s p sums) ≤ length out = omega (arith, x.lines.after, x.short, room) in
          let again : steps_from (m + j) (state_after s p) (sums_after s p sums) (drop (wants s) b) ≡ _ =
          ap₂ (λ (z : State) (y : List ℕ). steps_from (m + j) z y (drop (wants s) b)) (sym x.state) (sym x.total) ∙ after.1 j in
          rw more (ap₂ (λ (a c : List ℕ). a ++ c) (sym (printed-start _ _ _ _ fits x.lines)) again),
    )

-- what a run prints from the start to the end is the report of the whole input
pub run_report : {b l : List ℕ} → ReportRun Start none b l → l ≡ reported b
run_report {b} r =
    let x = run_steps r in
    sym (x.1 (number_at 2 b 0 + 1)) ∙ steps_report b (x.0 + (number_at 2 b 0 + 1)) (omega arith)

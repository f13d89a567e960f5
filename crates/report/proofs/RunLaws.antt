-- Every input has a run of the report: each state that it comes to has a step, and the steps end. What the run prints is the report of the input.
use Prim.Native.Nat.{ℕ, zero, suc, ◌+◌, ◌*◌, ◌≤◌, ◌<◌}
use mathlib.Core.Path.{◌≡◌, refl, sym, subst}
use mathlib.Core.Logic.{◌⊎◌, inl, inr, ⊎_elim}
use mathlib.Core.List.{List, [], ◌++◌}
use native.Mathlib.Omega.{arith}
use lib.ListN.{length, get_or, take, drop, replicate, length-append, length-replicate, length-take, get_or-eq_default}
use lib.Seq.{sets, get_or-drop, get_or-take}
use lib.Dec.{eqb, leb}
use borrow.Author.Tests.{leb-true}
use Rattle.base.specs.Digits.{number_at}
use Rattle.base.proofs.DigitLaws.{number_small}
use Rattle.base.proofs.TestLaws.{and_right, true_or_false}
use Rattle.base.proofs.BelowLaws.{le_or_lt}
use Rattle.model.specs.Answer.{number}
use Rattle.model.proofs.AnswerLaws.{number-few}
use Rattle.program.specs.Opening.{open_answer}
use Rattle.program.proofs.LineLaws.{refused-few}
use Rattle.report.specs.Report.{accepted, file_counts, map_line, reported}
use Rattle.report.specs.Steps.{wants, length_ahead, state_ahead, lines_ahead, state_after, lines_after, with_file, sums_after}
use Rattle.report.specs.Promises.{most_maps, none, SumsRoom, Ready, most_steps, longest_line, FedAs, ReportRun, ended, fed}
use Rattle.report.specs.declared.State.{State}
use Rattle.report.specs.declared.State.TheVariants.{Start, File, End}
use Rattle.report.proofs.LineLaws.{room-short, few-short}
use Rattle.report.proofs.AheadLaws.{eleven_short}
use Rattle.report.proofs.MapLaws.{few-counts, room-summed}
use Rattle.report.proofs.FeedLaws.{room-none}
use Rattle.report.proofs.EndLaws.{fewer}
use Rattle.report.proofs.StepLaws.{run_report}

-- ---- a step from every state to which the report comes

ready-ahead : (left : ℕ) (sums tail : List ℕ) → SumsRoom left sums → Ready (state_ahead left tail) sums
unfolding state_ahead length_ahead
ready-ahead zero sums tail r = tt
ready-ahead (suc left) sums tail r = ⊎_elim
    (λ t. let more : left + 1 ≡ suc left = omega arith in rw t (leb-true _ _ (and_right _ _ t), rw more r))
    (λ t. rw t tt)
    (true_or_false (length_ahead tail))

short-ahead : (left : ℕ) (sums tail : List ℕ) → SumsRoom left sums → length (lines_ahead left sums tail) ≤ longest_line
unfolding lines_ahead
short-ahead zero sums tail r = ⊎_elim (λ t. rw t (room-short 0 sums r)) (λ t. rw t eleven_short) (true_or_false (eqb (length tail) 0))
short-ahead (suc left) sums tail r = ⊎_elim (λ t. rw t (omega arith)) (λ t. rw t eleven_short) (true_or_false (length_ahead tail))

map-short : (f : List ℕ) → length (map_line f) ≤ longest_line
unfolding map_line
map-short f = ⊎_elim
    (λ a. rw a (few-short (file_counts f) (few-counts f a)))
    (λ a. rw a (omega (arith, refused-few (number (open_answer f)) (omega (arith, number-few (open_answer f))))))
    (true_or_false (accepted f))

two_short : (a c : List ℕ) → length a ≤ longest_line → length c ≤ longest_line → length (a ++ c) ≤ 2 * longest_line
two_short a c h k = omega (arith, length-append a c)

module _ (p sums : List ℕ) (named : number_at 2 p 0 ≤ most_maps) where
  ready-after : (s : State) → Ready s sums → Ready (state_after s p) (sums_after s p sums)
  unfolding state_after with_file
  ready-after Start r = ⊎_elim
      (λ t. rw t (ready-ahead (number_at 2 p 0) sums (drop 2 p) (room-none (number_at 2 p 0) sums r named)))
      (λ t. rw t tt)
      (true_or_false (leb 2 (length p)))
  ready-after (File left long) r = ⊎_elim
      (λ t. rw t (ready-ahead left _ (drop long p) (room-summed (take long p) left sums r.1)))
      (λ t. rw t tt)
      (true_or_false (leb long (length p)))
  ready-after End r = tt

  short-after : (s : State) → Ready s sums → length (lines_after s p sums) ≤ 2 * longest_line
  unfolding lines_after
  short-after Start r = ⊎_elim
      (λ t. rw t (omega (arith, short-ahead (number_at 2 p 0) sums (drop 2 p) (room-none (number_at 2 p 0) sums r named))))
      (λ t. rw t (omega (arith, eleven_short)))
      (true_or_false (leb 2 (length p)))
  short-after (File left long) r = ⊎_elim
      (λ t. rw t (two_short (map_line (take long p)) _ (map-short (take long p))
      (short-ahead left _ (drop long p) (room-summed (take long p) left sums r.1))))
      (λ t. rw t (omega (arith, eleven_short)))
      (true_or_false (leb long (length p)))
  short-after End r = omega arith

  step-there : (s : State) (out : List ℕ) → Ready s sums → let l = lines_after s p sums in
      FedAs s sums p out (record { state = state_after s p; sums = sums_after s p sums; printed = length l }) (sets out 0 l)
  step-there s out r = record {
    state = refl;
    total = refl;
    ready = ready-after s r;
    lines = record { bytes = refl; after = omega arith };
    short = short-after s r;
  }

-- ---- the steps end

end_or_not : (s : State) → (s ≡ End) ⊎ (wants s ≡ 0 → ⊥)
end_or_not Start = inr (λ e. omega arith)
end_or_not (File left long) = inr (λ e. omega arith)
end_or_not End = inl refl

-- a piece of the input names no more maps than there may be
named-few : (k : ℕ) (b : List ℕ) → ((i : ℕ) → get_or b i 0 < 256) → number_at 2 (take k b) 0 ≤ most_maps
named-few k b bytes = omega (
  arith,
  number_small 2 (take k b) 0 (λ i. ⊎_elim
      (λ h. let past : get_or (take k b) i 0 ≡ 0 = get_or-eq_default (take k b) 0 (omega (arith, h, length-take k b)) in omega arith)
      (λ h. rw (get_or-take k b i 0 h) (bytes i))
      (le_or_lt k i)),
)

runs : (k : ℕ) (s : State) (sums b : List ℕ) → ((i : ℕ) → get_or b i 0 < 256) → Ready s sums → most_steps s < k → (l : List ℕ) × ReportRun s sums b l
runs zero s sums b bytes r h = absurd (omega (arith, h))
runs (suc k) s sums b bytes r h = ⊎_elim
    (λ (e : s ≡ End). ([], subst (λ (z : State). ReportRun z sums b []) (sym e) ended))
    (λ (ne : wants s ≡ 0 → ⊥).
    let p = take (wants s) b in
    let out : List ℕ = replicate (2 * longest_line) 0 in
    let x = step-there p sums (named-few (wants s) b bytes) s out r in
    let rest = runs k (state_after s p) (sums_after s p sums) (drop (wants s) b) (λ i. rw get_or-drop (bytes (wants s + i))) x.ready
    (omega (arith, h, fewer s sums p out _ _ x ne)) in
    (_, fed (omega (arith, length-replicate {A = ℕ} (2 * longest_line) 0)) x rest.1))
    (end_or_not s)

-- every input of bytes has a run from the start to the end, which prints its report
pub run_there : (b : List ℕ) → ((i : ℕ) → get_or b i 0 < 256) → ReportRun Start none b (reported b)
run_there b bytes =
    let r = runs (most_steps Start + 1) Start none b bytes refl (omega arith) in
    subst (ReportRun Start none b) (run_report r.1) r.1

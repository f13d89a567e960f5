-- What comes ahead, case by case: the length of the next map, the end of the input, or a fault.
use Prim.Native.Nat.{ℕ, suc, ◌+◌, ◌-◌, ◌≤◌, ◌<◌}
use mathlib.Core.Path.{◌≡◌, refl, sym, ap, subst}
use mathlib.Core.Bool.{true, false, cond}
use mathlib.Core.List.{List, []}
use native.Mathlib.Omega.{arith}
use lib.ListN.{length}
use lib.Dec.{leb}
use borrow.Author.Tests.{le-leb, lt-leb, eq-eqb, ne_eqb}
use Rattle.base.specs.Test.{◌and◌}
use Rattle.base.specs.Digits.{number_at}
use Rattle.base.proofs.TestLaws.{and_of, and_no_left, and_no_right}
use Rattle.numbers.specs.Places.{Put}
use Rattle.program.specs.Lines.{refused_line}
use Rattle.program.specs.Opening.{longest_file}
use Rattle.program.proofs.LineLaws.{refused-few}
use Rattle.report.specs.Report.{count_line}
use Rattle.report.specs.Steps.{length_ahead, state_ahead, lines_ahead}
use Rattle.report.specs.Promises.{longest_line, SumsRoom, Ready, RefusedAs, AheadAs}
use Rattle.report.specs.declared.State.{State}
use Rattle.report.specs.declared.State.TheVariants.{File, End}
use Rattle.report.specs.declared.Fed.{Fed}
use Rattle.report.proofs.LineLaws.{room-short}

-- ---- refusal 11

pub eleven_short : length (refused_line 11) ≤ longest_line
eleven_short = omega (arith, refused-few 11 (omega arith))

pub ready-end : (s : State) (sums : List ℕ) → s ≡ End → Ready s sums
ready-end s sums e = subst (λ (z : State). Ready z sums) (sym e) tt

module _ (left : ℕ) (sums tail out : List ℕ) (at : ℕ) (r : Fed) (out' : List ℕ) where
  ahead-refused : state_ahead left tail ≡ End → lines_ahead left sums tail ≡ refused_line 11 → RefusedAs sums out at r out'
      → AheadAs left sums tail out at r out'
  ahead-refused s l x = record {
    state = rw s x.state;
    total = x.total;
    ready = ready-end r.state r.sums x.state;
    lines = rw l x.lines;
    short = x.short;
  }

-- ---- no map is left

module _ (sums tail out : List ℕ) (at : ℕ) (r : Fed) (out' : List ℕ) where
  -- a byte comes after the last map
  pub last_extra : (length tail ≡ 0 → ⊥) → RefusedAs sums out at r out' → AheadAs 0 sums tail out at r out'
  unfolding state_ahead lines_ahead
  last_extra ne x = ahead-refused 0 sums tail out at r out' refl (rw (ne_eqb _ _ ne) refl) x

pub last_totals : (sums tail out : List ℕ) (at printed : ℕ) (out' : List ℕ) → SumsRoom 0 sums → length tail ≡ 0 → Put out at (count_line sums) out' printed
    → AheadAs 0 sums tail out at (record { state = End; sums = sums; printed = printed }) out'
unfolding state_ahead lines_ahead
last_totals sums tail out at printed out' room z p = record {
  state = refl;
  total = refl;
  ready = tt;
  lines = rw (eq-eqb _ _ z) p;
  short = omega (arith, p.after, room-short 0 sums room);
}

pub room-left : (left : ℕ) (sums : List ℕ) → left ≡ 0 → SumsRoom left sums → SumsRoom 0 sums
room-left left sums e r = subst (λ (k : ℕ). SumsRoom k sums) e r

pub none_left : (left : ℕ) (sums tail out : List ℕ) (at : ℕ) (r : Fed) (out' : List ℕ) → left ≡ 0 → AheadAs 0 sums tail out at r out'
    → AheadAs left sums tail out at r out'
none_left left sums tail out at r out' e x = subst (λ (k : ℕ). AheadAs k sums tail out at r out') (sym e) x

-- ---- maps are left

some_left : (left : ℕ) → (left ≡ 0 → ⊥) → left ≡ suc (left - 1)
some_left left ne = omega arith

module _ (left : ℕ) (some : left ≡ 0 → ⊥) (tail : List ℕ) where
  state-left : state_ahead left tail ≡ cond (length_ahead tail) (File (left - 1) (number_at 2 tail 0)) End
  unfolding state_ahead
  state-left = ap (λ (k : ℕ). state_ahead k tail) (some_left left some)

  lines_left : (sums : List ℕ) → lines_ahead left sums tail ≡ cond (length_ahead tail) [] (refused_line 11)
  unfolding lines_ahead
  lines_left sums = ap (λ (k : ℕ). lines_ahead k sums tail) (some_left left some)

  module _ (sums out : List ℕ) (at : ℕ) where
    no_length : length_ahead tail ≡ false → (r : Fed) (out' : List ℕ) → RefusedAs sums out at r out' → AheadAs left sums tail out at r out'
    no_length f r out' x = ahead-refused left sums tail out at r out' (rw (state-left, f) refl) (rw (lines_left sums, f) refl) x

    -- the length of the next map is not there
    pub ahead_missing : length tail < 2 → (r : Fed) (out' : List ℕ) → RefusedAs sums out at r out' → AheadAs left sums tail out at r out'
    unfolding length_ahead
    ahead_missing h = no_length (and_no_left _ (lt-leb 2 (length tail) h))

    module _ (long : ℕ) (is : long ≡ number_at 2 tail 0) where
      -- it is above its limit
      pub ahead-long : longest_file < long → (r : Fed) (out' : List ℕ) → RefusedAs sums out at r out' → AheadAs left sums tail out at r out'
      unfolding length_ahead
      ahead-long h = no_length (and_no_right (leb 2 (length tail)) (lt-leb (number_at 2 tail 0) longest_file (rw is at h)))

      pub ahead-file : SumsRoom left sums → 2 ≤ length tail → long ≤ longest_file
          → AheadAs left sums tail out at (record { state = File (left - 1) long; sums = sums; printed = at }) out
      unfolding length_ahead
      ahead-file room two h = record {
        state = rw (state-left, there, is) refl;
        total = refl;
        ready = (h, rw (← some_more) room);
        lines = rw (lines_left sums, there) (record { bytes = refl; after = omega arith });
        short = omega arith;
      }
        where
          there : (leb 2 (length tail) and leb (number_at 2 tail 0) longest_file) ≡ true
          there = and_of (le-leb 2 (length tail) two) (le-leb (number_at 2 tail 0) longest_file (rw is at h))

          some_more : left ≡ left - 1 + 1
          some_more = omega arith

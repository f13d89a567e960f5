-- A step of the report, state by state.
use Prim.Native.Nat.{ℕ, ◌+◌, ◌-◌, ◌≤◌, ◌<◌}
use mathlib.Core.Path.{◌≡◌, refl, sym, ◌∙◌, subst}
use mathlib.Core.List.{List}
use native.Mathlib.Omega.{arith}
use lib.ListN.{length, take, drop, length-replicate, length-drop}
use lib.Seq.{take_all}
use borrow.Author.Tests.{le-leb, lt-leb}
use Rattle.base.specs.Digits.{number_at}
use Rattle.base.proofs.ListLaws.{get_or-replicate_all}
use Rattle.model.specs.Calls.{count_size}
use Rattle.numbers.proofs.PlaceLaws.{put_then}
use Rattle.program.specs.Lines.{refused_line}
use Rattle.program.specs.Opening.{longest_file}
use Rattle.report.specs.Steps.{state_after, lines_after, with_file, sums_after}
use Rattle.report.specs.Promises.{most_maps, none, SumsRoom, Within, Ready, RefusedAs, AheadAs, FedAs, Lined, MapWorked, Worked}
use Rattle.report.specs.declared.State.{State}
use Rattle.report.specs.declared.State.TheVariants.{Start, File, End}
use Rattle.report.specs.declared.Fed.{Fed}
use Rattle.report.specs.declared.map.Line.{Line}
use Rattle.report.proofs.AheadLaws.{ready-end}
use Rattle.report.proofs.MapLaws.{room-summed}

-- ---- the states

pub within-file : (s : State) (left long : ℕ) → s ≡ File left long → Within s → long ≤ longest_file
within-file s left long e w = subst Within e w

-- all bytes of a piece behind the first k
pub behind : (p : List ℕ) (k : ℕ) → take (length p - k) (drop k p) ≡ drop k p
behind p k = take_all (length p - k) (drop k p) (omega (arith, length-drop k p))

module _ (s : State) (sums p out : List ℕ) (r : Fed) (out' : List ℕ) where
  step-refused : state_after s p ≡ End → lines_after s p sums ≡ refused_line 11 → sums_after s p sums ≡ sums → RefusedAs sums out 0 r out'
      → FedAs s sums p out r out'
  step-refused e l t x = record {
    state = x.state ∙ sym e;
    total = x.total ∙ sym t;
    ready = ready-end r.state r.sums x.state;
    lines = rw l x.lines;
    short = omega (arith, x.short);
  }

-- ---- the number of maps

pub room-none : (left : ℕ) (sums : List ℕ) → sums ≡ none → left ≤ most_maps → SumsRoom left sums
room-none left sums e h = rw e (record {
  six = length-replicate {A = ℕ} count_size 0;
  few = λ i. omega (arith, get_or-replicate_all {A = ℕ} count_size i 0);
})

module _ (sums p out : List ℕ) (r : Fed) (out' : List ℕ) where
  pub start-short : length p < 2 → RefusedAs sums out 0 r out' → FedAs Start sums p out r out'
  unfolding state_after lines_after with_file
  start-short h x =
      let no = lt-leb 2 (length p) h in
      step-refused Start sums p out r out' (rw no refl) (rw no refl) refl x

  pub start-ahead : (maps : ℕ) (tail : List ℕ) → 2 ≤ length p → maps ≡ number_at 2 p 0 → tail ≡ drop 2 p → AheadAs maps sums tail out 0 r out'
      → FedAs Start sums p out r out'
  unfolding state_after lines_after with_file
  start-ahead maps tail h e f x =
      let yes = le-leb 2 (length p) h in
      let y : AheadAs (number_at 2 p 0) sums (drop 2 p) out 0 r out' = rw (e, f) at x in
      record {
        state = rw yes y.state;
        total = y.total;
        ready = y.ready;
        lines = rw yes y.lines;
        short = omega (arith, y.short);
      }

-- ---- the file of a map

-- if the sums have room for a map and those after it, they have room for the map
pub room-one : (left : ℕ) (sums : List ℕ) → SumsRoom (left + 1) sums → SumsRoom 1 sums
room-one left sums r = record { six = r.six; few = λ i. omega (arith, r.few i) }

-- once the map is added, they have room for those after it
pub room-file : (left : ℕ) (f sums out : List ℕ) (line : Line) (out₁ : List ℕ) → Lined f sums out line out₁ → SumsRoom (left + 1) sums
    → SumsRoom left line.sums
room-file left f sums out line out₁ x room = rw x.total (room-summed f left sums room)

module _ (left long : ℕ) (p : List ℕ) where
  pub unworked : length p < long → (t u : List ℕ) → Worked (File left long) p t u t u
  unfolding with_file
  unworked h t u = let no = lt-leb long (length p) h in record { table = rw no refl; store = rw no refl }

  pub worked : long ≤ length p → (f t u t' u' : List ℕ) → f ≡ take long p → MapWorked f t u t' u' → Worked (File left long) p t u t' u'
  unfolding with_file
  worked h f t u t' u' e x =
      let yes = le-leb long (length p) h in
      record { table = rw (yes, ← e) x.table; store = rw (yes, ← e) x.store }

  module _ (sums out : List ℕ) where
    pub file-short : length p < long → (r : Fed) (out' : List ℕ) → RefusedAs sums out 0 r out' → FedAs (File left long) sums p out r out'
    unfolding state_after lines_after with_file
    file-short h r out' x =
        let no = lt-leb long (length p) h in
        step-refused (File left long) sums p out r out' (rw no refl) (rw no refl) (rw no refl) x

    module _ (f : List ℕ) (line : Line) (out₁ : List ℕ) (x : Lined f sums out line out₁) where
      pub file-ahead : (tail : List ℕ) (r : Fed) (out' : List ℕ) → long ≤ length p → f ≡ take long p → tail ≡ drop long p
          → AheadAs left line.sums tail out₁ line.printed r out' → FedAs (File left long) sums p out r out'
      unfolding state_after lines_after with_file
      file-ahead tail r out' h is g y =
          let yes = le-leb long (length p) h in
          record {
            state = rw (yes, ← g) y.state;
            total = rw (yes, ← is) (y.total ∙ x.total);
            ready = y.ready;
            lines = rw (yes, ← is, ← g, ← x.total) (put_then _ _ _ _ _ _ _ _ x.line y.lines);
            short = omega (arith, y.short, x.short);
          }

-- ---- the end

pub end-fed : (sums p out : List ℕ) → FedAs End sums p out (record { state = End; sums = sums; printed = 0 }) out
unfolding state_after lines_after with_file
end-fed sums p out = record {
  state = refl;
  total = refl;
  ready = tt;
  lines = record { bytes = refl; after = refl };
  short = omega arith;
}

-- ---- the state that a step is taken in

module _ (s z : State) (e : s ≡ z) where
  pub fed_in : (sums p out : List ℕ) (r : Fed) (out' : List ℕ) → FedAs z sums p out r out' → FedAs s sums p out r out'
  fed_in sums p out r out' x = subst (λ (y : State). FedAs y sums p out r out') (sym e) x

  pub worked_in : (p t u t' u' : List ℕ) → Worked z p t u t' u' → Worked s p t u t' u'
  worked_in p t u t' u' x = subst (λ (y : State). Worked y p t u t' u') (sym e) x

  pub ready_in : (sums : List ℕ) → Ready s sums → Ready z sums
  ready_in sums x = subst (λ (y : State). Ready y sums) e x

pub start-worked : (p t u : List ℕ) → Worked Start p t u t u
unfolding with_file
start-worked p t u = record { table = refl; store = refl }

pub end-worked : (p t u : List ℕ) → Worked End p t u t u
unfolding with_file
end-worked p t u = record { table = refl; store = refl }

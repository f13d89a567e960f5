-- What is printed, case by case.
use Prim.Native.Nat.{ℕ, ◌+◌, ◌*◌, ◌≤◌, ◌<◌}
use mathlib.Core.Path.{◌≡◌, refl, sym, ap, ap₂, ◌∙◌}
use mathlib.Core.Bool.{Bool, false, cond}
use mathlib.Core.List.{List, ◌++◌}
use native.Mathlib.Omega.{arith}
use lib.ListN.{length}
use lib.Dec.{eqb}
use borrow.Author.Tests.{eq-eqb, ne_eqb}
use Rattle.base.specs.Below.{count_below}
use Rattle.base.proofs.BelowLaws.{count_le}
use Rattle.base.proofs.ListLaws.{sets-start}
use Rattle.model.specs.Answer.{number}
use Rattle.model.specs.Map.{view, live, unused}
use Rattle.program.specs.Lines.{refused_line}
use Rattle.program.specs.Opening.{most_slots, MapOpen}
use Rattle.program.proofs.LineLaws.{refused-few}
use Rattle.bench.specs.Bench.{most_darts, last_line, map_bytes, framed, map_slots, map_answer, table_after, run_lines, printed}
use Rattle.numbers.specs.Places.{Put}
use Rattle.numbers.proofs.PlaceLaws.{put_then}
use Rattle.bench.specs.Input.{Laid}
use Rattle.bench.specs.Session.{dart_lines, longest, Printed, Wrote}
use Rattle.bench.specs.declared.framing.Layout.{Layout}
use Rattle.bench.proofs.FramingLaws.{laid-framed, dart-count}
use Rattle.bench.proofs.ShortLaws.{last-few}

pub printed-fault : (b : List ℕ) → framed b ≡ false → printed b ≡ refused_line 11
unfolding printed
printed-fault b e = rw e refl

module _ (b : List ℕ) (l : Layout) (laid : Laid b l) where
  printed-framed : printed b ≡ cond (eqb (number (map_answer b)) 0) (run_lines b) (refused_line (number (map_answer b)))
  unfolding printed
  printed-framed = rw (laid-framed b l laid) refl

  pub printed-refused : (k : ℕ) → (k ≡ number (map_answer b)) × (k ≡ 0 → ⊥) → printed b ≡ refused_line k
  printed-refused k x =
      let refused : eqb (number (map_answer b)) 0 ≡ false = ne_eqb _ _ (λ z. x.1 (x.0 ∙ z)) in
      printed-framed ∙ ap (λ (t : Bool). cond t (run_lines b) (refused_line (number (map_answer b)))) refused ∙ ap refused_line (sym x.0)

  pub printed_run : number (map_answer b) ≡ 0 → printed b ≡ dart_lines b l.darts
      ++ last_line (count_below (map_slots b) (live (view (map_slots b) (table_after b l.darts))))
      (count_below (map_slots b) (unused (view (map_slots b) (table_after b l.darts))))
  unfolding run_lines dart_lines
  printed_run e =
      printed-framed ∙ ap (λ (t : Bool). cond t (run_lines b) (refused_line (number (map_answer b)))) (eq-eqb (number (map_answer b)) 0 e)
      ∙ ap (λ (k : ℕ). dart_lines b k ++ last_line (count_below (map_slots b) (live (view (map_slots b) (table_after b k))))
      (count_below (map_slots b) (unused (view (map_slots b) (table_after b k)))))
      (dart-count b l.map l.scheme l.darts laid.map laid.scheme laid.darts)

  -- the same, of the counts that were taken
  pub printed_session : (n N : ℕ) (t : List ℕ) (x y : ℕ) → MapOpen (map_bytes b) n N → t ≡ table_after b l.darts
      → x ≡ count_below N (live (view N t)) → y ≡ count_below N (unused (view N t)) → printed b ≡ dart_lines b l.darts ++ last_line x y
  printed_session n N t x y m f u w =
      let e = m.named.slots in
      printed_run m.done ∙ sym (ap₂ (λ (i j : ℕ). dart_lines b l.darts ++ last_line i j)
      (u ∙ ap₂ (λ (M : ℕ) (q : List ℕ). count_below M (live (view M q))) e f) (w ∙ ap₂ (λ (M : ℕ) (q : List ℕ). count_below M (unused (view M q))) e f))

-- ---- written

-- a count of slots is at most the greatest number of slots
pub tally_few : (N : ℕ) (p : ℕ → Bool) (x : ℕ) → x ≡ count_below N p → N ≤ most_slots → x ≤ most_slots
tally_few N p x e h = omega (arith, e, count_le N p)

pub edits-room : (b : List ℕ) (l : Layout) (out : List ℕ) → Laid b l → longest ≤ length out → 23 * l.darts ≤ length out
edits-room b l out k h = omega (arith, k.darts_fit, h)

module _ (b out : List ℕ) where
  pub wrote_refused : (k r : ℕ) (out' : List ℕ) → k < 100 → printed b ≡ refused_line k → Put out 0 (refused_line k) out' r → Wrote b out r out'
  wrote_refused k r out' h e p = record { bytes = rw e p; short = omega (arith, p.after, refused-few k h) }

  pub refused-room : (k : ℕ) → k < 100 → longest ≤ length out → 0 + length (refused_line k) ≤ length out
  refused-room k h room = omega (arith, refused-few k h, room)

  pub last-room : (at darts x y : ℕ) → at ≤ 23 * darts → darts ≤ most_darts → x ≤ most_slots → y ≤ most_slots → longest ≤ length out
      → at + length (last_line x y) ≤ length out
  last-room at darts x y h k u w room = omega (arith, last-few x y u w, room)

  pub wrote_run : (lines out₁ : List ℕ) (at darts x y : ℕ) (out' : List ℕ) (r : ℕ) → at ≤ 23 * darts → darts ≤ most_darts → x ≤ most_slots → y ≤ most_slots
      → printed b ≡ lines ++ last_line x y → Put out 0 lines out₁ at → Put out₁ at (last_line x y) out' r → Wrote b out r out'
  wrote_run lines out₁ at darts x y out' r h k u w e p q = record {
    bytes = rw e (put_then _ _ _ _ _ _ _ _ p q);
    short = omega (arith, q.after, last-few x y u w);
  }

  pub printed_of : (r : ℕ) (out' : List ℕ) → longest ≤ length out → Wrote b out r out' → Printed b out r out'
  printed_of r out' room w =
      let long : r ≡ length (printed b) = omega (arith, w.bytes.after) in
      record {
        count = long;
        output = rw long (w.bytes.bytes ∙ sets-start out (printed b) (omega (arith, w.short, room)));
        few = w.short;
      }

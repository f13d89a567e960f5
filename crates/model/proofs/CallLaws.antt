-- An edit that is not refused leaves a well-formed table, and any other leaves the table as it was.
use Prim.Native.Nat.{ℕ, ◌≤◌}
use mathlib.Core.Path.{◌≡◌, refl, sym, ap, ◌∙◌}
use mathlib.Core.Bool.{Bool, true, false, not, cond, true≢false}
use Rattle.std.specs.Prelude.{Some, None}
use mathlib.Core.List.{List}
use lib.ListN.{length}
use borrow.Author.Tests.{eqb-true, ltb-true, ltb-false, not-false}
use Rattle.base.specs.First.{some_if}
use Rattle.model.specs.Map.{Map, view, table_of}
use Rattle.model.specs.WellFormed.{well_formed}
use Rattle.model.specs.Scheme.{in_form, scheme_of, has_second}
use Rattle.model.specs.Accepted.{Accepted}
use Rattle.model.specs.Conditions.{scheme_fault}
use Rattle.model.specs.Site.{LiveDart, Sound}
use Rattle.model.specs.Match.{matches}
use Rattle.model.specs.Edit.{added_darts, room_of, edited}
use Rattle.model.specs.Calls.{bytes_fault, first_dart, second_dart, as_many, takes, is_dart, fit_fault, site_fault, sizes_ok, map_fault, output_fault_at}
use Rattle.model.specs.Calls.{edit_fault_at, site_of, edit_fault, edit_table}
use Rattle.model.specs.declared.Scheme.{Scheme}
use Rattle.model.specs.declared.Darts.{Darts}
use Rattle.model.specs.declared.Darts.TheVariants.{One, Two}
use Rattle.model.specs.declared.Refusal.{Refusal}
use Rattle.base.proofs.TestLaws.{and_left, and_right}
use Rattle.base.proofs.FirstLaws.{or_else_none, when-none, there-none, there_of}
use Rattle.model.proofs.WellFormedLaws.{well_formed_iff}
use Rattle.model.proofs.AlikeLaws.{words-well}
use Rattle.model.proofs.SchemeLaws.{shaped}
use Rattle.model.proofs.AcceptedLaws.{small, accepted}
use Rattle.model.proofs.MatchIff.{match-ready}
use Rattle.model.proofs.EditLaws.{Ready}
use Rattle.model.proofs.KeepLaws.{edit-keeps}

pub passed : (t : Bool) (a : Refusal) → some_if (not t) a ≡ None → t ≡ true
passed t a e = not-false t (when-none (not t) a e)

-- what has been tested of a call that writes to an output and is not refused
pub output-passed : (fit : Bool) (n : ℕ) (m : Map) (size : ℕ) (out : List ℕ) → output_fault_at fit n m size out ≡ None
    → (fit ≡ true) × (well_formed n m ≡ true) × (size ≤ length out)
unfolding output_fault_at map_fault
output-passed fit n m size out q =
    let p = or_else_none _ _ q in
    let r = or_else_none _ _ p.0 in
    (passed _ _ r.0, passed _ _ r.1, ltb-false (length out) size (when-none _ _ p.1))

-- bytes with no fault in an edit are an accepted scheme's, which has as many hooks as there are darts
pub bytes-accepted : (D : Darts) (b : List ℕ) → bytes_fault (takes D b) b ≡ None → Accepted (scheme_of b)
unfolding bytes_fault
bytes-accepted D b e = let r = or_else_none _ _ e in accepted (scheme_of b) (shaped b (and_left _ _ (passed _ _ r.0))) r.1

pub bytes-many : (D : Darts) (b : List ℕ) → bytes_fault (takes D b) b ≡ None → as_many D (scheme_of b) ≡ true
unfolding bytes_fault
bytes-many D b e = and_right _ _ (passed _ _ (or_else_none _ _ e).0)

-- a scheme with one hook is taken for one dart
pub darts-alone : (D : Darts) (S : Scheme) → as_many D S ≡ true → has_second S ≡ false → second_dart D ≡ first_dart D
darts-alone (One d) S q e = refl
darts-alone (Two d d₂) S q e = absurd (true≢false (sym q ∙ e))

-- a live slot, as a test and as facts
pub live-dart : (m : Map) (x : ℕ) → is_dart m x ≡ true → LiveDart m x
live-dart m x e = record { slot = ltb-true _ _ (and_left _ _ e); alive = eqb-true _ _ (and_right _ _ e) }

-- what has been tested of an edit that is not refused
pub record Granted (n N : ℕ) (t store b : List ℕ) (d : Darts) : Type 0 where
  pub sizes : sizes_ok n N t ≡ true
  pub form : in_form b ≡ true
  pub many : as_many d (scheme_of b) ≡ true
  pub accepted : scheme_fault (scheme_of b) ≡ None
  pub dimension : (scheme_of b).n ≡ n
  pub well : well_formed n (view N t) ≡ true
  pub dart : LiveDart (view N t) (first_dart d)
  pub other : LiveDart (view N t) (second_dart d)
  pub match : matches (site_of N t b d) ≡ true
  pub room : added_darts (site_of N t b d) ≤ room_of (site_of N t b d)

module _ (n N : ℕ) (t store b : List ℕ) (d : Darts) (q : edit_fault n N t store b d ≡ None) where
  pub granted : Granted n N t store b d
  unfolding edit_fault edit_fault_at bytes_fault site_fault fit_fault
  granted =
      let r1 = or_else_none _ _ q in
      let r2 = or_else_none _ _ r1.1 in
      let bytes = or_else_none _ _ r2.0 in
      let r6 = or_else_none _ _ r2.1 in
      let r7 = or_else_none _ _ r6.1 in
      let r8 = or_else_none _ _ r7.1 in
      let r9 = or_else_none _ _ r8.1 in
      let taken = passed _ _ bytes.0 in
      let darts = passed _ _ r8.0 in
      record {
        sizes = and_left _ _ (passed _ _ r1.0);
        form = and_left _ _ taken;
        many = and_right _ _ taken;
        accepted = bytes.1;
        dimension = eqb-true _ _ (passed _ _ r6.0);
        well = passed _ _ r7.0;
        dart = live-dart (view N t) (first_dart d) (and_left _ _ darts);
        other = live-dart (view N t) (second_dart d) (and_right _ _ darts);
        match = passed _ _ r9.0;
        room = ltb-false _ _ (when-none _ _ r9.1);
      }

  pub sound : Sound (site_of N t b d)
  sound =
      let g = granted in
      record {
        accepted = accepted (scheme_of b) (shaped b g.form) g.accepted;
        well = (well_formed_iff (scheme_of b).n (view N t)).0 (ap (λ (k : ℕ). well_formed k (view N t)) g.dimension ∙ g.well);
        dart = g.dart;
        other = g.other;
        alone = darts-alone d (scheme_of b) g.many;
      }

  pub ready : Ready (site_of N t b d)
  ready = let g = granted in match-ready (view N t) (scheme_of b) (first_dart d) (second_dart d) sound g.match g.room

  pub edit-table : edit_table n N t store b d ≡ table_of (edited (site_of N t b d))
  unfolding edit_table
  edit-table = ap (λ (c : Bool). cond c t (table_of (edited (site_of N t b d)))) (there-none q)

  -- the table that an edit leaves is well-formed
  pub edit-table-well : well_formed n (view N (edit_table n N t store b d)) ≡ true
  unfolding edited
  edit-table-well =
      let g = granted in
      let m = edited (site_of N t b d) in
      ap (λ (l : List ℕ). well_formed n (view N l)) edit-table
      ∙ ap (λ (k : ℕ). well_formed k (view N (table_of m))) (sym g.dimension)
      ∙ (well_formed_iff (scheme_of b).n (view N (table_of m))).1
      (words-well (scheme_of b).n m (small (scheme_of b) (shaped b g.form)) (edit-keeps (site_of N t b d) sound.well ready))

-- an edit that is refused leaves the table as it was
pub refused-table : (n N : ℕ) (t store b : List ℕ) (d : Darts) (a : Refusal) → edit_fault n N t store b d ≡ Some a → edit_table n N t store b d ≡ t
unfolding edit_table
refused-table n N t store b d a q = ap (λ (c : Bool). cond c t (table_of (edited (site_of N t b d)))) (there_of q)

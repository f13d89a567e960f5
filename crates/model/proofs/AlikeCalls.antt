-- Each call on two tables that hold alike maps, well-formed or not: equal answers, equal written files, and again two such tables.
use Prim.Native.Nat.{ℕ, ◌*◌, ◌≤◌}
use mathlib.Core.Path.{◌≡◌, refl, sym, ap, ap₂, ◌∙◌, subst}
use mathlib.Core.Bool.{Bool, not, cond}
use Rattle.std.specs.Prelude.{Option, Some, None, Ok}
use mathlib.Core.List.{List, []}
use lib.ListN.{length, get_or, replicate}
use lib.Dec.{eqb, ltb}
use borrow.Author.Tests.{eqb-true, ltb-true}
use Rattle.base.specs.Test.{◌and◌}
use Rattle.base.specs.First.{some_if, there, ◌or_else◌}
use Rattle.base.proofs.TestLaws.{same_test, and_left, and_right, and_same}
use Rattle.base.proofs.FirstLaws.{or_else_same}
use Rattle.model.specs.Map.{Map, view, table_of}
use Rattle.model.specs.WellFormed.{WellFormed, well_formed}
use Rattle.model.specs.Scheme.{scheme_of, orbit_dim}
use Rattle.model.specs.Count.{counts}
use Rattle.model.specs.Edit.{edited}
use Rattle.model.specs.File.{file, file_form, file_map}
use Rattle.model.specs.Site.{Site, site_with, Sound}
use Rattle.model.specs.Calls.{sizes_ok, map_fault, table_fault, check_table, first_dart, second_dart, is_dart, fit_fault, site_fault, site_done, site_of}
use Rattle.model.specs.Calls.{output_fault_at, count_size, count_fault, count_answer, count_out}
use Rattle.model.specs.Calls.{edit_fault_at, edit_fault, edit_answer, edit_table, edit_store}
use Rattle.model.specs.Calls.{load_fault_at, load_fault, load_answer, loaded, load_table, write_fault, write_answer, write_out}
use Rattle.model.specs.Answer.{answered}
use Rattle.model.specs.Alike.{Alike}
use Rattle.model.specs.Sequence.{AlikeTables, Lent, written, outcome_of, count, write}
use Rattle.model.specs.declared.Scheme.{Scheme}
use Rattle.model.specs.declared.Darts.{Darts}
use Rattle.model.specs.declared.Refusal.{Refusal}
use Rattle.model.specs.declared.Refusal.TheVariants.{BadCall, BadTable, NoDart, NoMatch, NoRoom, ShortOutput}
use Rattle.model.specs.declared.Reply.{Reply}
use Rattle.model.specs.declared.Reply.TheVariants.{Done, Edited, Written}
use Rattle.model.proofs.WellFormedLaws.{well_formed_iff}
use Rattle.model.proofs.AcceptedLaws.{small}
use Rattle.model.proofs.MatchIff.{good-orbit}
use Rattle.model.proofs.CallLaws.{passed, output-passed, bytes-accepted, bytes-many, darts-alone, live-dart}
use Rattle.model.proofs.CallLaws.{granted, sound, ready, edit-table, refused-table}
use Rattle.model.proofs.HoldsLaws.{holds_slotted, dimension-small, table-length, edit-holds, store-zero, load_slotted, written_is}
use Rattle.model.proofs.AlikeLaws.{alike_refl, alike-sym, alike_trans, words-alike, well-alike, same_live, same-orbit}
use Rattle.model.proofs.AlikeMatch.{moved, same-matches}
use Rattle.model.proofs.AlikeEdit.{same_size, same-added, same-deleted, same-space, edited-alike}
use Rattle.model.proofs.AlikeCount.{same-counts}
use Rattle.model.proofs.CountLaws.{counts-six}
use Rattle.model.proofs.FileLaws.{same-file}

-- ---- answers and what is written

-- two calls with the same refusal answer the same, where they do with none
answered-same : {o o' : Option Refusal} {d d' : Reply} → o ≡ o' → (o ≡ None → d ≡ d') → answered d o ≡ answered d' o'
answered-same {o} {o'} {d} {d'} e done = ap (answered d) e ∙ go o' (sym e)
  where
    go : (p : Option Refusal) → p ≡ o → answered d p ≡ answered d' p
    go None q = ap Ok (done (sym q))
    go (Some f) q = refl

-- and write the same, nothing where they are refused
same_unless : {o o' : Option Refusal} {v v' : List ℕ} → o ≡ o' → (o ≡ None → v ≡ v') → cond (there o) [] v ≡ cond (there o') [] v'
unfolding there
same_unless {o} {o'} {v} {v'} e done = ap (λ (p : Option Refusal). cond (there p) [] v) e ∙ go o' (sym e)
  where
    go : (p : Option Refusal) → p ≡ o → cond (there p) [] v ≡ cond (there p) [] v'
    go None q = done (sym q)
    go (Some f) q = refl

-- a count that is done has written its numbers, and a write its file
module _ (n N : ℕ) (t : List ℕ) (l : Lent) where
  pub count-written : written count (outcome_of n N t count l) ≡ cond (there (count_fault n N t l.store l.output)) [] (counts n (view N t))
  unfolding count_answer count_out
  count-written =
      written_is (count_fault n N t l.store l.output) Done (λ v. count_size) (counts n (view N t)) l.output (sym (counts-six n (view N t)))

  pub write-written : written write (outcome_of n N t write l) ≡ cond (there (write_fault n N t l.output)) [] (file n (view N t))
  unfolding write_answer write_out
  write-written =
      written_is (write_fault n N t l.output) (Written (length (file n (view N t)))) (λ v. get_or v 0 0) (file n (view N t)) l.output refl

-- ---- two tables

module _ (n N : ℕ) (t t' : List ℕ) (a : AlikeTables n N t t') where
  abbrev m : Map
  m = view N t

  abbrev m' : Map
  m' = view N t'

  same-sizes : sizes_ok n N t ≡ sizes_ok n N t'
  same-sizes = a.one.sizes ∙ sym a.other.sizes

  same_length : length t ≡ length t'
  same_length = table-length n N t a.one.sizes ∙ sym (table-length n N t' a.other.sizes)

  -- both maps are well-formed, or neither
  same-well : well_formed n m ≡ well_formed n m'
  same-well = same_test _ _
      (λ e. (well_formed_iff n m').1 (well-alike n small_n m m' a.alike ((well_formed_iff n m).0 e) a.other.states))
      (λ e. (well_formed_iff n m).1 (well-alike n small_n m' m (alike-sym a.alike) ((well_formed_iff n m').0 e) a.one.states))
    where
      small_n : n ≤ 3
      small_n = dimension-small n N t a.one.sizes

  same-table-fault : table_fault n N t ≡ table_fault n N t'
  unfolding table_fault map_fault
  same-table-fault = ap₂ (λ (s w : Bool). some_if (not s) BadCall or_else some_if (not w) BadTable) same-sizes same-well

  -- ---- a table check

  pub same_check : check_table n N t ≡ check_table n N t'
  unfolding check_table
  same_check = ap (answered Done) same-table-fault

  -- ---- an edit

  module _ (store store' : List ℕ) (e : length store ≡ length store') (b : List ℕ) (d : Darts) where
    abbrev S : Scheme
    S = scheme_of b

    abbrev E : Site
    E = site_of N t b d

    abbrev E' : Site
    E' = site_of N t' b d

    module _ (g : Sound E) (same : S.n ≡ n) where
      well' : WellFormed S.n m'
      well' = subst (λ (k : ℕ). WellFormed k m') (sym same)
          ((well_formed_iff n m').0 (sym same-well ∙ (well_formed_iff n m).1 (subst (λ (k : ℕ). WellFormed k m) same g.well)))

      same-site : moved E m' ≡ E'
      same-site = ap (site_with m' S (first_dart d) (second_dart d)) (same-orbit S.n (small S g.accepted.shaped) S.places (orbit_dim S)
          g.accepted.shaped.orbit_dims (first_dart d) m m' a.alike g.well well' g.dart.slot g.dart.alive)

      fit_same : fit_fault E ≡ fit_fault E'
      unfolding fit_fault
      fit_same = or_else_same _ _
          (ap (λ (b : Bool). some_if (not b) NoMatch)
          (same-matches E g.accepted m' a.alike g.well well' (good-orbit m S (first_dart d) (second_dart d) g)))
          (λ q. ap₂ (λ (c k : ℕ). some_if (ltb c k) NoRoom) (same-space E m' a.alike S.n g.well well') (same-added E m' a.alike))
          ∙ ap fit_fault same-site

      same-done : site_done E ≡ site_done E'
      unfolding site_done
      same-done =
          (λ i. Edited (same_size E m' a.alike i) (same-added E m' a.alike i) (same-deleted E m' a.alike i)) ∙ ap site_done same-site

    same_dart_test : (x : ℕ) → is_dart m x ≡ is_dart m' x
    same_dart_test x = and_same (ltb x N) (λ h. same_live m m' a.alike x (ltb-true _ _ h))

    -- test by test, each asked only where those before it have passed
    same-fault : edit_fault n N t store b d ≡ edit_fault n N t' store' b d
    unfolding edit_fault edit_fault_at site_fault
    same-fault =
        or_else_same _ _ (ap₂ (λ (s : Bool) (k : ℕ). some_if (not (s and eqb k (16 * N))) BadCall) same-sizes e) (λ r1.
        or_else_same _ _ refl (λ r2.
        or_else_same _ _ refl (λ r6.
        or_else_same _ _ (ap (λ (w : Bool). some_if (not w) BadTable) same-well) (λ r7.
        or_else_same _ _ (ap₂ (λ (w v : Bool). some_if (not (w and v)) NoDart) (same_dart_test (first_dart d)) (same_dart_test (second_dart d))) (λ r8.
        let darts = passed _ _ r8 in
        let same = eqb-true _ _ (passed _ _ r6) in
        fit_same (record {
          accepted = bytes-accepted d b r2;
          well = subst (λ (k : ℕ). WellFormed k m) (sym same) ((well_formed_iff n m).0 (passed _ _ r7));
          dart = live-dart m (first_dart d) (and_left _ _ darts);
          other = live-dart m (second_dart d) (and_right _ _ darts);
          alone = darts-alone d S (bytes-many d b r2);
        }) same)))))

    pub same-edit : edit_answer n N t store b d ≡ edit_answer n N t' store' b d
    unfolding edit_answer
    same-edit = answered-same same-fault (λ q. same-done (sound n N t store b d q) (granted n N t store b d q).dimension)

    edited_like : edit_fault n N t store b d ≡ None → Alike (edited E) (edited E')
    edited_like q =
        let g = sound n N t store b d q in
        let same = (granted n N t store b d q).dimension in
        subst (λ (F : Site). Alike (edited E) (edited F)) (same-site g same)
        (edited-alike E m' a.alike g.well (well' g same) (ready n N t store b d q))

    pub edit-alike : AlikeTables n N (edit_table n N t store b d) (edit_table n N t' store' b d)
    unfolding edited
    edit-alike = go (edit_fault n N t store b d) refl
      where
        go : (o : Option Refusal) → edit_fault n N t store b d ≡ o → AlikeTables n N (edit_table n N t store b d) (edit_table n N t' store' b d)
        go None q =
            let q' = sym same-fault ∙ q in
            record {
              one = holds_slotted n N _ (edit-holds n N t store b d q);
              other = holds_slotted n N _ (edit-holds n N t' store' b d q');
              alike = rw (edit-table n N t store b d q, edit-table n N t' store' b d q')
                  (alike_trans (words-alike (edited E)) (alike_trans (edited_like q) (alike-sym (words-alike (edited E')))));
            }
        go (Some r) q = rw (refused-table n N t store b d r q, refused-table n N t' store' b d r (sym same-fault ∙ q)) a

    -- both stores come back zero; where their length is wrong each stays as it was (`store_kept`)
    pub same_store : length store ≡ 16 * N → edit_store n N t store b d ≡ edit_store n N t' store' b d
    same_store k = store-zero n N t store b d a.one.sizes k ∙ sym (store-zero n N t' store' b d a.other.sizes (sym e ∙ k))

  -- ---- a call that writes to an output

  -- its refusals are the same where the sizes are right on both sides or wrong on both
  same-output-fault : {fit fit' : Bool} (size : ℕ) (out out' : List ℕ) → fit ≡ fit' → length out ≡ length out'
      → output_fault_at fit n m size out ≡ output_fault_at fit' n m' size out'
  unfolding output_fault_at map_fault
  same-output-fault size out out' s e = λ i.
      (some_if (not (s i)) BadCall or_else some_if (not (same-well i)) BadTable) or_else some_if (ltb (e i) size) ShortOutput

  -- ---- a count

  module _ (l l' : Lent) (e : length l.store ≡ length l'.store) (k : length l.output ≡ length l'.output) where
    same-count-fault : count_fault n N t l.store l.output ≡ count_fault n N t' l'.store l'.output
    unfolding count_fault
    same-count-fault = same-output-fault count_size l.output l'.output (ap₂ (λ (s : Bool) (k : ℕ). s and eqb k (16 * N)) same-sizes e) k

    -- the cells are counted where the map has been found well-formed
    cells_same : count_fault n N t l.store l.output ≡ None → counts n m ≡ counts n m'
    unfolding count_fault
    cells_same q =
        let well = (output-passed _ n m _ _ q).1 in
        same-counts n (dimension-small n N t a.one.sizes) m m' a.alike ((well_formed_iff n m).0 well)
        ((well_formed_iff n m').0 (sym same-well ∙ well))

    pub same_count : count_answer n N t l.store l.output ≡ count_answer n N t' l'.store l'.output
    unfolding count_answer
    same_count = ap (answered Done) same-count-fault

    pub same_numbers : written count (outcome_of n N t count l) ≡ written count (outcome_of n N t' count l')
    same_numbers = count-written n N t l ∙ same_unless same-count-fault cells_same ∙ sym (count-written n N t' l')

  -- ---- a load

  pub same_load : (b : List ℕ) → load_answer n N t b ≡ load_answer n N t' b
  unfolding load_answer load_fault
  same_load b = ap (λ (s : Bool). answered Done (load_fault_at s n N b)) same-sizes

  -- a load keeps nothing of the table that was there
  pub same-load-table : (b : List ℕ) → load_table n N t b ≡ load_table n N t' b
  unfolding load_table loaded
  same-load-table b = rw (a.one.sizes, a.other.sizes)
      (ap (λ (k : ℕ). cond (file_form n N b) (table_of (file_map n N b)) (replicate k 0)) same_length)

  pub load-alike : (b : List ℕ) → AlikeTables n N (load_table n N t b) (load_table n N t' b)
  load-alike b = record {
    one = load_slotted n N t b a.one.sizes;
    other = load_slotted n N t' b a.other.sizes;
    alike = rw (same-load-table b) (alike_refl (view N (load_table n N t' b)));
  }

  -- ---- a write

  pub same_bytes : file n m ≡ file n m'
  same_bytes = same-file n (dimension-small n N t a.one.sizes) m m' a.alike

  module _ (l l' : Lent) (e : length l.output ≡ length l'.output) where
    same-write-fault : write_fault n N t l.output ≡ write_fault n N t' l'.output
    unfolding write_fault
    same-write-fault = same-output-fault (length (file n m)) l.output l'.output same-sizes e
        ∙ ap (λ (b : List ℕ). output_fault_at (sizes_ok n N t') n m' (length b) l'.output) same_bytes

    pub same_write : write_answer n N t l.output ≡ write_answer n N t' l'.output
    unfolding write_answer
    same_write = ap₂ (λ (o : Option Refusal) (b : List ℕ). answered (Written (length b)) o) same-write-fault same_bytes

    pub same-written : written write (outcome_of n N t write l) ≡ written write (outcome_of n N t' write l')
    same-written = write-written n N t l ∙ same_unless same-write-fault (λ q. same_bytes) ∙ sym (write-written n N t' l')

-- What a load answers and leaves, way by way.
use Prim.Native.Nat.{ℕ, ◌≤◌}
use mathlib.Core.Path.{◌≡◌, refl, sym, ◌∙◌}
use mathlib.Core.Bool.{Bool, true, false, cond}
use Rattle.std.specs.Prelude.{Option, Some, None}
use mathlib.Core.List.{List}
use native.Mathlib.Omega.{arith}
use lib.ListN.{length}
use Rattle.base.specs.Test.{◌and◌}
use Rattle.base.specs.First.{some_if}
use Rattle.model.specs.Map.{table_of}
use Rattle.model.specs.File.{width, tags_from, darts_in, form_in, map_in, file_form, file_map}
use Rattle.model.specs.Calls.{zeros, loaded}
use Rattle.file.specs.Form.{frame_ok, framed, slots_ok}
use Rattle.file.specs.Records.{Formed}
use Rattle.file.proofs.FormLaws.{frame_length, form-is, formed}

told_darts : (t : Bool) (k j : ℕ) → some_if t k ≡ Some j → (t ≡ true) × (j ≡ k)
unfolding some_if
told_darts true k j e = (refl, cc)
told_darts false k j e = absurd (let z : ◌≡◌ {A = ℕ} 0 1 = cc in omega arith)

told_broken : (t : Bool) (k : ℕ) → some_if t k ≡ None → t ≡ false
unfolding some_if
told_broken true k e = absurd (let z : ◌≡◌ {A = ℕ} 0 1 = cc in omega arith)
told_broken false k e = refl

-- what a load into t answers and leaves
unfoldable pub Left : (w n N : ℕ) (b t t' : List ℕ) → Bool → Type 0
Left w n N b t t' r = (r ≡ form_in w n N b) × (t' ≡ cond (form_in w n N b) (table_of (map_in w n N b)) (zeros t))

module _ (w n N : ℕ) (b : List ℕ) where
  refused : (t t' : List ℕ) → form_in w n N b ≡ false → t' ≡ zeros t → Left w n N b t t' false
  unfolding Left
  refused t t' f z = (sym f, rw f z)

  module _ (f : Option ℕ) (e : f ≡ framed w n N b) where
    pub load-broken : (t t' : List ℕ) → f ≡ None → t' ≡ zeros t → Left w n N b t t' false
    unfolding framed ◌and◌
    load-broken t t' q =
        let no : frame_ok w n N b ≡ false = told_broken _ _ (sym e ∙ q) in
        refused t t' (form-is w n N b ∙ rw no refl)

    module _ (L : ℕ) (q : f ≡ Some L) where
      framed-darts : (frame_ok w n N b ≡ true) × (L ≡ darts_in w b)
      unfolding framed
      framed-darts = told_darts _ _ L (sym e ∙ q)

      pub darts_are : L ≡ darts_in w b
      darts_are = framed-darts.1

      pub darts_fit_lem : tags_from w L ≤ length b
      darts_fit_lem = let size = frame_length w n N b framed-darts.0 in rw darts_are (omega arith)

      module _ (r : Bool) (s : r ≡ slots_ok w N b L) where
        tests : form_in w n N b ≡ r
        unfolding ◌and◌
        tests = form-is w n N b ∙ rw (framed-darts.0, ← darts_are) (sym s)

        pub load-formed : r ≡ true → Formed w n N b
        load-formed h = formed w n N b (sym (form-is w n N b) ∙ tests ∙ h)

        pub load_unordered : (t t' : List ℕ) → r ≡ false → t' ≡ zeros t → Left w n N b t t' false
        load_unordered t t' h = refused t t' (tests ∙ h)

        pub load-done : (t t' : List ℕ) → r ≡ true → t' ≡ table_of (map_in w n N b) → Left w n N b t t' true
        unfolding Left
        load-done t t' h z = let form = tests ∙ h in (sym form, rw form z)

-- the same of a map file
pub load-file : (n N : ℕ) (b t t' : List ℕ) (r : Bool) → Left width n N b t t' r → (r ≡ file_form n N b) × (t' ≡ loaded n N t b)
unfolding Left loaded file_map
load-file n N b t t' r x = x

-- A test that gives a value or none, and what holds of the value if there is one.
use mathlib.Core.Path.{◌≡◌, refl, sym}
use mathlib.Core.Bool.{Bool, true, false, cond}
use Rattle.std.specs.Prelude.{Option, Some, None, is_some, IfSome}
use Rattle.std.specs.Bool.{then_some}

module _ {A : Type 0} where
  pub cond_none : (t : Bool) (x : A) → cond t (Some x) None ≡ None → t ≡ false
  cond_none true x e = cc
  cond_none false x e = refl

  pub then_some-cases : (P : Option A → Type 0) (t : Bool) (x : A) → (t ≡ true → P (Some x)) → (t ≡ false → P None) → P (then_some t x)
  then_some-cases P true x f g = f refl
  then_some-cases P false x f g = g refl

  pub is_some-then_some : (t : Bool) (x : A) → is_some (then_some t x) ≡ t
  is_some-then_some true x = refl
  is_some-then_some false x = refl

  pub IfSome-then_some : (P : A → Type 0) (t : Bool) (x : A) → (t ≡ true → P x) → IfSome (then_some t x) P
  IfSome-then_some P true x f = f refl
  IfSome-then_some P false x f = tt

  -- what follows from what is known of the value and of the test that gave it
  pub IfSome_tested : {P Q : A → Type 0} (r : Option A) {t : Bool} → is_some r ≡ t → IfSome r P → ((x : A) → P x → t ≡ true → Q x) → IfSome r Q
  IfSome_tested None e p f = tt
  IfSome_tested (Some x) e p f = f x p (sym e)

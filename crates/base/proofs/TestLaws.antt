-- Laws of the tests: what a joined test says of its parts.
use Prim.Native.Nat.{ℕ}
use mathlib.Core.Path.{◌≡◌, refl, sym, ap, ◌∙◌}
use mathlib.Core.Logic.{◌⊎◌, inl, inr, ⊎_elim}
use mathlib.Core.Bool.{Bool, true, false, not, cond, ◌&&◌, ◌||◌, false≢true, true≢false}
use lib.Dec.{eqb}
use borrow.Author.Tests.{eqb-true, eqb-false, eq-eqb, ne_eqb}
use Rattle.std.proofs.lemmas.Grind.{common_steps}
use Rattle.base.specs.Test.{◌and◌, ◌or◌, ◌⇒◌}

pub and_left : (a b : Bool) → (a and b) ≡ true → a ≡ true
unfolding ◌and◌
and_left true b e = refl
and_left false b e = e

pub and_right : (a b : Bool) → (a and b) ≡ true → b ≡ true
unfolding ◌and◌
and_right true b e = e
and_right false b e = absurd (false≢true e)

pub and_of : {a b : Bool} → a ≡ true → b ≡ true → (a and b) ≡ true
unfolding ◌and◌
and_of {a} {b} p q = rw (p, q)

-- two tests that code joins by `&` are the tests that they stand for, joined
pub both : {a b p q : Bool} → a ≡ p → b ≡ q → (a && b) ≡ (p and q)
unfolding ◌and◌
both {a} {b} {p} {q} e f = rw (e, f) (joined p q)
  where
    joined : (s t : Bool) → (s && t) ≡ (s and t)
    joined true t = refl
    joined false t = refl

pub and_true : (a : Bool) → (a and true) ≡ a
unfolding ◌and◌
and_true true = refl
and_true false = refl

pub and_assoc : (a b c : Bool) → (a and b and c) ≡ (a and (b and c))
unfolding ◌and◌
and_assoc true b c = refl
and_assoc false b c = refl

pub or_cases : (a b : Bool) → (a or b) ≡ true → (a ≡ true) ⊎ (b ≡ true)
unfolding ◌or◌
or_cases true b e = inl refl
or_cases false b e = inr e

pub or_left : {a : Bool} (b : Bool) → a ≡ true → (a or b) ≡ true
unfolding ◌or◌
or_left {a} b p = rw p

pub or_right : (a : Bool) {b : Bool} → b ≡ true → (a or b) ≡ true
unfolding ◌or◌
or_right true p = refl
or_right false p = p

pub if_so : (a : Bool) {b : Bool} → (a ⇒ b) ≡ true → a ≡ true → b ≡ true
unfolding ◌⇒◌
if_so true e p = e
if_so false e p = absurd (false≢true p)

pub if_of : (a : Bool) {b : Bool} → (a ≡ true → b ≡ true) → (a ⇒ b) ≡ true
unfolding ◌⇒◌
if_of true f = f refl
if_of false f = refl

pub true_or_false : (a : Bool) → (a ≡ true) ⊎ (a ≡ false)
true_or_false true = inl refl
true_or_false false = inr refl

-- two tests that hold together are one
pub same_test : (a b : Bool) → (a ≡ true → b ≡ true) → (b ≡ true → a ≡ true) → a ≡ b
same_test true b f g = sym (f refl)
same_test false true f g = g refl
same_test false false f g = refl

pub and_same : (a : Bool) {b c : Bool} → (a ≡ true → b ≡ c) → (a and b) ≡ (a and c)
unfolding ◌and◌
and_same true f = f refl
and_same false f = refl

pub cond_same : {A : Type 0} (b : Bool) (x y u v : A) → (b ≡ true → x ≡ u) → (b ≡ false → y ≡ v) → cond b x y ≡ cond b u v
cond_same true x y u v f g = f refl
cond_same false x y u v f g = g refl

pub or_false : (a : Bool) → (a or false) ≡ a
unfolding ◌or◌
or_false true = refl
or_false false = refl

-- two equalities of numbers that follow from one another are one test
pub eqb_same : (a b c d : ℕ) → (a ≡ b → c ≡ d) → (c ≡ d → a ≡ b) → eqb a b ≡ eqb c d
eqb_same a b c d f g = go (eqb a b) refl
  where
    go : (t : Bool) → eqb a b ≡ t → t ≡ eqb c d
    go true e = sym (eq-eqb c d (f (eqb-true a b e)))
    go false e = sym (ne_eqb c d (λ q. eqb-false a b e (g q)))

-- a test that cannot hold
pub impossible : (b : Bool) → (b ≡ true → ⊥) → b ≡ false
impossible true f = absurd (f refl)
impossible false f = refl

-- ---- tests that fail

pub and_no_left : {a : Bool} (b : Bool) → a ≡ false → (a and b) ≡ false
unfolding ◌and◌
and_no_left b e = rw e

pub and_no_right : (a : Bool) {b : Bool} → b ≡ false → (a and b) ≡ false
unfolding ◌and◌
and_no_right true e = e
and_no_right false e = refl

-- one test without another, where the one brings the other
pub not_both : (a b : Bool) → (a ≡ true → b ≡ true) → (a and not b) ≡ false
unfolding ◌and◌
not_both true b f = ap not (f refl)
not_both false b f = refl

-- and the other way
pub brings : {a b : Bool} → a ≡ true → (a and not b) ≡ false → b ≡ true
brings {a} {b} p e = ⊎_elim (λ q. q) (λ q. absurd (true≢false (sym (and_of p (ap not q)) ∙ e))) (true_or_false b)

-- a test that would make another true, which is false, is false
pub refuted : {a b : Bool} → (a ≡ true → b ≡ true) → b ≡ false → a ≡ false
refuted {a} f e = ⊎_elim (λ w. absurd (true≢false (sym (f w) ∙ e))) (λ w. w) (true_or_false a)

pub or_rest : {a b : Bool} → a ≡ false → (a or b) ≡ true → b ≡ true
or_rest {a} {b} f e = ⊎_elim (λ w. absurd (true≢false (sym w ∙ f))) (λ w. w) (or_cases a b e)

pub or_none : (a : Bool) {b : Bool} → b ≡ false → (a or b) ≡ a
or_none a f = same_test _ _ (λ e. ⊎_elim (λ w. w) (λ w. absurd (true≢false (sym w ∙ f))) (or_cases a _ e)) (λ e. or_left _ e)

-- ---- the same tests in the words of the standard library, in which the tactics know them

pub and_is : (a b : Bool) → (a and b) ≡ (a && b)
unfolding ◌and◌
and_is true b = refl
and_is false b = refl

pub or_is : (a b : Bool) → (a or b) ≡ (a || b)
unfolding ◌or◌
or_is true b = refl
or_is false b = refl

pub implies_is : (a b : Bool) → (a ⇒ b) ≡ (not a || b)
unfolding ◌⇒◌
implies_is true b = refl
implies_is false b = refl

-- for functions whose code joins the tests that their contract joins: `#[tactic(auto, using(base::proofs::TestLaws::joins))]`
pub ruleset joins = (and_is, or_is, implies_is, common_steps)

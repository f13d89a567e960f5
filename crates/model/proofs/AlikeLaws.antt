-- Alike maps: the relation is an equivalence, a map and its table are alike, what is like a well-formed map is well-formed,
-- and alike well-formed maps have the same states, free slots and orbits.
use Prim.Native.Nat.{ℕ, ◌≤◌, ◌<◌}
use mathlib.Core.Path.{◌≡◌, refl, sym, ap, ◌∙◌, subst, fun_ext}
use mathlib.Core.Logic.{◌⊎◌, inl, inr, ⊎_elim}
use native.Mathlib.Omega.{arith}
use lib.Dec.{eqb}
use borrow.Author.Tests.{eqb-true, eq-eqb}
use Rattle.base.specs.Below.{count_below}
use Rattle.base.proofs.TestLaws.{same_test}
use Rattle.base.proofs.BelowLaws.{count_same}
use Rattle.model.specs.Map.{Map, State, Link, Tag, view, table_of, live, unused}
use Rattle.model.specs.WellFormed.{WellFormed, well_formed}
use Rattle.model.specs.Orbit.{orbit, InOrbit, itself, onward}
use Rattle.model.specs.Alike.{Alike}
use Rattle.model.proofs.WellFormedLaws.{well_formed_iff}
use Rattle.model.proofs.MapLaws.{field_words}
use Rattle.model.proofs.OrbitLaws.{orbit-reached, reached-dart, orbit_iff}

-- ---- an equivalence

pub alike_refl : (m : Map) → Alike m m
alike_refl m = record {
  slots = refl;
  live = λ x h. ((λ e. e), (λ e. e));
  link = λ x h l i k. refl;
  tag = λ x h l. refl;
}

pub alike-sym : {m m' : Map} → Alike m m' → Alike m' m
alike-sym {m} {m'} a = record {
  slots = sym a.slots;
  live = λ x h. let r = a.live x (omega arith) in (r.1, r.0);
  link = λ x h l i k. sym (a.link x (omega arith) ((a.live x (omega arith)).1 l) i k);
  tag = λ x h l. sym (a.tag x (omega arith) ((a.live x (omega arith)).1 l));
}

pub alike_trans : {m m' m'' : Map} → Alike m m' → Alike m' m'' → Alike m m''
alike_trans {m} {m'} {m''} a b = record {
  slots = a.slots ∙ b.slots;
  live = λ x h. let r = a.live x h in let q = b.live x (omega arith) in ((λ e. q.0 (r.0 e)), (λ e. r.1 (q.1 e)));
  link = λ x h l i k. a.link x h l i k ∙ b.link x (omega arith) ((a.live x h).0 l) i k;
  tag = λ x h l. a.tag x h l ∙ b.tag x (omega arith) ((a.live x h).0 l);
}

-- the table of a map holds a map like it
pub words-alike : (m : Map) → Alike (view m.slots (table_of m)) m
words-alike m = record {
  slots = refl;
  live = λ x h. ((λ e. sym (field_words m x h State (omega arith)) ∙ e), (λ e. field_words m x h State (omega arith) ∙ e));
  link = λ x h l i k. field_words m x h (Link i) k;
  tag = λ x h l. field_words m x h Tag (omega arith);
}

-- ---- well-formedness

-- what is like a well-formed map, with states 0 or 1, is well-formed
module _ (n : ℕ) (small : n ≤ 3) (m m' : Map) (a : Alike m m') (w : WellFormed n m)
    (states : (x : ℕ) → x < m'.slots → (m'.state x ≡ 0) ⊎ (m'.state x ≡ 1)) where
  one-step : (x : ℕ) → x < m.slots → m.state x ≡ 1 → (i : ℕ) → i ≤ n → m'.link i x ≡ m.link i x
  one-step x h l i k = sym (a.link x h l i (omega arith))

  two_steps : (x : ℕ) → x < m.slots → m.state x ≡ 1 → (i j : ℕ) → i ≤ n → j ≤ n → m'.link j (m'.link i x) ≡ m.link j (m.link i x)
  two_steps x h l i j k r = ap (m'.link j) (one-step x h l i k) ∙ one-step (m.link i x) (w.below x h l i k) (w.alive x h l i k) j r

  dart : (x : ℕ) → x < m'.slots → m'.state x ≡ 1 → (x < m.slots) × (m.state x ≡ 1)
  dart x h l = let b : x < m.slots = omega arith in (b, (a.live x b).1 l)

  pub well-alike : WellFormed n m'
  well-alike = record {
    states = states;
    below = λ x h l i k.
        let d = dart x h l in
        subst (λ (z : ℕ). z < m'.slots) (sym (one-step x d.0 d.1 i k)) (subst (λ (z : ℕ). m.link i x < z) a.slots (w.below x d.0 d.1 i k));
    alive = λ x h l i k.
        let d = dart x h l in
        ap m'.state (one-step x d.0 d.1 i k) ∙ (a.live (m.link i x) (w.below x d.0 d.1 i k)).0 (w.alive x d.0 d.1 i k);
    back = λ x h l i k. let d = dart x h l in two_steps x d.0 d.1 i i k k ∙ w.back x d.0 d.1 i k;
    flat = λ two x h l. let d = dart x h l in sym (a.link x d.0 d.1 3 (omega arith)) ∙ w.flat two x d.0 d.1;
    square = λ x h l i j ij jn.
        let d = dart x h l in
        let k : i ≤ n = omega arith in
        let y = m.link i x in
        let yh = w.below x d.0 d.1 i k in
        let yl = w.alive x d.0 d.1 i k in
        ap (λ (z : ℕ). m'.link j (m'.link i z)) (two_steps x d.0 d.1 i j k jn)
        ∙ two_steps (m.link j y) (w.below y yh yl j jn) (w.alive y yh yl j jn) i j k jn
        ∙ w.square x d.0 d.1 i j ij jn;
  }

-- the table of a well-formed map is well-formed
pub words-well : (n : ℕ) (m : Map) → n ≤ 3 → WellFormed n m → WellFormed n (view m.slots (table_of m))
words-well n m small w = well-alike n small m _ (alike-sym (words-alike m)) w
    (λ x h. ⊎_elim (λ e. inl (field_words m x h State (omega arith) ∙ e)) (λ e. inr (field_words m x h State (omega arith) ∙ e)) (w.states x h))

-- and only of one
well-words : (n : ℕ) (m : Map) → n ≤ 3 → WellFormed n (view m.slots (table_of m)) → WellFormed n m
well-words n m small w = well-alike n small _ m (words-alike m) w
    (λ x h. ⊎_elim (λ e. inl (sym (field_words m x h State (omega arith)) ∙ e)) (λ e. inr (sym (field_words m x h State (omega arith)) ∙ e)) (w.states x h))

-- a map is well-formed just if its table is
pub words-formed : (n : ℕ) (m : Map) → n ≤ 3 → well_formed n (view m.slots (table_of m)) ≡ well_formed n m
words-formed n m small = same_test _ _
    (λ e. (well_formed_iff n m).1 (well-words n m small ((well_formed_iff n _).0 e)))
    (λ e. (well_formed_iff n _).1 (words-well n m small ((well_formed_iff n m).0 e)))

-- ---- states

module _ (m m' : Map) (a : Alike m m') where
  pub same_live : (x : ℕ) → x < m.slots → live m x ≡ live m' x
  same_live x h = same_test _ _
      (λ e. eq-eqb _ _ ((a.live x h).0 (eqb-true _ _ e)))
      (λ e. eq-eqb _ _ ((a.live x h).1 (eqb-true _ _ e)))

  module _ (n : ℕ) (w : WellFormed n m) (w' : WellFormed n m') where
    pub same-state : (x : ℕ) → x < m.slots → m.state x ≡ m'.state x
    same-state x h = ⊎_elim
        (λ e. ⊎_elim (λ f. e ∙ sym f) (λ f. let g = (a.live x h).1 f in absurd (omega arith)) (w'.states x (omega arith)))
        (λ e. e ∙ sym ((a.live x h).0 e))
        (w.states x h)

    pub same-unused : (x : ℕ) → x < m.slots → unused m x ≡ unused m' x
    same-unused x h = ap (λ (z : ℕ). eqb z 0) (same-state x h)

    pub same-room : count_below m.slots (unused m) ≡ count_below m'.slots (unused m')
    same-room = count_same m.slots (unused m) (unused m') same-unused ∙ ap (λ (k : ℕ). count_below k (unused m')) a.slots

-- ---- orbits

-- what is reached in one map is reached in the other, since every dart on the way is live
module _ (n : ℕ) (small : n ≤ 3) (k : ℕ) (dim : ℕ → ℕ) (dims : (p : ℕ) → p < k → dim p ≤ n) (d : ℕ) where
  reach_too : (m m' : Map) → Alike m m' → WellFormed n m → d < m.slots → m.state d ≡ 1 → {x : ℕ} → InOrbit m k dim d x → InOrbit m' k dim d x
  reach_too m m' a w h l itself = itself
  reach_too m m' a w h l (onward {x} {y} r p b e) =
      let i = reached-dart m k dim d n w dims h l r in
      let small-dim = dims p b in
      onward (reach_too m m' a w h l r) p b (sym (a.link x i.0 i.1 (dim p) (omega arith)) ∙ e)

  pub same-orbit : (m m' : Map) → Alike m m' → WellFormed n m → WellFormed n m' → d < m.slots → m.state d ≡ 1 → orbit m k dim d ≡ orbit m' k dim d
  same-orbit m m' a w w' h l =
      let h' : d < m'.slots = omega arith in
      let l' = (a.live d h).0 l in
      fun_ext (λ x. same_test _ _
      (λ e. (orbit_iff m' k dim d n w' dims h' l' x).1 (reach_too m m' a w h l (orbit-reached m k dim d x e)))
      (λ e. (orbit_iff m k dim d n w dims h l x).1 (reach_too m' m (alike-sym a) w' h' l' (orbit-reached m' k dim d x e))))

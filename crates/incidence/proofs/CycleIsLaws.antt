-- The tests of cycles over codes are the model's over arcs.
use Prim.Native.Nat.{ℕ, suc, ◌+◌, ◌-◌, ◌≤◌, ◌<◌}
use mathlib.Core.Path.{◌≡◌, refl, sym, ap, ap₂, ◌∙◌, subst}
use mathlib.Core.Logic.{◌⊎◌, inl, inr}
use mathlib.Core.Bool.{Bool, false, not, cond}
use mathlib.Core.List.{List}
use native.Mathlib.Omega.{arith}
use lib.ListN.{get_or}
use lib.Dec.{eqb, ltb, leb}
use borrow.Author.Tests.{lt-ltb, le-ltb, ne_eqb}
use Rattle.base.specs.Test.{◌and◌, ◌or◌, ◌⇒◌}
use Rattle.base.specs.First.{first, some_if}
use Rattle.base.proofs.TestLaws.{and_true, or_false, eqb_same}
use Rattle.base.proofs.FirstLaws.{first-same}
use Rattle.model.specs.Scheme.{Side, left, right, kind, orbit_dim}
use Rattle.model.specs.Conditions.{Arc, absent, explicit, implicit, arc_at, same_arc, at_end, at_places, four_arcs, one_arc, both_implicit, on_cycle, cycle_ok}
use Rattle.model.specs.Conditions.{cycle_fault}
use Rattle.model.specs.Shaped.{Shaped}
use Rattle.model.specs.declared.Scheme.{Scheme}
use Rattle.model.specs.declared.Refusal.TheVariants.{BadCycle}
use Rattle.model.proofs.AcceptedLaws as AcceptedLaws
use Rattle.model.specs.Codes.{arc_code}
use Rattle.model.specs.Codes.{entry}
use Rattle.model.specs.Shaped.{Coded}
use Rattle.incidence.specs.Cycles.{far_apart, goes_round, from_node, from_place, cycle_by, pair_by, Coding, at_pair, at_node}
use Rattle.model.proofs.CodeLaws.{Small, small-arc}
use Rattle.base.proofs.BelowLaws.{one-to-three}
use Rattle.model.proofs.AcceptedLaws.{node-small}

-- ---- what the model says, by the arc of s at i

at_end_never : (y : Arc) → at_end y (λ t. false) ≡ false
at_end_never absent = refl
at_end_never (explicit t) = refl
at_end_never (implicit p) = refl

not_node : (y : Arc) (u : ℕ) → at_places y (explicit u) eqb ≡ false
not_node absent u = refl
not_node (explicit t) u = refl
not_node (implicit p) u = refl

not_none : (y : Arc) → at_places y absent eqb ≡ false
not_none absent = refl
not_none (explicit t) = refl
not_none (implicit p) = refl

module _ (S : Scheme) (side : Side) (s i j : ℕ) where
  abbrev Apart : ℕ → ℕ → Bool
  Apart p q = leb (orbit_dim S p + 2) (orbit_dim S q) or leb (orbit_dim S q + 2) (orbit_dim S p)

  on-node : (t : ℕ) → arc_at S side s i ≡ explicit t
      → on_cycle S side s i j ≡ (at_end (arc_at S side t j) (λ u. at_end (arc_at S side u i) (λ v. at_end (arc_at S side v j) (eqb s)))
      or at_places (arc_at S side s j) (arc_at S side t j) eqb)
  unfolding on_cycle four_arcs one_arc both_implicit
  on-node t e = rw e (or_false _ ∙ ap (λ (b : Bool). (at_end (arc_at S side t j) (λ u. at_end (arc_at S side u i) (λ v. at_end (arc_at S side v j) (eqb s)))
      or at_places (arc_at S side s j) (arc_at S side t j) eqb) or b) (at_end_never (arc_at S side s j)) ∙ or_false _)

  on-place : (p : ℕ) → arc_at S side s i ≡ implicit p
      → on_cycle S side s i j ≡ (at_end (arc_at S side s j) (λ t. at_places (implicit p) (arc_at S side t i) eqb)
      or at_places (implicit p) (arc_at S side s j) Apart)
  unfolding on_cycle four_arcs one_arc both_implicit ◌or◌
  on-place p e = rw e

  on_none : arc_at S side s i ≡ absent → on_cycle S side s i j ≡ false
  unfolding on_cycle four_arcs one_arc both_implicit ◌or◌
  on_none e = rw e (rw (at_end_never (arc_at S side s j)))

-- ---- what the codes say

-- the code of a position, against that of an arc
same_place : {n e : ℕ} (p : ℕ) (x : Arc) → e ≡ arc_code x → n ≤ 16 → p < 4 → Small n x
    → (eqb (16 + p) e ≡ at_places x (implicit p) eqb) × (eqb e (16 + p) ≡ at_places (implicit p) x eqb)
same_place p absent q h l m = (rw q (ne_eqb (16 + p) 255 (λ z. absurd (omega arith))), rw q (ne_eqb 255 (16 + p) (λ z. absurd (omega arith))))
same_place p (explicit r) q h l m = (rw q (ne_eqb (16 + p) r (λ z. absurd (omega arith))), rw q (ne_eqb r (16 + p) (λ z. absurd (omega arith))))
same_place p (implicit o) q h l m = (
  rw q (eqb_same (16 + p) (16 + o) o p (λ z. omega arith) (λ z. omega arith)),
  rw q (eqb_same (16 + o) (16 + p) p o (λ z. omega arith) (λ z. omega arith)),
)

module _ (S : Scheme) (f : Shaped S) (side : Side) (codes : List ℕ) (cd : Coded S side codes) where
  node-code : (s i t : ℕ) → s < S.nodes → i < 4 → arc_at S side s i ≡ explicit t → (entry codes s i ≡ t) × (t < S.nodes)
  node-code s i t h l e = (cd.at s i h l ∙ ap arc_code e, subst (Small S.nodes) e (small-arc S f side s i))

  place-code : (s i p : ℕ) → s < S.nodes → i < 4 → arc_at S side s i ≡ implicit p → (entry codes s i ≡ 16 + p) × (p < 4)
  place-code s i p h l e = (cd.at s i h l ∙ ap arc_code e, subst (Small S.nodes) e (small-arc S f side s i))

  none-code : (s i : ℕ) → s < S.nodes → i < 4 → arc_at S side s i ≡ absent → entry codes s i ≡ 255
  none-code s i h l e = cd.at s i h l ∙ ap arc_code e

  pub coding : Coding S.nodes codes
  coding = record { small = λ s i h l. go s i h l (arc_at S side s i) refl }
    where
      go : (s i : ℕ) → s < S.nodes → i < 4 → (x : Arc) → arc_at S side s i ≡ x → (entry codes s i ≡ 255 → ⊥) → entry codes s i < 20
      go s i h l absent e ne = absurd (ne (none-code s i h l e))
      go s i h l (explicit t) e ne = let c = node-code s i t h l e in let k = node-small S f t c.1 in rw c.0 (omega arith)
      go s i h l (implicit p) e ne = let c = place-code s i p h l e in let k = c.1 in rw c.0 (omega arith)

  module _ (s i j : ℕ) (hs : s < S.nodes) (hi : i < 4) (hj : j < 4) where
    last-is : (v : ℕ) → v < S.nodes → eqb (entry codes v j) s ≡ at_end (arc_at S side v j) (eqb s)
    last-is v h = go (arc_at S side v j) refl
      where
        go : (x : Arc) → arc_at S side v j ≡ x → eqb (entry codes v j) s ≡ at_end x (eqb s)
        go absent e = let k = node-small S f s hs in rw (none-code v j h hj e) (ne_eqb 255 s (λ q. absurd (omega arith)))
        go (explicit r) e = rw (node-code v j r h hj e).0 (eqb_same r s s r sym sym)
        go (implicit p) e = let k = node-small S f s hs in rw (place-code v j p h hj e).0 (ne_eqb (16 + p) s (λ q. absurd (omega arith)))

    round_is : (u : ℕ) → u < S.nodes → goes_round codes s i j u ≡ at_end (arc_at S side u i) (λ v. at_end (arc_at S side v j) (eqb s))
    unfolding goes_round
    round_is u h = go (arc_at S side u i) refl
      where
        go : (x : Arc) → arc_at S side u i ≡ x
            → cond (ltb (entry codes u i) 16) (eqb (entry codes (entry codes u i) j) s) false ≡ at_end x (λ v. at_end (arc_at S side v j) (eqb s))
        go absent e = rw (none-code u i h hi e)
        go (explicit v) e = let c = node-code u i v h hi e in rw (c.0, lt-ltb v 16 (node-small S f v c.1)) (last-is v c.1)
        go (implicit p) e = rw ((place-code u i p h hi e).0, le-ltb (16 + p) 16 (omega arith))

    node-is : (t : ℕ) → t < S.nodes
        → from_node codes s i j (entry codes t j) ≡ (at_end (arc_at S side t j) (λ u. at_end (arc_at S side u i) (λ v. at_end (arc_at S side v j) (eqb s)))
        or at_places (arc_at S side s j) (arc_at S side t j) eqb)
    unfolding from_node ◌or◌
    node-is t h = go (arc_at S side t j) refl
      where
        go : (x : Arc) → arc_at S side t j ≡ x
            → cond (ltb (entry codes t j) 16) (goes_round codes s i j (entry codes t j))
            (cond (eqb (entry codes t j) 255) false (eqb (entry codes t j) (entry codes s j)))
            ≡ (at_end x (λ u. at_end (arc_at S side u i) (λ v. at_end (arc_at S side v j) (eqb s))) or at_places (arc_at S side s j) x eqb)
        go absent e = rw (none-code t j h hj e) (sym (not_none (arc_at S side s j)))
        go (explicit u) e =
            let c = node-code t j u h hj e in
            rw (c.0, lt-ltb u 16 (node-small S f u c.1)) (round_is u c.1
            ∙ sym (ap (λ (b : Bool). at_end (arc_at S side u i) (λ v. at_end (arc_at S side v j) (eqb s)) or b) (not_node (arc_at S side s j) u) ∙ or_false _))
        go (implicit p) e =
            let c = place-code t j p h hj e in
            let k = c.1 in
            rw (c.0, le-ltb (16 + p) 16 (omega arith), ne_eqb (16 + p) 255 (λ q. absurd (omega arith)))
            (same_place p (arc_at S side s j) (cd.at s j hs hj) f.nodes_few k (small-arc S f side s j)).0

    place_is_lem : (p : ℕ) → p < 4
        → from_place S.orbit codes i (16 + p) (entry codes s j)
        ≡ (at_end (arc_at S side s j) (λ t. at_places (implicit p) (arc_at S side t i) eqb) or at_places (implicit p) (arc_at S side s j) (Apart S side s i j))
    unfolding from_place far_apart ◌or◌
    place_is_lem p l = go (arc_at S side s j) refl
      where
        go : (y : Arc) → arc_at S side s j ≡ y
            → cond (ltb (entry codes s j) 16) (eqb (entry codes (entry codes s j) i) (16 + p))
            (cond (eqb (entry codes s j) 255) false (far_apart (get_or S.orbit (16 + p - 16) 0) (get_or S.orbit (entry codes s j - 16) 0)))
            ≡ (at_end y (λ t. at_places (implicit p) (arc_at S side t i) eqb) or at_places (implicit p) y (Apart S side s i j))
        go absent e = rw (none-code s j hs hj e)
        go (explicit t) e =
            let c = node-code s j t hs hj e in
            rw (c.0, lt-ltb t 16 (node-small S f t c.1))
            ((same_place p (arc_at S side t i) (cd.at t i c.1 hi) f.nodes_few l (small-arc S f side t i)).1 ∙ sym (or_false _))
        go (implicit q) e =
            let c = place-code s j q hs hj e in
            let k = c.1 in
            let ep : 16 + p - 16 ≡ p = omega arith in
            let eq : 16 + q - 16 ≡ q = omega arith in
            rw (c.0, le-ltb (16 + q) 16 (omega arith), ne_eqb (16 + q) 255 (λ z. absurd (omega arith)), ep, eq)

    pub cycle_by_lem : cycle_by S.orbit codes s i j ≡ on_cycle S side s i j
    unfolding cycle_by
    cycle_by_lem = go (arc_at S side s i) refl
      where
        go : (x : Arc) → arc_at S side s i ≡ x
            → cond (ltb (entry codes s i) 16) (from_node codes s i j (entry codes (entry codes s i) j))
            (cond (eqb (entry codes s i) 255) false (from_place S.orbit codes i (entry codes s i) (entry codes s j))) ≡ on_cycle S side s i j
        go absent e = rw (none-code s i hs hi e) (sym (on_none S side s i j e))
        go (explicit t) e =
            let c = node-code s i t hs hi e in
            rw (c.0, lt-ltb t 16 (node-small S f t c.1)) (node-is t c.1 ∙ sym (on-node S side s i j t e))
        go (implicit p) e =
            let c = place-code s i p hs hi e in
            let k = c.1 in
            rw (c.0, le-ltb (16 + p) 16 (omega arith), ne_eqb (16 + p) 255 (λ q. absurd (omega arith))) (place_is_lem p k ∙ sym (on-place S side s i j p e))

-- ---- a node at a pair

same_code : (n : ℕ) (x y : Arc) → n ≤ 16 → Small n x → Small n y → eqb (arc_code x) (arc_code y) ≡ same_arc x y
same_code n absent absent h a b = refl
same_code n absent (explicit t) h a b = ne_eqb 255 t (λ q. absurd (omega arith))
same_code n absent (implicit p) h a b = ne_eqb 255 (16 + p) (λ q. absurd (omega arith))
same_code n (explicit s) absent h a b = ne_eqb s 255 (λ q. absurd (omega arith))
same_code n (explicit s) (explicit t) h a b = refl
same_code n (explicit s) (implicit p) h a b = ne_eqb s (16 + p) (λ q. absurd (omega arith))
same_code n (implicit o) absent h a b = ne_eqb (16 + o) 255 (λ q. absurd (omega arith))
same_code n (implicit o) (explicit t) h a b = ne_eqb (16 + o) t (λ q. absurd (omega arith))
same_code n (implicit o) (implicit p) h a b = eqb_same (16 + o) (16 + p) o p (λ q. omega arith) (λ q. omega arith)

module _ (S : Scheme) (f : Shaped S) (lefts rights : List ℕ) (cl : Coded S left lefts) (cr : Coded S right rights) where
  same-is : (s i : ℕ) → s < S.nodes → i < 4 → eqb (entry lefts s i) (entry rights s i) ≡ same_arc (arc_at S left s i) (arc_at S right s i)
  same-is s i h l =
      ap₂ eqb (cl.at s i h l) (cr.at s i h l)
      ∙ same_code S.nodes (arc_at S left s i) (arc_at S right s i) f.nodes_few (small-arc S f left s i) (small-arc S f right s i)

  pair-by : (s i j : ℕ) → s < S.nodes → i < 4 → j < 4 → pair_by (kind S s) S.orbit lefts rights s i j ≡ cycle_ok S s i j
  unfolding pair_by cycle_ok ◌and◌ ◌⇒◌
  pair-by s i j h a b = let k = f.kinds s h in go (one-to-three (kind S s) k.0 k.1)
    where
      on_left : cycle_by S.orbit lefts s i j ≡ on_cycle S left s i j
      on_left = cycle_by_lem S f left lefts cl s i j h a b

      on_right : cycle_by S.orbit rights s i j ≡ on_cycle S right s i j
      on_right = cycle_by_lem S f right rights cr s i j h a b

      go : (kind S s ≡ 1) ⊎ ((kind S s ≡ 2) ⊎ (kind S s ≡ 3)) → pair_by (kind S s) S.orbit lefts rights s i j ≡ cycle_ok S s i j
      go (inl e) = rw e
      go (inr (inl e)) = rw (e, on_left, on_right, same-is s i h a, same-is s j h b)
      go (inr (inr e)) = rw (e, on_right) (sym (and_true (on_cycle S right s i j)))

-- ---- the first offence

module _ (S : Scheme) (f : Shaped S) (lefts rights : List ℕ) (cl : Coded S left lefts) (cr : Coded S right rights) where
  pub cycle_is : cycle_fault S ≡ first S.nodes (at_node S.orbit S.kinds lefts rights S.n)
  unfolding cycle_fault at_node at_pair
  cycle_is =
      let few = AcceptedLaws.small S f in
      first-same S.nodes _ _ (λ s h. first-same (suc S.n) _ _ (λ i hi. first-same (suc S.n) _ _ (λ j hj.
      ap (λ (b : Bool). some_if (leb (i + 2) j and not b) (BadCycle s i j))
      (sym (pair-by S f lefts rights cl cr s i j h (omega arith) (omega arith))))))

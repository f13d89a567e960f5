-- The tests of cycles, case by case.
use Prim.Native.Nat.{ℕ, ◌+◌, ◌-◌, ◌≤◌, ◌<◌}
use mathlib.Core.Path.{◌≡◌, ◌∙◌}
use mathlib.Core.Bool.{Bool, true, false}
use mathlib.Core.List.{List}
use lib.ListN.{get_or}
use lib.Dec.{eqb, leb}
use borrow.Author.Tests.{lt-ltb, le-ltb, le-leb, lt-leb, eq-eqb, ne_eqb}
use Rattle.base.specs.Test.{◌and◌, ◌or◌}
use Rattle.model.specs.Codes.{entry}
use Rattle.incidence.specs.Cycles.{far_apart, goes_round, from_node, from_place, cycle_by, pair_by}

pub apart-up : (p q : ℕ) → p + 2 ≤ q → true ≡ far_apart p q
unfolding far_apart ◌or◌
apart-up p q h = rw (le-leb (p + 2) q h)

pub apart_down : (p q : ℕ) → q < p + 2 → leb (q + 2) p ≡ far_apart p q
unfolding far_apart ◌or◌
apart_down p q h = rw (lt-leb (p + 2) q h)

module _ (codes : List ℕ) (s i j t : ℕ) where
  pub round_back : t < 16 → (u : ℕ) → u ≡ entry codes t i → u < 16 → (v : ℕ) → v ≡ entry codes u j → eqb v s ≡ from_node codes s i j t
  unfolding from_node goes_round
  round_back h u e l v f = rw (lt-ltb t 16 h, ← e, lt-ltb u 16 l, f)

  pub round_not : t < 16 → (u : ℕ) → u ≡ entry codes t i → 16 ≤ u → false ≡ from_node codes s i j t
  unfolding from_node goes_round
  round_not h u e l = rw (lt-ltb t 16 h, ← e, le-ltb u 16 l)

  pub node-absent : 16 ≤ t → t ≡ 255 → false ≡ from_node codes s i j t
  unfolding from_node
  node-absent h e = rw (le-ltb t 16 h, eq-eqb t 255 e)

  pub node-place : 16 ≤ t → (t ≡ 255 → ⊥) → (b : ℕ) → b ≡ entry codes s j → eqb t b ≡ from_node codes s i j t
  unfolding from_node
  node-place h ne b e = rw (le-ltb t 16 h, ne_eqb t 255 ne, e)

module _ (orbit codes : List ℕ) (i a b : ℕ) where
  pub place-node : b < 16 → (v : ℕ) → v ≡ entry codes b i → eqb v a ≡ from_place orbit codes i a b
  unfolding from_place
  place-node h v e = rw (lt-ltb b 16 h, e)

  pub place-absent : 16 ≤ b → b ≡ 255 → false ≡ from_place orbit codes i a b
  unfolding from_place
  place-absent h e = rw (le-ltb b 16 h, eq-eqb b 255 e)

  pub place-place : 16 ≤ b → (b ≡ 255 → ⊥) → (p q : ℕ) → p ≡ get_or orbit (a - 16) 0 → q ≡ get_or orbit (b - 16) 0
      → (r : Bool) → r ≡ far_apart p q → r ≡ from_place orbit codes i a b
  unfolding from_place
  place-place h ne p q e f r g = rw (le-ltb b 16 h, ne_eqb b 255 ne, ← e, ← f) g

-- what is known of a code is known of the value read
pub code-small : (x a : ℕ) → a ≡ x → ((x ≡ 255 → ⊥) → x < 20) → (a ≡ 255 → ⊥) → a < 20
code-small x a e h ne = rw e (h (λ q. ne (e ∙ q)))

module _ (orbit codes : List ℕ) (s i j a : ℕ) (e : a ≡ entry codes s i) where
  pub by-node : a < 16 → (t : ℕ) → t ≡ entry codes a j → (r : Bool) → r ≡ from_node codes s i j t → r ≡ cycle_by orbit codes s i j
  unfolding cycle_by
  by-node h t f r g = rw (← e, lt-ltb a 16 h, ← f) g

  pub by-none : 16 ≤ a → a ≡ 255 → false ≡ cycle_by orbit codes s i j
  unfolding cycle_by
  by-none h q = rw (← e, le-ltb a 16 h, eq-eqb a 255 q)

  pub by_place : 16 ≤ a → (a ≡ 255 → ⊥) → (b : ℕ) → b ≡ entry codes s j → (r : Bool) → r ≡ from_place orbit codes i a b → r ≡ cycle_by orbit codes s i j
  unfolding cycle_by
  by_place h ne b f r g = rw (← e, le-ltb a 16 h, ne_eqb a 255 ne, ← f) g

module _ (kind : ℕ) (orbit lefts rights : List ℕ) (s i j : ℕ) where
  pub pair-deleted : kind ≡ 1 → true ≡ pair_by kind orbit lefts rights s i j
  unfolding pair_by
  pair-deleted e = rw (eq-eqb kind 1 e)

  module _ (n1 : kind ≡ 1 → ⊥) where
    pub pair-added : kind ≡ 3 → (r : Bool) → r ≡ cycle_by orbit rights s i j → r ≡ pair_by kind orbit lefts rights s i j
    unfolding pair_by
    pair-added e r f = rw (ne_eqb kind 1 n1, eq-eqb kind 3 e) f

    module _ (n3 : kind ≡ 3 → ⊥) (l : Bool) (e : l ≡ cycle_by orbit lefts s i j) where
      pub pair_cycle : l ≡ true → (r : Bool) → r ≡ cycle_by orbit rights s i j → r ≡ pair_by kind orbit lefts rights s i j
      unfolding pair_by
      pair_cycle q r f = rw (ne_eqb kind 1 n1, ne_eqb kind 3 n3, ← e, q) f

      module _ (q : l ≡ false) (a b : ℕ) (ea : a ≡ entry lefts s i) (eb : b ≡ entry rights s i) where
        pub pair-other : (a ≡ b → ⊥) → false ≡ pair_by kind orbit lefts rights s i j
        unfolding pair_by ◌and◌
        pair-other ne = rw (ne_eqb kind 1 n1, ne_eqb kind 3 n3, ← e, q, ← ea, ← eb, ne_eqb a b ne)

        pub pair_same : a ≡ b → (x y : ℕ) → x ≡ entry lefts s j → y ≡ entry rights s j → eqb x y ≡ pair_by kind orbit lefts rights s i j
        unfolding pair_by ◌and◌
        pair_same same x y ex ey = rw (ne_eqb kind 1 n1, ne_eqb kind 3 n3, ← e, q, ← ea, ← eb, eq-eqb a b same, ← ex, ← ey)

-- Where the nodes stand in the bytes: each after the one before it, and after the donors of those before it.
use Prim.Native.Nat.{ℕ, zero, suc, ◌+◌, ◌*◌, ◌≤◌}
use mathlib.Core.Path.{◌≡◌, refl, ◌∙◌}
use mathlib.Core.Bool.{false}
use mathlib.Core.List.{List}
use native.Mathlib.Nat.{mul-le-mul_right}
use native.Mathlib.Numerals.{add-one}
use native.Mathlib.Omega.{arith}
use Rattle.base.specs.Test.{◌and◌, bit}
use Rattle.base.specs.Below.{count_below}
use Rattle.base.proofs.BelowLaws.{count-up, count-zero}
use Rattle.model.specs.Bytes.{names_donors, places_of, has_donor, node_at, kind_at}

module _ (b : List ℕ) where
  -- how many of the first s nodes have a donor byte
  abbrev pub donors_to : ℕ → ℕ
  donors_to s = count_below s (λ t. has_donor b (kind_at b t))

  pub node-first : node_at b 0 ≡ 3 + places_of b
  unfolding node_at
  node-first = refl

  pub node-next : (s : ℕ) → node_at b (s + 1) ≡ node_at b s + 1 + 2 * places_of b + bit (has_donor b (kind_at b s))
  unfolding node_at
  node-next s = rw (add-one s) refl

  pub node-place : (s : ℕ) → node_at b s ≡ 3 + places_of b + s * (1 + 2 * places_of b) + donors_to s
  unfolding node_at count_below
  node-place zero = omega arith
  node-place (suc s) = omega (arith, node-place s)

  -- a later node stands further on
  pub node-rises : (s t : ℕ) → s ≤ t → node_at b s ≤ node_at b t
  node-rises s t h =
      let donors = count-up (λ z. has_donor b (kind_at b z)) s t h in
      omega (arith, node-place s, node-place t, mul-le-mul_right (1 + 2 * places_of b) h)

  -- where no donors are named every node has as many bytes
  pub node-plain : names_donors b ≡ false → (s : ℕ) → node_at b s ≡ 3 + places_of b + s * (1 + 2 * places_of b)
  unfolding has_donor ◌and◌
  node-plain e s = node-place s ∙ omega (arith, count-zero s (λ t. has_donor b (kind_at b t)) (λ t h. rw e refl))

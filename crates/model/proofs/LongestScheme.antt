-- The longest schemes: 537 bytes without donors, 547 with them, and one more with a second hook. There are schemes of these four lengths in the form,
-- and none is longer.
use Prim.Native.Nat.{ℕ, ◌+◌, ◌*◌, ◌-◌, ◌≤◌}
use mathlib.Core.Path.{◌≡◌, refl}
use mathlib.Core.Logic.{⊎_elim}
use mathlib.Core.Bool.{true, false}
use mathlib.Core.List.{List, [], ◌∷◌, ◌++◌}
use native.Mathlib.Nat.{mul-le-mul_right}
use native.Mathlib.Omega.{arith}
use lib.ListN.{length, replicate}
use Rattle.base.specs.Lists.{joined}
use Rattle.base.proofs.BelowLaws.{le_or_lt}
use Rattle.model.specs.Bytes.{names_donors, places_of, nodes_of, hook_bytes, arc_count}
use Rattle.model.specs.Scheme.{left, right, in_form}
use Rattle.model.proofs.Computes.{computes}
use Rattle.model.proofs.NodePlaceLaws.{donors_to, node-place, node-plain}
use Rattle.model.proofs.FormLaws as F
use Rattle.model.proofs.SchemeLaws.{small, places-few, nodes-few, arcs-few, form-short}
use Rattle.model.proofs.ArcCountLaws.{nodes_to, five_nodes, donors-apart}

-- ---- none is longer

module _ (b : List ℕ) (q : in_form b ≡ true) where
  -- where six nodes are on the left at most ten have donors, and where at most five are on the left they have at most 60 arcs
  donors_or_arcs : donors_to b (nodes_of b) + 3 * arc_count b left ≤ 202
  donors_or_arcs =
      let c16 = nodes-few b q in
      let apart = donors-apart b (nodes_of b) in
      let arcs64 = arcs-few b q left in
      ⊎_elim
      (λ five. let arcs60 = five_nodes b q left five in omega arith)
      (λ six. omega arith)
      (le_or_lt (nodes_to b left (nodes_of b)) 5)

  -- a scheme has 547 bytes at the most beside that of a second hook
  pub form-longest : length b ≤ 547 + hook_bytes b
  form-longest =
      let ends = (F.parts b q).ends in
      let n3 = small b q in
      let few = places-few b q in
      let place = node-place b (nodes_of b) in
      let nodes = mul-le-mul_right (1 + 2 * places_of b) (nodes-few b q) in
      let arcs-left = donors_or_arcs in
      let arcs-right = arcs-few b q right in
      omega arith

  -- without donors it has 537 at the most beside that of a second hook
  pub plain-longest : names_donors b ≡ false → length b ≤ 537 + hook_bytes b
  plain-longest e = omega (arith, form-short b q, node-place b (nodes_of b), node-plain b e (nodes_of b))

-- ---- schemes of these lengths

-- 64 arcs: a loop of each dimension at each of sixteen nodes
unfoldable pub loops : List ℕ
loops = joined 4 (λ i. joined 16 (λ s. i ∷ s ∷ s ∷ []))

-- 64 arcs of six nodes: one of each dimension up to 2 between any two and at each, and a loop of dimension 3
unfoldable pub pairs : List ℕ
pairs = joined 3 (λ i. joined 6 (λ s. joined (6 - s) (λ t. i ∷ s ∷ (s + t) ∷ []))) ++ (3 ∷ 0 ∷ 0 ∷ [])

-- c nodes of a kind whose words are all 255, each with its donor where it has one
unfoldable pub blank : ℕ → ℕ → List ℕ → List ℕ
blank c kind donor = joined c (λ s. kind ∷ replicate 8 255 ++ donor)

-- orbit type 0 1 2 3, sixteen nodes and 64 arcs on each side, after the first byte and around the second hook
unfoldable pub longest : ℕ → List ℕ → List ℕ → List ℕ → List ℕ
longest start nodes second arcs = start ∷ 4 ∷ 0 ∷ 1 ∷ 2 ∷ 3 ∷ 16 ∷ nodes ++ second ++ (64 ∷ arcs) ++ (64 ∷ loops)

-- sixteen preserved nodes, without donors
unfoldable pub plain : ℕ → List ℕ → List ℕ
plain start second = longest start (blank 16 2 []) second loops

-- six preserved nodes, and ten added ones whose donor is node 0
unfoldable pub donored : ℕ → List ℕ → List ℕ
donored start second = longest start (blank 6 2 [] ++ blank 10 3 (0 ∷ [])) second pairs

-- n = 3: it has 537 bytes, and is in the form
pub longest-length : length (plain 3 []) ≡ 537
unfolding plain longest blank loops computes
longest-length = refl

pub longest-form : in_form (plain 3 []) ≡ true
unfolding plain longest blank loops computes
longest-form = refl

-- n = 3 with node 1 as second hook: it has 538
pub longest_two_length : length (plain 35 (1 ∷ [])) ≡ 538
unfolding plain longest blank loops computes
longest_two_length = refl

pub longest_two_form : in_form (plain 35 (1 ∷ [])) ≡ true
unfolding plain longest blank loops computes
longest_two_form = refl

-- n = 3 with donors: it has 547
pub longest-donors-length : length (donored 19 []) ≡ 547
unfolding donored longest blank pairs loops computes
longest-donors-length = refl

pub longest-donors-form : in_form (donored 19 []) ≡ true
unfolding donored longest blank pairs loops computes
longest-donors-form = refl

-- n = 3 with donors and node 1 as second hook: it has 548
pub longest-all-length : length (donored 51 (1 ∷ [])) ≡ 548
unfolding donored longest blank pairs loops computes
longest-all-length = refl

pub longest-all-form : in_form (donored 51 (1 ∷ [])) ≡ true
unfolding donored longest blank pairs loops computes
longest-all-form = refl

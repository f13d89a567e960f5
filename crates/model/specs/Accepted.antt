-- 'When a scheme is accepted', rule by rule: hook, incidence, cycles. In a scheme in the form, the tests of Conditions.antt find no fault
-- (`scheme_fault`) just where all of this holds (`consistent_iff` of proofs/AcceptedLaws.antt).
use Rattle.std.specs.Prelude.{ℕ, ◌+◌, ◌≤◌, ◌<◌, ◌≡◌, true}
use Rattle.model.specs.Scheme.{Side, left, right, has, deleted, preserved, added, is_hook}
use Rattle.model.specs.Conditions.{arc_at, arcs_of_dim, Hooked, Reached, Cycle}
use Rattle.model.specs.Shaped.{Shaped}
use Rattle.model.specs.declared.Scheme.{Scheme}

-- incidence at the node s: "On each side a node has at most one arc of each dimension, explicit and implicit together. A preserved node has the same
-- dimensions left and right. A deleted node has all of 0 to n on the left, an added node all on the right."
pub record Incident (S : Scheme) (s : ℕ) : Type 0 where
  pub single : (side : Side) (i : ℕ) → i ≤ S.n → arcs_of_dim S side s i ≤ 1
  pub same : (i : ℕ) → i ≤ S.n → preserved S s ≡ true → arcs_of_dim S left s i ≡ arcs_of_dim S right s i
  pub all_left : (i : ℕ) → i ≤ S.n → deleted S s ≡ true → arcs_of_dim S left s i ≡ 1
  pub all_right : (i : ℕ) → i ≤ S.n → added S s ≡ true → arcs_of_dim S right s i ≡ 1

-- cycles at the node s and the dimensions i and j: "each added node is on an ij-cycle on the right; a preserved node on one on the left is on one on the
-- right; a preserved node on none on the left has the same i- and j-arcs on both sides"
pub record Cyclic (S : Scheme) (s i j : ℕ) : Type 0 where
  pub added_cycle : added S s ≡ true → Cycle S right s i j
  pub kept_cycle : preserved S s ≡ true → Cycle S left s i j → Cycle S right s i j
  pub kept_arcs : preserved S s ≡ true → (Cycle S left s i j → ⊥) → (arc_at S left s i ≡ arc_at S right s i) × (arc_at S left s j ≡ arc_at S right s j)

-- what the publication asks of a scheme
pub record Consistent (S : Scheme) : Type 0 where
  -- hook: "Node 0 has kind 1 or 2 and its left word equals the orbit type", and so the second hook; "left nodes must be reached from either hook"
  pub hooks : (h : ℕ) → is_hook S h ≡ true → Hooked S h
  pub reach : (s : ℕ) → s < S.nodes → has S left s ≡ true → Reached S s
  pub incidence : (s : ℕ) → s < S.nodes → Incident S s
  -- "For i + 2 ≤ j ≤ n"
  pub cycles : (s i j : ℕ) → s < S.nodes → i + 2 ≤ j → j ≤ S.n → Cyclic S s i j

-- a consistent scheme whose value has the shape of bytes in the form: what an edit starts from
pub record Accepted (S : Scheme) : Type 0 where
  pub shaped : Shaped S
  pub consistent : Consistent S

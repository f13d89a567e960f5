-- The targets of a side, and its nodes with two arcs of one dimension, as they are filled: first by the words, then arc by arc.
use Rattle.std.specs.Prelude.{ℕ, zero, suc, ◌+◌, ◌*◌, ◌≡◌, Bool, true, cond, List, get_or, set, eqb, ltb, leb}
use Rattle.base.specs.Test.{◌and◌, ◌or◌, bit}
use Rattle.base.specs.Below.{any_below, count_below}
use Rattle.base.specs.Lists.{list}
use Rattle.model.specs.Bytes.{byte}
use Rattle.model.specs.Arc.{touching}

-- ---- implicit arcs

-- d may be marked in the row at `base`: it is 255, or a dimension up to n that is not marked there yet
unfoldable pub markable : List ℕ → ℕ → ℕ → ℕ → Bool
markable targets base n d = eqb d 255 or leb d n and eqb (get_or targets (base + d) 0) 255

-- the targets once dimension d is marked in the row at `base`, with position p; 255 marks nothing
unfoldable pub marked : List ℕ → ℕ → ℕ → ℕ → List ℕ
marked targets base d p = cond (eqb d 255) targets (set targets (base + d) (16 + p))

-- the targets once the first p bytes of the word at `at` are marked in the row at `base`
unfoldable pub rowed : List ℕ → ℕ → List ℕ → ℕ → ℕ → List ℕ
rowed targets base b at zero = targets
rowed targets base b at (suc p) = marked (rowed targets base b at p) base (byte b (at + p)) p

-- ---- explicit arcs

-- the targets after an arc to `to` at an entry: it becomes the target unless an explicit arc is there
unfoldable pub aimed : List ℕ → ℕ → ℕ → List ℕ
aimed targets at to = cond (leb 16 (get_or targets at 0)) (set targets at to) targets

-- the nodes with two arcs after an arc at an entry of node s: if an arc is there, explicit or implicit, s now has two
unfoldable pub crowded : List ℕ → List Bool → ℕ → ℕ → List Bool
crowded targets twice s at = cond (eqb (get_or targets at 0) 255) twice (set twice s true)

-- the targets and the nodes with two arcs after an arc of dimension d between s and t: a loop is entered at its one end, another arc at both
pub data ArcLinked (d s t : ℕ) (targets : List ℕ) (twice : List Bool) (targets' : List ℕ) (twice' : List Bool) : Type 0 where
  loop : s ≡ t → targets' ≡ aimed targets (4 * s + d) t → twice' ≡ crowded targets twice s (4 * s + d) → ArcLinked d s t targets twice targets' twice'
  ends : (s ≡ t → ⊥) → targets' ≡ aimed (aimed targets (4 * s + d) t) (4 * t + d) s
      → twice' ≡ crowded (aimed targets (4 * s + d) t) (crowded targets twice s (4 * s + d)) t (4 * t + d)
      → ArcLinked d s t targets twice targets' twice'

-- the nodes with two arcs of one dimension, where the first c explicit arcs and all implicit ones count
unfoldable pub twice_to : (ℕ → ℕ) → (ℕ → ℕ → ℕ) → ℕ → List Bool
twice_to place part c = list 16 (λ s. any_below 4 (λ i. leb 2 (count_below c (touching part s i) + bit (ltb (place (4 * s + i)) 255))))

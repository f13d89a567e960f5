-- The counts of small maps, which antt computes: a row is a map, and how many live darts, vertices, edges, faces, pieces and volumes it must have.
use Prim.Native.Nat.{ℕ}
use mathlib.Core.Path.{◌≡◌, refl}
use mathlib.Core.Bool.{true}
use mathlib.Core.List.{List, [], ◌∷◌, ◌++◌, map}
use Rattle.model.specs.Map.{view}
use Rattle.model.specs.WellFormed.{well_formed}
use Rattle.model.specs.Count.{counts}
use Rattle.model.proofs.Computes.{computes}
use Rattle.model.proofs.Samples.{dart, unused_slots, f_darts, sewn}

-- a map in a table, and its counts
pub record Row : Type 0 where
  pub n : ℕ
  pub slots : ℕ
  pub table : List ℕ
  pub wanted : List ℕ

abbrev pub counted : ℕ → ℕ → List ℕ → List ℕ → Row
counted n N t c = record { n = n; slots = N; table = t; wanted = c }

-- a square sheet: four edges around one face, sewn to nothing
abbrev pub square : List ℕ
square = dart 1 7 0 0 0 ++ dart 0 2 1 1 0 ++ dart 3 1 2 2 0 ++ dart 2 4 3 3 0 ++ dart 5 3 4 4 0 ++ dart 4 6 5 5 0 ++ dart 7 5 6 6 0 ++ dart 6 0 7 7 0

-- an unused record with the links 1 to 4, which lead to darts where there are that many slots
abbrev pub leading : List ℕ
leading = 0 ∷ 1 ∷ 2 ∷ 3 ∷ 4 ∷ 5 ∷ []

-- two edges that α3 joins: one face, with a volume on each side
abbrev pub two_sided : List ℕ
two_sided = leading ++ dart 2 1 1 3 0 ++ dart 1 2 2 4 0 ++ dart 4 3 3 1 0 ++ dart 3 4 4 2 0

unfoldable pub rows : List Row
rows =
    -- no live dart; a dart by itself
    counted 2 2 (unused_slots 1 ++ leading) (0 ∷ 0 ∷ 0 ∷ 0 ∷ 0 ∷ 0 ∷ [])
    ∷ counted 2 2 (dart 0 0 0 0 3 ++ leading) (1 ∷ 1 ∷ 1 ∷ 1 ∷ 1 ∷ 0 ∷ [])
    ∷ counted 3 2 (dart 0 0 0 0 3 ++ leading) (1 ∷ 1 ∷ 1 ∷ 1 ∷ 1 ∷ 1 ∷ [])
    -- the square, which is a volume with n = 3 alone
    ∷ counted 2 9 (square ++ unused_slots 1) (8 ∷ 4 ∷ 4 ∷ 1 ∷ 1 ∷ 0 ∷ [])
    ∷ counted 3 9 (square ++ leading) (8 ∷ 4 ∷ 4 ∷ 1 ∷ 1 ∷ 1 ∷ [])
    -- two flanges, apart and sewn; two edges with a volume on each side
    ∷ counted 2 4 f_darts (4 ∷ 4 ∷ 2 ∷ 2 ∷ 2 ∷ 0 ∷ [])
    ∷ counted 2 4 sewn (4 ∷ 2 ∷ 1 ∷ 2 ∷ 1 ∷ 0 ∷ [])
    ∷ counted 3 5 two_sided (4 ∷ 2 ∷ 1 ∷ 1 ∷ 1 ∷ 2 ∷ [])
    ∷ []

-- each row is a well-formed map
pub count_maps : map (λ r. well_formed r.n (view r.slots r.table)) rows ≡ map (λ r. true) rows
unfolding rows computes
count_maps = refl

-- and has the wanted counts
pub count-samples : map (λ r. counts r.n (view r.slots r.table)) rows ≡ map (λ r. r.wanted) rows
unfolding rows computes
count-samples = refl

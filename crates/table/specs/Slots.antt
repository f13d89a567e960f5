-- What the table check tests at a slot. All slots pass just if the map is `well_formed` (proofs/SlotLaws.antt). The test of a slot looks only at its
-- own record and those of its neighbours.
use Rattle.std.specs.Prelude.{ℕ, suc, Bool, eqb, ltb, Option}
use Rattle.base.specs.Test.{◌and◌, ◌or◌, ◌⇒◌}
use Rattle.base.specs.Below.{all_below, count_below}
use Rattle.base.specs.First.{some_if}
use Rattle.model.specs.Map.{Map, live, unused}
use Rattle.model.specs.WellFormed.{link_ok, all_pairs, well_formed}

-- αi then αj, and αj then αi, lead from x to one dart
abbrev pub corner_ok : Map → ℕ → ℕ → ℕ → Bool
corner_ok m x i j = eqb (m.link j (m.link i x)) (m.link i (m.link j x))

-- y is live, and its 0-link is v
abbrev pub front_ok : Map → ℕ → ℕ → Bool
front_ok m y v = live m y and eqb (m.link 0 y) v

-- the links 0, 1 and 2 of x lead to slots
abbrev pub inside_ok : Map → ℕ → Bool
inside_ok m x = all_below 3 (λ i. ltb (m.link i x) m.slots)

-- the 0-link and the 1-link of x are right
abbrev pub near_ok : Map → ℕ → Bool
near_ok m x = link_ok m x 0 and link_ok m x 1

-- the i-link of x is right, and commutes with the 0-link
abbrev pub far_ok : Map → ℕ → ℕ → Bool
far_ok m x i = link_ok m x i and corner_ok m x 0 i

unfoldable pub corners_ok : ℕ → Map → ℕ → Bool
corners_ok n m x = all_below (suc n) (link_ok m x) and (eqb n 2 ⇒ eqb (m.link 3 x) x) and all_pairs n (corner_ok m x)

unfoldable pub slot_ok : ℕ → Map → ℕ → Bool
slot_ok n m x = (unused m x or live m x) and (live m x ⇒ corners_ok n m x)

-- what the survey of a map finds: how many darts are live, if the map is well-formed
unfoldable pub surveyed : ℕ → Map → Option ℕ
surveyed n m = some_if (well_formed n m) (count_below m.slots (live m))

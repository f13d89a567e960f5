-- 'The dart table': when a table is well-formed for n. Tags have no constraint, and a table without live darts is well-formed.
use Rattle.std.specs.Prelude.{ℕ, suc, ◌+◌, ◌≤◌, ◌<◌, ◌≡◌, ◌⊎◌, Bool, eqb, ltb, leb}
use Rattle.base.specs.Test.{◌and◌, ◌or◌, ◌⇒◌}
use Rattle.base.specs.Below.{all_below}
use Rattle.model.specs.Map.{Map, live, unused}

pub record WellFormed (n : ℕ) (m : Map) : Type 0 where
  -- "every state is 0 or 1"
  pub states : (x : ℕ) → x < m.slots → (m.state x ≡ 0) ⊎ (m.state x ≡ 1)
  -- "for each live x and i from 0 to n, αi(x) is below N, live, and αi(αi(x)) = x"
  pub below : (x : ℕ) → x < m.slots → m.state x ≡ 1 → (i : ℕ) → i ≤ n → m.link i x < m.slots
  pub alive : (x : ℕ) → x < m.slots → m.state x ≡ 1 → (i : ℕ) → i ≤ n → m.state (m.link i x) ≡ 1
  pub back : (x : ℕ) → x < m.slots → m.state x ≡ 1 → (i : ℕ) → i ≤ n → m.link i (m.link i x) ≡ x
  -- "with n = 2, α3(x) = x"
  pub flat : n ≡ 2 → (x : ℕ) → x < m.slots → m.state x ≡ 1 → m.link 3 x ≡ x
  -- "for each i, j with i + 2 ≤ j ≤ n: from x, following αi, αj, αi, αj ends at x"
  pub square : (x : ℕ) → x < m.slots → m.state x ≡ 1 → (i j : ℕ) → i + 2 ≤ j → j ≤ n
      → m.link j (m.link i (m.link j (m.link i x))) ≡ x

-- ---- the same as a test

-- p i j for each i, j with i + 2 ≤ j ≤ n
unfoldable pub all_pairs : ℕ → (ℕ → ℕ → Bool) → Bool
all_pairs n p = all_below (suc n) (λ i. all_below (suc n) (λ j. leb (i + 2) j ⇒ p i j))

-- αi(x) is below N, live, and αi(αi(x)) = x
unfoldable pub link_ok : Map → ℕ → ℕ → Bool
link_ok m x i = ltb (m.link i x) m.slots and live m (m.link i x) and eqb (m.link i (m.link i x)) x

-- from x, following αi, αj, αi, αj ends at x
unfoldable pub square_ok : Map → ℕ → ℕ → ℕ → Bool
square_ok m x i j = eqb (m.link j (m.link i (m.link j (m.link i x)))) x

-- all that is asked of a live dart x
unfoldable pub dart_ok : ℕ → Map → ℕ → Bool
dart_ok n m x = all_below (suc n) (link_ok m x) and (eqb n 2 ⇒ eqb (m.link 3 x) x) and all_pairs n (square_ok m x)

-- true just where the map is `WellFormed`: `well_formed_iff` of proofs/WellFormedLaws.antt
unfoldable pub well_formed : ℕ → Map → Bool
well_formed n m = all_below m.slots (λ x. (unused m x or live m x) and (live m x ⇒ dart_ok n m x))

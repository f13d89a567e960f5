-- When two maps are alike: the same live slots, and equal live records. What their unused records hold is not asked.
use Rattle.std.specs.Prelude.{ℕ, ◌≤◌, ◌<◌, ◌≡◌, ◌↔◌}
use Rattle.model.specs.Map.{Map}

pub record Alike (m m' : Map) : Type 0 where
  pub slots : m.slots ≡ m'.slots
  pub live : (x : ℕ) → x < m.slots → (m.state x ≡ 1) ↔ (m'.state x ≡ 1)
  pub link : (x : ℕ) → x < m.slots → m.state x ≡ 1 → (i : ℕ) → i ≤ 3 → m.link i x ≡ m'.link i x
  pub tag : (x : ℕ) → x < m.slots → m.state x ≡ 1 → m.tag x ≡ m'.tag x

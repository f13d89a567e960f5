-- The laws of `count`: a list of dimensions counts the cells of just these, and the six numbers are those of the definition.
use Prim.Native.Nat.{ℕ, ◌+◌, ◌<◌}
use mathlib.Core.Path.{◌≡◌, refl, ap, ◌∙◌}
use mathlib.Core.Bool.{cond}
use mathlib.Core.List.{List, [], ◌∷◌}
use native.Mathlib.Omega.{arith}
use lib.ListN.{length, get_or}
use lib.Dec.{eqb}
use borrow.Author.Tests.{eq-eqb, ne_eqb}
use Rattle.base.specs.Below.{count_below}
use Rattle.base.specs.Lists.{list}
use Rattle.base.proofs.ListLaws.{get_or-list, length-list}
use Rattle.model.specs.Map.{Map, live}
use Rattle.model.specs.Count.{cells, all_but, all, counts}
use Rattle.model.proofs.CountLaws.{cells-by}

-- the orbits of the first k dimensions of an orbit type, where these are listed
pub listed_cells : (m : Map) (k : ℕ) (dim : ℕ → ℕ) {n : ℕ} → k ≡ n → {l : List ℕ} → l ≡ list k dim → {c : ℕ} → c ≡ cells m (length l) (λ p. get_or l p 0)
    → c ≡ cells m n dim
listed_cells m k dim e {l} is q =
    let long : length l ≡ k = ap length is ∙ length-list k dim in
    let at : (p : ℕ) → p < k → get_or l p 0 ≡ dim p = λ p h. ap (λ (s : List ℕ). get_or s p 0) is ∙ get_or-list k p dim 0 h in
    q ∙ ap (λ (j : ℕ). cells m j (λ p. get_or l p 0)) long ∙ cells-by m k (λ p. get_or l p 0) dim at ∙ ap (λ (j : ℕ). cells m j dim) e

module _ (m : Map) (n : ℕ) {d a b c e o : ℕ} where
  pub counts_are : d ≡ count_below m.slots (live m) → a ≡ cells m n (all_but 0) → b ≡ cells m n (all_but 1) → c ≡ cells m n (all_but 2)
      → e ≡ cells m (n + 1) all → o ≡ cond (eqb n 3) (cells m n (all_but 3)) 0 → (d ∷ a ∷ b ∷ c ∷ e ∷ o ∷ []) ≡ counts n m
  unfolding counts
  counts_are darts vertices edges faces pieces volumes i =
      darts i ∷ vertices i ∷ edges i ∷ faces i ∷ pieces i ∷ volumes i ∷ []

-- ---- the volumes

module _ (n c : ℕ) where
  pub volumes-none : n ≡ 2 → 0 ≡ cond (eqb n 3) c 0
  volumes-none e = rw (ne_eqb n 3 (λ q. absurd (omega arith))) refl

  pub volumes-some : n ≡ 3 → {r : ℕ} → r ≡ c → r ≡ cond (eqb n 3) c 0
  volumes-some e q = q ∙ rw (eq-eqb n 3 e) refl

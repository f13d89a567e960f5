-- The laws of `links`, save `rewrite`: what its loops read and write in a turn.
use Prim.Native.Nat.{ℕ, ◌+◌, ◌*◌, ◌-◌, ◌≤◌, ◌<◌}
use mathlib.Core.Path.{◌≡◌, refl, sym, ap, ap₂, ◌∙◌}
use mathlib.Core.Logic.{⊎_elim}
use mathlib.Core.List.{List}
use native.Mathlib.Omega.{arith}
use lib.ListN.{length, get_or, set}
use lib.Seq.{get_or-set_same, get_or-set_other}
use lib.Dec.{ltb}
use borrow.Author.Count.{below_more}
use borrow.Author.Tests.{lt-ltb, le-ltb, ltb-false, eq-eqb, ne_eqb}
use Rattle.base.proofs.TestLaws.{true_or_false}
use Rattle.model.specs.Map.{Map, Link}
use Rattle.table.specs.Writes.{set_at, with_field}
use Rattle.table.proofs.WriteLaws.{links-own}
use Rattle.orbit.specs.Store.{next, dart_at}
use Rattle.rewriting.specs.Darts.{HoldsSlots}
use Rattle.rewriting.specs.Links.{place_by, overwritten, followed, changed, Turnable}

-- a link put by other names of its slot and its value
pub put-at : (m m' : Map) (i v w x y : ℕ) → m' ≡ with_field m (Link i) (set_at (m.link i) x v) → x ≡ y → v ≡ w
    → m' ≡ with_field m (Link i) (set_at (m.link i) y w)
put-at m m' i v w x y e p q = e ∙ ap₂ (λ (z u : ℕ). with_field m (Link i) (set_at (m.link i) z u)) p q

pub followed-at : (N : ℕ) (store : List ℕ) (size : ℕ) (rows : List ℕ) (i base x y : ℕ) (m m' : Map)
    → m' ≡ with_field m (Link i) (followed N store size rows base x (m.link i)) → x ≡ y
    → m' ≡ with_field m (Link i) (followed N store size rows base y (m.link i))
followed-at N store size rows i base x y m m' e p = e ∙ ap (λ (z : ℕ). with_field m (Link i) (followed N store size rows base z (m.link i))) p

-- ---- what is read from the store

pub slot_at : {N base size : ℕ} {store : List ℕ} (s : HoldsSlots N store base size) (r x : ℕ) → r < size → x ≡ get_or store (base + r) 0 → x < N
unfolding dart_at
slot_at s r x h e = rw e (s.slot r h)

module _ (N : ℕ) (store : List ℕ) (code r : ℕ) where
  pub place_same : code < 16 → r ≡ place_by N store code r
  unfolding place_by
  place_same h = rw (lt-ltb code 16 h) refl

  pub place-by : (q : ℕ) → 16 ≤ code → q ≡ get_or store (4 * N + 4 * r + (code - 16)) 0 → q ≡ place_by N store code r
  unfolding place_by next
  place-by q h e = rw (le-ltb code 16 h) e

  pub place-below : (size : ℕ) → (16 ≤ code → Turnable N store size (code - 16)) → r < size → place_by N store code r < size
  unfolding place_by
  place-below size t h = ⊎_elim (λ e. rw e h) (λ e. rw e ((t (ltb-false code 16 e)).place r h)) (true_or_false (ltb code 16))

-- ---- an arc by its code

module _ (N : ℕ) (store : List ℕ) (size : ℕ) (rows : List ℕ) (base code : ℕ) where
  module _ (l : ℕ → ℕ) where
    pub by-node : code < 16 → followed N store size rows base code l ≡ overwritten (dart_at store base) (dart_at store (get_or rows code 0)) size l
    unfolding followed
    by-node h = rw (lt-ltb code 16 h) refl

    pub by-position : 16 ≤ code → code < 255
        → followed N store size rows base code l ≡ overwritten (dart_at store base) (λ r. dart_at store base (next N store r (code - 16))) size l
    unfolding followed
    by-position h k = rw (le-ltb code 16 h, lt-ltb code 255 k) refl

    pub by-none : 255 ≤ code → followed N store size rows base code l ≡ l
    unfolding followed
    by-none h = rw (le-ltb code 16 (omega arith), le-ltb code 255 h) refl

  -- the same of a map, as `join` writes it
  module _ (i : ℕ) (m m' : Map) where
    pub joined-node : code < 16
        → m' ≡ with_field m (Link i) (overwritten (dart_at store base) (λ r. dart_at store (get_or rows code 0) (place_by N store code r)) size (m.link i))
        → m' ≡ with_field m (Link i) (followed N store size rows base code (m.link i))
    unfolding place_by
    joined-node h e = e ∙ ap (with_field m (Link i)) (rw (lt-ltb code 16 h) (sym (by-node (m.link i) h)))

    pub joined-position : 16 ≤ code → code < 255
        → m' ≡ with_field m (Link i) (overwritten (dart_at store base) (λ r. dart_at store base (place_by N store code r)) size (m.link i))
        → m' ≡ with_field m (Link i) (followed N store size rows base code (m.link i))
    unfolding place_by
    joined-position h k e = e ∙ ap (with_field m (Link i)) (rw (le-ltb code 16 h) (sym (by-position (m.link i) h k)))

    pub joined-none : 255 ≤ code → m' ≡ m → m' ≡ with_field m (Link i) (followed N store size rows base code (m.link i))
    joined-none h e = e ∙ sym (links-own m i) ∙ ap (with_field m (Link i)) (sym (by-none (m.link i) h))

-- ---- what is left of the codes

module _ (before after : ℕ) where
  pub changed-same : before ≡ after → changed before after ≡ 255
  unfolding changed
  changed-same e = rw (eq-eqb before after e) refl

  pub changed-other : (before ≡ after → ⊥) → changed before after ≡ after
  unfolding changed
  changed-other ne = rw (ne_eqb before after ne) refl

-- one code more
pub changes_more : (lefts rights codes : List ℕ) (k v : ℕ) → k < length codes → v ≡ changed (get_or lefts k 0) (get_or rights k 0)
    → ((j : ℕ) → j < k → get_or codes j 0 ≡ changed (get_or lefts j 0) (get_or rights j 0))
    → (j : ℕ) → j < k + 1 → get_or (set codes k v) j 0 ≡ changed (get_or lefts j 0) (get_or rights j 0)
changes_more lefts rights codes k v h e old = below_more _ k
    (λ j l. get_or-set_other codes k j v 0 (λ q. absurd (omega arith)) ∙ old j l)
    (get_or-set_same codes k v 0 h ∙ e)

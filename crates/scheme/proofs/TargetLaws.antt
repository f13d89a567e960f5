-- One aim at the targets: the first arc of a node at a dimension gives the entry, and later arcs leave it as it is.
use Prim.Native.Nat.{ℕ, ◌+◌, ◌*◌, ◌/◌, ◌%◌, ◌≤◌, ◌<◌}
use mathlib.Core.Path.{◌≡◌, refl, sym, ap, ap₂, ◌∙◌}
use mathlib.Core.Logic.{by_cases}
use mathlib.Core.Bool.{Bool, true, false}
use Rattle.std.specs.Prelude.{unwrap_or, Option, Some, None}
use mathlib.Core.List.{List}
use native.Mathlib.Decide.{ℕ_discrete}
use native.Mathlib.Omega.{arith}
use lib.ListN.{length, get_or, set, length-set}
use lib.Seq.{ext_get_or, get_or-set_same, get_or-set_other}
use lib.Dec.{eqb}
use borrow.Author.Tests.{eq-eqb, eqb-true, le-leb, lt-leb}
use Rattle.base.specs.Test.{◌and◌}
use Rattle.base.specs.First.{some_if, ◌or_else◌}
use Rattle.base.specs.Lists.{list}
use Rattle.base.proofs.TestLaws.{and_left, and_right, and_of, impossible}
use Rattle.base.proofs.FirstLaws.{or_else_last}
use Rattle.base.proofs.ListLaws.{get_or-list, length-list}
use Rattle.base.proofs.FilledLaws.{list_same}
use Rattle.scheme.specs.Targets.{aimed}

-- ---- one aim

-- an entry without an explicit arc takes it
pub aim_taken : (l : List ℕ) (at to : ℕ) → 16 ≤ get_or l at 0 → set l at to ≡ aimed l at to
unfolding aimed
aim_taken l at to h = rw (le-leb 16 (get_or l at 0) h) refl

-- an entry with one keeps it
pub aim_left : (l : List ℕ) (at to : ℕ) → get_or l at 0 < 16 → l ≡ aimed l at to
unfolding aimed
aim_left l at to h = rw (lt-leb 16 (get_or l at 0) h) refl

-- ---- one entry of a table

-- an arc of dimension d at node s hits the entry of node u and dimension i
abbrev pub hits : ℕ → ℕ → ℕ → ℕ → Bool
hits d s u i = eqb d i and eqb s u

-- the entry of node s and dimension d is hit
pub hits-here : (d s k : ℕ) → d < 4 → k ≡ 4 * s + d → hits d s (k / 4) (k % 4) ≡ true
hits-here d s k h e = and_of (eq-eqb d (k % 4) (omega arith)) (eq-eqb s (k / 4) (omega arith))

-- no other entry is hit
pub hits_else : (d s k : ℕ) → (k ≡ 4 * s + d → ⊥) → hits d s (k / 4) (k % 4) ≡ false
hits_else d s k ne = impossible _ (λ t.
    let e : d ≡ k % 4 = eqb-true _ _ (and_left _ _ t) in
    let f : s ≡ k / 4 = eqb-true _ _ (and_right _ _ t) in
    ne (omega arith))

-- the end that one more arc gives: the first one stays
abbrev pub more : (ℕ → ℕ → Option ℕ) → ℕ → ℕ → ℕ → ℕ → ℕ → Option ℕ
more E d s to u i = E u i or_else some_if (hits d s u i) to

module _ (E : ℕ → ℕ → Option ℕ) (D : ℕ → ℕ) where
  -- the table of ends, filled with D
  abbrev pub ends_or : List ℕ
  ends_or = list 64 (λ k. unwrap_or (E (k / 4) (k % 4)) (D k))

  -- what the entry of node s and dimension d holds
  pub ends_at : {l : List ℕ} (d s : ℕ) → l ≡ ends_or → s < 16 → d < 4 → get_or l (4 * s + d) 0 ≡ unwrap_or (E s d) (D (4 * s + d))
  ends_at d s e hs hd =
      let same : (4 * s + d) / 4 ≡ s = omega arith in
      let dim : (4 * s + d) % 4 ≡ d = omega arith in
      ap (λ (m : List ℕ). get_or m (4 * s + d) 0) e ∙ get_or-list 64 (4 * s + d) _ 0 (omega arith)
      ∙ ap₂ (λ (u i : ℕ). unwrap_or (E u i) (D (4 * s + d))) same dim

  -- the end at an entry is that of its node and dimension
  same_end : (d s k : ℕ) → d < 4 → k ≡ 4 * s + d → E s d ≡ E (k / 4) (k % 4)
  same_end d s k h e =
      let same : s ≡ k / 4 = omega arith in
      let dim : d ≡ k % 4 = omega arith in
      ap₂ (λ (u i : ℕ). E u i) same dim

  -- if there was no end, the arc's end is set
  pub ends_set : {l : List ℕ} (d s to : ℕ) → l ≡ ends_or → s < 16 → d < 4 → E s d ≡ None
      → set l (4 * s + d) to ≡ list 64 (λ k. unwrap_or (more E d s to (k / 4) (k % 4)) (D k))
  unfolding some_if ◌or_else◌
  ends_set {l} d s to e hs hd empty =
      ext_get_or 0 _ _ (length-set l _ to ∙ long ∙ sym (length-list 64 _)) (λ k h.
      let h' : k < 64 = omega (arith, length-set l (4 * s + d) to, long) in
      by_cases (ℕ_discrete k (4 * s + d)) (here k h') (kept k h'))
    where
      long : length l ≡ 64
      long = ap length e ∙ length-list 64 _

      here : (k : ℕ) → k < 64 → k ≡ 4 * s + d
          → get_or (set l (4 * s + d) to) k 0 ≡ get_or (list 64 (λ k. unwrap_or (more E d s to (k / 4) (k % 4)) (D k))) k 0
      here k h q =
          let none' : E (k / 4) (k % 4) ≡ None = sym (same_end d s k hd q) ∙ empty in
          ap (λ (j : ℕ). get_or (set l (4 * s + d) to) j 0) q ∙ get_or-set_same l (4 * s + d) to 0 (omega (arith, long))
          ∙ sym (get_or-list 64 k _ 0 h ∙ ap₂ (λ (o : Option ℕ) (t : Bool). unwrap_or (o or_else some_if t to) (D k)) none' (hits-here d s k hd q))

      kept : (k : ℕ) → k < 64 → (k ≡ 4 * s + d → ⊥)
          → get_or (set l (4 * s + d) to) k 0 ≡ get_or (list 64 (λ k. unwrap_or (more E d s to (k / 4) (k % 4)) (D k))) k 0
      kept k h ne = get_or-set_other l (4 * s + d) k to 0 ne ∙ ap (λ (m : List ℕ). get_or m k 0) e ∙ get_or-list 64 k _ 0 h
          ∙ sym (get_or-list 64 k _ 0 h ∙ ap (λ (t : Bool). unwrap_or (E (k / 4) (k % 4) or_else some_if t to) (D k)) (hits_else d s k ne)
          ∙ ap (λ (o : Option ℕ). unwrap_or o (D k)) (or_else_last (E (k / 4) (k % 4))))

  -- if there was an end, nothing changes
  pub ends-kept : {l : List ℕ} (d s to x : ℕ) → l ≡ ends_or → d < 4 → E s d ≡ Some x
      → l ≡ list 64 (λ k. unwrap_or (more E d s to (k / 4) (k % 4)) (D k))
  unfolding some_if ◌or_else◌
  ends-kept d s to x e hd is = e ∙ list_same 64 _ _ (λ k h. by_cases (ℕ_discrete k (4 * s + d))
      (λ q.
      let there : E (k / 4) (k % 4) ≡ Some x = sym (same_end d s k hd q) ∙ is in
      ap (λ (o : Option ℕ). unwrap_or o (D k)) there
      ∙ sym (ap (λ (o : Option ℕ). unwrap_or (o or_else some_if (hits d s (k / 4) (k % 4)) to) (D k)) there))
      (λ ne.
      sym (ap (λ (t : Bool). unwrap_or (E (k / 4) (k % 4) or_else some_if t to) (D k)) (hits_else d s k ne)
      ∙ ap (λ (o : Option ℕ). unwrap_or o (D k)) (or_else_last (E (k / 4) (k % 4))))))

-- The targets of a side, and its nodes with two arcs of one dimension, as its arcs are read.
use Prim.Native.Nat.{ℕ, ◌+◌, ◌*◌, ◌/◌, ◌%◌, ◌≤◌, ◌<◌}
use mathlib.Core.Path.{◌≡◌, refl, sym, ap, ap₂, ◌∙◌}
use mathlib.Core.Logic.{by_cases, ⊎_elim}
use mathlib.Core.Bool.{Bool, true, false, true≢false, cond}
use Rattle.std.specs.Prelude.{unwrap_or, Option, Some, None}
use mathlib.Core.List.{List}
use native.Mathlib.Decide.{ℕ_discrete}
use native.Mathlib.Omega.{arith}
use lib.ListN.{length, get_or, set, replicate, length-set}
use lib.Seq.{ext_get_or, get_or-set_same, get_or-set_other}
use lib.Dec.{eqb, ltb, leb}
use borrow.Author.Tests.{eq-eqb, ne_eqb, eqb-true, lt-ltb, le-ltb, le-leb}
use Rattle.base.specs.Test.{◌and◌, ◌or◌, bit}
use Rattle.base.specs.Below.{any_below, count_below}
use Rattle.base.specs.First.{first, least, some_if, ◌or_else◌}
use Rattle.base.specs.Lists.{list}
use Rattle.base.proofs.TestLaws.{and_left, and_right, and_of, and_no_right, impossible}
use Rattle.base.proofs.BelowLaws.{any_at, any_of, count-step, any_same}
use Rattle.base.proofs.FirstLaws.{some_not_none, or_else_cases, or_else_none, when-at, when-none, first_step, least_at}
use Rattle.base.proofs.ListLaws.{get_or-list, length-list}
use Rattle.base.proofs.FilledLaws.{list_same, list_all}
use Rattle.model.specs.Bytes.{places_of, nodes_of, word_at}
use Rattle.model.specs.Arc.{touching, far_end}
use Rattle.model.specs.Codes.{place_code, placed, placed_at}
use Rattle.model.specs.Scheme.{Side}
use Rattle.scheme.specs.Targets.{aimed, crowded, ArcLinked, loop, ends}
use Rattle.scheme.proofs.TargetLaws.{aim_taken, aim_left, hits, more, ends_at, ends_set, ends-kept}

-- ---- one aim

-- an arc is there: the node now has two
pub crowded-taken : (targets : List ℕ) (twice : List Bool) (s at : ℕ) → (get_or targets at 0 ≡ 255 → ⊥) → set twice s true ≡ crowded targets twice s at
unfolding crowded
crowded-taken targets twice s at e = rw (ne_eqb _ _ e) refl

-- no arc is there: this one gives no node two
pub crowded-free : (targets : List ℕ) (twice : List Bool) (s at : ℕ) → get_or targets at 0 ≡ 255 → twice ≡ crowded targets twice s at
unfolding crowded
crowded-free targets twice s at e = rw (eq-eqb _ _ e) refl

-- after one aim
abbrev pub Aimed : ℕ → ℕ → ℕ → List ℕ → List Bool → List ℕ → List Bool → Type 0
Aimed s d to targets twice targets' twice' = (targets' ≡ aimed targets (4 * s + d) to) × (twice' ≡ crowded targets twice s (4 * s + d))

-- a loop is one aim
pub loop-is : {d s t i x : ℕ} {targets targets' : List ℕ} {twice twice' : List Bool} → i ≡ d → x ≡ s → s ≡ t
    → Aimed x i t targets twice targets' twice' → ArcLinked d s t targets twice targets' twice'
loop-is {t = t} {targets = targets} {twice = twice} e f g (p, r) = loop g
    (p ∙ ap₂ (λ (y j : ℕ). aimed targets (4 * y + j) t) f e)
    (r ∙ ap₂ (λ (y j : ℕ). crowded targets twice y (4 * y + j)) f e)

-- another arc is two aims
pub ends_are : {d s t i x y : ℕ} {targets targets₁ targets' : List ℕ} {twice twice₁ twice' : List Bool} → i ≡ d → x ≡ s → y ≡ t
    → (s ≡ t → ⊥) → Aimed x i t targets twice targets₁ twice₁ → Aimed y i s targets₁ twice₁ targets' twice'
    → ArcLinked d s t targets twice targets' twice'
ends_are e f g ne (p, r) (u, w) = ends ne (u ∙ rw (p, e, f, g) refl) (w ∙ rw (p, r, e, f, g) refl)

-- ---- flags

-- one flag is set, and the others stay
flags_set : (n : ℕ) (f g : ℕ → Bool) {l : List Bool} (s : ℕ) → l ≡ list n f → s < n → g s ≡ true → ((k : ℕ) → (k ≡ s → ⊥) → f k ≡ g k)
    → set l s true ≡ list n g
flags_set n f g {l} s e hs gs others =
    let long : length l ≡ n = ap length e ∙ length-list n f in
    ext_get_or false _ _ (length-set l s true ∙ long ∙ sym (length-list n g)) (λ k h.
    let h' : k < n = omega (arith, length-set l s true) in
    by_cases (ℕ_discrete k s)
    (λ q. ap (λ (j : ℕ). get_or (set l s true) j false) q ∙ get_or-set_same l s true false (omega arith) ∙ sym (get_or-list n k g false h' ∙ ap g q ∙ gs))
    (λ ne. get_or-set_other l s k true false ne ∙ ap (λ (m : List Bool). get_or m k false) e ∙ get_or-list n k f false h' ∙ others k ne
    ∙ sym (get_or-list n k g false h')))

-- ---- targets by ends and counts

module _ (place : ℕ → ℕ) where
  -- node u has two arcs of dimension i
  abbrev over : (ℕ → ℕ → ℕ) → ℕ → ℕ → Bool
  over N u i = leb 2 (N u i + bit (ltb (place (4 * u + i)) 255))

  -- the code of an implicit arc, or of none, is no node
  abbrev pub Places : Type 0
  Places = (k : ℕ) → (16 ≤ place k) × (place k ≤ 255)

  -- What the targets show. Node u has N u i explicit arcs of dimension i, and E u i is the far end of the first, if there is one.
  pub record Shown (E : ℕ → ℕ → Option ℕ) (N : ℕ → ℕ → ℕ) (targets : List ℕ) (twice : List Bool) : Type 0 where
    pub targets_are : targets ≡ list 64 (λ k. unwrap_or (E (k / 4) (k % 4)) (place k))
    pub twice_are : twice ≡ list 16 (λ u. any_below 4 (λ i. leb 2 (N u i + bit (ltb (place (4 * u + i)) 255))))
    pub small : (u i x : ℕ) → E u i ≡ Some x → x < 16
    pub empty : (u i : ℕ) → E u i ≡ None → N u i ≡ 0
    pub counted : (u i x : ℕ) → E u i ≡ Some x → 1 ≤ N u i

  -- ends and counts that agree are shown by the same targets
  shown-same : {E F : ℕ → ℕ → Option ℕ} {N M : ℕ → ℕ → ℕ} {targets : List ℕ} {twice : List Bool} → ((u i : ℕ) → E u i ≡ F u i)
      → ((u i : ℕ) → N u i ≡ M u i) → Shown E N targets twice → Shown F M targets twice
  shown-same e n w = record {
    targets_are = w.targets_are ∙ list_same 64 _ _ (λ k h. ap (λ (o : Option ℕ). unwrap_or o (place k)) (e (k / 4) (k % 4)));
    twice_are = w.twice_are ∙ list_same 16 _ _ (λ u h. any_same 4 _ _ (λ i l. ap (λ (m : ℕ). leb 2 (m + bit (ltb (place (4 * u + i)) 255))) (n u i)));
    small = λ u i x q. w.small u i x (e u i ∙ q);
    empty = λ u i q. sym (n u i) ∙ w.empty u i (e u i ∙ q);
    counted = λ u i x q. let l = w.counted u i x (e u i ∙ q) in omega (arith, n u i);
  }

  -- the counts with one more arc, of dimension d at node s
  abbrev plus : (ℕ → ℕ → ℕ) → ℕ → ℕ → ℕ → ℕ → ℕ
  plus N d s u i = N u i + bit (hits d s u i)

  module _ (E : ℕ → ℕ → Option ℕ) (N : ℕ → ℕ → ℕ) (d s to : ℕ) (hs : s < 16) (hd : d < 4) where
    -- at another node nothing changes
    else_where : (u : ℕ) → (u ≡ s → ⊥) → any_below 4 (over N u) ≡ any_below 4 (over (plus N d s) u)
    else_where u ne = any_same 4 _ _ (λ i h.
        let q : hits d s u i ≡ false = and_no_right _ (ne_eqb s u (λ w. ne (sym w))) in
        ap (λ (m : ℕ). leb 2 (m + bit (ltb (place (4 * u + i)) 255))) (sym (ap (λ (t : Bool). N u i + bit t) q ∙ omega arith)))

    -- one more arc makes two if there was one, explicit or implicit
    made : 1 ≤ N s d + bit (ltb (place (4 * s + d)) 255) → any_below 4 (over (plus N d s) s) ≡ true
    made h = any_of 4 _ d hd
        (ap (λ (t : Bool). leb 2 (N s d + bit t + bit (ltb (place (4 * s + d)) 255))) (and_of (eq-eqb d d refl) (eq-eqb s s refl))
        ∙ le-leb 2 (N s d + 1 + bit (ltb (place (4 * s + d)) 255)) (omega arith))

    -- one more arc does not make two if there was none
    alone : N s d ≡ 0 → ltb (place (4 * s + d)) 255 ≡ false → (u : ℕ) → any_below 4 (over N u) ≡ any_below 4 (over (plus N d s) u)
    alone n0 free u = any_same 4 _ _ (λ i h. go u i (hits d s u i) refl)
      where
        go : (u i : ℕ) (t : Bool) → hits d s u i ≡ t → over N u i ≡ over (plus N d s) u i
        go u i false q = ap (λ (m : ℕ). leb 2 (m + bit (ltb (place (4 * u + i)) 255))) (sym (ap (λ (t : Bool). N u i + bit t) q ∙ omega arith))
        go u i true q =
            let e : d ≡ i = eqb-true _ _ (and_left _ _ q) in
            let f : s ≡ u = eqb-true _ _ (and_right _ _ q) in
            let n : N u i ≡ 0 = ap₂ (λ (v j : ℕ). N v j) (sym f) (sym e) ∙ n0 in
            let p : ltb (place (4 * u + i)) 255 ≡ false = ap₂ (λ (v j : ℕ). ltb (place (4 * v + j)) 255) (sym f) (sym e) ∙ free in
            ap₂ (λ (m : ℕ) (t : Bool). leb 2 (m + bit t)) n p
            ∙ sym (ap₂ (λ (m : ℕ) (t : Bool). leb 2 (m + bit t)) (ap₂ (λ (m : ℕ) (t : Bool). m + bit t) n q) p)

    -- what stays true of ends and counts with one more arc, of dimension d from node s to `to`
    grown : {targets targets' : List ℕ} {twice twice' : List Bool} → to < 16 → Shown E N targets twice
        → targets' ≡ list 64 (λ k. unwrap_or (more E d s to (k / 4) (k % 4)) (place k))
        → twice' ≡ list 16 (λ u. any_below 4 (over (plus N d s) u)) → Shown (more E d s to) (plus N d s) targets' twice'
    grown ht w b c = record {
      targets_are = b;
      twice_are = c;
      small = λ u i x q. ⊎_elim
          (λ e. w.small u i x e)
          (λ e. let r = when-at (hits d s u i) e.1 in let same : to ≡ x = r.1 in omega arith)
          (or_else_cases (E u i) (some_if (hits d s u i) to) x q);
      empty = λ u i q.
          let r = or_else_none (E u i) (some_if (hits d s u i) to) q in
          ap₂ (λ (m : ℕ) (t : Bool). m + bit t) (w.empty u i r.0) (when-none (hits d s u i) to r.1);
      counted = λ u i x q. ⊎_elim
          (λ e. let l = w.counted u i x e in omega arith)
          (λ e. let r = when-at (hits d s u i) e.1 in let one : bit (hits d s u i) ≡ 1 = ap bit r.0 in omega arith)
          (or_else_cases (E u i) (some_if (hits d s u i) to) x q);
    }

    -- one more arc, of dimension d from node s to `to`
    pub shown-more : {targets : List ℕ} {twice : List Bool} → to < 16 → Places → Shown E N targets twice
        → Shown (more E d s to) (plus N d s) (aimed targets (4 * s + d) to) (crowded targets twice s (4 * s + d))
    shown-more {targets} {twice} ht fits w = go (E s d) refl
      where
        at_entry : (o : Option ℕ) → E s d ≡ o → get_or targets (4 * s + d) 0 ≡ unwrap_or o (place (4 * s + d))
        at_entry o q = ends_at E place d s w.targets_are hs hd ∙ ap (λ (p : Option ℕ). unwrap_or p (place (4 * s + d))) q

        flagged : E s d ≡ None → crowded targets twice s (4 * s + d) ≡ list 16 (λ u. any_below 4 (over (plus N d s) u))
        flagged q = by_cases (ℕ_discrete (place (4 * s + d)) 255)
            (λ e.
            sym (crowded-free targets twice s (4 * s + d) (at_entry None q ∙ e)) ∙ w.twice_are
            ∙ list_same 16 _ _ (λ u h. alone (w.empty s d q) (le-ltb (place (4 * s + d)) 255 (omega arith)) u))
            (λ ne.
            let less : place (4 * s + d) < 255 = omega (arith, (fits (4 * s + d)).1) in
            let one : bit (ltb (place (4 * s + d)) 255) ≡ 1 = ap bit (lt-ltb _ _ less) in
            sym (crowded-taken targets twice s (4 * s + d) (λ e. ne (sym (at_entry None q) ∙ e)))
            ∙ flags_set 16 _ _ s w.twice_are hs (made (omega arith)) else_where)

        go : (o : Option ℕ) → E s d ≡ o
            → Shown (more E d s to) (plus N d s) (aimed targets (4 * s + d) to) (crowded targets twice s (4 * s + d))
        go None q =
            let here : get_or targets (4 * s + d) 0 ≡ place (4 * s + d) = at_entry None q in
            grown ht w
            (sym (aim_taken targets (4 * s + d) to (omega (arith, (fits (4 * s + d)).0))) ∙ ends_set E place d s to w.targets_are hs hd q)
            (flagged q)
        go (Some x) q =
            let less : x < 16 = w.small s d x q in
            let here : get_or targets (4 * s + d) 0 ≡ x = at_entry (Some x) q in
            let some-there : 1 ≤ N s d = w.counted s d x q in
            grown ht w
            (sym (aim_left targets (4 * s + d) to (omega arith)) ∙ ends-kept E place d s to x w.targets_are hd q)
            (sym (crowded-taken targets twice s (4 * s + d) (λ e. omega arith)) ∙ flags_set 16 _ _ s w.twice_are hs (made (omega arith)) else_where)

  -- ---- one arc

  module _ (part : ℕ → ℕ → ℕ) where
    -- how many of the first a arcs have dimension i and touch u
    abbrev pub touches : ℕ → ℕ → ℕ → ℕ
    touches a u i = count_below a (touching part u i)

    -- without explicit arcs the targets are the implicit arcs, at most one for a node and a dimension
    pub shown-none : {targets : List ℕ} {twice : List Bool} → targets ≡ list 64 place → twice ≡ replicate 16 false
        → Shown (far_end part 0) (touches 0) targets twice
    unfolding far_end first count_below
    shown-none f g = record {
      targets_are = f ∙ list_same 64 _ _ (λ k h. refl);
      twice_are = g ∙ list_all 16 false _ (λ u h. impossible _ (λ t. let w = any_at 4 _ t in one (ltb (place (4 * u + w.0)) 255) w.2));
      small = λ u i x q. absurd (some_not_none q refl);
      empty = λ u i q. refl;
      counted = λ u i x q. absurd (some_not_none q refl);
    }
      where
        one : (t : Bool) → leb 2 (0 + bit t) ≡ true → ⊥
        one true q = true≢false (sym q)
        one false q = true≢false (sym q)

    module _ (a : ℕ) where
      -- the dimension of arc a, its smaller node and its larger
      abbrev d : ℕ
      d = part a 0

      abbrev s : ℕ
      s = part a 1

      abbrev t : ℕ
      t = part a 2

      -- Below, a node and a dimension are fixed. D says that the dimension is the arc's, X that the node is its smaller end, Y that it is its larger.

      -- the one aim of a loop gives its end
      end-loop : (D X Y : Bool) (o : Option ℕ) → X ≡ Y → o or_else some_if (D and X) t ≡ o or_else some_if (D and (X or Y)) (cond X t s)
      unfolding ◌and◌ ◌or◌ some_if ◌or_else◌
      end-loop D X Y (Some x) e = refl
      end-loop false X Y None e = refl
      end-loop true true Y None e = refl
      end-loop true false Y None e = rw (← e)

      -- the two aims of another arc give, at each end, the far end
      end-ends : (D X Y : Bool) (o : Option ℕ)
          → (o or_else some_if (D and X) t) or_else some_if (D and Y) s ≡ o or_else some_if (D and (X or Y)) (cond X t s)
      unfolding ◌and◌ ◌or◌ some_if ◌or_else◌
      end-ends D X Y (Some x) = refl
      end-ends false X Y None = refl
      end-ends true true Y None = refl
      end-ends true false true None = refl
      end-ends true false false None = refl

      -- a loop counts once
      count-loop : (D X Y : Bool) (n : ℕ) → X ≡ Y → n + bit (D and X) ≡ n + bit (D and (X or Y))
      unfolding ◌and◌ ◌or◌
      count-loop false X Y n e = refl
      count-loop true true Y n e = refl
      count-loop true false Y n e = rw (← e)

      -- another arc counts once at each end
      count-ends : (D X Y : Bool) (n : ℕ) → (X ≡ true → Y ≡ true → ⊥) → n + bit (D and X) + bit (D and Y) ≡ n + bit (D and (X or Y))
      unfolding ◌and◌ ◌or◌
      count-ends false X Y n e = omega arith
      count-ends true true true n e = absurd (e refl refl)
      count-ends true true false n e = omega arith
      count-ends true false Y n e = omega arith

      -- one more arc, which is arc a
      pub linked-more : {targets targets' : List ℕ} {twice twice' : List Bool} → d < 4 → s < 16 → t < 16 → Places
          → Shown (far_end part a) (touches a) targets twice → ArcLinked d s t targets twice targets' twice'
          → Shown (far_end part (a + 1)) (touches (a + 1)) targets' twice'
      unfolding far_end
      linked-more hd hs ht fits w (loop e p r) = rw (p, r) (shown-same
          (λ u i. end-loop (eqb d i) (eqb s u) (eqb t u) (far_end part a u i) (ap (λ (x : ℕ). eqb x u) e) ∙ sym (first_step a _))
          (λ u i. count-loop (eqb d i) (eqb s u) (eqb t u) (touches a u i) (ap (λ (x : ℕ). eqb x u) e) ∙ sym (count-step a (touching part u i)))
          (shown-more (far_end part a) (touches a) d s t hs hd ht fits w))
      linked-more hd hs ht fits w (ends ne p r) = rw (p, r) (shown-same
          (λ u i. end-ends (eqb d i) (eqb s u) (eqb t u) (far_end part a u i) ∙ sym (first_step a _))
          (λ u i. count-ends (eqb d i) (eqb s u) (eqb t u) (touches a u i) (λ x y. ne (eqb-true _ _ x ∙ sym (eqb-true _ _ y)))
          ∙ sym (count-step a (touching part u i)))
          (shown-more (more (far_end part a) d s t) (plus (touches a) d s) d t s ht hd hs fits (shown-more (far_end part a) (touches a) d s t hs hd ht fits w)))

-- ---- implicit arcs

pub places : (b : List ℕ) (side : Side) → places_of b ≤ 4 → Places (placed_at b side)
unfolding placed
places b side few k = go (ltb k (4 * nodes_of b)) (least (places_of b) _) refl
  where
    go : (t : Bool) (o : Option ℕ) → least (places_of b) (λ p. eqb (word_at b side (k / 4) p) (k % 4)) ≡ o
        → (16 ≤ cond t (place_code o) 255) × (cond t (place_code o) 255 ≤ 255)
    go false o e = (omega arith, omega arith)
    go true None e = (omega arith, omega arith)
    go true (Some p) e = let l = (least_at (places_of b) _ p e).0 in (omega arith, omega arith)

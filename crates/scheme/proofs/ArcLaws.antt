-- The arcs of a side as they are read: the test of an arc is its form, and what holds once the first a arcs are read.
use Prim.Native.Nat.{ℕ, ◌+◌, ◌*◌, ◌/◌, ◌≤◌, ◌<◌}
use mathlib.Core.Path.{◌≡◌, refl, sym, ap, ap₂, ◌∙◌}
use mathlib.Core.Logic.{⊎_elim}
use mathlib.Core.Bool.{Bool, true, false, true≢false, cond}
use mathlib.Core.List.{List}
use native.Mathlib.Omega.{arith}
use lib.ListN.{get_or, replicate}
use lib.Dec.{eqb, ltb, leb}
use borrow.Author.Tests.{eq-eqb, eqb-true, lt-ltb, ltb-true, ltb-false, le-leb, leb-true, leb-false}
use Rattle.base.specs.Test.{◌⇒◌}
use Rattle.base.specs.Below.{all_below}
use Rattle.base.specs.Filled.{stored}
use Rattle.base.specs.Lists.{list}
use Rattle.base.proofs.TestLaws.{and_left, and_right, and_of, or_cases, or_left, or_right, true_or_false, refuted, same_test}
use Rattle.base.proofs.BelowLaws.{all-at, all_of, all_none, all_more, all-ends}
use Rattle.base.proofs.FilledLaws.{filled_none, filled-all, stored-filled, same-ltb}
use Rattle.base.proofs.AscentLaws.{above, above_step, ascends, descends}
use Rattle.model.specs.Bytes.{on_side, byte, dimension_of, nodes_of, kind_at, arcs_at, arc_count, arc_byte}
use Rattle.model.specs.Arc.{far_end}
use Rattle.model.specs.Codes.{placed_at, targets_of}
use Rattle.model.specs.Scheme.{Side, before, arc_form, arcs_form, arcs_of}
use Rattle.frame.specs.Place.{ArcAt}
use Rattle.scheme.specs.Words.{barred}
use Rattle.scheme.specs.Arcs.{ArcsPlaced, ArcsRead, key_of, arc_test}
use Rattle.scheme.specs.Targets.{ArcLinked, twice_to}
use Rattle.frame.specs.declared.cursor.Arc.{Arc}
use Rattle.frame.specs.declared.cursor.Cursor.{Cursor}
use Rattle.frame.specs.declared.Layout.{Layout}
use Rattle.model.proofs.FormLaws.{arc-parts}
use Rattle.frame.proofs.FrameLaws.{dimension-small}
use Rattle.scheme.proofs.NodeLaws.{held-side}
use Rattle.scheme.proofs.LinkLaws.{Shown, touches, shown-none, linked-more, places}

-- ---- the order of arcs

-- the order of triples is that of their keys
before-key : (i s t j u v : ℕ) → s < 256 → t < 256 → u < 256 → v < 256 → before i s t j u v ≡ ltb (key_of i s t) (key_of j u v)
before-key i s t j u v hs ht hu hv = same_test _ _
    (λ q. ⊎_elim
    (λ e. let l : i < j = ltb-true _ _ e in lt-ltb (key_of i s t) (key_of j u v) (omega arith))
    (λ e.
    let same : i ≡ j = eqb-true _ _ (and_left _ _ e) in
    ⊎_elim
    (λ f. let l : s < u = ltb-true _ _ f in lt-ltb (key_of i s t) (key_of j u v) (omega arith))
    (λ f.
    let alike : s ≡ u = eqb-true _ _ (and_left _ _ f) in
    let l : t < v = ltb-true _ _ (and_right _ _ f) in
    lt-ltb (key_of i s t) (key_of j u v) (omega arith))
    (or_cases _ _ (and_right _ _ e)))
    (or_cases _ _ q))
    (λ q.
    let less : key_of i s t < key_of j u v = ltb-true _ _ q in
    ⊎_elim
    (λ e. or_left _ e)
    (λ e.
    let ge : j ≤ i = ltb-false _ _ e in
    let same : i ≡ j = omega arith in
    or_right _ (and_of (eq-eqb _ _ same) (⊎_elim
    (λ f. or_left _ f)
    (λ f.
    let gf : u ≤ s = ltb-false _ _ f in
    let alike : s ≡ u = omega arith in
    or_right _ (and_of (eq-eqb _ _ alike) (lt-ltb t v (omega arith))))
    (true_or_false (ltb s u)))))
    (true_or_false (ltb i j)))

-- ---- what holds once some arcs are read

module _ (b : List ℕ) (side : Side) where
  abbrev key_at : ℕ → ℕ
  key_at a = key_of (arc_byte b side a 0) (arc_byte b side a 1) (arc_byte b side a 2)

  -- what holds once the first a arcs are read, up to the place `at`; `low` is the least key that may come next
  pub record Joined (a at low : ℕ) (targets : List ℕ) (twice : List Bool) : Type 0 where
    pub formed : all_below a (arc_form b side) ≡ true
    pub place_is : at ≡ arcs_at b side + 1 + 3 * a
    pub next : low ≡ above key_at a
    pub held : Shown (placed_at b side) (far_end (arc_byte b side) a)
        (touches (placed_at b side) (arc_byte b side) a) targets twice

-- ---- one arc

module _ (b : List ℕ) (l : Layout) (kinds : List ℕ) (side : Side) (from : ℕ) (placed : ArcsPlaced b l kinds side from) where
  abbrev part : ℕ → ℕ → ℕ
  part a f = arc_byte b side a f

  abbrev key : ℕ → ℕ
  key a = key_at b side a

  -- what the form of an arc says of its ends
  pub record Ends (a : ℕ) : Type 0 where
    pub dim : part a 0 ≤ dimension_of b
    pub order : part a 1 ≤ part a 2
    pub node : part a 2 < nodes_of b
    pub small : part a 2 < 16

  ends : (a : ℕ) → arc_form b side a ≡ true → Ends a
  ends a q =
      let f = arc-parts b side a q in
      let h = placed.laid.headed in
      record { dim = f.dim; order = f.order; node = f.node; small = omega arith }

  joined : (s : ℕ) → s < nodes_of b → on_side side (kind_at b s) ≡ (eqb (get_or kinds s 0) (barred side) ⇒ false)
  joined s h = let hd = placed.laid.headed in held-side b (omega arith) placed.kinds_are placed.nodes side s h

  -- among arcs that are in the form, each before the next, the order is that of the keys
  key-order : (a : ℕ) → ((o : ℕ) → o < a → arc_form b side o ≡ true) → Ends a → (o : ℕ) → o < a
      → before (part o 0) (part o 1) (part o 2) (part a 0) (part a 1) (part a 2) ≡ ltb (key o) (key a)
  key-order a f e o h =
      let g = ends o (f o h) in
      before-key (part o 0) (part o 1) (part o 2) (part a 0) (part a 1) (part a 2) (omega arith) (omega arith) (omega arith) (omega arith)

  key-all : (a : ℕ) → ((o : ℕ) → o < a → arc_form b side o ≡ true) → Ends a
      → all_below a (λ o. before (part o 0) (part o 1) (part o 2) (part a 0) (part a 1) (part a 2)) ≡ all_below a (λ o. ltb (key o) (key a))
  key-all a f e = same_test _ _
      (λ q. all_of a _ (λ o h. sym (key-order a f e o h) ∙ all-at a _ q o h))
      (λ q. all_of a _ (λ o h. key-order a f e o h ∙ all-at a _ q o h))

  keys_up : (a : ℕ) → ((o : ℕ) → o < a → arc_form b side o ≡ true) → (p : ℕ) → p < a → all_below p (λ o. ltb (key o) (key p)) ≡ true
  unfolding arc_form
  keys_up a f p h = sym (key-all p (λ o g. f o (omega arith)) (ends p (f p h))) ∙ and_right _ _ (f p h)

  -- the test of an arc, after arcs that are in the form, is its form
  pub arc-same : (a low n nodes : ℕ) → all_below a (arc_form b side) ≡ true → low ≡ above key a → n ≡ dimension_of b → nodes ≡ nodes_of b
      → arc_test n nodes kinds side low (part a 0) (part a 1) (part a 2) ≡ arc_form b side a
  unfolding arc_test arc_form
  arc-same a low n nodes up low_is n_is nodes_is = same_test _ _
      (λ q.
      let q₁ = and_left _ _ q in
      let q₂ = and_left _ _ q₁ in
      let q₃ = and_left _ _ q₂ in
      let dim : part a 0 ≤ n = leb-true _ _ (and_left _ _ (and_left _ _ q₃)) in
      let order : part a 1 ≤ part a 2 = leb-true _ _ (and_right _ _ (and_left _ _ q₃)) in
      let node : part a 2 < nodes = ltb-true _ _ (and_right _ _ q₃) in
      let next : low ≤ key a = leb-true _ _ (and_right _ _ q) in
      let h = placed.laid.headed in
      let e : Ends a = record { dim = omega arith; order = order; node = omega arith; small = omega arith } in
      and_of (and_of (and_of (and_of (and_of (le-leb _ _ e.dim) (le-leb _ _ order)) (lt-ltb _ _ e.node))
      (joined _ (omega arith) ∙ and_right _ _ q₂)) (joined _ e.node ∙ and_right _ _ q₁))
      (key-all a f e ∙ ascends key a (keys_up a f) (omega arith)))
      (λ q.
      let e = ends a q in
      let q₁ = and_left _ _ q in
      let q₂ = and_left _ _ q₁ in
      and_of (and_of (and_of (and_of (and_of (le-leb (part a 0) n (omega arith)) (le-leb _ _ e.order)) (lt-ltb (part a 2) nodes (omega arith)))
      (sym (joined _ (omega arith)) ∙ and_right _ _ q₂)) (sym (joined _ e.node) ∙ and_right _ _ q₁))
      (⊎_elim (λ t. t) (λ t.
      let less : key a < low = leb-false _ _ t in
      absurd (true≢false (sym (sym (key-all a f e) ∙ and_right _ _ q) ∙ descends key a (omega arith)))) (true_or_false (leb low (key a)))))
    where
      f : (o : ℕ) → o < a → arc_form b side o ≡ true
      f o h = all-at a _ up o h

  -- the bytes of arc a
  pub record Read (a d s t : ℕ) : Type 0 where
    pub d_is : d ≡ part a 0
    pub s_is : s ≡ part a 1
    pub t_is : t ≡ part a 2

  -- the arc that is read after the first a
  pub reads : {a at low : ℕ} {targets : List ℕ} {twice : List Bool} {r : Arc × Cursor} → Joined b side a at low targets twice → ArcAt b at r
      → Read a r.0.dim r.0.near r.0.far
  reads {a} j e = record {
    d_is = e.dim_is ∙ ap (byte b) (omega (arith, j.place_is));
    s_is = e.near_is ∙ ap (λ (x : ℕ). byte b (x + 1)) j.place_is;
    t_is = e.far_is ∙ ap (λ (x : ℕ). byte b (x + 2)) j.place_is;
  }

  pub read_small : (a d s t : ℕ) → Read a d s t → arc_form b side a ≡ true → (d < 4) × (s < 16) × (t < 16)
  read_small a d s t r q =
      let e = ends a q in
      let n3 = dimension-small b l placed.laid in
      (omega arith, omega arith, omega arith)

  -- ---- the first a arcs

  -- before the first arc
  pub joined-none : {at : ℕ} {targets : List ℕ} {twice : List Bool} → at ≡ from + 1 → targets ≡ list 64 (placed_at b side) → twice ≡ replicate 16 false
      → Joined b side 0 at 0 targets twice
  unfolding above
  joined-none p f g = record {
    formed = all_none _;
    place_is = omega (arith, placed.from_is);
    next = refl;
    held = shown-none (placed_at b side) part f g;
  }

  pub joined-form-at : {r : Bool} {a at low n nodes d s t : ℕ} {targets : List ℕ} {twice : List Bool} → Joined b side a at low targets twice
      → Read a d s t → n ≡ dimension_of b → nodes ≡ nodes_of b
      → r ≡ arc_test n nodes kinds side low d s t → r ≡ arc_form b side a
  joined-form-at {r} {a} {at} {low} {n} {nodes} j q n_is nodes_is e =
      e ∙ rw (q.d_is, q.s_is, q.t_is) (arc-same a low n nodes j.formed j.next n_is nodes_is)

  -- one more arc
  pub joined-more : {a at low d s t k next : ℕ} {targets targets' : List ℕ} {twice twice' : List Bool} → Joined b side a at low targets twice
      → Read a d s t → arc_form b side a ≡ true → next ≡ at + 3 → k ≡ key_of d s t → ArcLinked d s t targets twice targets' twice'
      → Joined b side (a + 1) next (k + 1) targets' twice'
  joined-more {a} j r q p key_is e =
      let n = ends a q in
      let n3 = dimension-small b l placed.laid in
      let h = placed.laid.headed in
      record {
        formed = all_more _ a j.formed q;
        place_is = omega (arith, j.place_is);
        next = ap (λ (x : ℕ). x + 1) (key_is ∙ rw (r.d_is, r.s_is, r.t_is) refl) ∙ sym (above_step key a);
        held = linked-more (placed_at b side) part a (omega arith) (omega arith) (omega arith) (places b side (omega arith)) j.held
            (rw (r.d_is, r.s_is, r.t_is) at e);
      }

  pub joined-stops : (a : ℕ) → a < arc_count b side → arc_form b side a ≡ false → false ≡ arcs_form b side
  unfolding arcs_form
  joined-stops a h q = sym (refuted (λ w. all-at _ _ (and_right _ _ w) a h) q)

  -- ---- all arcs

  -- the arcs are stored as the value has them
  arcs-value : {arcs blank : List ℕ} {at count : ℕ} → blank ≡ replicate 192 0 → at ≡ from + 1 → count ≡ arc_count b side
      → arcs ≡ stored blank 0 b at (3 * count) → arcs ≡ arcs_of b side
  unfolding arcs_of
  arcs-value {at = at} {count = count} e p q f =
      let few = placed.few in
      f ∙ filled-all 192 (λ k. byte b (at + k)) 0 (0 + 3 * count) _
      (stored-filled 192 (λ k. byte b (at + k)) 0 0 b at (3 * count) (e ∙ filled_none 192 _ 0) (omega arith)
      (λ k h. ap (λ (i : ℕ). byte b (at + i)) (omega arith)))
      (λ k h. ap₂ (λ (t : Bool) (i : ℕ). cond t (byte b i) 0)
      (same-ltb k (0 + 3 * count) (k / 3) (arc_count b side) (λ u. omega arith) (λ u. omega arith))
      (omega (arith, placed.from_is)))

  module _ {a at low : ℕ} {targets : List ℕ} {twice : List Bool} (j : Joined b side a at low targets twice) (h : a ≤ arc_count b side)
      (k : arc_count b side ≤ a) where
    pub joined-form : true ≡ arcs_form b side
    unfolding arcs_form
    joined-form = sym (and_of (le-leb _ _ placed.few) (sym (all-ends _ a (arc_count b side) j.formed h k)))

    pub joined-read : {arcs blank : List ℕ} {first count : ℕ} → blank ≡ replicate 192 0 → first ≡ from + 1 → count ≡ arc_count b side
        → arcs ≡ stored blank 0 b first (3 * count) → ArcsRead b side at arcs targets twice
    unfolding targets_of twice_to
    joined-read e p q f =
        let same : a ≡ arc_count b side = omega arith in
        let w : Shown (placed_at b side) (far_end part (arc_count b side)) (touches (placed_at b side) part (arc_count b side)) targets twice =
        rw same at j.held in
        record {
          place_is = j.place_is ∙ ap (λ (x : ℕ). arcs_at b side + 1 + 3 * x) same;
          arcs_is = arcs-value e p q f;
          targets_is = w.targets_are;
          twice_is = w.twice_are;
        }

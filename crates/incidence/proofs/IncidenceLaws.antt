-- The test of a node's codes, and what it says of a scheme.
use Prim.Native.Nat.{ℕ, suc, ◌+◌, ◌≤◌, ◌<◌}
use mathlib.Core.Path.{◌≡◌, refl, sym, ap, ◌∙◌, subst}
use mathlib.Core.Logic.{◌⊎◌, inl, inr, ⊎_elim}
use mathlib.Core.Bool.{Bool, true, false, not, cond, true≢false}
use mathlib.Core.List.{List}
use native.Mathlib.Omega.{arith}
use lib.ListN.{get_or}
use lib.Dec.{eqb, leb}
use borrow.Author.Tests.{ne_eqb, leb-true, leb-false}
use Rattle.base.specs.Test.{◌and◌, ◌or◌, ◌⇒◌}
use Rattle.base.specs.Below.{all_below, count_below}
use Rattle.base.specs.First.{least}
use Rattle.base.proofs.TestLaws.{and_no_left, impossible, refuted, true_or_false}
use Rattle.base.proofs.BelowLaws.{all-at, all_of, all_not, all-step, all_same, any_at, any_of, count-zero, one-to-three}
use Rattle.base.proofs.FirstLaws.{least-same}
use Rattle.base.proofs.ListLaws.{get_or-list}
use Rattle.model.specs.Codes.{arc_code}
use Rattle.model.specs.Scheme.{Side, left, right, kind, word, arcs, arc_part}
use Rattle.model.specs.Conditions.{Arc, absent, explicit, implicit, touches, reads, arc_at, arcs_of_dim, incidence_ok, incidence_fault}
use Rattle.model.specs.Twice.{twice_at, twice_of}
use Rattle.model.specs.Shaped.{Shaped}
use Rattle.model.specs.declared.Scheme.{Scheme}
use Rattle.model.proofs.AcceptedLaws as AcceptedLaws
use Rattle.model.proofs.ArcLaws.{absent_of, absent-from}
use Rattle.model.specs.Codes.{entry}
use Rattle.model.specs.Shaped.{Coded}
use Rattle.incidence.specs.Incidence.{paired, incident_by, offends}
use Rattle.model.proofs.CodeLaws.{Small, small-arc}

-- ---- the test of a node's codes at a dimension

module _ (kind l r : ℕ) where
  pub paired-deleted : kind ≡ 1 → not (eqb l 255) ≡ paired kind l r
  unfolding paired
  paired-deleted e = rw e

  pub paired-added : (kind ≡ 1 → ⊥) → kind ≡ 3 → not (eqb r 255) ≡ paired kind l r
  unfolding paired
  paired-added n e = rw e

  module _ (n1 : kind ≡ 1 → ⊥) (n3 : kind ≡ 3 → ⊥) where
    pub paired_none : l ≡ 255 → eqb r 255 ≡ paired kind l r
    unfolding paired
    paired_none e = rw (ne_eqb kind 1 n1, ne_eqb kind 3 n3, e)

    pub paired-some : (l ≡ 255 → ⊥) → not (eqb r 255) ≡ paired kind l r
    unfolding paired
    paired-some e = rw (ne_eqb kind 1 n1, ne_eqb kind 3 n3, ne_eqb l 255 e)

module _ (n kind : ℕ) (lefts rights : List ℕ) (s : ℕ) where
  abbrev pub AtDim : ℕ → Bool
  AtDim i = paired kind (entry lefts s i) (entry rights s i)

  pub incident_not : (i : ℕ) → i ≤ n → (b : Bool) → b ≡ AtDim i → b ≡ false → false ≡ incident_by n kind lefts rights s
  unfolding incident_by
  incident_not i h b e f = sym (all_not (suc n) AtDim i (omega arith) (sym e ∙ f))

  -- the dimensions below 3 are asked in any case
  pub incident_fewer : 2 ≤ n → all_below 3 AtDim ≡ false → false ≡ incident_by n kind lefts rights s
  unfolding incident_by
  incident_fewer h e = sym (refuted (λ w. all_of 3 AtDim (λ k l. all-at (suc n) AtDim w k (omega arith))) e)

  -- the dimensions below 3 are all that there are, or dimension 3 is left
  module _ (i : ℕ) (h : i ≤ 3) (l : 3 ≤ i) (e : all_below i AtDim ≡ true) where
    first_three : all_below 3 AtDim ≡ true
    first_three = let same : i ≡ 3 = omega arith in ap (λ (k : ℕ). all_below k AtDim) (sym same) ∙ e

    pub incident_three : 2 ≤ n → n < 3 → true ≡ incident_by n kind lefts rights s
    unfolding incident_by
    incident_three a b = let two : n ≡ 2 = omega arith in rw two (sym first_three)

    pub incident_four : n ≤ 3 → 3 ≤ n → (b : Bool) → b ≡ AtDim 3 → b ≡ incident_by n kind lefts rights s
    unfolding incident_by ◌and◌
    incident_four a b r q =
        let three : n ≡ 3 = omega arith in
        let last : all_below 4 AtDim ≡ AtDim 3 = all-step 3 AtDim ∙ rw first_three refl in
        rw three (q ∙ sym last)

-- ---- a node

module _ (n : ℕ) (kinds lefts rights : List ℕ) (ltwice rtwice : List Bool) (s : ℕ) where
  pub offends-left : get_or ltwice s false ≡ true → offends n kinds lefts rights ltwice rtwice s ≡ true
  unfolding offends ◌or◌
  offends-left e = rw e

  module _ (el : get_or ltwice s false ≡ false) where
    pub offends-right : get_or rtwice s false ≡ true → offends n kinds lefts rights ltwice rtwice s ≡ true
    unfolding offends ◌or◌
    offends-right e = rw (el, e)

    pub offends_not : get_or rtwice s false ≡ false → (b : Bool) → b ≡ incident_by n (get_or kinds s 0) lefts rights s
        → offends n kinds lefts rights ltwice rtwice s ≡ not b
    unfolding offends ◌or◌
    offends_not er b e = rw (el, er, e)

-- ---- what they say of a scheme

abbrev agree : Bool → Bool → Bool
agree true q = q
agree false q = not q

-- what each kind asks of the two sides, whose arc is there or not
by_kind : (k : ℕ) (p q : Bool) → 1 ≤ k → k ≤ 3
    → ((eqb k 2 ⇒ agree p q) and (eqb k 1 ⇒ p) and (eqb k 3 ⇒ q)) ≡ cond (eqb k 1) p (cond (eqb k 3) q (agree p q))
unfolding ◌and◌ ◌⇒◌
by_kind k true true g h = ⊎_elim (λ e. rw e refl) (⊎_elim (λ e. rw e refl) (λ e. rw e refl)) (one-to-three k g h)
by_kind k true false g h = ⊎_elim (λ e. rw e refl) (⊎_elim (λ e. rw e refl) (λ e. rw e refl)) (one-to-three k g h)
by_kind k false true g h = ⊎_elim (λ e. rw e refl) (⊎_elim (λ e. rw e refl) (λ e. rw e refl)) (one-to-three k g h)
by_kind k false false g h = ⊎_elim (λ e. rw e refl) (⊎_elim (λ e. rw e refl) (λ e. rw e refl)) (one-to-three k g h)

-- with at most one arc on each side, counts and codes say the same
same_test : (kind a b l r : ℕ) → 1 ≤ kind → kind ≤ 3 → a ≤ 1 → b ≤ 1 → ((a ≡ 0) × (l ≡ 255)) ⊎ ((1 ≤ a) × (l ≡ 255 → ⊥))
    → ((b ≡ 0) × (r ≡ 255)) ⊎ ((1 ≤ b) × (r ≡ 255 → ⊥))
    → (leb a 1 and leb b 1 and (eqb kind 2 ⇒ eqb a b) and (eqb kind 1 ⇒ eqb a 1) and (eqb kind 3 ⇒ eqb b 1)) ≡ paired kind l r
unfolding paired ◌and◌ ◌⇒◌
same_test kind a b l r k1 k3 ha hb (inl (p, q)) (inl (u, v)) = rw (p, q, u, v) (by_kind kind false false k1 k3)
same_test kind a b l r k1 k3 ha hb (inl (p, q)) (inr (u, v)) = let one : b ≡ 1 = omega arith in rw (p, q, one, ne_eqb r 255 v) (by_kind kind false true k1 k3)
same_test kind a b l r k1 k3 ha hb (inr (p, q)) (inl (u, v)) = let one : a ≡ 1 = omega arith in rw (one, u, v, ne_eqb l 255 q) (by_kind kind true false k1 k3)
same_test kind a b l r k1 k3 ha hb (inr (p, q)) (inr (u, v)) =
    let one : a ≡ 1 = omega arith in
    let other : b ≡ 1 = omega arith in
    rw (one, other, ne_eqb l 255 q, ne_eqb r 255 v) (by_kind kind true true k1 k3)

module _ (S : Scheme) (f : Shaped S) where
  -- a node has no arc of a dimension beyond n
  beyond : (side : Side) (s i : ℕ) → s < S.nodes → S.n < i → i < 4 → arcs_of_dim S side s i ≡ 0
  unfolding arcs_of_dim
  beyond side s i h l b = let none = zero-arcs in let empty = zero-words in omega arith
    where
      zero-arcs : count_below (arcs S side) (touches S side s i) ≡ 0
      zero-arcs = count-zero (arcs S side) _
          (λ a k. let d = (f.sides side).dims a k in and_no_left _ (ne_eqb (arc_part S side a 0) i (λ e. absurd (omega arith))))

      zero-words : count_below S.places (reads S side s i) ≡ 0
      zero-words = count-zero S.places _ (λ p k. ⊎_elim
          (λ e. ne_eqb (word S side s p) i (λ q. absurd (omega arith)))
          (λ e. ne_eqb (word S side s p) i (λ q. absurd (omega arith)))
          ((f.sides side).words s p h k))

  module _ (side : Side) (s : ℕ) (h : s < S.nodes) where
    -- a node with two arcs of a dimension has one up to n
    twice-dim : twice_at S side s ≡ true → (i : ℕ) × (i ≤ S.n) × (2 ≤ arcs_of_dim S side s i)
    unfolding twice_at
    twice-dim e =
        let w = any_at 4 _ e in
        let two = leb-true 2 (arcs_of_dim S side s w.0) w.2 in (
          w.0,
          ⊎_elim (λ l. leb-true _ _ l) (λ l. absurd (let z = beyond side s w.0 h (leb-false _ _ l) w.1 in omega arith))
              (true_or_false (leb w.0 S.n)),
          two,
        )

    -- and any other node has at most one of each
    single : twice_at S side s ≡ false → (i : ℕ) → i < 4 → arcs_of_dim S side s i ≤ 1
    unfolding twice_at
    single e i b = ⊎_elim
        (λ l. absurd (true≢false (sym (any_of 4 (λ j. leb 2 (arcs_of_dim S side s j)) i b l) ∙ e)))
        (λ l. let few = leb-false 2 (arcs_of_dim S side s i) l in omega arith)
        (true_or_false (leb 2 (arcs_of_dim S side s i)))

    -- there is no arc just if the code is 255
    present : (codes : List ℕ) → Coded S side codes → (i : ℕ) → i < 4
        → ((arcs_of_dim S side s i ≡ 0) × (entry codes s i ≡ 255)) ⊎ ((1 ≤ arcs_of_dim S side s i) × (entry codes s i ≡ 255 → ⊥))
    present codes c i b = go (arc_at S side s i) refl (small-arc S f side s i)
      where
        code : entry codes s i ≡ arc_code (arc_at S side s i)
        code = c.at s i h b

        some-arc : (arc_at S side s i ≡ absent → ⊥) → 1 ≤ arcs_of_dim S side s i
        some-arc n = ⊎_elim (λ l. leb-true _ _ l) (λ l. absurd (n (absent_of S side s i (let few = leb-false 1 (arcs_of_dim S side s i) l in omega arith))))
            (true_or_false (leb 1 (arcs_of_dim S side s i)))

        go : (a : Arc) → arc_at S side s i ≡ a → Small S.nodes (arc_at S side s i)
            → ((arcs_of_dim S side s i ≡ 0) × (entry codes s i ≡ 255)) ⊎ ((1 ≤ arcs_of_dim S side s i) × (entry codes s i ≡ 255 → ⊥))
        go absent e m = inl (absent-from S side s i e, code ∙ ap arc_code e)
        go (explicit t) e m =
            let below : t < S.nodes = subst (Small S.nodes) e m in
            let few = f.nodes_few in
            inr (
              some-arc (λ q. let z : absent ≡ explicit t = sym q ∙ e in absurd (let y : ◌≡◌ {A = ℕ} 0 1 = cc in omega arith)),
              λ q. let x : t ≡ 255 = sym (code ∙ ap arc_code e) ∙ q in absurd (omega arith),
            )
        go (implicit p) e m =
            let below : p < 4 = subst (Small S.nodes) e m in
            inr (
              some-arc (λ q. let z : absent ≡ implicit p = sym q ∙ e in absurd (let y : ◌≡◌ {A = ℕ} 0 1 = cc in omega arith)),
              λ q. let x : 16 + p ≡ 255 = sym (code ∙ ap arc_code e) ∙ q in absurd (omega arith),
            )

    -- what goes with a scheme tells of the node
    twice-is : (twice : List Bool) → twice ≡ twice_of S side → get_or twice s false ≡ twice_at S side s
    unfolding twice_of
    twice-is twice e = let few = f.nodes_few in ap (λ (l : List Bool). get_or l s false) e ∙ get_or-list 16 s _ false (omega arith)

  module _ (lefts rights : List ℕ) (ltwice rtwice : List Bool) (cl : Coded S left lefts) (cr : Coded S right rights)
      (tl : ltwice ≡ twice_of S left) (tr : rtwice ≡ twice_of S right) where
    module _ (s : ℕ) (h : s < S.nodes) where
      bad : (side : Side) → twice_at S side s ≡ true → incidence_ok S s ≡ false
      bad side e = let w = twice-dim side s h e in impossible _ (λ q. omega (arith, ((AcceptedLaws.incident_iff S s).0 q).single side w.0 w.1, w.2))

      same-node : twice_at S left s ≡ false → twice_at S right s ≡ false → incidence_ok S s ≡ incident_by S.n (get_or S.kinds s 0) lefts rights s
      unfolding incidence_ok incident_by
      same-node l r = all_same (suc S.n) _ _ (λ i k.
          let n3 = AcceptedLaws.small S f in
          let b : i < 4 = omega arith in
          let kinds = f.kinds s h in
          same_test (kind S s) _ _ _ _ kinds.0 kinds.1 (single left s h l i b) (single right s h r i b) (present left s h lefts cl i b)
          (present right s h rights cr i b))

      incidence-at : not (incidence_ok S s) ≡ offends S.n S.kinds lefts rights ltwice rtwice s
      incidence-at =
          let el = twice-is left s h ltwice tl in
          let er = twice-is right s h rtwice tr in
          ⊎_elim
          (λ l. ap not (bad left l) ∙ sym (offends-left _ _ _ _ _ _ s (el ∙ l)))
          (λ l. ⊎_elim
          (λ r. ap not (bad right r) ∙ sym (offends-right _ _ _ _ _ _ s (el ∙ l) (er ∙ r)))
          (λ r. ap not (same-node l r) ∙ sym (offends_not _ _ _ _ _ _ s (el ∙ l) (er ∙ r) _ refl))
          (true_or_false (twice_at S right s)))
          (true_or_false (twice_at S left s))

    -- the least node that offends
    pub incidence-is : incidence_fault S ≡ least S.nodes (offends S.n S.kinds lefts rights ltwice rtwice)
    unfolding incidence_fault
    incidence-is = least-same S.nodes _ _ incidence-at

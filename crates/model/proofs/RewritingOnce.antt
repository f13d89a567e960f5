-- The statements of `Rewriting` are the edit and not only true of it: two rewritings by one scheme at one orbit are the same table.
use Prim.Native.Nat.{ℕ, ◌≤◌, ◌<◌}
use mathlib.Core.Path.{◌≡◌, refl, sym, ap, ◌∙◌, subst}
use mathlib.Core.Logic.{◌⊎◌, inl, inr, ⊎_elim}
use mathlib.Core.Bool.{Bool, true, true≢false}
use native.Mathlib.Omega.{arith}
use lib.Dec.{eqb}
use borrow.Author.Tests.{eqb-true, eq-eqb}
use Rattle.base.specs.Test.{◌and◌}
use Rattle.base.specs.Below.{any_below}
use Rattle.base.proofs.TestLaws.{and_left, and_right, and_of, or_cases, true_or_false}
use Rattle.base.proofs.BelowLaws.{any_at, any_of, count_same, count_injective, le_or_lt}
use Rattle.model.specs.Map.{Map, State, Link, Tag, field_of, table_size, table_of}
use Rattle.model.specs.Scheme.{right, donor, orbit_dim, has, deleted, added}
use Rattle.model.specs.Conditions.{Arc, absent, explicit, implicit, arc_at}
use Rattle.model.specs.Accepted.{Accepted}
use Rattle.model.specs.Site.{Site}
use Rattle.model.specs.Edit.{is_free, edited}
use Rattle.model.specs.Shaped.{Shaped}
use Rattle.model.specs.declared.Scheme.{Scheme}
use Rattle.model.specs.Rewriting.{Rewriting, SameRecord}
use Rattle.model.proofs.MapLaws.{words_are, length-words, field_words}
use Rattle.model.proofs.ArcLaws.{explicit-end, implicit-from, absent-from}
use Rattle.model.proofs.AcceptedLaws.{one_side, at_least_two, kind_cases, left_or_added}
use Rattle.model.proofs.MatchLaws.{GoodOrbit, assigned}
use Rattle.model.proofs.KindLaws.{added-right, preserved-right}
use Rattle.model.proofs.RoomLaws.{free-same}
use Rattle.model.proofs.RewritingLaws.{rewriting}
use Rattle.model.proofs.EditLaws.{Ready}

-- a slot is the dart of some pair whose node has p, or of none
pub pair_or_none : (N c : ℕ) (O p : ℕ → Bool) (f : ℕ → ℕ → ℕ) (x : ℕ) → ((u : ℕ) → O u ≡ true → u < N)
    → ((u s : ℕ) × (O u ≡ true) × (s < c) × (p s ≡ true) × (f u s ≡ x)) ⊎ ((u s : ℕ) → O u ≡ true → s < c → p s ≡ true → f u s ≡ x → ⊥)
pair_or_none N c O p f x slot = ⊎_elim
    (λ t.
    let a = any_at N _ t in
    let b = any_at c _ (and_right _ _ a.2) in
    inl (a.0, b.0, and_left _ _ a.2, b.1, and_left _ _ b.2, eqb-true _ _ (and_right _ _ b.2)))
    (λ t. inr (λ u s e h k q. true≢false (sym (any_of N _ u (slot u e) (and_of e (any_of c _ s h (and_of k (eq-eqb (f u s) x q))))) ∙ t)))
    (true_or_false (any_below N (λ u. O u and any_below c (λ s. p s and eqb (f u s) x))))

-- the ways in which a slot has its record after an edit, where f gives the dart of each pair: that of a preserved or added pair, that of a deleted pair
-- which no such pair has, or that of no pair
pub data Role (S : Scheme) (O : ℕ → Bool) (f : ℕ → ℕ → ℕ) (x : ℕ) : Type 0 where
  right_pair : (u s : ℕ) → O u ≡ true → s < S.nodes → has S right s ≡ true → f u s ≡ x → Role S O f x
  gone_pair : (u s : ℕ) → O u ≡ true → s < S.nodes → deleted S s ≡ true → f u s ≡ x
      → ((v t : ℕ) → O v ≡ true → t < S.nodes → added S t ≡ true → f v t ≡ x → ⊥) → Role S O f x
  no_pair : ((u s : ℕ) → O u ≡ true → s < S.nodes → f u s ≡ x → ⊥) → Role S O f x

pub role : (S : Scheme) → Shaped S → (N : ℕ) (O : ℕ → Bool) (f : ℕ → ℕ → ℕ) (x : ℕ) → ((u : ℕ) → O u ≡ true → u < N) → Role S O f x
role S shape N O f x slot = ⊎_elim
    (λ p. right_pair p.0 p.1 p.2 p.3 p.4 p.5)
    (λ no. ⊎_elim
    (λ p. gone_pair p.0 p.1 p.2 p.3 p.4 p.5 (λ v t e h a. no v t e h (added-right S t a)))
    (λ none. no_pair (λ u s e h q. ⊎_elim
    (λ d. none u s e h d q)
    (⊎_elim (λ z. no u s e h (preserved-right S s z) q) (λ z. no u s e h (added-right S s z) q))
    (kind_cases S shape s h)))
    (pair_or_none N S.nodes O (deleted S) f x slot))
    (pair_or_none N S.nodes O (has S right) f x slot)

module _ (E : Site) (a : Accepted E.scheme) (o : GoodOrbit E) {m' m'' : Map} {f g : ℕ → ℕ → ℕ}
    (r : Rewriting E m' f) (q : Rewriting E m'' g) where
  open E use {map as m, scheme as S, orbit as O}

  -- the slots that new darts can take are the same: there is one assignment
  free-once : (x : ℕ) → is_free E f x ≡ is_free E g x
  free-once = free-same E f g (λ u s e h l. sym (assigned E a o f r.assigned u e s h l) ∙ assigned E a o g q.assigned u e s h l)

  -- the dart of a pair is the same: there is one such slot with as many below it
  pub dart-once : (u s : ℕ) → O u ≡ true → s < S.nodes → f u s ≡ g u s
  dart-once u s e h = ⊎_elim
      (λ l. sym (assigned E a o f r.assigned u e s h l) ∙ assigned E a o g q.assigned u e s h l)
      (λ k. count_injective (is_free E f) (f u s) (g u s) (r.was_free u s e h k) (free-once (g u s) ∙ q.was_free u s e h k)
      (r.in_order u s e h k ∙ sym (count_same (g u s) _ _ (λ x b. free-once x) ∙ q.in_order u s e h k)))
      (left_or_added S a.shaped s h)

  -- an added node has every arc up to n, so where it has none, n = 2 and the link is α3
  added-absent : (s i : ℕ) → s < S.nodes → added S s ≡ true → i ≤ 3 → arc_at S right s i ≡ absent → (S.n ≡ 2) × (i ≡ 3)
  added-absent s i h k l c =
      let two = at_least_two S a.shaped in
      let none = absent-from S right s i c in
      ⊎_elim (λ b. let one = (a.consistent.incidence s h).all_right i b k in absurd (omega arith)) (λ b. (omega arith, omega arith)) (le_or_lt i S.n)

  -- a preserved or added pair has the same links
  link-once : (u s i : ℕ) → O u ≡ true → s < S.nodes → has S right s ≡ true → i ≤ 3 → (c : Arc) → arc_at S right s i ≡ c
      → m''.link i (g u s) ≡ m'.link i (f u s)
  link-once u s i e h k l (explicit t) c =
      q.explicit_link u s i t e h k c ∙ sym (dart-once u t e (explicit-end S right (one_side a right) s i t c).0) ∙ sym (r.explicit_link u s i t e h k c)
  link-once u s i e h k l (implicit p) c =
      q.implicit_link u s i p e h k c
      ∙ sym (dart-once (m.link (orbit_dim S p) u) s (o.link u p e (implicit-from S right s i p c).0) h) ∙ sym (r.implicit_link u s i p e h k c)
  link-once u s i e h k l absent c = ⊎_elim
      (λ z. q.kept_link u s i e h z c ∙ ap (m.link i) (sym (dart-once u s e h)) ∙ sym (r.kept_link u s i e h z c))
      (λ z.
      let x = added-absent s i h z l c in
      ap (λ (j : ℕ). m''.link j (g u s)) x.1 ∙ q.own_link u s e h z x.0 ∙ sym (dart-once u s e h)
      ∙ sym (r.own_link u s e h z x.0) ∙ ap (λ (j : ℕ). m'.link j (f u s)) (sym x.1))
      (or_cases _ _ k)

  -- and the same tag
  tag-once : (u s : ℕ) → O u ≡ true → s < S.nodes → has S right s ≡ true → m''.tag (g u s) ≡ m'.tag (f u s)
  tag-once u s e h k = ⊎_elim
      (λ z. q.kept_tag u s e h z ∙ ap m.tag (sym (dart-once u s e h)) ∙ sym (r.kept_tag u s e h z))
      (λ z. q.new_tag u s e h z ∙ ap m.tag (sym (dart-once u (donor S s) e (a.shaped.donor_below s h))) ∙ sym (r.new_tag u s e h z))
      (or_cases _ _ k)

  -- the record of a preserved or added pair is the same
  pair-once : (u s : ℕ) → O u ≡ true → s < S.nodes → has S right s ≡ true → SameRecord m' m'' (f u s)
  pair-once u s e h z State l = ap m''.state (dart-once u s e h) ∙ q.alive u s e h z ∙ sym (r.alive u s e h z)
  pair-once u s e h z (Link i) l = ap (m''.link i) (dart-once u s e h) ∙ link-once u s i e h z l (arc_at S right s i) refl
  pair-once u s e h z Tag l = ap m''.tag (dart-once u s e h) ∙ tag-once u s e h z

  -- so is that of a deleted pair which no added one has
  gone-once : (u s : ℕ) → O u ≡ true → s < S.nodes → deleted S s ≡ true
      → ((v t : ℕ) → O v ≡ true → t < S.nodes → added S t ≡ true → f v t ≡ f u s → ⊥) → SameRecord m' m'' (f u s)
  gone-once u s e h d off k l =
      let same = dart-once u s e h in
      ap (field_of m'' k) same
      ∙ q.gone u s e h d (λ v t i b n w. off v t i b n (dart-once v t i b ∙ w ∙ sym same)) k l
      ∙ sym (r.gone u s e h d off k l)

  -- so is the record of every slot
  pub record_once : (x : ℕ) → SameRecord m' m'' x
  record_once x = by-role (role S a.shaped m.slots O f x o.slot)
    where
      by-role : Role S O f x → SameRecord m' m'' x
      by-role (right_pair u s e h z w) = subst (SameRecord m' m'') w (pair-once u s e h z)
      by-role (gone_pair u s e h d w off) =
          subst (SameRecord m' m'') w (gone-once u s e h d (λ v t i b n y. off v t i b n (y ∙ w)))
      by-role (no_pair off) = λ k l. q.others x (λ u s e h z. off u s e h (dart-once u s e h ∙ z)) k l ∙ sym (r.others x off k l)

  -- two rewritings are the same table
  pub rewriting-once : table_of m' ≡ table_of m''
  rewriting-once = words_are m'' (table_of m') (length-words m' ∙ ap table_size same-slots)
      (λ f x l b. field_words m' x (omega (arith, same-slots)) f l ∙ sym (record_once x f l))
    where
      same-slots : m'.slots ≡ m''.slots
      same-slots = r.slots ∙ sym q.slots

-- every rewriting is the computed edit
pub edit-once : {E : Site} → Ready E → {m' : Map} {f : ℕ → ℕ → ℕ} → Rewriting E m' f → table_of m' ≡ table_of (edited E)
edit-once r q = rewriting-once _ r.accepted r.good q (rewriting r)

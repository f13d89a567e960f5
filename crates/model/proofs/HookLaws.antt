-- Which nodes are hooks and what is asked of them; a path over left arcs is found from a hook to just those nodes that are reached.
use Prim.Native.Nat.{ℕ, ◌<◌}
use mathlib.Core.Path.{◌≡◌, refl, sym, ap, ◌∙◌, subst}
use mathlib.Core.Logic.{◌⊎◌, inl, inr, ⊎_elim, ◌↔◌}
use mathlib.Core.Bool.{Bool, true, false, not, true≢false}
use Rattle.std.specs.Prelude.{Some, None}
use mathlib.Core.List.{List, [], ◌∷◌, ◌++◌}
use native.Mathlib.Omega.{arith}
use lib.Dec.{eqb}
use borrow.Author.Tests.{eqb-true, eq-eqb, not-true}
use Rattle.base.specs.Test.{◌and◌, ◌or◌}
use Rattle.base.specs.First.{least, some_if, there, ◌or_else◌}
use Rattle.base.proofs.TestLaws.{and_left, and_right, and_of, not_both, or_cases, or_left, or_right}
use Rattle.base.proofs.BelowLaws.{all-at, all_of}
use Rattle.base.proofs.FirstLaws.{or_else_cases, when-at, there-at, there_of, there-first, there-second, first-at, first_of}
use Rattle.base.proofs.FirstLaws.{least-only, least-none_of, least_hit}
use Rattle.model.specs.Scheme.{left, arcs, arc_part, first_hook, is_hook}
use Rattle.model.specs.Shaped.{Shaped}
use Rattle.model.specs.Reach.{Leads, here, step}
use Rattle.model.specs.Conditions.{Hooked, hook_ok, left_arc, path_from, path_to, Joins, Reached, at_hook, over_arc}
use Rattle.model.specs.declared.Scheme.{Scheme}
use Rattle.model.proofs.ReachLaws.{path-start, path-leads, path-found}

-- ---- which nodes are hooks

module _ (S : Scheme) where
  pub first-hook : is_hook S first_hook ≡ true
  unfolding is_hook
  first-hook = or_left _ (eq-eqb first_hook first_hook refl)

  pub second-hook : is_hook S S.second ≡ true
  unfolding is_hook
  second-hook = or_right _ (eq-eqb S.second S.second refl)

  -- there is no third
  pub two_hooks : (h : ℕ) → is_hook S h ≡ true → (h ≡ first_hook) ⊎ (h ≡ S.second)
  unfolding is_hook
  two_hooks h e = ⊎_elim (λ q. inl (eqb-true _ _ q)) (λ q. inr (eqb-true _ _ q)) (or_cases _ _ e)

  pub hook_iff : (h : ℕ) → (hook_ok S h ≡ true) ↔ Hooked S h
  unfolding hook_ok
  hook_iff h = (
    (λ e. record { kind = and_left _ _ e; word = λ p l. eqb-true _ _ (all-at _ _ (and_right _ _ e) p l) }),
    (λ k. and_of k.kind (all_of S.places _ (λ p l. eq-eqb _ _ (k.word p l)))),
  )

-- ---- paths

module _ (S : Scheme) where
  -- what is found between s and t is the dimension of an arc that joins them
  pub arc_between : (s t i : ℕ) → left_arc S s t ≡ Some i → (a : ℕ) × (a < arcs S left) × (arc_part S left a 0 ≡ i) × Joins S a s t
  unfolding left_arc
  arc_between s t i e =
      let f = first-at (arcs S left) _ i e in
      let w = when-at _ f.2 in (
        f.0,
        f.1,
        w.1,
        ⊎_elim
            (λ q. inl (eqb-true _ _ (and_left _ _ q), eqb-true _ _ (and_right _ _ q)))
            (λ q. inr (eqb-true _ _ (and_left _ _ q), eqb-true _ _ (and_right _ _ q)))
            (or_cases _ _ w.0),
      )

  -- and an arc that joins them is found
  pub between_arc : (s t a : ℕ) → a < arcs S left → Joins S a s t → (i : ℕ) × (left_arc S s t ≡ Some i)
  unfolding left_arc some_if
  between_arc s t a h j = first_of (arcs S left) _ a (arc_part S left a 0) h (rw (joined j))
    where
      joined : Joins S a s t
          → (eqb (arc_part S left a 1) s and eqb (arc_part S left a 2) t or eqb (arc_part S left a 1) t and eqb (arc_part S left a 2) s) ≡ true
      joined (inl e) = or_left _ (and_of (eq-eqb _ _ e.0) (eq-eqb _ _ e.1))
      joined (inr e) = or_right _ (and_of (eq-eqb _ _ e.0) (eq-eqb _ _ e.1))

  -- from the node h over left arcs
  abbrev pub Path : ℕ → List ℕ → ℕ → Type 0
  Path h = Leads S.nodes (eqb h) (left_arc S)

  path_reaches : (h : ℕ) → is_hook S h ≡ true → {p : List ℕ} {s : ℕ} → Path h p s → Reached S s
  path_reaches h k (here b e) = at_hook (ap (is_hook S) (sym (eqb-true h _ e)) ∙ k)
  path_reaches h k (step {p} {x} {y} {i} l b e) = let a = arc_between x y i e in over_arc (path_reaches h k l) a.0 a.1 a.3

  -- the path that is found from a node
  pub path-from : (h s : ℕ) (p : List ℕ) → s < S.nodes → path_from S h s ≡ Some p → Path h p s
  unfolding path_from
  path-from h s p b e = path-leads S.nodes (eqb h) (left_arc S) s p b e

  -- what is found is found from the first hook, or else from the second
  pub path_cases : (s : ℕ) → there (path_to S s) ≡ true
      → (there (path_from S first_hook s) ≡ true) ⊎ ((path_from S first_hook s ≡ None) × (there (path_from S S.second s) ≡ true))
  unfolding path_to
  path_cases s e =
      let g = there-at (path_to S s) e in
      ⊎_elim (λ q. inl (there_of q)) (λ q. inr (q.0, there_of q.1)) (or_else_cases (path_from S first_hook s) (path_from S S.second s) g.0 g.1)

  -- and from either one it is
  path_of : (h s : ℕ) → is_hook S h ≡ true → there (path_from S h s) ≡ true → there (path_to S s) ≡ true
  unfolding path_to
  path_of h s k e = ⊎_elim
      (λ q. there-first _ _ (ap (λ (x : ℕ). there (path_from S x s)) (sym q) ∙ e))
      (λ q. there-second _ _ (ap (λ (x : ℕ). there (path_from S x s)) (sym q) ∙ e))
      (two_hooks S h k)

  module _ (f : Shaped S) where
    -- both ends of a left arc are nodes
    pub joined-below : (a s t : ℕ) → a < arcs S left → Joins S a s t → t < S.nodes
    joined-below a s t h (inl e) = subst (λ (x : ℕ). x < S.nodes) e.1 ((f.sides left).to a h).0
    joined-below a s t h (inr e) = subst (λ (x : ℕ). x < S.nodes) e.0 ((f.sides left).from a h).0

    -- a hook is a node
    pub hook-below : (h : ℕ) → is_hook S h ≡ true → h < S.nodes
    hook-below h e = ⊎_elim
        (λ q. subst (λ (x : ℕ). x < S.nodes) (sym q) f.nodes_some)
        (λ q. subst (λ (x : ℕ). x < S.nodes) (sym q) f.second_below)
        (two_hooks S h e)

    -- what is reached is reached over a path from a hook
    reached-path : {s : ℕ} → Reached S s → (h : ℕ) × (is_hook S h ≡ true) × (p : List ℕ) × Path h p s
    reached-path (at_hook {h} e) = (h, e, [], here (hook-below h e) (eq-eqb h h refl))
    reached-path (over_arc {s} {t} r a h j) =
        let q = reached-path r in
        let b = between_arc s t a h j in
        (q.0, q.1, q.2 ++ (b.0 ∷ []), step q.3 (joined-below a s t h j) b.1)

    pub reached-found : {s : ℕ} → Reached S s → there (path_to S s) ≡ true
    unfolding path_from
    reached-found {s} r = let q = reached-path r in path_of q.0 s q.1 (path-found S.nodes (eqb q.0) (left_arc S) q.3)

    pub found-reached : (s : ℕ) → s < S.nodes → there (path_to S s) ≡ true → Reached S s
    found-reached s b e = ⊎_elim
        (λ q. let g = there-at _ q in path_reaches first_hook (first-hook S) (path-from first_hook s g.0 b g.1))
        (λ q. let g = there-at _ q.1 in path_reaches S.second (second-hook S) (path-from S.second s g.0 b g.1))
        (path_cases s e)

    -- from the first hook to itself the path is the empty one
    pub hook-path : path_from S first_hook first_hook ≡ Some []
    unfolding path_from
    hook-path = path-start S.nodes (eqb first_hook) (left_arc S) first_hook f.nodes_some (eq-eqb first_hook first_hook refl)

    -- the least hook that is not as is asked: the first one, else the second
    pub wrong-hook : least S.nodes (λ s. is_hook S s and not (hook_ok S s))
        ≡ some_if (not (hook_ok S first_hook)) first_hook or_else some_if (not (hook_ok S S.second)) S.second
    unfolding some_if ◌or_else◌
    wrong-hook = go (hook_ok S first_hook) refl (hook_ok S S.second) refl
      where
        go : (b : Bool) → hook_ok S first_hook ≡ b → (c : Bool) → hook_ok S S.second ≡ c
            → least S.nodes (λ s. is_hook S s and not (hook_ok S s)) ≡ some_if (not b) first_hook or_else some_if (not c) S.second
        go true q true r = least-none_of S.nodes _ (λ s h. not_both (is_hook S s) (hook_ok S s)
            (λ e. ⊎_elim (λ z. ap (hook_ok S) z ∙ q) (λ z. ap (hook_ok S) z ∙ r) (two_hooks S s e)))
        go true q false r = least-only S.nodes _ S.second f.second_below (and_of (second-hook S) (ap not r))
            (λ s h e. ⊎_elim
            (λ z. absurd (true≢false (sym q ∙ ap (hook_ok S) (sym z) ∙ not-true _ (and_right _ _ e))))
            (λ z. z)
            (two_hooks S s (and_left _ _ e)))
        go false q c r = least_hit S.nodes _ first_hook f.nodes_some (least-none_of first_hook _ (λ s h. absurd (omega arith)))
            (and_of (first-hook S) (ap not q))

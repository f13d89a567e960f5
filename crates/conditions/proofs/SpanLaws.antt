-- If no arc leads out of the trees, their nodes are those to which a path over left arcs leads from a hook.
use Prim.Native.Nat.{ℕ, zero, suc, ◌-◌, ◌<◌}
use mathlib.Core.Path.{◌≡◌, sym, ap, ◌∙◌, subst}
use mathlib.Core.Logic.{inl, inr, ⊎_elim}
use mathlib.Core.Bool.{true, false, true≢false}
use native.Mathlib.Nat.{lt_of_not-le}
use native.Mathlib.Omega.{arith}
use lib.ListN.{get_or}
use lib.Dec.{eqb}
use Rattle.base.specs.First.{there}
use Rattle.base.proofs.TestLaws.{same_test}
use Rattle.base.proofs.BelowLaws.{le_or_lt}
use Rattle.base.proofs.FirstLaws.{there-none}
use Rattle.model.specs.Scheme.{left, arcs, arc_part, first_hook, is_hook}
use Rattle.model.specs.Conditions.{left_arc, path_from, path_to, Reached, at_hook, over_arc}
use Rattle.model.specs.Shaped.{Shaped}
use Rattle.model.specs.declared.Scheme.{Scheme}
use Rattle.model.proofs.HookLaws.{first-hook, second-hook, two_hooks, path_cases, joined-below, hook-below, reached-found, found-reached}
use Rattle.model.proofs.ReachLaws.{path-none}
use Rattle.conditions.specs.Tree.{Ends, roots_of, Spanning, TreeOf}
use Rattle.conditions.specs.declared.tree.Tree.{Tree}
use Rattle.conditions.proofs.TreeLaws.{roots_few, root_cases, few}

module _ (S : Scheme) (f : Shaped S) where
  -- what is reached is a node
  reached-below : {s : ℕ} → Reached S s → s < S.nodes
  reached-below (at_hook {h} e) = hook-below S f h e
  reached-below (over_arc {s} {t} r a h j) = joined-below S f a s t h j

  -- what a path leads to is a node
  from-below : (h s : ℕ) → there (path_from S h s) ≡ true → s < S.nodes
  unfolding path_from
  from-below h s e = lt_of_not-le (λ l. true≢false (sym e ∙ there-none (path-none S.nodes (eqb h) (left_arc S) s l)))

  path-below : (s : ℕ) → there (path_to S s) ≡ true → s < S.nodes
  path-below s e = ⊎_elim (λ q. from-below first_hook s q) (λ q. from-below S.second s q.1) (path_cases S s e)

  module _ (t : Tree) (g : Spanning S.larcs S.lcount S.second t) where
    -- an entry is reached: as a hook, or since an earlier one is
    entry-reached : (n k : ℕ) → k < n → k < t.size → Reached S (get_or t.node k 0)
    entry-reached zero k h l = absurd (omega arith)
    entry-reached (suc n) k h l = ⊎_elim
        (λ q. let b = g.spans.branch k q l in
        let e = b.before in
        over_arc (entry-reached n b.earlier (omega arith) (omega arith)) b.joined.arc b.joined.below
        (subst (λ (z : ℕ). Ends (arc_part S left) b.joined.arc z (get_or t.node k 0)) (sym b.parent_is) b.joined.ends))
        (λ q. at_hook (⊎_elim
        (λ e. ap (is_hook S) e ∙ first-hook S)
        (λ e. ap (is_hook S) e ∙ second-hook S)
        (root_cases _ _ _ g.spans.roots k q)))
        (le_or_lt (roots_of S.second) k)

    -- if one end of an arc is marked, so is the other
    across : (a x y : ℕ) → a < arcs S left → Ends (arc_part S left) a x y → get_or t.reached x false ≡ true → get_or t.reached y false ≡ true
    across a x y h (inl (p, q)) e = ap (λ (z : ℕ). get_or t.reached z false) (sym q) ∙ sym (g.even a h) ∙ ap (λ (z : ℕ). get_or t.reached z false) p ∙ e
    across a x y h (inr (p, q)) e = ap (λ (z : ℕ). get_or t.reached z false) (sym p) ∙ g.even a h ∙ ap (λ (z : ℕ). get_or t.reached z false) q ∙ e

    -- if node s is an entry, it is marked
    entry-marked : (k s : ℕ) → k < t.size → s ≡ get_or t.node k 0 → get_or t.reached s false ≡ true
    entry-marked k s h e = ap (λ (z : ℕ). get_or t.reached z false) e ∙ g.spans.marked k h

    reached-marked : {s : ℕ} → Reached S s → get_or t.reached s false ≡ true
    reached-marked (at_hook {h} e) =
        let b = roots_few S.second in
        let some = g.spans.some in
        ⊎_elim
        (λ q. entry-marked 0 h (omega arith) (q ∙ sym g.spans.roots.first))
        (λ q. entry-marked (roots_of S.second - 1) h (omega arith) (q ∙ sym g.spans.roots.last))
        (two_hooks S h e)
    reached-marked (over_arc r a h j) = across a _ _ h j (reached-marked r)

    path-marked : (s : ℕ) → there (path_to S s) ≡ true → get_or t.reached s false ≡ true
    path-marked s e = reached-marked (found-reached S f s (path-below s e) e)

    entry-path : (k : ℕ) → k < t.size → there (path_to S (get_or t.node k 0)) ≡ true
    entry-path k h = reached-found S f (entry-reached (suc k) k (omega arith) h)

    marked-path : (s : ℕ) → get_or t.reached s false ≡ true → there (path_to S s) ≡ true
    marked-path s e = let k = g.spans.found s e in ap (λ (z : ℕ). there (path_to S z)) (sym k.2) ∙ entry-path k.0 k.1

    pub tree_of : TreeOf S t
    tree_of = let e = g.spans.roots_is in record {
      roots_is = e;
      some = omega (arith, g.spans.some);
      few = few _ _ _ g.spans;
      roots = g.spans.roots;
      below = λ k h. reached-below (entry-reached (suc k) k (omega arith) h);
      branch = λ k l h. g.spans.branch k (omega arith) h;
      once = g.spans.once;
      path = entry-path;
      entry = λ s q. g.spans.found s (path-marked s q);
      reached = λ s h. same_test (get_or t.reached s false) (there (path_to S s)) (marked-path s) (path-marked s);
    }

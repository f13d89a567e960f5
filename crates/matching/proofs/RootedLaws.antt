-- For a caller of `assign`: the trees of an accepted scheme's left arcs span its left nodes.
use Prim.Native.Nat.{ℕ, ◌≤◌, ◌<◌}
use mathlib.Core.Path.{◌≡◌, sym, ap, ap₂, ◌∙◌, subst}
use mathlib.Core.Logic.{inl, inr, ⊎_elim, by_cases}
use mathlib.Core.Bool.{true}
use native.Mathlib.Decide.{dec_lt}
use native.Mathlib.Omega.{arith}
use lib.ListN.{get_or}
use Rattle.model.specs.Scheme.{left, arc_part, arcs, has}
use Rattle.model.specs.Conditions.{explicit, arc_at}
use Rattle.model.specs.Accepted.{Accepted}
use Rattle.model.specs.declared.Scheme.{Scheme}
use Rattle.model.proofs.ArcLaws.{explicit-at, far_from, far-to, touches-from, touches-to}
use Rattle.model.proofs.HookLaws.{first-hook, second-hook, reached-found}
use Rattle.model.proofs.AcceptedLaws.{one_side}
use Rattle.conditions.specs.Tree.{Ends, roots_of, TreeOf}
use Rattle.conditions.specs.declared.tree.Tree.{Tree}
use Rattle.conditions.proofs.TreeLaws.{root_cases}
use Rattle.matching.specs.Images.{Rooted}

module _ (S : Scheme) (A : Accepted S) where
  -- the far end of a left arc is a left node, and the arc is found from the near end
  end-left : (a x y : ℕ) → a < arcs S left → Ends (arc_part S left) a x y → has S left y ≡ true
  end-left a x y h (inl e) = ap (has S left) (sym e.1) ∙ ((A.shaped.sides left).to a h).1
  end-left a x y h (inr e) = ap (has S left) (sym e.0) ∙ ((A.shaped.sides left).from a h).1

  end-arc : (a x y i : ℕ) → a < arcs S left → arc_part S left a 0 ≡ i → Ends (arc_part S left) a x y → arc_at S left x i ≡ explicit y
  end-arc a x y i h d (inl e) =
      ap₂ (arc_at S left) (sym e.0) (sym d)
      ∙ explicit-at S left (one_side A left) _ _ a ((A.shaped.sides left).from a h).0 h ((A.shaped.sides left).dims a h) (touches-from S left a)
      ∙ ap explicit (far_from S left a ∙ e.1)
  end-arc a x y i h d (inr e) =
      ap₂ (arc_at S left) (sym e.1) (sym d)
      ∙ explicit-at S left (one_side A left) _ _ a ((A.shaped.sides left).to a h).0 h ((A.shaped.sides left).dims a h) (touches-to S left a)
      ∙ ap explicit (far-to S left a ∙ e.0)

  module _ (t : Tree) (T : TreeOf S t) where
    -- a hook is a left node
    root_left : (k : ℕ) → k < roots_of S.second → has S left (get_or t.node k 0) ≡ true
    root_left k h = ⊎_elim
        (λ e. ap (has S left) e ∙ (A.consistent.hooks _ (first-hook S)).kind)
        (λ e. ap (has S left) e ∙ (A.consistent.hooks _ (second-hook S)).kind)
        (root_cases t.node t.dim S.second T.roots k h)

    entry-left : (k : ℕ) → k < t.size → has S left (get_or t.node k 0) ≡ true
    entry-left k h = by_cases (dec_lt k t.roots)
        (λ l. root_left k (rw T.roots_is at l))
        (λ ne. let b = T.branch k (omega arith) h in end-left b.joined.arc _ _ b.joined.below b.joined.ends)

    pub rooted : Rooted S t.roots t.size t.node t.parent t.dim
    rooted = record {
      roots_is = T.roots_is;
      some = T.some;
      few = T.few;
      hooks = T.roots;
      on_left = λ k h. (T.below k h, entry-left k h);
      arc = λ k l h.
          let b = T.branch k l h in (
            subst (λ (i : ℕ). i ≤ S.n) b.joined.dim_is ((A.shaped.sides left).dims b.joined.arc b.joined.below),
            end-arc b.joined.arc
                _ _ _ b.joined.below b.joined.dim_is b.joined.ends,
          );
      earlier = λ k l h. let b = T.branch k l h in (b.earlier, b.before, b.parent_is);
      once = T.once;
      every = λ s h l. T.entry s (reached-found S A.shaped (A.consistent.reach s h l));
    }

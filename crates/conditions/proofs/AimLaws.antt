-- A scheme in the form has its arcs in order, and its targets are far ends of arcs.
use Prim.Native.Nat.{ℕ, ◌≤◌, ◌<◌}
use mathlib.Core.Path.{◌≡◌, refl, subst}
use mathlib.Core.Logic.{inl, inr}
use mathlib.Core.Bool.{Bool, true, false, cond}
use Rattle.std.specs.Prelude.{Option, Some, None}
use mathlib.Core.List.{List}
use native.Mathlib.Omega.{arith}
use lib.Dec.{eqb}
use borrow.Author.Tests.{eqb-true}
use Rattle.base.specs.First.{least}
use Rattle.base.specs.Test.{◌or◌}
use Rattle.base.proofs.TestLaws.{and_left, and_right}
use Rattle.base.proofs.FirstLaws.{first-at, when-at}
use Rattle.model.specs.Arc.{far_end, arc_of}
use Rattle.model.specs.Codes.{entry, targets, arc_code}
use Rattle.model.specs.Scheme.{Side, left, right, arcs, arc_part}
use Rattle.model.specs.Conditions.{arc_at, reads}
use Rattle.model.specs.Shaped.{Shaped}
use Rattle.model.specs.declared.Scheme.{Scheme}
use Rattle.model.proofs.AcceptedLaws.{small}
use Rattle.conditions.specs.Arcs.{part_of, Joining}
use Rattle.conditions.specs.Tree.{Ends, ByArc, Aimed}

-- a side's arcs, as a scheme holds them
abbrev pub arcs_of : Scheme → Side → List ℕ
arcs_of S left = S.larcs
arcs_of S right = S.rarcs

part-is : (S : Scheme) (side : Side) → arc_part S side ≡ part_of (arcs_of S side)
part-is S left = refl
part-is S right = refl

-- the far end of an arc is joined by that arc
by-arc : (part : ℕ → ℕ → ℕ) (c s i t : ℕ) → far_end part c s i ≡ Some t → ByArc part c i s t
unfolding far_end ◌or◌
by-arc part c s i t e =
    let r = first-at c _ t e in
    let w = when-at _ r.2 in
    record {
      arc = r.0;
      below = r.1;
      dim_is = eqb-true _ _ (and_left _ _ w.0);
      ends = go (eqb (part r.0 1) s) refl w.1 (and_right _ _ w.0);
    }
  where
    go : {a : ℕ} (b : Bool) → eqb (part a 1) s ≡ b → cond b (part a 2) (part a 1) ≡ t → (b or eqb (part a 2) s) ≡ true → Ends part a s t
    go true q u v = inl (eqb-true _ _ q, u)
    go false q u v = inr (u, eqb-true _ _ v)

module _ (S : Scheme) (f : Shaped S) (side : Side) where
  -- the arcs of a side are in order
  pub joins : Joining (arcs_of S side) (arcs S side)
  joins = record {
    few = (f.sides side).few;
    dims = λ a h. let b = small S f in let d = (f.sides side).dims a h in subst (λ (part : ℕ → ℕ → ℕ). part a 0 ≤ 3) (part-is S side) (omega arith);
    from = λ a h. let n = f.nodes_few in let d = ((f.sides side).from a h).0 in subst (λ (part : ℕ → ℕ → ℕ). part a 1 < 16) (part-is S side) (omega arith);
    to = λ a h. let n = f.nodes_few in let d = ((f.sides side).to a h).0 in subst (λ (part : ℕ → ℕ → ℕ). part a 2 < 16) (part-is S side) (omega arith);
  }

  -- its targets below 16 are the far ends of arcs
  pub aimed : Aimed (targets S side) (arcs_of S side) (arcs S side)
  unfolding arc_at
  aimed = record {
    at = λ s i h k l. subst (λ (part : ℕ → ℕ → ℕ). ByArc part (arcs S side) i s (entry (targets S side) s i)) (part-is S side)
        (go (far_end (arc_part S side) (arcs S side) s i) refl (least S.places (reads S side s i)) ((f.sides side).coded s i h k) l);
  }
    where
      go : {s i e : ℕ} (o : Option ℕ) → far_end (arc_part S side) (arcs S side) s i ≡ o → (r : Option ℕ) → e ≡ arc_code (arc_of o r) → e < 16
          → ByArc (arc_part S side) (arcs S side) i s e
      go None q None u l = absurd (omega arith)
      go None q (Some p) u l = absurd (omega arith)
      go (Some t) q r u l = rw u (by-arc (arc_part S side) (arcs S side) _ _ t q)

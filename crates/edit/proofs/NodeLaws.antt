-- The laws of `nodes::of_kind`: the list of the nodes of a kind, with one node more.
use Prim.Native.Nat.{ℕ, ◌+◌, ◌≤◌, ◌<◌}
use mathlib.Core.Path.{◌≡◌, refl, sym, ap, ◌∙◌}
use mathlib.Core.Logic.{⊎_elim}
use mathlib.Core.Bool.{Bool, true}
use Rattle.std.specs.Prelude.{Option, Some, None}
use mathlib.Core.List.{List}
use native.Mathlib.Nat.{add-zero}
use native.Mathlib.Omega.{arith}
use lib.ListN.{length, get_or, set, replicate, take, length-set}
use Rattle.std.proofs.lemmas.List.{get_or-take, length-take-le}
use lib.Seq.{get_or-set_same, get_or-set_other}
use lib.Dec.{eqb}
use borrow.Author.Tests.{eq-eqb, ne_eqb}
use Rattle.base.specs.Test.{◌and◌, bit}
use Rattle.base.specs.Below.{count_below}
use Rattle.base.specs.First.{least, nth_lowest, some_if, ◌or_else◌}
use Rattle.base.proofs.BelowLaws.{below_step, count-step, count_le, count_lt}
use Rattle.base.proofs.FirstLaws.{first_step, nth_at}
use Rattle.base.proofs.ListLaws.{get_or-replicate_all}
use Rattle.edit.specs.Nodes.{is_kind, Listed}

-- the k-th lowest below n + 1: below n, or n itself
nth_step : (n : ℕ) (p : ℕ → Bool) (k : ℕ) → nth_lowest (n + 1) p k ≡ nth_lowest n p k or_else some_if (p n and eqb (count_below n p) k) n
unfolding nth_lowest least
nth_step n p k = first_step n _

-- what has its place below n has it below n + 1
nth_keeps : (n : ℕ) (p : ℕ → Bool) (k x : ℕ) → nth_lowest n p k ≡ Some x → nth_lowest (n + 1) p k ≡ Some x
unfolding ◌or_else◌
nth_keeps n p k x e = nth_step n p k ∙ rw e

-- none has the place that the next to come will have
nth_next : (n : ℕ) (p : ℕ → Bool) → nth_lowest n p (count_below n p) ≡ None
nth_next n p = go (nth_lowest n p (count_below n p)) refl
  where
    go : (o : Option ℕ) → nth_lowest n p (count_below n p) ≡ o → o ≡ None
    go None e = refl
    go (Some x) e =
        let r = nth_at n p (count_below n p) x e in
        let l = count_lt p x n r.0 r.1 in
        absurd (omega (arith, r.2))

nth_new : (n : ℕ) (p : ℕ → Bool) → p n ≡ true → nth_lowest (n + 1) p (count_below n p) ≡ Some n
unfolding ◌or_else◌ some_if ◌and◌
nth_new n p e = nth_step n p (count_below n p) ∙ rw (nth_next n p, e, eq-eqb (count_below n p) (count_below n p) refl)

pub listed-none : (kinds : List ℕ) (kind : ℕ) → Listed 0 kinds kind (replicate 16 0) 0
unfolding count_below
listed-none kinds kind = record {
  long = refl;
  total = refl;
  each = λ j h. absurd (omega arith);
  rest = λ j h. get_or-replicate_all 16 j 0;
}

module _ (s : ℕ) (kinds : List ℕ) (kind : ℕ) (node : List ℕ) (size : ℕ) (l : Listed s kinds kind node size) where
  pub listed-few : size ≤ s
  listed-few = let a = count_le s (is_kind kinds kind) in omega (arith, l.total)

  pub listed_skip : (get_or kinds s 0 ≡ kind → ⊥) → Listed (s + 1) kinds kind node size
  listed_skip ne = record {
    long = l.long;
    total = l.total ∙ sym (count-step s (is_kind kinds kind) ∙ ap (λ (b : Bool). count_below s (is_kind kinds kind) + bit b) (ne_eqb _ _ ne) ∙ add-zero _);
    each = λ j h. nth_keeps s (is_kind kinds kind) j _ (l.each j h);
    rest = l.rest;
  }

  pub listed_more : s < 16 → get_or kinds s 0 ≡ kind → Listed (s + 1) kinds kind (set node size s) (size + 1)
  listed_more h e =
      let few = listed-few in
      let room : size < length node = omega (arith, l.long) in
      record {
        long = simp length-set l.long;
        total = ap (λ (z : ℕ). z + 1) l.total ∙ sym
            (count-step s (is_kind kinds kind) ∙ ap (λ (b : Bool). count_below s (is_kind kinds kind) + bit b) (eq-eqb _ _ e));
        each = λ j q. ⊎_elim
            (λ w. ap (nth_lowest (s + 1) (is_kind kinds kind)) (w ∙ l.total) ∙ nth_new s (is_kind kinds kind) (eq-eqb _ _ e)
            ∙ ap {B = Option ℕ} Some (sym (ap (λ (z : ℕ). get_or (set node size s) z 0) w ∙ get_or-set_same node size s 0 room)))
            (λ w. nth_keeps s (is_kind kinds kind) j _ (l.each j w)
            ∙ ap {B = Option ℕ} Some (sym (get_or-set_other node size j s 0 (λ z. absurd (omega arith)))))
            (below_step q);
        rest = λ j q. get_or-set_other node size j s 0 (λ z. absurd (omega arith)) ∙ l.rest j (omega arith);
      }

-- ---- the list without the rest of its array

-- all nodes of a kind among the first k, ascending
pub record Ascending (k : ℕ) (kinds : List ℕ) (kind : ℕ) (nodes : List ℕ) : Type 0 where
  pub total : length nodes ≡ count_below k (is_kind kinds kind)
  pub each : (j : ℕ) → j < length nodes → nth_lowest k (is_kind kinds kind) j ≡ Some (get_or nodes j 0)

pub listed_first : {k : ℕ} {kinds : List ℕ} {kind : ℕ} {node : List ℕ} {size : ℕ} → k ≤ 16 → Listed k kinds kind node size
    → Ascending k kinds kind (take size node)
listed_first {k} {kinds} {kind} {node} {size} few l =
    let below : size ≤ k = listed-few _ _ _ _ _ l in
    let long : length (take size node) ≡ size = length-take-le size node (omega (arith, l.long)) in
    record {
      total = long ∙ l.total;
      each = λ j h. l.each j (omega arith) ∙ ap {B = Option ℕ} Some (sym (get_or-take size node j 0 (omega arith)));
    }

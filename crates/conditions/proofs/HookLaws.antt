-- The test of a hook, and the search for a left node that is not reached.
use Prim.Native.Nat.{ℕ, ◌+◌, ◌*◌, ◌≤◌, ◌<◌}
use mathlib.Core.Path.{◌≡◌, refl, sym, ap, ap₂, ◌∙◌}
use mathlib.Core.Logic.{⊎_elim}
use mathlib.Core.Bool.{Bool, true, false, not, true≢false}
use mathlib.Core.List.{List}
use native.Mathlib.Omega.{arith}
use lib.ListN.{length, get_or}
use lib.Dec.{eqb}
use borrow.Author.Tests.{eqb-true, eqb-false, eq-eqb, ne_eqb}
use Rattle.std.specs.Prelude.{Option, Some, None}
use Rattle.base.specs.Test.{◌and◌, ◌or◌}
use Rattle.base.specs.Below.{all_below}
use Rattle.base.specs.First.{least, there}
use Rattle.base.proofs.BelowLaws.{all_not, all_same}
use Rattle.base.proofs.FirstLaws.{least-same, least-none}
use Rattle.base.proofs.ListLaws.{get_or_inside}
use Rattle.base.proofs.TestLaws.{or_left, or_right, true_or_false}
use Rattle.model.specs.Bytes.{on_side}
use Rattle.model.specs.Scheme.{left, kind, orbit_dim, has, first_hook}
use Rattle.model.specs.Conditions.{path_to, hook_ok}
use Rattle.model.specs.Shaped.{Shaped}
use Rattle.model.specs.declared.Scheme.{Scheme}
use Rattle.model.proofs.AcceptedLaws as AcceptedLaws
use Rattle.conditions.specs.Tree.{Lefts, TreeOf}
use Rattle.conditions.specs.declared.tree.Tree.{Tree}
use Rattle.conditions.specs.Hook.{hooked_by, left_out, hook_by}

module _ (places : ℕ) (orbit kinds words : List ℕ) (s : ℕ) where
  abbrev pub Read : ℕ → Bool
  Read p = eqb (get_or words (4 * s + p) 0) (get_or orbit p 0)

  pub hook-added : get_or kinds s 0 ≡ 3 → false ≡ hooked_by places orbit kinds words s
  unfolding hooked_by ◌and◌
  hook-added e = rw (eq-eqb _ _ e)

  module _ (ne : get_or kinds s 0 ≡ 3 → ⊥) where
    pub hook-other : (p : ℕ) → p < places → (get_or words (4 * s + p) 0 ≡ get_or orbit p 0 → ⊥) → false ≡ hooked_by places orbit kinds words s
    unfolding hooked_by ◌and◌
    hook-other p h d = rw (ne_eqb _ _ ne, all_not places Read p h (ne_eqb _ _ d))

    pub hook-whole : (p : ℕ) → p ≤ places → places ≤ p → all_below p Read ≡ true → true ≡ hooked_by places orbit kinds words s
    unfolding hooked_by ◌and◌
    hook-whole p l h e =
        let same : p ≡ places = omega arith in
        let f : all_below places Read ≡ true = rw same at e in
        rw (ne_eqb _ _ ne, f)

-- ---- the search

module _ (kinds : List ℕ) (reached : List Bool) (s : ℕ) where
  pub out-added : get_or kinds s 0 ≡ 3 → left_out kinds reached s ≡ false
  unfolding left_out ◌and◌
  out-added e = rw (eq-eqb _ _ e)

  pub out-left : (get_or kinds s 0 ≡ 3 → ⊥) → left_out kinds reached s ≡ not (get_or reached s false)
  unfolding left_out ◌and◌
  out-left ne = rw (ne_eqb _ _ ne)

-- ---- the hook's fault, from the tests of the first hook and the second

module _ (places : ℕ) (orbit kinds words : List ℕ) (second : ℕ) (out : Option ℕ) {b : Bool} (e : b ≡ hooked_by places orbit kinds words first_hook) where
  pub first-wrong : b ≡ false → Some first_hook ≡ hook_by places orbit kinds words second out
  unfolding hook_by
  first-wrong q = rw (sym e ∙ q)

  module _ (q : b ≡ true) {d : Bool} (g : d ≡ hooked_by places orbit kinds words second) where
    pub second-wrong : d ≡ false → Some second ≡ hook_by places orbit kinds words second out
    unfolding hook_by
    second-wrong r = rw (sym e ∙ q, sym g ∙ r)

    pub hooks-right : d ≡ true → out ≡ hook_by places orbit kinds words second out
    unfolding hook_by
    hooks-right r = rw (sym e ∙ q, sym g ∙ r)

  -- if there is no second hook, node 0 is tested again in its place
  pub no_second : b ≡ true → second ≡ first_hook → out ≡ hook_by places orbit kinds words second out
  no_second q z = hooks-right q (e ∙ ap (hooked_by places orbit kinds words) (sym z)) q

-- ---- whether the walk over targets was enough

-- if the search finds nothing, every left node is reached
pub none_out : (nodes : ℕ) (kinds : List ℕ) (reached : List Bool) → None ≡ least nodes (left_out kinds reached)
    → (s : ℕ) → s < nodes → (get_or kinds s 0 ≡ 3 → ⊥) → get_or reached s false ≡ true
none_out nodes kinds reached e s h ne =
    go (get_or reached s false) (sym (out-left kinds reached s ne) ∙ least-none nodes (left_out kinds reached) (sym e) s h)
  where
    go : (b : Bool) → not b ≡ false → b ≡ true
    go true q = refl
    go false q = sym q

-- ---- what they say of a scheme

left_is : (k : ℕ) → 1 ≤ k → k ≤ 3 → on_side left k ≡ not (eqb k 3)
unfolding ◌or◌
left_is k l h = go (eqb k 3) refl
  where
    go : (b : Bool) → eqb k 3 ≡ b → (eqb k 1 or eqb k 2) ≡ not b
    go true e = ap (λ (z : ℕ). eqb z 1 or eqb z 2) (eqb-true k 3 e)
    go false e = ⊎_elim
        (λ a. or_left (eqb k 2) a)
        (λ a. or_right (eqb k 1) (let x = eqb-false k 3 e in let y = eqb-false k 1 a in eq-eqb k 2 (omega arith)))
        (true_or_false (eqb k 1))

module _ (S : Scheme) (f : Shaped S) where
  side_left : (s : ℕ) → s < S.nodes → has S left s ≡ not (eqb (kind S s) 3)
  side_left s h = let k = f.kinds s h in left_is (kind S s) k.0 k.1

  -- left arcs join nodes that are not added
  pub lefts : Lefts S.nodes S.kinds S.larcs S.lcount
  lefts = record {
    from = λ a h. let e = (f.sides left).from a h in (e.0, not_added _ e.0 e.1);
    to = λ a h. let e = (f.sides left).to a h in (e.0, not_added _ e.0 e.1);
  }
    where
      not_added : (s : ℕ) → s < S.nodes → has S left s ≡ true → get_or S.kinds s 0 ≡ 3 → ⊥
      not_added s h e q = true≢false (sym e ∙ side_left s h ∙ ap not (eq-eqb _ _ q))

  pub hook-is : length S.lwords ≡ 64 → (s : ℕ) → s < S.nodes → hook_ok S s ≡ hooked_by S.places S.orbit S.kinds S.lwords s
  unfolding hook_ok hooked_by
  hook-is long s l = ap₂ ◌and◌ (side_left s l) (all_same S.places _ _ (λ p h.
      let a = f.places_few in
      let b = AcceptedLaws.small S f in
      let c = f.nodes_few in
      ap (λ (z : ℕ). eqb z (orbit_dim S p)) (get_or_inside S.lwords (4 * s + p) 255 0 (omega arith))))

  -- the least left node to which no path leads
  pub unreached_is : (t : Tree) → TreeOf S t
      → least S.nodes (λ s. has S left s and not (there (path_to S s))) ≡ least S.nodes (left_out S.kinds t.reached)
  unfolding left_out
  unreached_is t g = least-same S.nodes _ _ (λ s h. ap₂ (λ (a b : Bool). a and not b) (side_left s h) (sym (g.reached s h)))

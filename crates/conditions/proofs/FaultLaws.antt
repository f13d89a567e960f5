-- The faults of a scheme in their order.
use Prim.Native.Nat.{ℕ, ◌≤◌, ◌<◌}
use mathlib.Core.Path.{◌≡◌, refl, sym, ◌∙◌}
use mathlib.Core.Bool.{Bool, true, false, not, cond}
use Rattle.std.specs.Prelude.{Option, Some, None, Result, Ok, Err, ⊤}
use mathlib.Core.List.{List}
use native.Mathlib.Omega.{arith}
use lib.ListN.{length}
use Rattle.base.specs.First.{least, some_if, ◌or_else◌}
use Rattle.model.specs.Scheme.{left, right, first_hook}
use Rattle.model.specs.Conditions.{hook_fault, noted, scheme_fault}
use Rattle.model.specs.Twice.{twice_of}
use Rattle.model.specs.Shaped.{Shaped}
use Rattle.model.specs.declared.Scheme.{Scheme}
use Rattle.model.specs.Answer.{fault_of}
use Rattle.model.specs.declared.Refusal.{Refusal}
use Rattle.model.specs.declared.Refusal.TheVariants.{BadHook}
use Rattle.model.proofs.AcceptedLaws as AcceptedLaws
use Rattle.model.proofs.HookLaws.{wrong-hook}
use Rattle.model.specs.Shaped.{Coded}
use Rattle.conditions.specs.Arcs.{Joining}
use Rattle.conditions.specs.Tree.{Aimed, Lefts, Spanning, TreeOf}
use Rattle.conditions.specs.Hook.{hooked_by, left_out, hook_by}
use Rattle.incidence.specs.Incidence.{arcs_fault}
use Rattle.incidence.specs.Cycles.{Coding}
use Rattle.conditions.specs.Verdict.{hook_else, fault_by}
use Rattle.conditions.specs.declared.tree.Tree.{Tree}
use Rattle.model.proofs.CodeLaws.{coded}
use Rattle.conditions.proofs.AimLaws.{joins, aimed}
use Rattle.conditions.proofs.SpanLaws.{tree_of}
use Rattle.conditions.proofs.HookLaws.{lefts, hook-is, unreached_is}
use Rattle.incidence.proofs.IncidenceLaws.{incidence-is}
use Rattle.incidence.proofs.CycleIsLaws.{coding, cycle_is}

-- what the trees of a scheme's left arcs are built from
pub tree_asks : (S : Scheme) (f : Shaped S)
    → ((S.nodes ≤ 16) × (S.second < 16)) × (Joining S.larcs S.lcount × (Aimed S.ltargets S.larcs S.lcount × Lefts S.nodes S.kinds S.larcs S.lcount))
tree_asks S f = ((f.nodes_few, AcceptedLaws.node-small S f S.second f.second_below), (joins S f left, (aimed S f left, lefts S f)))

-- ---- the first fault of a scheme, from its trees and tables

module _ (S : Scheme) (f : Shaped S) (lefts rights : List ℕ) (cl : Coded S left lefts) (cr : Coded S right rights) where
  pub fault_asks : ((2 ≤ S.n) × (S.n ≤ 3) × (S.places ≤ 4) × (S.nodes ≤ 16) × (S.second < 16)) × (Coding S.nodes lefts × Coding S.nodes rights)
  fault_asks =
      let d = AcceptedLaws.small S f in
      let two = AcceptedLaws.at_least_two S f in
      let k = f.places_few in
      ((two, d, omega arith, f.nodes_few, AcceptedLaws.node-small S f S.second f.second_below), (coding S f left lefts cl, coding S f right rights cr))

  module _ (long : length S.lwords ≡ 64) (t : Tree) (g : TreeOf S t) (ltwice rtwice : List Bool) (tl : ltwice ≡ twice_of S left)
      (tr : rtwice ≡ twice_of S right) where
    hook-found : hook_fault S ≡ hook_by S.places S.orbit S.kinds S.lwords S.second (least S.nodes (left_out S.kinds t.reached))
    unfolding hook_fault hook_by some_if ◌or_else◌
    hook-found = rw (wrong-hook S f, hook-is S f long first_hook f.nodes_some, hook-is S f long S.second f.second_below, unreached_is S f t g)
        (go (hooked_by S.places S.orbit S.kinds S.lwords first_hook) (hooked_by S.places S.orbit S.kinds S.lwords S.second)
        (least S.nodes (left_out S.kinds t.reached)))
      where
        go : (h k : Bool) (o : Option ℕ) → (some_if (not h) first_hook or_else some_if (not k) S.second) or_else o
            ≡ cond h (cond k o (Some S.second)) (Some first_hook)
        go true true o = refl
        go true false o = refl
        go false k o = refl

    pub fault-is : (out : Option ℕ) → out ≡ least S.nodes (left_out S.kinds t.reached)
        → (r : Result ⊤ Refusal) → r ≡ fault_by S.n S.places S.nodes S.orbit S.kinds S.lwords S.second out lefts rights ltwice rtwice
        → r ≡ fault_of (scheme_fault S)
    unfolding scheme_fault fault_by arcs_fault ◌or_else◌
    fault-is out eo r e = rw (incidence-is S f lefts rights ltwice rtwice cl cr tl tr, cycle_is S f lefts rights cl cr)
        (rw (eo, sym hook-found) at e ∙ go (hook_fault S) _)
      where
        go : (o : Option ℕ) (q : Option Refusal) → hook_else o (fault_of q) ≡ fault_of (noted BadHook o or_else q)
        go None q = refl
        go (Some x) q = refl

-- what a search for a refusal comes to in code tells what it finds
pub fault_none : (o : Option Refusal) → Ok tt ≡ fault_of o → o ≡ None
fault_none None e = refl
fault_none (Some f) e = absurd (cc)

pub fault_some : (o : Option Refusal) (f : Refusal) → Err f ≡ fault_of o → o ≡ Some f
fault_some None f e = absurd (cc)
fault_some (Some g) f e = cc

-- ---- hook, then arcs

module _ (n places nodes : ℕ) (orbit kinds words : List ℕ) (second : ℕ) (out : Option ℕ) (lefts rights : List ℕ) (ltwice rtwice : List Bool)
    (h : Option ℕ) (eh : h ≡ hook_by places orbit kinds words second out) where
  pub fault-hook : (x : ℕ) → h ≡ Some x → Err (BadHook x) ≡ fault_by n places nodes orbit kinds words second out lefts rights ltwice rtwice
  unfolding fault_by
  fault-hook x e = let o = sym eh ∙ e in rw o

  pub fault-arcs : h ≡ None → (r : Result ⊤ Refusal) → r ≡ arcs_fault n nodes orbit kinds lefts rights ltwice rtwice
      → r ≡ fault_by n places nodes orbit kinds words second out lefts rights ltwice rtwice
  unfolding fault_by
  fault-arcs e r g = let o = sym eh ∙ e in rw o g

-- ---- what judging comes to

-- the trees, however their number of entries was worked out
pub sized : (S : Scheme) (t : Tree) → TreeOf S t → (k : ℕ) → k ≡ t.size → TreeOf S (record t { size = k })
sized S t x k e = rw e x

module _ (S : Scheme) (f : Shaped S) (long : length S.lwords ≡ 64) (t : Tree) (g : Spanning S.larcs S.lcount S.second t) (ltwice rtwice : List Bool)
    (tl : ltwice ≡ twice_of S left) (tr : rtwice ≡ twice_of S right) (out : Option ℕ) (eo : out ≡ least S.nodes (left_out S.kinds t.reached))
    (r : Result ⊤ Refusal)
    (e : r ≡ fault_by S.n S.places S.nodes S.orbit S.kinds S.lwords S.second out S.ltargets S.rtargets ltwice rtwice) where
  pub judged : r ≡ fault_of (scheme_fault S)
  judged = fault-is S f S.ltargets S.rtargets (coded S f left) (coded S f right) long t (tree_of S f t g) ltwice rtwice tl tr out eo r e

  pub judge-accepted : r ≡ Ok tt → (scheme_fault S ≡ None) × TreeOf S t
  judge-accepted q = (fault_none _ (sym q ∙ judged), tree_of S f t g)

  pub judge-refused : (a : Refusal) → r ≡ Err a → scheme_fault S ≡ Some a
  judge-refused a q = fault_some _ a (sym q ∙ judged)

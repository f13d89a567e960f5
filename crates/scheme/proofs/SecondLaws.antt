-- The second hook as it is read.
use Prim.Native.Nat.{ℕ, ◌≤◌, ◌<◌}
use mathlib.Core.Path.{◌≡◌, sym, ap, ◌∙◌}
use mathlib.Core.Bool.{Bool, true, false, cond, not, true≢false}
use mathlib.Core.List.{List}
use native.Mathlib.Omega.{arith}
use lib.ListN.{get_or}
use lib.Dec.{eqb}
use Rattle.base.specs.Test.{bit}
use Rattle.base.specs.Below.{all_below}
use Rattle.base.proofs.TestLaws.{impossible, same_test}
use Rattle.model.specs.Bytes.{byte, names_second, nodes_of, node_at, hook_bytes, second_of, arcs_at}
use Rattle.model.specs.Scheme.{left, node_form, second_form, scheme_of}
use Rattle.frame.specs.Place.{TakenAt}
use Rattle.frame.specs.Frame.{LaidOut}
use Rattle.frame.specs.declared.cursor.Cursor.{Cursor}
use Rattle.frame.specs.declared.Layout.{Layout}
use Rattle.model.proofs.FormLaws.{SecondParts, second_parts, second-whole, second_none}
use Rattle.scheme.proofs.NodeLaws.{held-left}

module _ (b : List ℕ) (l : Layout) (laid : LaidOut b l) {from : ℕ} (place : from ≡ node_at b (nodes_of b)) where
  -- ---- none is named

  unnamed : l.hook ≡ false → names_second b ≡ false
  unnamed e = sym laid.headed.hook_is ∙ e

  pub none-formed : l.hook ≡ false → true ≡ second_form b
  none-formed e = sym (second-whole b (λ q. absurd (true≢false (sym q ∙ unnamed e))))

  pub none_read : l.hook ≡ false → (0 ≡ second_of b) × (from ≡ arcs_at b left)
  unfolding hook_bytes
  none_read e = let none = ap bit (unnamed e) in (sym (second_none b (unnamed e)), omega arith)

  -- ---- one is named: the byte at the place

  module _ (some : l.hook ≡ true) {r : ℕ × Cursor} (t : TakenAt b from r) where
    named : names_second b ≡ true
    named = sym laid.headed.hook_is ∙ some

    pub some_read : (r.0 ≡ second_of b) × (r.1.at ≡ arcs_at b left)
    unfolding second_of hook_bytes
    some_read =
        let n = named in
        let one : hook_bytes b ≡ 1 = ap bit n in (
          t.value_is ∙ ap (byte b) place ∙ sym (ap (λ (c : Bool). cond c (byte b (node_at b (nodes_of b))) 0) n),
          omega (arith, t.next_is),
        )

    -- a second hook that breaks a part of the form is not in the form
    wrong : (SecondParts b → ⊥) → false ≡ second_form b
    wrong f = sym (impossible (second_form b) (λ q. f (second_parts b q named)))

    -- node 0 is named
    pub first-named : r.0 ≡ 0 → false ≡ second_form b
    first-named e = let s = some_read.0 in wrong (λ p. omega arith)

    -- no node is named
    pub no_node : l.nodes ≤ r.0 → false ≡ second_form b
    no_node h = let s = some_read.0 in let n = laid.headed.nodes_is in wrong (λ p. omega arith)

    -- a node other than node 0 is named: its kind decides
    pub some-formed : {kinds : List ℕ} {at : ℕ} → all_below (nodes_of b) (node_form b) ≡ true → kinds ≡ (scheme_of b).kinds → at ≡ r.0
        → (r.0 ≡ 0 → ⊥) → r.0 < l.nodes → not (eqb (get_or kinds at 0) 3) ≡ second_form b
    some-formed nodes k e h n =
        let hd = laid.headed in
        let s = some_read.0 in
        let below : second_of b < nodes_of b = omega arith in
        held-left b (omega arith) k nodes (second_of b) (e ∙ s) below ∙ same_test _ _
        (λ q. second-whole b (λ m. record { other = omega arith; node = below; on_left = q }))
        (λ q. (second_parts b q named).on_left)

-- `scheme::nodes::read_node` meets its contract.
use Prim.Native.Nat.{◌+◌}
use mathlib.Core.Path.{◌≡◌, sym, ap, ◌∙◌}
use mathlib.Core.Logic.{⊎_elim}
use native.Mathlib.Omega.{arith}
use Rattle.std.specs.Option.{is_some}
use Rattle.base.specs.Test.{bit}
use Rattle.model.specs.Bytes.{byte, node_at, kind_at}
use Rattle.model.specs.Scheme.{left, right}
use Rattle.model.proofs.NodePlaceLaws.{node-next}
use Rattle.frame.proofs.FrameLaws.{node-after, node-inside}
use Rattle.scheme.proofs.WordLaws.{word-placed}
use Rattle.scheme.proofs.NodeLaws.{node-low, node_high, node-left, node-right, passed-more}
use Rattle.scheme.proofs.nodes.read_node.Goals as goal
use Rattle.scheme.proofs.nodes.read_node.Goals.{After-take-kind, After-donor_bytes}

-- the kind of the node, and the place after it
took : (c : After-take-kind) → let a = c.args in
    (c.take-kind.result.0 ≡ kind_at a.bytes.now a.s) × (c.take-kind.result.1.at ≡ node_at a.bytes.now a.s + 1)
took c =
    let p = c.requires.before.place_is in
    (c.take-kind.ensures.value_is ∙ ap (byte c.args.bytes.now) p, omega (arith, c.take-kind.ensures.next_is, p))

-- the place after the words of the node and its donor
after : (c : After-donor_bytes) → let a = c.args in c.take-kind.result.0 ≡ kind_at a.bytes.now a.s
    → c.take-kind.result.1.at ≡ node_at a.bytes.now a.s + 1
    → c.in_ok-third.third.at + c.donor_bytes.result ≡ node_at a.bytes.now (a.s + 1)
after c kind next =
    let left = c.in_ok-second.ensures.after_word in
    let right = c.in_ok-third.ensures.after_word in
    let donors = c.from.ensures ∙ ap bit c.requires.laid_out.headed.donors_is in
    node-after _ _ donors kind (omega arith) c.donor_bytes.ensures

pub take-kind-requires : goal.take-kind-requires
take-kind-requires c = omega (arith, node-inside _ _ c.requires.laid_out _ c.requires.s_bound, c.requires.before.place_is)

pub returns-then-kind-lt1-clause-formed : goal.returns-then-kind-lt1-clause-formed
returns-then-kind-lt1-clause-formed c =
    let t = took (goal.at.returns-then-kind-lt1-clause-formed c).After-take-kind in
    ⊎_elim (λ h. node-low _ _ (rw t.0 at h)) (λ h. node_high _ _ (rw t.0 at h.1)) c.then-kind-lt1.either

pub read_side-requires-clause-placed : goal.read_side-requires-clause-placed
read_side-requires-clause-placed c =
    let t = took (goal.at.read_side-requires-clause-placed c).After-take-kind in
    word-placed _ _ c.requires.laid_out left c.requires.s_bound t.0 (omega arith) (omega arith) c.from-places.ensures t.1

pub returns-in_err-second-clause-formed : goal.returns-in_err-second-clause-formed
returns-in_err-second-clause-formed c = ap is_some c.from_residual.ensures ∙ node-left _ _ (sym c.in_err-second.ensures.formed)

pub read_side-requires-2-clause-placed : goal.read_side-requires-2-clause-placed
read_side-requires-2-clause-placed c =
    let t = took (goal.at.read_side-requires-2-clause-placed c).After-take-kind in
    let next = c.in_ok-second.ensures.after_word in
    word-placed _ _ c.requires.laid_out right c.requires.s_bound t.0 (omega arith) (omega arith) c.from-places.ensures (omega arith)

pub returns-in_err-third-clause-formed : goal.returns-in_err-third-clause-formed
returns-in_err-third-clause-formed c =
    let t = took (goal.at.returns-in_err-third-clause-formed c).After-take-kind in
    ap is_some c.from_residual-in_err-third.ensures
    ∙ node-right _ _ (omega arith) (omega arith) (sym c.in_ok-second.ensures.formed) c.in_err-third.ensures.formed

pub overflow_add-result : goal.overflow_add-result
overflow_add-result c =
    let t = took (goal.at.overflow_add-result c).After-take-kind in
    let end = after (goal.at.overflow_add-result c).After-donor_bytes t.0 t.1 in
    let b = c.args.bytes.now in
    omega (arith, node-next b c.args.s, node-inside b _ c.requires.laid_out c.args.s c.requires.s_bound)

pub returns : goal.returns
returns c =
    let t = took (goal.at.returns c).After-take-kind in
    let l = c.in_ok-second.ensures in
    let r = c.in_ok-third.ensures in
    let formed = node-right c.args.bytes.now c.args.s (omega arith) (omega arith) (sym l.formed) r.formed in
    let end = after (goal.at.returns c).After-donor_bytes t.0 t.1 in
    let h = c.requires.laid_out.headed in
    record {
      formed = formed;
      passed = passed-more _ c.requires.before (omega arith) (sym formed) end t.0 l.words_after r.words_after l.targets_after r.targets_after;
    }

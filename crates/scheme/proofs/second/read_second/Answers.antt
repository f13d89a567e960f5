-- `scheme::second::read_second` meets its contract.
use Prim.Native.Nat.{ℕ}
use mathlib.Core.Path.{◌≡◌, ap, ◌∙◌}
use mathlib.Core.Logic.{⊎_elim}
use borrow.Author.Tests.{not-true, not-false}
use Rattle.std.specs.Option.{is_some}
use Rattle.model.specs.Bytes.{second_of, arcs_at}
use Rattle.model.specs.Scheme.{left}
use Rattle.frame.specs.declared.cursor.Cursor.{Cursor}
use Rattle.frame.proofs.OptionLaws.{is_some-then_some, IfSome-then_some}
use Rattle.scheme.proofs.SecondLaws.{none-formed, none_read, some_read, first-named, no_node, some-formed}
use Rattle.scheme.proofs.second.read_second.Goals as goal

pub returns-then-not-l : goal.returns-then-not-l
returns-then-not-l c =
    let p = c.requires.laid_out in
    let at = c.requires.after_nodes in
    let e = not-true _ c.if-not-l.true in
    record { formed = none-formed _ _ p at e; hook_read = none_read _ _ p at e }

pub returns-then-hook-eq0-clause-formed : goal.returns-then-hook-eq0-clause-formed
returns-then-hook-eq0-clause-formed c =
    let p = c.requires.laid_out in
    let at = c.requires.after_nodes in
    let some = not-false _ c.if-not-l.false in
    ⊎_elim (λ h. first-named _ _ p at some c.take-hook.ensures h) (λ h. no_node _ _ p at some c.take-hook.ensures h.1)
    c.then-hook-eq0.either

pub returns : goal.returns
returns c =
    let p = c.requires.laid_out in
    let at = c.requires.after_nodes in
    let some = not-false _ c.if-not-l.false in
    let given = c.then_some.ensures in
    let b = c.args.bytes.now in
    record {
      formed = ap is_some given ∙ is_some-then_some _ _
          ∙ some-formed _ _ p at some c.take-hook.ensures c.requires.nodes_formed c.requires.kinds_are c.from.ensures c.if-hook-eq0.false c.if-l-hook.false;
      hook_read = rw given (IfSome-then_some (λ (r : ℕ × Cursor). (r.0 ≡ second_of b) × (r.1.at ≡ arcs_at b left)) _ _
          (λ e. some_read _ _ p at some c.take-hook.ensures));
    }

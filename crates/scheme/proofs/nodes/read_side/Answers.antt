-- `scheme::nodes::read_side` meets its contract.
use mathlib.Core.Path.{sym, ◌∙◌}
use native.Mathlib.Omega.{arith}
use Rattle.frame.proofs.OptionLaws.{IfSome_tested}
use Rattle.scheme.proofs.WordLaws.{on-form, on_value, on-targets, off-form, off-value, off-targets, targets_clear}
use Rattle.scheme.proofs.nodes.read_side.Goals as goal

pub returns-then-kind-barred : goal.returns-then-kind-barred
returns-then-kind-barred c =
    let w = c.requires.placed in
    let r = c.past_empty.ensures in
    let off = c.if-kind-barred.true ∙ c.barred.ensures in
    record {
      formed = off-form _ _ _ _ _ _ _ w off r.formed;
      after_word = IfSome_tested _ r.formed r.after_word (λ x p e. p ∙ omega (arith, w.places_is));
      words_after = IfSome_tested _ r.formed r.after_word (λ x p e. off-value _ _ _ _ _ _ _ w c.requires.words_filled e);
      targets_after = IfSome_tested _ r.formed r.after_word (λ x p e. off-targets _ _ _ _ _ _ _ w c.requires.targets_filled e);
    }

pub read_word-requires-clause-row_clear : goal.read_word-requires-clause-row_clear
read_word-requires-clause-row_clear c = targets_clear _ _ _ _ _ _ _ c.requires.placed c.requires.targets_filled

pub returns : goal.returns
returns c =
    let w = c.requires.placed in
    let r = c.read_word.ensures in
    record {
      formed = on-form _ _ _ _ _ _ _ w (λ e. c.if-kind-barred.false (e ∙ sym c.barred.ensures)) r.formed;
      after_word = IfSome_tested _ r.formed r.after_word (λ x p e. p ∙ omega (arith, w.places_is));
      words_after = IfSome_tested _ r.formed r.words_after (λ x p e. p ∙ on_value _ _ _ _ _ _ _ w c.requires.words_filled);
      targets_after = IfSome_tested _ r.formed r.targets_after (λ x p e. p ∙ on-targets _ _ _ _ _ _ _ w w.dim c.requires.targets_filled e);
    }

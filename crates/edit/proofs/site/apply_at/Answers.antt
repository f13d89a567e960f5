-- `edit::site::apply_at` meets its contract.
use mathlib.Core.Path.{sym, ◌∙◌}
use Rattle.base.proofs.TestLaws.{and_no_left, and_no_right}
use Rattle.model.specs.Map.{view}
use Rattle.table.proofs.SurveyLaws.{survey_live, survey_broken}
use Rattle.edit.proofs.SiteLaws.{other-dimension, bad-table, no_dart, sound, applied, unused-left}
use Rattle.edit.proofs.site.apply_at.Goals as goal
use Rattle.edit.proofs.site.apply_at.Goals.{then-not-is_dart-via-then-not-is_dart, then-not-is_dart-via-else-not-is_dart+then-not-is_dart-2}

pub returns-then-from-n : goal.returns-then-from-n
returns-then-from-n c = other-dimension _ c.from.ensures c.if-from-n.true

pub returns-in_default : goal.returns-in_default
returns-in_default c =
    bad-table (sym c.from.ensures ∙ c.if-from-n.false) (survey_broken _ _ _ c.survey.ensures c.in_default.is)

pub returns-then-not-is_dart : goal.returns-then-not-is_dart
returns-then-not-is_dart c =
    let same = sym c.from.ensures ∙ c.if-from-n.false in
    let lives = survey_live _ _ _ c.survey.ensures _ c.in-Some.is in
    no_dart same lives.0 (elim c.then-not-is_dart.branch [
      | then-not-is_dart-via-then-not-is_dart w ↦ and_no_left _ (sym c.is_dart.ensures ∙ w.if-not-is_dart.true)
      | then-not-is_dart-via-else-not-is_dart+then-not-is_dart-2 w ↦ and_no_right _ (sym w.is_dart-else-not-is_dart.ensures ∙ w.if-not-is_dart-2.true)
    ])

pub overflow_sub-slots : goal.overflow_sub-slots
overflow_sub-slots c =
    let lives = survey_live _ _ _ c.survey.ensures _ c.in-Some.is in
    (unused-left c.args.n (view c.args.slots c.args.table.now) _ lives.0 lives.1).0

pub apply-requires : goal.apply-requires
apply-requires c =
    let same = sym c.from.ensures ∙ c.if-from-n.false in
    let lives = survey_live _ _ _ c.survey.ensures _ c.in-Some.is in
    let dart = sym c.is_dart.ensures ∙ c.if-not-is_dart.false in
    let other = sym c.is_dart-else-not-is_dart.ensures ∙ c.if-not-is_dart-2.false in
    record {
      sized = c.requires.sized;
      sound = sound same lives.0 dart other c.requires.accepted c.requires.other_value;
      tree_of = c.requires.tree_of;
      room_value = (unused-left c.args.n (view c.args.slots c.args.table.now) _ lives.0 lives.1).1;
      store_len = c.requires.store_len;
    }

pub returns : goal.returns
returns c =
    let same = sym c.from.ensures ∙ c.if-from-n.false in
    let lives = survey_live _ _ _ c.survey.ensures _ c.in-Some.is in
    let dart = sym c.is_dart.ensures ∙ c.if-not-is_dart.false in
    let other = sym c.is_dart-else-not-is_dart.ensures ∙ c.if-not-is_dart-2.false in
    applied same lives.0 dart other c.apply.ensures

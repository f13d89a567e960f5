-- The edited map is the rewriting that docs/RULES.md describes, statement by statement.
use Prim.Native.Nat.{ℕ, ◌<◌}
use mathlib.Core.Path.{◌≡◌, refl, sym, ap, ◌∙◌, subst}
use mathlib.Core.Logic.{⊎_elim}
use mathlib.Core.Bool.{true, true≢false}
use native.Mathlib.Omega.{arith}
use Rattle.base.proofs.TestLaws.{or_cases, impossible}
use Rattle.base.proofs.BelowLaws.{count_same}
use Rattle.model.specs.Scheme.{left, right, donor, first_hook, deleted, preserved}
use Rattle.model.specs.Site.{Site}
use Rattle.model.specs.Match.{image, Assignment}
use Rattle.model.specs.Edit.{is_free, rank, dart_of, edited}
use Rattle.model.specs.Rewriting.{Rewriting}
use Rattle.model.proofs.AcceptedLaws.{one_side, donor-left}
use Rattle.model.proofs.ArcLaws.{no_arc}
use Rattle.model.proofs.HookLaws.{first-hook, second-hook}
use Rattle.model.proofs.KindLaws.{right-stays, deleted-left, added-right, preserved-left, preserved-right, preserved_not_added}
use Rattle.model.proofs.RankLaws.{dart-left}
use Rattle.model.proofs.RoomLaws.{freed-at, free-same}
use Rattle.model.proofs.EditLaws as L
use Rattle.model.proofs.EditLaws.{Ready}

module _ {E : Site} (ready : Ready E) where
  open E use {map as m, scheme as S, orbit as O}
  open ready use {accepted as g, match as A}

  abbrev D : ℕ → ℕ → ℕ
  D = dart_of E

  -- the darts of the left pairs are their images
  assignment : Assignment E D
  assignment = record {
    darts = λ u b e s h l. subst (λ (x : ℕ). (x < m.slots) × (m.state x ≡ 1)) (sym (dart-left E u s l)) (A.darts u b e s h l);
    hook = λ u b e. dart-left E u first_hook (g.consistent.hooks first_hook (first-hook S)).kind ∙ A.hook u b e;
    second = dart-left E E.dart S.second (g.consistent.hooks S.second (second-hook S)).kind ∙ A.second;
    explicit_arc = λ u b e a h.
        let from = (g.shaped.sides left).from a h in
        let to = (g.shaped.sides left).to a h in
        let arc = A.explicit_arc u b e a h in (
          ap (m.link _) (dart-left E u _ from.1) ∙ arc.0 ∙ sym (dart-left E u _ to.1),
          ap (m.link _) (dart-left E u _ to.1) ∙ arc.1 ∙ sym (dart-left E u _ from.1),
        );
    implicit_arc = λ u b e s h l p k no. ap (m.link _) (dart-left E u s l) ∙ A.implicit_arc u b e s h l p k no ∙ sym (dart-left E _ s l);
    different = λ u b e s h l v c d t k r q. A.different u b e s h l v c d t k r (sym (dart-left E u s l) ∙ q ∙ dart-left E v t r);
  }

  -- the darts of the left pairs are all that the room hangs on
  free-dart : (x : ℕ) → is_free E D x ≡ is_free E (image E) x
  free-dart = free-same E D (image E) (λ u s e h l. dart-left E u s l)

  -- a deleted and a preserved pair have different darts
  kept-apart : (u s v t : ℕ) → O u ≡ true → s < S.nodes → O v ≡ true → t < S.nodes → deleted S s ≡ true → preserved S t ≡ true → D u s ≡ D v t → ⊥
  kept-apart u s v t e h f b d p q =
      let z = L.left_injective ready u s v t e f h b (deleted-left S s d) (preserved-left S t p) q in
      true≢false (sym d ∙ ap (deleted S) z.1 ∙ right-stays S t (preserved-right S t p))

  pub rewriting : Rewriting E (edited E) D
  unfolding rank edited
  rewriting = record {
    slots = refl;
    assigned = assignment;
    slot = λ u s e h a. (L.free-at ready u s e h a).0;
    was_free = λ u s e h a. free-dart _ ∙ (L.free-at ready u s e h a).1;
    in_order = λ u s e h a. count_same _ _ _ (λ x b. free-dart x) ∙ (L.free-at ready u s e h a).2;
    alive = λ u s e h r. L.state-pair ready u s e h r;
    explicit_link = λ u s i t e h r a. L.link-explicit ready u s e h r i t a;
    implicit_link = λ u s i p e h r a. L.link-implicit ready u s e h r i p a;
    new_tag = λ u s e h a. L.tag-new ready u s e h (added-right S s a) a
        ∙ ap m.tag (sym (dart-left E u (donor S s) (donor-left S g s h)));
    own_link = λ u s e h a n. L.link-own ready u s e h (added-right S s a) 3 a
        (no_arc S right (one_side g right) s 3 h (omega arith) (omega arith));
    kept_tag = λ u s e h k. L.tag-kept ready u s e h (preserved-right S s k) (preserved_not_added S s k);
    kept_link = λ u s i e h k a. L.link-kept ready u s e h (preserved-right S s k) i (preserved_not_added S s k) a;
    gone = λ u s e h d no k l. L.field_deleted ready u s e h k d (L.pair-none ready _ (λ v t f b r q. ⊎_elim
        (λ p. kept-apart u s v t e h f b d p (sym q))
        (λ a. no v t f b a q)
        (or_cases _ _ r)));
    others = λ x no k l. L.field_other ready k x (L.pair-none ready x (λ u s e h r. no u s e h))
        ∙ L.field_stays ready k x (impossible _ (λ q.
        let f = freed-at E (image E) x q in
        no f.0 f.1 f.3 f.4 (dart-left E f.0 f.1 (deleted-left S f.1 f.5) ∙ f.6)));
  }

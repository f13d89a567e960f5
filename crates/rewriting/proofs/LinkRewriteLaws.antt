-- The laws of `links::rewrite`: after the loops the map is the edited one: slot by slot and field by field, the word that stands
-- there is the model's. The darts of all pairs are different slots, so each word is written once.
use Prim.Native.Nat.{ℕ, ◌+◌, ◌*◌, ◌-◌, ◌/◌, ◌%◌, ◌≤◌, ◌<◌}
use mathlib.Core.Path.{◌≡◌, refl, sym, ap, ap₂, ◌∙◌, subst}
use mathlib.Core.Logic.{◌⊎◌, inl, inr, ⊎_elim, by_cases}
use mathlib.Core.Bool.{true, true≢false}
use Rattle.std.specs.Prelude.{Option, Some, None}
use mathlib.Core.List.{List}
use native.Mathlib.Decide.{ℕ_discrete}
use native.Mathlib.Omega.{arith}
use lib.ListN.{get_or}
use lib.Dec.{leb}
use borrow.Author.Tests.{leb-true, leb-false}
use Rattle.base.proofs.TestLaws.{true_or_false}
use Rattle.base.proofs.FirstLaws.{some_not_none}
use Rattle.model.specs.Map.{Map, Field, State, Link, Tag, field_of, dimension}
use Rattle.model.specs.Scheme.{left, right, has, added}
use Rattle.model.specs.Conditions.{Arc, absent, explicit, implicit, arc_at}
use Rattle.model.specs.Site.{Site}
use Rattle.model.specs.Edit.{Pair, dart_of, pair_of, after_deletion, edited}
use Rattle.model.proofs.MapLaws.{state_not_link, tag_not_link}
use Rattle.model.proofs.AcceptedLaws.{one_side, small}
use Rattle.model.proofs.ArcLaws.{explicit-end, implicit-from, absent-from, off-side}
use Rattle.model.proofs.CodeLaws.{small-arc, one-arc}
use Rattle.model.proofs.KindLaws.{added-right, both-preserved}
use Rattle.model.proofs.RankLaws.{left_not_added, added_not_left}
use Rattle.model.proofs.EditLaws as L
use Rattle.model.proofs.EditLaws.{Ready}
use Rattle.model.proofs.MatchIff.{match-ready}
use Rattle.orbit.specs.Store.{place, next}
use Rattle.orbit.specs.At.{site}
use Rattle.model.specs.Codes.{arc_code}
use Rattle.orbit.proofs.PlaceLaws.{place_in_lem, place_of, place-once}
use Rattle.rewriting.specs.Links.{relinked, changed, Changed, Turnable, Legible, Rows, Codes, BeforeRewriting}
use Rattle.rewriting.proofs.LinkLaws.{changed-same, changed-other}
use Rattle.rewriting.proofs.LinkWriteLaws.{pair_dart, Different, relinked-leaves, relinked-node, relinked-position, relinked-none}

module _ {slots : ℕ} {M : Map} {store : List ℕ} {size : ℕ} {lefts rights : List ℕ} {c : ℕ} {rows : List ℕ}
    (R : BeforeRewriting slots M store size lefts rights c rows) {codes : List ℕ} (C : Changed lefts rights codes) where
  abbrev E : Site
  E = site R.at

  open E use {map as m, scheme as S, orbit as O}
  open R.at.sound use {accepted}

  ready : Ready E
  ready = match-ready m S R.at.dart R.at.other R.at.sound R.match R.room

  abbrev new : Map
  new = edited E

  -- the dart of a pair, by the orbit dart and by its place
  abbrev D : ℕ → ℕ → ℕ
  D u v = dart_of E u v

  abbrev dart : ℕ → ℕ → ℕ
  dart v r = pair_dart slots store size rows v r

  abbrev P : ℕ → ℕ
  P r = place slots store r

  node : {v : ℕ} → v < c → v < S.nodes
  node {v} h = subst (λ (n : ℕ). v < n) R.nodes h

  counted : {v : ℕ} → v < S.nodes → v < c
  counted {v} h = subst (λ (n : ℕ). v < n) (sym R.nodes) h

  -- ---- the darts by place

  dart-is : (v r : ℕ) → v < S.nodes → r < size → dart v r ≡ D (P r) v
  dart-is = R.darts.dart

  dart-fits : (v r : ℕ) → v < c → r < size → dart v r < slots
  dart-fits v r hv hr = subst (λ (x : ℕ). x < slots) (sym (dart-is v r (node hv) hr))
      (L.dart-slot ready (P r) v (place_in_lem R.walked r hr) (node hv))

  -- those of the right side
  different : Different slots store size rows c (has S right)
  different = record {
    slot = λ v r hv pv hr. dart-fits v r hv hr;
    once = λ v q w r hv pv hq hw pw hr e.
        let d = L.right_injective ready (P q) v (P r) w (place_in_lem R.walked q hq) (place_in_lem R.walked r hr) (node hv) (node hw) pv pw
        (sym (dart-is v q (node hv) hq) ∙ e ∙ dart-is w r (node hw) hr) in
        (d.1, place-once R.walked q r hq hr d.0);
  }

  -- ---- what makes the loops safe

  pub rows-held : Rows slots store size c rows
  rows-held = record {
    few = let few = accepted.shaped.nodes_few in let same = R.nodes in omega arith;
    at = λ v h. record {
      inside = let i = (R.darts.inside v (node h)).1 in let long = R.stored in omega arith;
      slot = λ r b. dart-fits v r h b;
    };
  }

  none-legible : Legible slots store size rows 255
  none-legible = record { node = λ l. absurd (omega arith); position = λ l k. absurd (omega arith) }

  legible : (v i : ℕ) → v < S.nodes → (a : Arc) → arc_at S right v i ≡ a → Legible slots store size rows (arc_code a)
  legible v i h absent e = none-legible
  legible v i h (explicit t) e =
      let b = (explicit-end S right (one_side accepted right) v i t e).0 in
      let few = accepted.shaped.nodes_few in
      let long = R.stored in
      record { node = λ l. let w = (R.darts.inside t b).1 in omega arith; position = λ l k. absurd (omega arith) }
  legible v i h (implicit p) e =
      let b = (implicit-from S right v i p e).0 in
      let same : p ≡ 16 + p - 16 = omega arith in
      record {
        node = λ l. absurd (omega arith);
        position = λ l k. subst (Turnable slots store size) same record {
          long = R.stored;
          fits = R.walked.fits;
          position = let few = accepted.shaped.places_few in let n3 = small S accepted.shaped in omega arith;
          place = λ r w. (R.walked.links r p w b).0;
        };
      }

  code_is : (v i : ℕ) → v < S.nodes → i < 4 → get_or codes (4 * v + i) 0 ≡ changed (arc_code (arc_at S left v i)) (arc_code (arc_at S right v i))
  code_is v i h l =
      let few = accepted.shaped.nodes_few in
      C.at (4 * v + i) (omega arith) ∙ ap₂ changed (R.left_coded.at v i h l) (R.right_coded.at v i h l)

  -- an arc that both sides have is not followed, and another by its code
  code_cases : (v i : ℕ) → v < S.nodes → i < 4
      → ((get_or codes (4 * v + i) 0 ≡ 255) × (arc_at S left v i ≡ arc_at S right v i)) ⊎ (get_or codes (4 * v + i) 0 ≡ arc_code (arc_at S right v i))
  code_cases v i h l = by_cases (ℕ_discrete (arc_code (arc_at S left v i)) (arc_code (arc_at S right v i)))
      (λ e. inl (
        code_is v i h l ∙ changed-same _ _ e,
        one-arc S.nodes accepted.shaped.nodes_few _ _ (small-arc S accepted.shaped left v i) (small-arc S accepted.shaped right v i) e,
      ))
      (λ ne. inr (code_is v i h l ∙ changed-other _ _ ne))

  pub coding : Codes slots store size codes c rows
  coding = record {
    at = λ k h.
        let v : k / 4 < S.nodes = node (omega arith) in
        let same : 4 * (k / 4) + k % 4 ≡ k = omega arith in
        subst (λ (j : ℕ). Legible slots store size rows (get_or codes j 0)) same (⊎_elim
        (λ e. subst (Legible slots store size rows) (sym e.0) none-legible)
        (λ e. subst (Legible slots store size rows) (sym e) (legible (k / 4) (k % 4) v (arc_at S right (k / 4) (k % 4)) refl))
        (code_cases (k / 4) (k % 4) v (omega arith)));
  }

  -- ---- the map after the loops

  abbrev linked : Map
  linked = relinked slots store size rows codes (4 * c) M

  -- a link is written where the node is on the right
  named : (k : ℕ) → k < 4 * c → get_or codes k 0 < 255 → has S right (k / 4) ≡ true
  named k h l =
      let v : k / 4 < S.nodes = node (omega arith) in
      let same : 4 * (k / 4) + k % 4 ≡ k = omega arith in
      let code = ap (λ (j : ℕ). get_or codes j 0) same in
      ⊎_elim
      (λ e. e)
      (λ e.
      let none : arc_at S right (k / 4) (k % 4) ≡ absent = off-side S right (one_side accepted right) (k / 4) (k % 4) v (omega arith) e in
      let is : arc_code (arc_at S right (k / 4) (k % 4)) ≡ 255 = ap arc_code none in
      ⊎_elim (λ w. absurd (omega (arith, w.0))) (λ w. absurd (omega arith)) (code_cases (k / 4) (k % 4) v (omega arith)))
      (true_or_false (has S right (k / 4)))

  -- the pair of a dart is found
  not_none : (u v : ℕ) → O u ≡ true → v < S.nodes → has S right v ≡ true → pair_of E (D u v) ≡ None → ⊥
  not_none u v e h k n = some_not_none (L.pair_of_lem ready u v e h k) n

  -- a slot that is no preserved or added pair's dart
  untouched : (x : ℕ) → pair_of E x ≡ None → (f : Field) → field_of linked f x ≡ field_of (after_deletion E) f x
  untouched x e f =
      relinked-leaves slots store size rows codes (4 * c) x f (λ k r hk l hr w z. off (k / 4) r (omega arith) (named k hk l) hr w) M
      ∙ R.given.other x f (λ a. not_none a.dart a.node a.in_orbit a.below (added-right S a.node a.is_added) (ap (pair_of E) a.same ∙ e))
    where
      off : (v r : ℕ) → v < c → has S right v ≡ true → r < size → dart v r ≡ x → ⊥
      off v r hv k hr w = not_none (P r) v (place_in_lem R.walked r hr) (node hv) k (ap (pair_of E) (sym (dart-is v r (node hv) hr) ∙ w) ∙ e)

  -- ---- the dart of a pair whose node is on the right

  module _ (v r : ℕ) (hv : v < S.nodes) (hr : r < size) where
    module _ (k : has S right v ≡ true) where
      -- the words of a preserved one before the links are written
      old : has S left v ≡ true → (f : Field) → field_of M f (D (P r) v) ≡ field_of m f (D (P r) v)
      old l f = R.given.other (D (P r) v) f (λ a.
          let q = L.right_injective ready a.dart a.node (P r) v a.in_orbit (place_in_lem R.walked r hr) a.below hv
          (added-right S a.node a.is_added) k a.same in
          true≢false (sym a.is_added ∙ ap (added S) q.1 ∙ left_not_added S v l))
          ∙ L.field_stays ready f (D (P r) v) (L.kept-stays ready (P r) v (place_in_lem R.walked r hr) hv (both-preserved S v l k))

      -- a field that is no link
      unlinked : (f : Field) → ((i : ℕ) → f ≡ Link i → ⊥) → field_of linked f (D (P r) v) ≡ field_of M f (D (P r) v)
      unlinked f no_link =
          ap (field_of linked f) (sym (dart-is v r hv hr))
          ∙ relinked-leaves slots store size rows codes (4 * c) (dart v r) f (λ j q hj l hq w. no_link (j % 4)) M
          ∙ ap (field_of M f) (dart-is v r hv hr)

      state-stays : linked.state (D (P r) v) ≡ new.state (D (P r) v)
      state-stays =
          unlinked State (λ i. state_not_link)
          ∙ ⊎_elim
          (λ l. old l State ∙ L.left-alive ready (P r) v (place_in_lem R.walked r hr) hv l)
          (λ a. R.given.fresh (P r) v State (place_in_lem R.walked r hr) hv a)
          (L.kinds ready v hv)
          ∙ sym (L.state-pair ready (P r) v (place_in_lem R.walked r hr) hv k)

      tag_stays : linked.tag (D (P r) v) ≡ new.tag (D (P r) v)
      tag_stays =
          unlinked Tag (λ i. tag_not_link)
          ∙ ⊎_elim
          (λ l. old l Tag
          ∙ sym (L.tag-kept ready (P r) v (place_in_lem R.walked r hr) hv k (left_not_added S v l)))
          (λ a. R.given.fresh (P r) v Tag (place_in_lem R.walked r hr) hv a ∙ sym (L.tag-new ready (P r) v (place_in_lem R.walked r hr) hv k a))
          (L.kinds ready v hv)

      -- where the right side names no i-arc: a preserved dart keeps the link, and of an added one it is α3 with n = 2, which is the dart itself
      link-absent : (i : ℕ) → i ≤ 3 → arc_at S right v i ≡ absent → M.link i (D (P r) v) ≡ new.link i (D (P r) v)
      link-absent i l a = ⊎_elim
          (λ z. old z (Link i)
          ∙ sym (L.link-kept ready (P r) v (place_in_lem R.walked r hr) hv k i (left_not_added S v z) a))
          (λ z. ⊎_elim
          (λ w.
          let some-arc = (accepted.consistent.incidence v hv).all_right i (leb-true i S.n w) z in
          let no_arc = absent-from S right v i a in
          absurd (omega arith))
          (λ w.
          let third : i ≡ 3 = third-is i l (leb-false i S.n w) in
          ap (λ (j : ℕ). M.link j (D (P r) v)) third ∙ R.given.fresh (P r) v (Link 3) (place_in_lem R.walked r hr) hv z
          ∙ sym (L.link-own ready (P r) v (place_in_lem R.walked r hr) hv k i z a))
          (true_or_false (leb i S.n)))
          (L.kinds ready v hv)
        where
          third-is : (i : ℕ) → i ≤ 3 → S.n < i → i ≡ 3
          third-is i l g = ⊎_elim (λ e. omega arith) (λ e. omega arith) accepted.shaped.dimension

      -- where both sides have the same i-arc: a preserved dart has the link by the match
      link-stands : (i : ℕ) → i ≤ 3 → arc_at S left v i ≡ arc_at S right v i → M.link i (D (P r) v) ≡ new.link i (D (P r) v)
      link-stands i l same = ⊎_elim
          (λ z. old z (Link i) ∙ sym (L.link-same ready (P r) v (place_in_lem R.walked r hr) hv k i l z same))
          (λ z. link-absent i l (sym same ∙ off-side S left (one_side accepted left) v i hv (omega arith) (added_not_left S v z)))
          (L.kinds ready v hv)

      -- a link that is not written
      link_left : (i : ℕ) → i ≤ 3 → get_or codes (4 * v + i) 0 ≡ 255 → linked.link i (dart v r) ≡ M.link i (D (P r) v)
      link_left i l e =
          relinked-none slots store size rows codes c different named v i r (counted hv) k (omega arith) hr 255 e M (omega arith)
          ∙ ap (M.link i) (dart-is v r hv hr)

      link-written : (i : ℕ) → i ≤ 3 → (a : Arc) → arc_at S right v i ≡ a → get_or codes (4 * v + i) 0 ≡ arc_code a
          → linked.link i (dart v r) ≡ new.link i (D (P r) v)
      link-written i l absent a is = link_left i l is ∙ link-absent i l a
      link-written i l (explicit t) a is =
          let b = (explicit-end S right (one_side accepted right) v i t a).0 in
          let few = accepted.shaped.nodes_few in
          relinked-node slots store size rows codes c different named v i r (counted hv) k (omega arith) hr t is M (omega arith)
          ∙ dart-is t r b hr ∙ sym (L.link-explicit ready (P r) v (place_in_lem R.walked r hr) hv k i t a)
      link-written i l (implicit p) a is =
          let b = (implicit-from S right v i p a).0 in
          let few = accepted.shaped.places_few in
          let n3 = small S accepted.shaped in
          let same : 16 + p - 16 ≡ p = omega arith in
          let w = R.walked.links r p hr b in
          relinked-position slots store size rows codes c different named v i r (counted hv) k (omega arith) hr (16 + p) is
          M (omega arith) (omega arith)
          ∙ ap (λ (q : ℕ). dart v (next slots store r q)) same ∙ dart-is v (next slots store r p) hv w.0 ∙ ap (λ (u : ℕ). D u v) w.1
          ∙ sym (L.link-implicit ready (P r) v (place_in_lem R.walked r hr) hv k i p a)

      link-linked : (i : ℕ) → i ≤ 3 → linked.link i (dart v r) ≡ new.link i (D (P r) v)
      link-linked i l = ⊎_elim
          (λ e. link_left i l e.0 ∙ link-stands i l e.1)
          (λ e. link-written i l (arc_at S right v i) refl e)
          (code_cases v i hv (omega arith))

      field_stays : (f : Field) → dimension f ≤ 3 → field_of linked f (D (P r) v) ≡ field_of new f (D (P r) v)
      field_stays State l = state-stays
      field_stays (Link i) l = ap (linked.link i) (sym (dart-is v r hv hr)) ∙ link-linked i l
      field_stays Tag l = tag_stays

  -- ---- every slot

  -- x is no preserved or added pair's dart, or one's
  data Role (x : ℕ) : Type 0 where
    no_pair : pair_of E x ≡ None → Role x
    right_pair : (v r : ℕ) → v < S.nodes → r < size → has S right v ≡ true → D (P r) v ≡ x → Role x

  role : (x : ℕ) → Role x
  role x = go (pair_of E x) refl
    where
      go : (p : Option Pair) → pair_of E x ≡ p → Role x
      go None e = no_pair e
      go (Some p) e =
          let q = L.pair-at ready x p e in
          let w = place_of R.walked p.dart q.0 in
          right_pair p.node w.0 q.1 w.1 q.2 (ap (λ (u : ℕ). D u p.node) w.2 ∙ q.3)

  field_is : (f : Field) (x : ℕ) → dimension f ≤ 3 → Role x → field_of linked f x ≡ field_of new f x
  field_is f x l (no_pair e) = untouched x e f ∙ sym (L.field_other ready f x e)
  field_is f x l (right_pair v r hv hr k e) = subst (λ (y : ℕ). field_of linked f y ≡ field_of new f y) e (field_stays v r hv hr k f l)

  pub rewritten : (f : Field) (x : ℕ) → dimension f ≤ 3 → field_of linked f x ≡ field_of new f x
  rewritten f x l = field_is f x l (role x)

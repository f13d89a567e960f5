-- The laws of `room::note`, `room::gather` and `room::prepare`: the tags of the donors, one after the other, and the table without the deleted darts.
use Prim.Native.Nat.{ℕ, ◌+◌, ◌*◌, ◌-◌, ◌≤◌, ◌<◌}
use mathlib.Core.Path.{◌≡◌, refl, sym, ap, ◌∙◌, subst}
use mathlib.Core.Logic.{inl, inr, ⊎_elim, by_cases}
use mathlib.Core.Bool.{true, false, true≢false}
use mathlib.Core.List.{List}
use native.Mathlib.Nat.{mul-le-mul_right}
use native.Mathlib.Decide.{ℕ_discrete}
use native.Mathlib.Omega.{arith}
use lib.ListN.{length, get_or, set, length-set}
use lib.Dec.{eqb}
use lib.Seq.{get_or-set_same, get_or-set_other}
use borrow.Author.Tests.{eqb-true, eq-eqb}
use Rattle.base.specs.Below.{count_below}
use Rattle.base.proofs.TestLaws.{true_or_false}
use Rattle.model.specs.Map.{Map, Field, field_of}
use Rattle.model.specs.Scheme.{left, donor, has, deleted, added}
use Rattle.model.specs.Site.{Site}
use Rattle.model.specs.Match.{image, Assignment}
use Rattle.model.specs.Edit.{freed}
use Rattle.model.specs.Edit as M
use Rattle.model.proofs.AcceptedLaws.{donor-left}
use Rattle.model.proofs.KindLaws.{deleted-left}
use Rattle.model.proofs.RoomLaws.{freed-at, freed_of}
use Rattle.model.proofs.EditLaws as L
use Rattle.orbit.specs.Store.{mark, place, next, dart_at, Kept, Assigned}
use Rattle.orbit.specs.At.{site}
use Rattle.orbit.proofs.StoreLaws.{among_of, among_same}
use Rattle.orbit.proofs.PlaceLaws.{place_in_lem, place_of, place-once, marked_in}
use Rattle.rewriting.specs.Darts.{HoldsSlots, row_start, Bare, TagsNoted}
use Rattle.rewriting.specs.Room.{Noted, Donating, Gathered, cleared, DeletedRows, BeforeRoom, Roomy}
use Rattle.rewriting.proofs.LinkWriteLaws.{pair_dart, Different}
use Rattle.rewriting.proofs.ClearLaws.{cleared-leaves, cleared-sets}
use Rattle.rewriting.proofs.SlotTurnLaws.{good, ready, many-few, cells, row_within, listed_at, listed-is}

-- ---- the tags of one node's darts

pub noted-none : (tag : ℕ → ℕ) (s : List ℕ) (from to : ℕ) → Noted tag s from to 0 s
noted-none tag s from to = record { long = refl; at = λ r h. absurd (omega arith); kept = λ i w. refl }

pub noted_more : {tag : ℕ → ℕ} {s : List ℕ} {from to r : ℕ} {s' : List ℕ} → Noted tag s from to r s' → from + r < to → to + r < length s'
    → (x v : ℕ) → x ≡ get_or s' (from + r) 0 → v ≡ tag x → Noted tag s from to (r + 1) (set s' (to + r) v)
unfolding dart_at
noted_more {tag} {s} {from} {to} {r} {s'} n low in_store x v read is = record {
  long = length-set s' (to + r) v ∙ n.long;
  at = λ q h. by_cases (ℕ_discrete q r)
      (λ (e : q ≡ r). rw e (get_or-set_same s' (to + r) v 0 in_store ∙ is ∙ ap tag (read ∙ n.kept (from + r) (inl low))))
      (λ (ne : q ≡ r → ⊥). get_or-set_other s' (to + r) (to + q) v 0 (λ e. ne (omega arith)) ∙ n.at q (omega arith));
  kept = λ i w. get_or-set_other s' (to + r) i v 0 (λ e. ⊎_elim (λ (l : i < to). omega arith) (λ (l : to + (r + 1) ≤ i). omega arith) w)
      ∙ n.kept i (⊎_elim (λ (l : i < to). inl l) (λ (l : to + (r + 1) ≤ i). inr (omega arith)) w);
}

pub noted-all : {tag : ℕ → ℕ} {s : List ℕ} {from to r size : ℕ} {s' : List ℕ} → r ≤ size → size ≤ r → Noted tag s from to r s' → Noted tag s from to size s'
noted-all {tag} {s} {from} {to} {r} {size} {s'} h l n = let e : r ≡ size = omega arith in subst (λ (k : ℕ). Noted tag s from to k s') e n

-- the dart that is read is a slot
pub noted-slot : {N : ℕ} {tag : ℕ → ℕ} {s : List ℕ} {from to r size : ℕ} {s' : List ℕ} → HoldsSlots N s from size → from + size ≤ to → r < size
    → Noted tag s from to r s' → (x : ℕ) → x ≡ get_or s' (from + r) 0 → x < N
unfolding dart_at
noted-slot {from = from} {r = r} H low h n x e = rw (e, n.kept (from + r) (inl (omega arith))) (H.slot r h)

-- ---- the tags of the donors of all added nodes

module _ {N : ℕ} {s : List ℕ} {size : ℕ} {nodes : List ℕ} {many : ℕ} {donors rows : List ℕ} (D : Donating N s size nodes many donors rows) (tag : ℕ → ℕ) where
  pub gathered_none : Gathered N tag s size nodes 0 donors rows s
  gathered_none = record { long = refl; at = λ a r h. absurd (omega arith); kept = λ i w. refl }

  -- where the row of the donor of the a-th added node begins
  abbrev giver : ℕ → ℕ
  giver a = get_or rows (get_or donors (get_or nodes a 0) 0) 0

  module _ {a : ℕ} (h : a < many) {s' : List ℕ} (g : Gathered N tag s size nodes a donors rows s') where
    pub next_fits : a * size + size ≤ N
    next_fits = let c = mul-le-mul_right size h in omega (arith, D.room)

    giver-kept : (r : ℕ) → r < size → dart_at s' (giver a) r ≡ dart_at s (giver a) r
    unfolding dart_at
    giver-kept r l = g.kept (giver a + r) (inl (omega (arith, D.inside a h)))

    pub giver-slots : HoldsSlots N s' (giver a) size
    giver-slots = record {
      inside = omega (arith, D.inside a h, g.long, D.stored);
      slot = λ r l. rw (giver-kept r l) (D.slot a r h l);
    }

    pub giver-before : (giver a + size ≤ 2 * N + a * size) × (2 * N + a * size + size ≤ length s')
    giver-before = (omega (arith, D.inside a h), omega (arith, next_fits, g.long, D.stored))

    pub gathered_more : {s'' : List ℕ} → Noted tag s' (giver a) (2 * N + a * size) size s'' → Gathered N tag s size nodes (a + 1) donors rows s''
    gathered_more {s''} n = record {
      long = n.long ∙ g.long;
      at = λ b r l k. by_cases (ℕ_discrete b a)
          (λ (e : b ≡ a). rw e (n.at r k ∙ ap tag (giver-kept r k)))
          (λ (ne : b ≡ a → ⊥).
          let less : b < a = omega arith in
          let c = mul-le-mul_right size less in
          n.kept (row_start N size b + r) (inl (omega arith)) ∙ g.at b r less k);
      kept = λ i w.
          let c : (a + 1) * size ≡ a * size + size = omega arith in
          ⊎_elim
          (λ (l : i < 2 * N). n.kept i (inl (omega arith)) ∙ g.kept i (inl l))
          (λ (l : 2 * N + (a + 1) * size ≤ i). n.kept i (inr (omega arith)) ∙ g.kept i (inr (omega arith)))
          w;
    }

pub gathered_all : {N : ℕ} {tag : ℕ → ℕ} {s : List ℕ} {size : ℕ} {nodes : List ℕ} {a many : ℕ} {donors rows s' : List ℕ} → a ≤ many → many ≤ a
    → Gathered N tag s size nodes a donors rows s' → Gathered N tag s size nodes many donors rows s'
gathered_all {N} {tag} {s} {size} {nodes} {a} {many} {donors} {rows} {s'} h l g =
    let e : a ≡ many = omega arith in
    subst (λ (k : ℕ). Gathered N tag s size nodes k donors rows s') e g

-- ---- the phase

module _ {before : Map} {s : List ℕ} {size : ℕ} {nodes : List ℕ} {many : ℕ} {donors kinds : List ℕ} {c : ℕ} {rows : List ℕ}
    (R : BeforeRoom before s size nodes many donors kinds c rows) where
  abbrev E : Site
  E = site R.at

  open E use {map as m, scheme as S, orbit as O}

  abbrev N : ℕ
  N = m.slots

  open R use {grant as G, assigned as B}

  match : Assignment E (image E)
  match = (ready G).match

  donor-is : (v : ℕ) → get_or donors v 0 ≡ donor S v
  donor-is v = ap (λ (l : List ℕ). get_or l v 0) R.donors_are

  -- the donor of a node, which is a left node
  donor-below : (v : ℕ) → v < S.nodes → donor S v < S.nodes
  donor-below v h = R.at.sound.accepted.shaped.donor_below v h

  left-donor : (v : ℕ) → v < S.nodes → has S left (donor S v) ≡ true
  left-donor v h = donor-left S R.at.sound.accepted v h

  -- the dart of a left pair
  left-slot : (v r : ℕ) → v < S.nodes → has S left v ≡ true → r < size → dart_at s (get_or rows v 0) r < N
  left-slot v r h l b = rw (B.dart v r h l b) (let e = place_in_lem G.walked r b in (match.darts _ ((good G).slot _ e) e v h l).0)

  pub donating_of : Donating N s size nodes many donors rows
  donating_of = record {
    few = many-few G;
    slots = R.at.few;
    stored = G.long;
    room = cells G;
    node = λ a h. omega (arith, (listed_at G nodes R.node a h).0, R.at.sound.accepted.shaped.nodes_few);
    donor = λ a h. let v = get_or nodes a 0 in
        omega (arith, donor-is v, donor-below v (listed_at G nodes R.node a h).0, R.at.sound.accepted.shaped.nodes_few);
    inside = λ a h. let v = get_or nodes a 0 in
        rw (donor-is v) (B.inside (donor S v) (donor-below v (listed_at G nodes R.node a h).0) (left-donor v (listed_at G nodes R.node a h).0)).1;
    slot = λ a r h l. let v = get_or nodes a 0 in
        rw (donor-is v) (left-slot (donor S v) r (donor-below v (listed_at G nodes R.node a h).0) (left-donor v (listed_at G nodes R.node a h).0) l);
  }

  node_of : {v : ℕ} → v < c → v < S.nodes
  node_of {v} h = subst (λ (n : ℕ). v < n) R.nodes_are h

  is-deleted : (v : ℕ) → get_or kinds v 0 ≡ 1 → deleted S v ≡ true
  is-deleted v e = eq-eqb _ _ (ap (λ (l : List ℕ). get_or l v 0) (sym R.kinded) ∙ e)

  deleted-kind : (v : ℕ) → deleted S v ≡ true → get_or kinds v 0 ≡ 1
  deleted-kind v e = ap (λ (l : List ℕ). get_or l v 0) R.kinded ∙ eqb-true _ _ e

  module _ {s' : List ℕ} (g : Gathered N m.tag s size nodes many donors rows s') where
    -- the words outside the rows of the added nodes
    kept_low : (i : ℕ) → i < 2 * N → get_or s' i 0 ≡ get_or s i 0
    kept_low i h = g.kept i (inl h)

    place_kept : (r : ℕ) → r < size → place N s' r ≡ place N s r
    unfolding place
    place_kept r h = kept_low (N + r) (omega (arith, G.walked.fits))

    kept_of : Kept N s s' size
    unfolding place mark next
    kept_of = record {
      long = g.long;
      places = λ r h. kept_low (N + r) (omega (arith, G.walked.fits));
      marks = λ x h. among_same s' s size x (kept_low x (omega arith));
      ranks = λ x h e. kept_low x (omega arith);
      nexts = λ r p h l. g.kept (4 * N + 4 * r + p) (inr (omega (arith, cells G)));
    }

    assigned_of : Assigned E s' rows size
    unfolding dart_at
    assigned_of = record {
      inside = B.inside;
      dart = λ v r h l b. kept_low (get_or rows v 0 + r) (omega (arith, B.inside v h l)) ∙ B.dart v r h l b
          ∙ ap (λ (u : ℕ). image E u v) (sym (place_kept r b));
    }

    tagged_of : TagsNoted E s' size
    unfolding dart_at
    tagged_of = record {
      at = λ u v e h a.
          let k = count_below v (added S) in
          let p = marked_in G.walked u e in
          let b : mark s u - 1 < size = omega arith in
          let same : mark s' u ≡ mark s u = kept_of.ranks u ((good G).slot u e) (among_of s size u p.0 p.1) in
          ap (λ (j : ℕ). get_or s' (row_start N size k + (j - 1)) 0) same
          ∙ g.at k (mark s u - 1) (row_within G v h a).0 b
          ∙ ap (λ (w : ℕ). m.tag (get_or s (get_or rows (get_or donors w 0) 0 + (mark s u - 1)) 0)) (listed-is G nodes R.node v h a)
          ∙ ap (λ (w : ℕ). m.tag (get_or s (get_or rows w 0 + (mark s u - 1)) 0)) (donor-is v)
          ∙ ap m.tag (B.dart (donor S v) (mark s u - 1) (donor-below v h) (left-donor v h) b
          ∙ ap (λ (w : ℕ). image E w (donor S v)) (G.walked.found u ((good G).slot u e) (among_of s size u p.0 p.1)));
    }

    slot_of : (v r : ℕ) → v < S.nodes → has S left v ≡ true → r < size → dart_at s' (get_or rows v 0) r < N
    unfolding dart_at
    slot_of v r h l b = rw (kept_low (get_or rows v 0 + r) (omega (arith, B.inside v h l))) (left-slot v r h l b)

    pub doomed : DeletedRows N s' size kinds c rows
    doomed = record {
      few = omega (arith, R.nodes_are, R.at.sound.accepted.shaped.nodes_few);
      at = λ v h e.
          let l = deleted-left S v (is-deleted v e) in
          let i = B.inside v (node_of h) l in
          record {
            inside = omega (arith, g.long, G.long);
            slot = λ r b. slot_of v r (node_of h) l b;
          };
    }

    -- the dart of a deleted pair
    gone-is : (v r : ℕ) → v < S.nodes → deleted S v ≡ true → r < size → pair_dart N s' size rows v r ≡ image E (place N s r) v
    gone-is v r h d b = assigned_of.dart v r h (deleted-left S v d) b ∙ ap (λ (u : ℕ). image E u v) (place_kept r b)

    different : Different N s' size rows c (λ v. eqb (get_or kinds v 0) 1)
    different = record {
      slot = λ v r h p b. (doomed.at v h (eqb-true _ _ p)).slot r b;
      once = λ v q w r h p b k o l e.
          let d = is-deleted v (eqb-true _ _ p) in
          let f = is-deleted w (eqb-true _ _ o) in
          let x = place_in_lem G.walked q b in
          let y = place_in_lem G.walked r l in
          let z = match.different _ ((good G).slot _ x) x v (node_of h) (deleted-left S v d) _ ((good G).slot _ y) y w (node_of k) (deleted-left S w f)
          (sym (gone-is v q (node_of h) d b) ∙ e ∙ gone-is w r (node_of k) f l) in
          (z.1, place-once G.walked q r b l z.0);
    }

    module _ (m' : Map) (is : m' ≡ cleared s' size rows kinds c m) where
      bare_of : Bare E m'
      bare_of = record {
        at = λ f y. ap (λ (a : Map). field_of a f y) is ∙ ⊎_elim (gone f y) (stays f y) (true_or_false (freed E (image E) y));
      }
        where
          gone : (f : Field) (y : ℕ) → freed E (image E) y ≡ true → field_of (cleared s' size rows kinds c m) f y ≡ field_of (M.after_deletion E) f y
          gone f y e =
              let p = freed-at E (image E) y e in
              let q = place_of G.walked p.0 p.3 in
              let d : pair_dart N s' size rows p.1 q.0 ≡ y =
              gone-is p.1 q.0 p.4 p.5 q.1 ∙ ap (λ (u : ℕ). image E u p.1) q.2 ∙ p.6 in
              ap (field_of (cleared s' size rows kinds c m) f) (sym d)
              ∙ cleared-sets N s' size rows kinds c different p.1 q.0 f (subst (λ (n : ℕ). p.1 < n) (sym R.nodes_are) p.4) q.1
              (deleted-kind p.1 p.5) m
              ∙ sym (L.field_freed (ready G) f y e)

          stays : (f : Field) (y : ℕ) → freed E (image E) y ≡ false → field_of (cleared s' size rows kinds c m) f y ≡ field_of (M.after_deletion E) f y
          stays f y e =
              cleared-leaves N s' size rows kinds c y f
              (λ v r h k b w.
              let d = is-deleted v k in
              let x = place_in_lem G.walked r b in
              true≢false (sym (freed_of E (image E) y _ v ((good G).slot _ x) x (node_of h) d (sym (gone-is v r (node_of h) d b) ∙ w)) ∙ e))
              m ∙ sym (L.field_stays (ready G) f y e)

      pub roomy : Roomy R.at s size rows m' s'
      roomy = record { bare = bare_of; tagged = tagged_of; kept = kept_of; assigned = assigned_of }

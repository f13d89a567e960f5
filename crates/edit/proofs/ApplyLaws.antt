-- The laws of `settle` and `apply`: from one phase of an edit to the next, and what its ends come to.
use Prim.Native.Nat.{ℕ, ◌+◌, ◌*◌, ◌≤◌, ◌<◌}
use mathlib.Core.Path.{◌≡◌, refl, sym, ap₂, ◌∙◌, subst}
use mathlib.Core.Bool.{true, false}
use Rattle.std.specs.Prelude.{Some, None, Ok, Err}
use mathlib.Core.List.{List}
use native.Mathlib.Nat.{mul-le-mul_left, mul-le-mul_right}
use native.Mathlib.Omega.{arith}
use lib.ListN.{length, get_or, take}
use lib.Dec.{ltb}
use borrow.Author.Tests.{lt-ltb, le-ltb}
use Rattle.base.specs.Below.{count_below}
use Rattle.base.proofs.BelowLaws.{count_le}
use Rattle.base.specs.First.{some_if, ◌or_else◌, there, nth_lowest}
use Rattle.model.specs.Map.{Map, table_of, unused, max_slots}
use Rattle.model.specs.Scheme.{left, right, orbit_dim, added}
use Rattle.model.specs.Site.{Site, site_at, Sound}
use Rattle.model.specs.Match.{matches}
use Rattle.model.specs.Edit.{orbit_size, added_darts, deleted_darts, room_of, edited}
use Rattle.model.specs.Calls.{fit_fault, site_done}
use Rattle.model.specs.declared.Scheme.{Scheme}
use Rattle.model.specs.declared.Refusal.TheVariants.{NoMatch, NoRoom}
use Rattle.model.specs.declared.Reply.TheVariants.{Edited}
use Rattle.model.proofs.AcceptedLaws.{small}
use Rattle.edit.specs.Nodes.{is_kind, Listed}
use Rattle.edit.proofs.NodeLaws.{Ascending, listed_first}
use Rattle.conditions.specs.Tree.{TreeOf}
use Rattle.conditions.specs.declared.tree.Tree.{Tree}
use Rattle.model.proofs.CodeLaws.{coded}
use Rattle.orbit.specs.Store.{Taken, Walked}
use Rattle.orbit.specs.At.{At, site}
use Rattle.orbit.specs.Walk as W
use Rattle.matching.specs.Assign as C
use Rattle.rewriting.specs.Room as O
use Rattle.rewriting.specs.Slots as G
use Rattle.rewriting.specs.Links as L
use Rattle.edit.specs.Apply.{Walking, Settling, Applied}
use Rattle.matching.proofs.RootedLaws.{rooted}
use Rattle.orbit.proofs.PlaceLaws.{places-few}
use Rattle.orbit.proofs.WalkLaws.{walked-kept}

-- ---- the ends

pub no_match_lem : {E : Site} {t store store' : List ℕ} {size : ℕ} → C.MatchFound E store store' size None → Applied E t (Err NoMatch) t
unfolding fit_fault some_if ◌or_else◌ there
no_match_lem {E} m = let q : matches E ≡ false = sym m.is in record { answer = rw q refl; table = rw q refl }

-- ---- from one phase to the next

abbrev pub at-site : {m : Map} {S : Scheme} {d d₂ : ℕ} → m.slots ≤ max_slots → Sound (site_at m S d d₂) → At m
at-site {S = S} {d = d} {d₂ = d₂} few sound = record { scheme = S; dart = d; other = d₂; few = few; sound = sound }

module _ {m : Map} (A : At m) where
  -- the walk can begin
  pub walk-ready : W.BeforeWalking m A.scheme.orbit A.scheme.places
  walk-ready = record {
    n = A.scheme.n;
    small = small A.scheme A.sound.accepted.shaped;
    well = A.sound.well;
    few = places-few A;
    dim = A.sound.accepted.shaped.orbit_dims;
  }

  -- the orbit stands in the store
  pub walking : {store : List ℕ} {size k : ℕ} → k ≡ A.scheme.places → Walked m k (orbit_dim A.scheme) A.dart store size
      → Taken m.slots store size → Walking A store size
  walking {store} {size} e w o = record {
    walked = subst (λ (z : ℕ). Walked m z (orbit_dim A.scheme) A.dart store size) e w;
    taken = o;
  }

  -- the match can be looked for, along the trees of the scheme's left arcs; what fits goes on to its end
  module _ {store : List ℕ} {size : ℕ} (w : Walking A store size) {p : Tree} (P : TreeOf A.scheme p) where
    abbrev pub match-ready : {k : ℕ} → k ≡ A.scheme.places
        → C.Posed m store size A.scheme.orbit k A.other p.node p.parent p.dim p.roots p.size A.scheme.ltargets
    match-ready places = record {
      ready = record {
        at = A;
        walked = w.walked;
        taken = w.taken;
        dims_are = refl;
        places_are = places;
        other_is = refl;
        roots_are = P.roots_is;
      };
      rooted = rooted A.scheme A.sound.accepted p P;
      coded = coded A.scheme A.sound.accepted.shaped left;
    }

    abbrev pub settle_ready : {store' rows' : List ℕ} → C.MatchFound (site A) store store' size (Some rows') → {c : ℕ} → c ≡ A.scheme.nodes → {room : ℕ}
        → room ≡ count_below m.slots (unused m) → Settling m store' c A.scheme.kinds A.scheme.donors A.scheme.ltargets A.scheme.rtargets size room rows'
    settle_ready {store'} a n free = record {
      at = A;
      fitting = record {
        long = a.long ∙ w.taken.long;
        walked = walked-kept _ _ _ _ store store' size (places-few A) w.walked (a.kept _ refl);
        match = sym a.is;
        assigned = a.assigned _ refl;
        wide = a.wide _ refl;
      };
      nodes = n;
      kinded = refl;
      donors_are = refl;
      left_coded = coded A.scheme A.sound.accepted.shaped left;
      right_coded = coded A.scheme A.sound.accepted.shaped right;
      free = free;
    }

-- ---- the end of an edit

module _ {m : Map} {store : List ℕ} {c : ℕ} {kinds donors lefts rights : List ℕ} {size room : ℕ} {rows : List ℕ}
    (P : Settling m store c kinds donors lefts rights size room rows) where
  open P use {at as A, fitting as F}

  abbrev E : Site
  E = site A

  nodes-few : c ≤ 16
  nodes-few = omega (arith, P.nodes, A.sound.accepted.shaped.nodes_few)

  pub ascending : {k size : ℕ} {node : List ℕ} → Listed c kinds k node size → Ascending c kinds k (take size node)
  ascending l = listed_first nodes-few l

  pub room-few : room ≤ max_slots
  room-few = omega (arith, P.free, count_le m.slots (unused m), A.few)

  -- the nodes of a kind are those of the scheme, and their darts are few
  module _ (k : ℕ) {many : ℕ} (total : many ≡ count_below c (is_kind kinds k)) where
    pub kind-count : many ≡ count_below A.scheme.nodes (is_kind A.scheme.kinds k)
    kind-count = total ∙ ap₂ (λ (z : ℕ) (l : List ℕ). count_below z (is_kind l k)) P.nodes P.kinded

    pub pairs-few : (size ≤ max_slots) × (size * many ≤ 16 * max_slots)
    pairs-few =
        let few : size ≤ max_slots = omega (arith, F.walked.fits, A.few) in
        let below : many ≤ c = rw total (count_le c (is_kind kinds k)) in
        let nodes : many ≤ 16 = omega (arith, nodes-few) in
        (few, omega (arith, mul-le-mul_right many few, mul-le-mul_left max_slots nodes))

  -- the added nodes are listed, and the deleted ones counted
  module _ {nodes : List ℕ} {gone : ℕ} (new : Ascending c kinds 3 nodes) (old : gone ≡ count_below c (is_kind kinds 1)) where
    abbrev many : ℕ
    many = length nodes

    added_is : size * many ≡ added_darts E
    unfolding added_darts orbit_size
    added_is = ap₂ ◌*◌ (sym F.walked.counted) (kind-count 3 new.total)

    space-is : room + size * gone ≡ room_of E
    unfolding room_of deleted_darts orbit_size
    space-is = ap₂ ◌+◌ P.free (ap₂ ◌*◌ (sym F.walked.counted) (kind-count 1 old))

    pub no_room : {t : List ℕ} → room + size * gone < size * many → Applied E t (Err NoRoom) t
    unfolding fit_fault some_if ◌or_else◌ there
    no_room h =
        let short : ltb (room_of E) (added_darts E) ≡ true = ap₂ ltb (sym space-is) (sym added_is) ∙ lt-ltb (room + size * gone) (size * many) h in
        record { answer = rw (F.match, short) refl; table = rw (F.match, short) refl }

    -- and there is room for the new darts
    module _ (h : size * many ≤ room + size * gone) where
      pub roomy : added_darts E ≤ room_of E
      roomy = omega (arith, added_is, space-is)

      pub listed-added : (a : ℕ) → a < many → nth_lowest A.scheme.nodes (added A.scheme) a ≡ Some (get_or nodes a 0)
      listed-added a l = sym (ap₂ (λ (z : ℕ) (q : List ℕ). nth_lowest z (is_kind q 3) a) P.nodes P.kinded) ∙ new.each a l

      -- the deleted darts can be taken out
      abbrev pub room-ready : O.BeforeRoom m store size nodes many donors kinds c rows
      room-ready = record {
        at = A;
        grant = record { long = F.long; walked = F.walked; every = kind-count 3 new.total; match = F.match; room = roomy };
        node = listed-added;
        donors_are = P.donors_are;
        nodes_are = P.nodes;
        kinded = P.kinded;
        assigned = F.assigned;
      }

      -- then the darts of the added pairs can be given
      abbrev pub give_ready : {m₁ : Map} {store₁ : List ℕ} → O.Roomy A store size rows m₁ store₁ → G.BeforeGiving m.slots m₁ store₁ size nodes many rows
      give_ready {m₁} {store₁} o = record {
        before = m;
        at = A;
        grant = record {
          long = o.kept.long ∙ F.long;
          walked = walked-kept _ _ _ _ store store₁ size (places-few A) F.walked o.kept;
          every = kind-count 3 new.total;
          match = F.match;
          room = roomy;
        };
        bare = o.bare;
        tagged = o.tagged;
        node = listed-added;
        assigned = o.assigned;
        wide = F.wide;
      }

      -- and with them the links can be rewritten
      abbrev pub link-ready : {m₁ : Map} {store₁ : List ℕ} → O.Roomy A store size rows m₁ store₁ → {m' : Map} {store' rows' : List ℕ}
          → G.Granted E store₁ m' store' rows' size → L.BeforeRewriting m.slots m' store' size lefts rights c rows'
      link-ready {m₁} {store₁} o {m'} {store'} g = record {
        before = m;
        at = A;
        stored = g.kept.long ∙ o.kept.long ∙ F.long;
        walked = walked-kept _ _ _ _ store₁ store' size (places-few A)
            (walked-kept _ _ _ _ store store₁ size (places-few A) F.walked o.kept) g.kept;
        darts = g.darts;
        match = F.match;
        room = roomy;
        given = g.given;
        nodes = P.nodes;
        left_coded = P.left_coded;
        right_coded = P.right_coded;
      }

      pub done : {t t' : List ℕ} → t' ≡ table_of (edited E) → Applied E t (Ok (Edited size (size * many) (size * gone))) t'
      unfolding fit_fault site_done some_if ◌or_else◌ there added_darts deleted_darts orbit_size
      done q =
          let s = F.walked.counted in
          let n = kind-count 3 new.total in
          let g = kind-count 1 old in
          let wide : ltb (room_of E) (count_below m.slots E.orbit * count_below A.scheme.nodes (added A.scheme)) ≡ false =
          ap₂ ltb (sym space-is) (ap₂ ◌*◌ s (sym n)) ∙ le-ltb (room + size * gone) (size * many) h in
          record { answer = rw (F.match, wide, s, ← n, ← g) refl; table = rw (F.match, wide) q }

-- The laws of `slots::give`, which gives slots to all added pairs: from the phases before it to the first pair, from one orbit
-- dart to the next, and from the last pair to the phases after it.
use Prim.Native.Nat.{ℕ, ◌+◌, ◌*◌, ◌-◌, ◌≤◌, ◌<◌}
use mathlib.Core.Path.{◌≡◌, sym, ap, ap₂, ◌∙◌, subst}
use mathlib.Core.Logic.{inl, inr, ⊎_elim}
use mathlib.Core.Bool.{true, false, true≢false}
use mathlib.Core.List.{List}
use native.Mathlib.Omega.{arith}
use lib.ListN.{get_or}
use Rattle.base.specs.Below.{count_below}
use Rattle.base.proofs.TestLaws.{or_left, or_right, true_or_false, impossible}
use Rattle.base.proofs.BelowLaws.{count_gap}
use Rattle.base.specs.Binary.{binary}
use Rattle.base.proofs.BinaryLaws.{binary-same, binary_join}
use Rattle.model.specs.Map.{Map}
use Rattle.model.specs.Scheme.{left, has, added}
use Rattle.model.specs.Shaped.{Shaped}
use Rattle.model.specs.Site.{Site}
use Rattle.model.specs.Match.{image}
use Rattle.model.specs.Edit.{orbit_size, added_darts, dart_of}
use Rattle.model.proofs.AcceptedLaws.{kind_cases}
use Rattle.model.proofs.RankLaws.{rank-low, dart-left}
use Rattle.orbit.specs.Store.{mark, place, next, dart_at, Kept, Assigned}
use Rattle.orbit.specs.At.{At, site, of_slots}
use Rattle.rewriting.specs.Darts.{Darts, Given, row_start, Grant, Bare, TagsNoted}
use Rattle.rewriting.specs.Slots.{Apart, RowsBegin, Due, Granting}
use Rattle.rewriting.specs.Slots.{PlacesMarked, block_count, Behind, Digits, Block, BeforeBlocks, BeforeGiving, Granted}
use Rattle.orbit.proofs.StoreLaws.{among_same}
use Rattle.orbit.proofs.PlaceLaws.{places-few, place_in_lem, marked_in}
use Rattle.orbit.proofs.WalkLaws.{walked-kept}
use Rattle.rewriting.proofs.SlotRowLaws.{rows_none}
use Rattle.rewriting.proofs.SlotTurnLaws.{good, granting-none, many-few, cells, row_within, listed_at, listed-is}
use Rattle.rewriting.proofs.SlotBlockLaws.{early-orbit}

-- ---- the words of digits one after the other

module _ {m₀ : Map} {s₀ : List ℕ} {A : At m₀} {size many : ℕ} (G : Grant A s₀ size many) where
  open site A use {orbit as O}

  pub granting-start : {m : Map} → Bare (site A) m → TagsNoted (site A) s₀ size → Granting A s₀ size (count_below 0 O * many) 0 m s₀
  unfolding count_below
  granting-start b g = let z : 0 * many ≡ 0 = omega arith in rw z (granting-none G b g)

  -- where no node is added, there is nothing to give
  granting-idle : {m : Map} → Bare (site A) m → TagsNoted (site A) s₀ size → many ≡ 0 → Granting A s₀ size (count_below m₀.slots O * many) 0 m s₀
  granting-idle b g e = let z : count_below m₀.slots O * many ≡ 0 = rw e (omega arith) in rw z (granting-none G b g)

  -- the digits of a block of the orbit, from its two words in a store s that has the digits of s₀
  orbit-digits : {w : ℕ} (s : List ℕ) → Digits m₀.slots s₀ size s₀ → w < block_count m₀.slots
      → ((i : ℕ) → 3 * m₀.slots ≤ i → get_or s i 0 ≡ get_or s₀ i 0) → (number : ℕ)
      → number ≡ get_or s (8 * m₀.slots + 2 * w) 0 + get_or s (8 * m₀.slots + 2 * w + 1) 0 * 4294967296
      → number ≡ binary 64 (λ k. O (64 * w + k))
  orbit-digits {w} s d h kept number e =
      let N = m₀.slots in
      let next : 8 * N + 2 * w + 1 ≡ 8 * N + (2 * w + 1) = omega arith in
      let low : get_or s (8 * N + 2 * w) 0 ≡ binary 32 (λ k. O (64 * w + k)) =
      kept _ (omega arith) ∙ d.at (2 * w) (omega arith)
      ∙ binary-same 32 _ _ (λ k l. early-orbit G (32 * (2 * w) + k) ∙ ap O (omega arith)) in
      let high : get_or s (8 * N + 2 * w + 1) 0 ≡ binary 32 (λ k. O (64 * w + (32 + k))) =
      ap (λ (i : ℕ). get_or s i 0) next ∙ kept _ (omega arith) ∙ d.at (2 * w + 1) (omega arith)
      ∙ binary-same 32 _ _ (λ k l. early-orbit G (32 * (2 * w + 1) + k) ∙ ap O (omega arith)) in
      e ∙ ap₂ (λ (a b : ℕ). a + b * 4294967296) low high ∙ sym (binary_join 32 32 (λ k. O (64 * w + k)))

-- `before` is the map before the edit, and m the one in which slots are given
module _ (before : Map) {N : ℕ} {m : Map} {s₀ s : List ℕ} {A : At (of_slots N before)} {size many w free : ℕ} (G : Grant A s₀ size many)
    (d : Digits N s₀ size s₀) (g : Granting A s₀ size (count_below (64 * w) (site A).orbit * many) free m s) (h : w < block_count N) where
  pub block_of : (number : ℕ) → number ≡ get_or s (8 * N + 2 * w) 0 + get_or s (8 * N + 2 * w + 1) 0 * 4294967296 → Block N m s size many w number free
  block_of number e = record {
    before = before;
    at = A;
    store = s₀;
    grant = G;
    digits = orbit-digits G s d h (λ i l. g.kept i (inr l)) number e;
    granting = g;
  }

  -- after the pairs of one word of digits, those of the next
  pub next_block : (number free' : ℕ) (m' : Map) (s' : List ℕ)
      → number ≡ get_or s (8 * N + 2 * w) 0 + get_or s (8 * N + 2 * w + 1) 0 * 4294967296
      → ((B : Block N m s size many w number free)
      → Granting B.at B.store size (count_below (64 * w + 64) (site B.at).orbit * many) free' m' s')
      → Granting A s₀ size (count_below (64 * (w + 1)) (site A).orbit * many) free' m' s'
  unfolding block_of
  next_block number free' m' s' e f = let a : 64 * (w + 1) ≡ 64 * w + 64 = omega arith in rw a (f (block_of number e))

-- ---- from the phases before

module _ {N : ℕ} {M : Map} {s : List ℕ} {size : ℕ} {nodes : List ℕ} {many : ℕ} {rows : List ℕ} (R : BeforeGiving N M s size nodes many rows) where
  abbrev E : Site
  E = site R.at

  open E use {scheme as S, orbit as O}
  open R use {grant as G}

  shaped : Shaped S
  shaped = R.at.sound.accepted.shaped

  pub placed_of : PlacesMarked N s size
  placed_of = record {
    few = R.at.few;
    long = G.long;
    fits = G.walked.fits;
    slot = G.walked.slot;
    back = G.walked.back;
    found = G.walked.found;
  }

  -- the digits stand behind all that the phases before have left
  module _ (s₁ : List ℕ) (B : Behind N s s₁) where
    pub behind-kept : Kept N s s₁ size
    unfolding place mark next
    behind-kept = record {
      long = B.long;
      places = λ r h. B.kept (N + r) (omega (arith, G.walked.fits));
      marks = λ x h. among_same s₁ s size x (B.kept x (omega arith));
      ranks = λ x h e. B.kept x (omega arith);
      nexts = λ r p h l. B.kept (4 * N + 4 * r + p) (omega (arith, G.walked.fits));
    }

    pub behind-tagged : TagsNoted E s₁ size
    unfolding dart_at mark
    behind-tagged = record {
      at = λ u v e h a.
          let k = count_below v (added S) in
          let p = marked_in G.walked u e in
          ap (λ (j : ℕ). get_or s₁ (row_start N size k + (j - 1)) 0) (B.kept u (omega (arith, (good G).slot u e)))
          ∙ B.kept (row_start N size k + (mark s u - 1)) (omega (arith, row_within G v h a)) ∙ R.tagged.at u v e h a;
    }

    pub behind-assigned : Assigned E s₁ rows size
    unfolding dart_at
    behind-assigned = record {
      inside = R.assigned.inside;
      dart = λ v r h c l. let i = R.assigned.inside v h c in
          B.kept (get_or rows v 0 + r) (omega arith) ∙ R.assigned.dart v r h c l ∙ ap (λ (u : ℕ). image E u v) (sym (behind-kept.places r l));
    }

    abbrev pub regiven : BeforeGiving N M s₁ size nodes many rows
    regiven = record {
      before = R.before;
      at = R.at;
      grant = record {
        long = B.long ∙ G.long;
        walked = walked-kept _ _ _ _ s s₁ size (places-few R.at) G.walked behind-kept;
        every = G.every;
        match = G.match;
        room = G.room;
      };
      bare = R.bare;
      tagged = behind-tagged;
      node = R.node;
      assigned = behind-assigned;
      wide = R.wide;
    }

    pub granted-behind : {m' : Map} {s' rows' : List ℕ} → Granted E s₁ m' s' rows' size → Granted E s m' s' rows' size
    granted-behind g = record {
      given = g.given;
      darts = g.darts;
      kept = record {
        long = g.kept.long ∙ B.long;
        places = λ r h. g.kept.places r h ∙ behind-kept.places r h;
        marks = λ x h. g.kept.marks x h ∙ behind-kept.marks x h;
        ranks = λ x h e. g.kept.ranks x h (behind-kept.marks x h ∙ e) ∙ behind-kept.ranks x h e;
        nexts = λ r p h l. g.kept.nexts r p h l ∙ behind-kept.nexts r p h l;
      };
      wide = g.wide;
    }

  -- the digits are in the store
  abbrev pub blocks_ready : Digits N s size s → BeforeBlocks N M s size many
  blocks_ready d = record { before = R.before; at = R.at; grant = G; bare = R.bare; tagged = R.tagged; digits = d }

  pub apart_of : Apart N size nodes many
  apart_of = record {
    few = many-few G;
    slots = R.at.few;
    room = cells G;
    below = λ a h. omega (arith, (listed_at G nodes R.node a h).0, shaped.nodes_few);
    once = λ a b l h e.
        omega (arith, ap (λ (k : ℕ). count_below k (added S)) e, (listed_at G nodes R.node a (omega arith)).2, (listed_at G nodes R.node b h).2);
  }

  -- ---- to the phases after

  module _ {free : ℕ} {m' : Map} {s' rows' : List ℕ} (C : RowsBegin N size nodes many rows rows')
      (g : Granting R.at s size (count_below N O * many) free m' s') where
    -- every added pair has its slot
    all-due : (u v : ℕ) → O u ≡ true → v < S.nodes → added S v ≡ true
        → Due R.at (count_below N O * many) u v
    unfolding added_darts orbit_size
    all-due u v e h a = record {
      in_orbit = e;
      below = h;
      is_added = a;
      early = rw G.every (rank-low E (good G).slot u v e h a);
    }

    given_of : Given E m'
    given_of = record {
      fresh = λ u v f e h a. g.fresh u v f (all-due u v e h a);
      other = λ y f no. g.other y f
          (λ u v d e. no (record { dart = u; node = v; in_orbit = d.in_orbit; below = d.below; is_added = d.is_added; same = e }));
    }

    kept_of : Kept N s s' size
    unfolding place mark next
    kept_of = record {
      long = g.store_long;
      places = λ r h. g.kept (N + r) (inl (omega (arith, G.walked.fits)));
      marks = λ x h. among_same s' s size x (g.kept x (inl (omega arith)));
      ranks = λ x h e. g.kept x (inl (omega arith));
      nexts = λ r p h l. g.kept (4 * N + 4 * r + p) (inr (omega arith));
    }

    -- the row of an added node, and that of a left one
    row-added : (v : ℕ) → v < S.nodes → added S v ≡ true → get_or rows' v 0 ≡ row_start N size (count_below v (added S))
    row-added v h a =
        subst (λ (k : ℕ). get_or rows' k 0 ≡ row_start N size (count_below v (added S))) (listed-is G nodes R.node v h a) (C.at _ (row_within G v h a).0)

    row-left : (v : ℕ) → added S v ≡ false → get_or rows' v 0 ≡ get_or rows v 0
    row-left v n = C.other v (λ a l e. true≢false (sym (listed_at G nodes R.node a l).1 ∙ ap (added S) e ∙ n))

    is-left : (v : ℕ) → v < S.nodes → added S v ≡ false → has S left v ≡ true
    is-left v h n = ⊎_elim
        (λ d. or_left _ d)
        (λ w. ⊎_elim (λ p. or_right _ p) (λ a. absurd (true≢false (sym a ∙ n))) w)
        (kind_cases S shaped v h)

    darts_of : Darts E s' rows' size
    unfolding dart_at
    darts_of = record {
      inside = λ v h. ⊎_elim
          (λ a. let c = row-added v h a in (omega arith, omega (arith, row_within G v h a)))
          (λ n. let c = row-left v n in let i = R.assigned.inside v h (is-left v h n) in (omega arith, omega arith))
          (true_or_false (added S v));
      dart = λ v r h l. ⊎_elim
          (λ a. ap₂ (λ (b k : ℕ). get_or s' (b + k) 0) (row-added v h a) (omega (arith, G.walked.back r l))
          ∙ g.dart (place N s r) v (all-due (place N s r) v (place_in_lem G.walked r l) h a))
          (λ n. let c = is-left v h n in let i = R.assigned.inside v h c in
          ap (λ (b : ℕ). get_or s' (b + r) 0) (row-left v n)
          ∙ g.kept (get_or rows v 0 + r) (inl (omega arith))
          ∙ R.assigned.dart v r h c l ∙ sym (dart-left E (place N s r) v c))
          (true_or_false (added S v))
          ∙ ap (λ (u : ℕ). dart_of E u v) (sym (kept_of.places r l));
    }

    granted-all : Granted E s m' s' rows' size
    granted-all = record { given = given_of; darts = darts_of; kept = kept_of; wide = C.long ∙ R.wide }

  -- where no node is added, nothing was done
  pub granted-none : many ≡ 0 → Granted E s M s rows size
  granted-none e = granted-all (subst (λ (k : ℕ). RowsBegin N size nodes k rows rows) (sym e) (rows_none N size nodes rows))
      (granting-idle G R.bare R.tagged e)

  -- once x is past the last slot
  pub granted : {x free : ℕ} {m' : Map} {s' rows' : List ℕ} → RowsBegin N size nodes many rows rows' → N ≤ x
      → Granting R.at s size (count_below x O * many) free m' s'
      → Granted E s m' s' rows' size
  granted {x} {free} {m'} {s'} {rows'} C h g =
      let e : count_below x O ≡ count_below N O = count_gap O N x h
      (λ z l k. impossible _ (λ q. let b = (good G).slot z q in omega arith)) in
      granted-all C (rw e at g)

-- 'What an edit does': the dart of each pair, the pair of each slot, and the new map, slot by slot. Rewriting.antt says the same sentence by
-- sentence, of the map before and the map after; `edited` is that rewriting (`rewriting` of proofs/RewritingLaws.antt).
-- At the site E, m is the map, S the scheme, O the orbit, all as they were before the edit: nothing here reads a link that was rewritten.
use Rattle.std.specs.Prelude.{ℕ, ◌+◌, ◌*◌, Bool, true, false, cond, eqb}
use Rattle.std.specs.Prelude.{Option, Some, None, unwrap_or}
use Rattle.base.specs.Test.{◌and◌, ◌or◌}
use Rattle.base.specs.Below.{any_below, count_below}
use Rattle.base.specs.First.{nth_lowest, first, some_if}
use Rattle.model.specs.Map.{Map, unused}
use Rattle.model.specs.Scheme.{right, donor, orbit_dim, has, deleted, added}
use Rattle.model.specs.Conditions.{Arc, absent, explicit, implicit, arc_at}
use Rattle.model.specs.Site.{Site}
use Rattle.model.specs.Match.{image}

-- an orbit dart u and a node s
pub record Pair : Type 0 where
  pub dart : ℕ
  pub node : ℕ

module _ (E : Site) where
  open E use {map as m, scheme as S, orbit as O}

  -- ---- what the edit deletes, and which slots are then free

  -- this edit frees the slot x, the dart of a deleted pair; f gives the darts of the left pairs
  unfoldable pub freed : (ℕ → ℕ → ℕ) → ℕ → Bool
  freed f x = any_below m.slots (λ u. O u and any_below S.nodes (λ s. deleted S s and eqb (f u s) x))

  -- the slot x is free for this edit, so that a new dart can take it: "those unused before and those this edit deletes"
  unfoldable pub is_free : (ℕ → ℕ → ℕ) → ℕ → Bool
  is_free f x = unused m x or freed f x

  -- a word of the slot x once the deleted darts are gone: "A deleted slot that isn't taken again is zero", "all other records stay as they stood"
  unfoldable pub left_word : ℕ → ℕ → ℕ
  left_word x old = cond (freed (image E) x) 0 old

  -- the map once the deleted darts are gone, before new ones are there
  unfoldable pub after_deletion : Map
  after_deletion = record {
    slots = m.slots;
    state = λ x. left_word x (m.state x);
    link = λ i x. left_word x (m.link i x);
    tag = λ x. left_word x (m.tag x);
  }

  -- ---- the dart of a pair

  -- "New darts now take the lowest slots among" those that are free: the k-th added pair takes the k-th lowest
  unfoldable pub free_slot : ℕ → ℕ
  free_slot k = unwrap_or (nth_lowest m.slots (is_free (image E)) k) 0

  -- "The pairs (u, s), s added, are ordered by u and then by s": which of them (u, s) is, counted from 0
  unfoldable pub rank : ℕ → ℕ → ℕ
  rank u s = count_below u O * count_below S.nodes (added S) + count_below s (added S)

  -- "the size of O, darts added and darts deleted"
  unfoldable pub orbit_size : ℕ
  orbit_size = count_below m.slots O

  unfoldable pub added_darts : ℕ
  added_darts = orbit_size * count_below S.nodes (added S)

  unfoldable pub deleted_darts : ℕ
  deleted_darts = orbit_size * count_below S.nodes (deleted S)

  -- how many slots are free for this edit (`room-is` of proofs/RoomLaws.antt): "unused slots plus size of O × deleted nodes"
  unfoldable pub room_of : ℕ
  room_of = count_below m.slots (unused m) + deleted_darts

  -- the dart of the pair (u, s): a free slot where s is added, else m(u, s)
  unfoldable pub dart_of : ℕ → ℕ → ℕ
  dart_of u s = cond (added S s) (free_slot (rank u s)) (image E u s)

  -- the preserved or added pair whose dart is x, if any. No deleted pair is asked: where it shares its slot with an added one, the slot is the new dart's
  unfoldable pub pair_of : ℕ → Option Pair
  pair_of x = first m.slots (λ u. first S.nodes (λ s. some_if (O u and (has S right s and eqb (dart_of u s) x)) (record { dart = u; node = s })))

  -- ---- the words of a slot

  -- αi of the dart x of an added (true) or a preserved (false) pair, where its right side names no i-arc
  abbrev pub unnamed_link : Bool → ℕ → ℕ → ℕ
  -- "α3 of a new dart is itself where n = 2": by incidence an added node's right side names α0 to αn, so no other link is unnamed
  unnamed_link true i x = x
  -- "A preserved dart keeps [..] every link its right side doesn't name."
  unnamed_link false i x = m.link i x

  -- the tag of the dart x of an added (true) or a preserved (false) pair (u, s)
  abbrev pub new_tag : Bool → ℕ → ℕ → ℕ → ℕ
  -- "the new dart (u, s) takes the tag that m(u, donor) had before the edit"
  new_tag true u s x = m.tag (image E u (donor S s))
  -- "A preserved dart keeps its tag"
  new_tag false u s x = m.tag x

  -- αi of the dart of (u, s), by the i-arc that s has on the right; where it has none, what an unnamed link is
  unfoldable pub new_link : ℕ → ℕ → Arc → ℕ → ℕ
  new_link u s absent unnamed = unnamed
  -- "an explicit right i-arc to t sets αi to the dart of (u, t)"
  new_link u s (explicit t) unnamed = dart_of u t
  -- "an implicit one at position p sets it to the dart of (αq(u), s), with αq from before the edit"
  new_link u s (implicit p) unnamed = dart_of (m.link (orbit_dim S p) u) s

  -- a word of a slot by the preserved or added pair, if any, whose dart it is; f gives the words of such pairs. A slot that is taken "holds the new
  -- record only": of what stood there before nothing is asked
  unfoldable pub new_word : Option Pair → ℕ → (ℕ → ℕ → ℕ) → ℕ
  new_word None old f = old
  new_word (Some p) old f = f p.dart p.node

  -- the map after the edit
  unfoldable pub edited : Map
  edited = record {
    slots = m.slots;
    state = λ x. new_word (pair_of x) (after_deletion.state x) (λ u s. 1);
    link = λ i x. new_word (pair_of x) (after_deletion.link i x) (λ u s. new_link u s (arc_at S right s i) (unnamed_link (added S s) i x));
    tag = λ x. new_word (pair_of x) (after_deletion.tag x) (λ u s. new_tag (added S s) u s x);
  }

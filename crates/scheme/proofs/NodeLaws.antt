-- The nodes as they are read: a node's form from its parts, what holds once the first s nodes are read, and what the kinds tell.
use Prim.Native.Nat.{ℕ, ◌+◌, ◌*◌, ◌/◌, ◌≤◌, ◌<◌}
use mathlib.Core.Path.{◌≡◌, sym, ap, ◌∙◌}
use mathlib.Core.Bool.{Bool, true, false, cond, not}
use mathlib.Core.List.{List}
use native.Mathlib.Omega.{arith}
use lib.ListN.{get_or, set, replicate}
use lib.Dec.{eqb}
use borrow.Author.Tests.{lt-ltb, le-leb, lt-leb, leb-true}
use Rattle.base.specs.Test.{◌and◌, ◌⇒◌}
use Rattle.base.specs.Below.{all_below}
use Rattle.base.specs.Filled.{filled}
use Rattle.base.specs.Lists.{list}
use Rattle.base.proofs.TestLaws.{and_left, and_right, and_of, refuted, same_test}
use Rattle.base.proofs.BelowLaws.{all-at, all_none, all_more}
use Rattle.base.proofs.ListLaws.{get_or-list}
use Rattle.base.proofs.FilledLaws.{filled_none, filled_more, filled-all, same-ltb}
use Rattle.model.specs.Bytes.{on_side, places_of, nodes_of, node_at, kind_at, up_to}
use Rattle.model.specs.Codes.{placed, placed_at}
use Rattle.model.specs.Scheme.{Side, left, right, word_form, word_empty, node_form, words_of, scheme_of}
use Rattle.model.proofs.NodePlaceLaws.{node-first}
use Rattle.scheme.specs.Words.{barred, row}
use Rattle.scheme.specs.Nodes.{Passed, Noded}
use Rattle.scheme.proofs.WordLaws.{on-side}
use Rattle.scheme.proofs.ArcTestLaws.{denies}

-- ---- one node

module _ (b : List ℕ) (s : ℕ) where
  pub node-low : kind_at b s < 1 → false ≡ node_form b s
  unfolding node_form
  node-low h = sym (refuted (λ q. and_left _ _ (and_left _ _ (and_left _ _ (and_left _ _ (and_left _ _ q))))) (lt-leb _ _ h))

  pub node_high : 3 < kind_at b s → false ≡ node_form b s
  unfolding node_form
  node_high h = sym (refuted (λ q. and_right _ _ (and_left _ _ (and_left _ _ (and_left _ _ (and_left _ _ q))))) (lt-leb _ _ h))

  pub node-left : (word_form b left s and word_empty b left s) ≡ false → false ≡ node_form b s
  unfolding node_form
  node-left e = sym (refuted (λ q. and_of (and_right _ _ (and_left _ _ (and_left _ _ (and_left _ _ q)))) (and_right _ _ (and_left _ _ q))) e)

  pub node-right : {r : Bool} → 1 ≤ kind_at b s → kind_at b s ≤ 3 → (word_form b left s and word_empty b left s) ≡ true
      → r ≡ (word_form b right s and word_empty b right s) → r ≡ node_form b s
  unfolding node_form
  node-right h k l e = e ∙ same_test _ _
      (λ q. and_of (and_of (and_of (and_of (and_of (le-leb _ _ h) (le-leb _ _ k)) (and_left _ _ l)) (and_left _ _ q)) (and_right _ _ l)) (and_right _ _ q))
      (λ q. and_of (and_right _ _ (and_left _ _ (and_left _ _ q))) (and_right _ _ q))

-- ---- the first s nodes

module _ (b : List ℕ) where
  pub passed_none : {at : ℕ} {kinds lwords rwords ltargets rtargets : List ℕ} → at ≡ 3 + places_of b → kinds ≡ replicate 16 0
      → lwords ≡ replicate 64 255 → rwords ≡ replicate 64 255 → ltargets ≡ replicate 64 255 → rtargets ≡ replicate 64 255
      → Passed b 0 at kinds lwords rwords ltargets rtargets
  passed_none e k l r u v = record {
    formed = all_none _;
    place_is = e ∙ sym (node-first b);
    kinds_is = k ∙ filled_none 16 (kind_at b) 0;
    lwords_is = l ∙ filled_none 64 (row b left) 255;
    rwords_is = r ∙ filled_none 64 (row b right) 255;
    ltargets_is = u ∙ filled_none 64 (placed b left) 255;
    rtargets_is = v ∙ filled_none 64 (placed b right) 255;
  }

  pub passed-more : {s at next kind : ℕ} {kinds lwords rwords ltargets rtargets lwords' rwords' ltargets' rtargets' : List ℕ}
      → Passed b s at kinds lwords rwords ltargets rtargets → s < 16 → node_form b s ≡ true
      → next ≡ node_at b (s + 1) → kind ≡ kind_at b s
      → lwords' ≡ filled 64 (4 * (s + 1)) (row b left) 255 → rwords' ≡ filled 64 (4 * (s + 1)) (row b right) 255
      → ltargets' ≡ filled 64 (4 * (s + 1)) (placed b left) 255 → rtargets' ≡ filled 64 (4 * (s + 1)) (placed b right) 255
      → Passed b (s + 1) next (set kinds s kind) lwords' rwords' ltargets' rtargets'
  passed-more {s} f h e n k l r u v = record {
    formed = all_more _ s f.formed e;
    place_is = n;
    kinds_is = filled_more 16 (kind_at b) 0 s f.kinds_is h k;
    lwords_is = l;
    rwords_is = r;
    ltargets_is = u;
    rtargets_is = v;
  }

  module _ {s at : ℕ} {kinds lwords rwords ltargets rtargets : List ℕ} (f : Passed b s at kinds lwords rwords ltargets rtargets) (h : s ≤ nodes_of b)
      (k : nodes_of b ≤ s) where
    kinds-value : kinds ≡ (scheme_of b).kinds
    unfolding scheme_of
    kinds-value =
        let same : s ≡ nodes_of b = omega arith in
        filled-all 16 (kind_at b) 0 s _ f.kinds_is (λ x l. ap (λ (j : ℕ). up_to j x (kind_at b x) 0) same)

    words-value : (side : Side) {words : List ℕ} → words ≡ filled 64 (4 * s) (row b side) 255 → words ≡ words_of b side
    unfolding words_of row
    words-value side e = filled-all 64 (row b side) 255 (4 * s) _ e (λ x l.
        ap (λ (t : Bool). cond t (row b side x) 255) (same-ltb x (4 * s) (x / 4) (nodes_of b) (λ u. omega arith) (λ u. omega arith)))

    -- the targets of a side once all nodes are read
    targets-value : (side : Side) {targets : List ℕ} → targets ≡ filled 64 (4 * s) (placed b side) 255 → targets ≡ list 64 (placed_at b side)
    unfolding filled
    targets-value side e = let same : s ≡ nodes_of b = omega arith in e ∙ ap (λ (j : ℕ). filled 64 (4 * j) (placed b side) 255) same

    pub passed-all : Noded b at kinds lwords rwords ltargets rtargets
    unfolding scheme_of
    passed-all = let same : s ≡ nodes_of b = omega arith in record {
      place_is = f.place_is ∙ ap (node_at b) same;
      kinds_is = kinds-value;
      lwords_is = words-value left f.lwords_is;
      rwords_is = words-value right f.rwords_is;
      ltargets_is = targets-value left f.ltargets_is;
      rtargets_is = targets-value right f.rtargets_is;
    }

-- ---- the kinds that are held

module _ (b : List ℕ) {kinds : List ℕ} (few : nodes_of b ≤ 16) (same : kinds ≡ (scheme_of b).kinds) where
  pub kind-at : (s : ℕ) → s < nodes_of b → get_or kinds s 0 ≡ kind_at b s
  unfolding scheme_of
  kind-at s h = ap (λ (m : List ℕ). get_or m s 0) same ∙ get_or-list 16 s _ 0 (omega arith) ∙ ap (λ (t : Bool). cond t (kind_at b s) 0) (lt-ltb _ _ h)

  -- a node in the form is on a side unless it is of the kind that may not occur there
  pub held-side : all_below (nodes_of b) (node_form b) ≡ true → (side : Side) (s : ℕ) → s < nodes_of b
      → on_side side (kind_at b s) ≡ (eqb (get_or kinds s 0) (barred side) ⇒ false)
  unfolding node_form
  held-side nodes side s h =
      let q = and_left _ _ (and_left _ _ (and_left _ _ (and_left _ _ (all-at _ _ nodes s h)))) in
      on-side side (leb-true 1 _ (and_left _ _ q)) (leb-true _ 3 (and_right _ _ q)) ∙ ap (λ (k : ℕ). eqb k (barred side) ⇒ false) (sym (kind-at s h))

  -- a node in the form is on the left unless it is added
  pub held-left : all_below (nodes_of b) (node_form b) ≡ true → {at : ℕ} (s : ℕ) → at ≡ s → s < nodes_of b
      → not (eqb (get_or kinds at 0) 3) ≡ on_side left (kind_at b s)
  held-left nodes s e h =
      let same : on_side left (kind_at b s) ≡ (eqb (get_or kinds s 0) 3 ⇒ false) = held-side nodes left s h in
      ap (λ (x : ℕ). not (eqb (get_or kinds x 0) 3)) e ∙ denies (eqb (get_or kinds s 0) 3) ∙ sym same

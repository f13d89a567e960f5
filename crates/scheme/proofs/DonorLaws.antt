-- The donors as they are read.
use Prim.Native.Nat.{ℕ, ◌+◌, ◌*◌, ◌≤◌, ◌<◌}
use mathlib.Core.Path.{◌≡◌, sym, ap, ◌∙◌}
use mathlib.Core.Bool.{Bool, true, false, cond, not, true≢false}
use mathlib.Core.List.{List}
use native.Mathlib.Omega.{arith}
use lib.ListN.{length, get_or, set, replicate}
use lib.Dec.{eqb}
use borrow.Author.Tests.{eq-eqb, ne_eqb}
use Rattle.base.specs.Test.{bit}
use Rattle.base.specs.Below.{all_below}
use Rattle.base.specs.Filled.{filled}
use Rattle.base.proofs.TestLaws.{and_of, and_no_left, and_no_right, impossible, same_test}
use Rattle.base.proofs.BelowLaws.{all_of, all_none, all_more}
use Rattle.base.proofs.FilledLaws.{filled_none, filled_more, filled-over, filled-all}
use Rattle.model.specs.Bytes.{byte, names_donors, places_of, nodes_of, has_donor, node_at, kind_at, donor_of, up_to}
use Rattle.model.specs.Scheme.{donor_form, scheme_of}
use Rattle.model.proofs.NodePlaceLaws.{node-first, node-next}
use Rattle.model.proofs.FormLaws.{donor-parts, donor-whole, donor-none}
use Rattle.frame.specs.Place.{TakenAt}
use Rattle.frame.specs.declared.cursor.Cursor.{Cursor}
use Rattle.frame.specs.declared.Layout.{Layout}
use Rattle.frame.proofs.FrameLaws.{node-inside}
use Rattle.scheme.specs.Donors.{DonorsPlaced, Donated}
use Rattle.scheme.proofs.NodeLaws.{kind-at, held-left}

-- ---- none is named

module _ (b : List ℕ) (none : names_donors b ≡ false) where
  unnamed : (s : ℕ) → has_donor b (kind_at b s) ≡ false
  unfolding has_donor
  unnamed s = and_no_left _ none

  pub none-formed : true ≡ all_below (nodes_of b) (donor_form b)
  none-formed = sym (all_of _ _ (λ s h. donor-whole b s (λ e. absurd (true≢false (sym e ∙ unnamed s)))))

  pub none_read : {donors : List ℕ} → donors ≡ replicate 16 0 → donors ≡ (scheme_of b).donors
  unfolding scheme_of filled
  none_read e = filled-over 16 (donor_of b) 0 0 (nodes_of b) (e ∙ filled_none 16 (donor_of b) 0) (omega arith) (λ s g h. donor-none b s (unnamed s))

-- ---- the donors of the first s nodes

module _ (b : List ℕ) where
  pub donated_none : {at : ℕ} {donors : List ℕ} → at ≡ 3 + places_of b → donors ≡ replicate 16 0 → Donated b 0 at donors
  donated_none e d = record { formed = all_none _; place_is = e ∙ sym (node-first b); donors_is = d ∙ filled_none 16 (donor_of b) 0 }

  pub donated_all : {s at : ℕ} {donors : List ℕ} → Donated b s at donors → s ≤ nodes_of b → nodes_of b ≤ s → donors ≡ (scheme_of b).donors
  unfolding scheme_of
  donated_all {s} f h k =
      let same : s ≡ nodes_of b = omega arith in
      filled-all 16 (donor_of b) 0 s _ f.donors_is (λ x l. ap (λ (j : ℕ). up_to j x (donor_of b x) 0) same)

-- ---- the donor of node s

module _ (b : List ℕ) (l : Layout) {kinds : List ℕ} (p : DonorsPlaced b l kinds) {s : ℕ} (h : s < nodes_of b) where
  few : nodes_of b ≤ 16
  few = let hd = p.laid.headed in omega arith

  -- ---- a node that is not added

  module _ (plain : get_or kinds s 0 ≡ 3 → ⊥) where
    lacks : has_donor b (kind_at b s) ≡ false
    unfolding has_donor
    lacks = and_no_right _ (ne_eqb _ _ (λ e. plain (kind-at b few p.kinds_are s h ∙ e)))

    pub plain-formed : true ≡ donor_form b s
    plain-formed = sym (donor-whole b s (λ e. absurd (true≢false (sym e ∙ lacks))))

    pub plain_more : {at next : ℕ} {donors : List ℕ} → Donated b s at donors → next ≡ node_at b s + 1 + 2 * places_of b
        → Donated b (s + 1) next donors
    plain_more f e = record {
      formed = all_more _ s f.formed (sym plain-formed);
      place_is = omega (arith, node-next b s, ap bit lacks);
      donors_is = filled-over 16 (donor_of b) 0 s (s + 1) f.donors_is (omega arith) (λ k u v.
          let same : k ≡ s = omega arith in ap (donor_of b) same ∙ donor-none b s lacks);
    }

  -- ---- an added node: the byte after its words

  has : names_donors b ≡ true → get_or kinds s 0 ≡ 3 → has_donor b (kind_at b s) ≡ true
  unfolding has_donor
  has named added = and_of named (eq-eqb _ _ (sym (kind-at b few p.kinds_are s h) ∙ added))

  pub donor-inside : names_donors b ≡ true → get_or kinds s 0 ≡ 3 → node_at b s + 1 + 2 * places_of b < length b
  donor-inside named added = omega (arith, node-inside b l p.laid s h, ap bit (has named added))

  module _ (named : names_donors b ≡ true) (added : get_or kinds s 0 ≡ 3) {from : ℕ} (place : from ≡ node_at b s + 1 + 2 * places_of b) {r : ℕ × Cursor}
      (t : TakenAt b from r) where
    donor-read : r.0 ≡ donor_of b s
    unfolding donor_of
    donor-read = t.value_is ∙ ap (byte b) place ∙ sym (ap (λ (c : Bool). cond c (byte b (node_at b s + 1 + 2 * places_of b)) 0) (has named added))

    -- no node is named
    pub no_node : l.nodes ≤ r.0 → false ≡ donor_form b s
    no_node g =
        let d = donor-read in
        let n = p.laid.headed.nodes_is in
        sym (impossible (donor_form b s) (λ q. let f = donor-parts b s q (has named added) in omega arith))

    -- a node is named: its kind decides
    pub some-formed : {at : ℕ} → at ≡ r.0 → r.0 < l.nodes → not (eqb (get_or kinds at 0) 3) ≡ donor_form b s
    some-formed e g =
        let d = donor-read in
        let n = p.laid.headed.nodes_is in
        let below : donor_of b s < nodes_of b = omega arith in
        held-left b few p.kinds_are p.nodes (donor_of b s) (e ∙ d) below ∙ same_test _ _
        (λ q. donor-whole b s (λ m. record { node = below; on_left = q }))
        (λ q. (donor-parts b s q (has named added)).on_left)

    pub some_more : {at : ℕ} {donors : List ℕ} → Donated b s at donors → donor_form b s ≡ true → Donated b (s + 1) r.1.at (set donors s r.0)
    some_more f e = record {
      formed = all_more _ s f.formed e;
      place_is = omega (arith, t.next_is, node-next b s, ap bit (has named added));
      donors_is = filled_more 16 (donor_of b) 0 s f.donors_is (omega (arith, few)) donor-read;
    }

-- A file in its form, section by section: the bytes that are written for its map are the bytes of the file.
use Prim.Native.Nat.{ℕ, suc, ◌+◌, ◌*◌, ◌≤◌, ◌<◌}
use mathlib.Core.Path.{◌≡◌, refl, sym, ap, ap₂, ◌∙◌}
use mathlib.Core.Bool.{Bool, true, false}
use mathlib.Core.List.{List, [], ◌∷◌, ◌++◌}
use native.Mathlib.Nat.{mul-le-mul_left}
use native.Mathlib.Omega.{arith}
use lib.ListN.{length, get_or, take, drop}
use lib.Seq.{take-add, take_all, drop-drop}
use lib.Dec.{eqb}
use borrow.Author.Tests.{eqb-true}
use Rattle.base.specs.Test.{◌and◌, bit}
use Rattle.base.specs.Below.{count_below}
use Rattle.base.specs.First.{there}
use Rattle.base.specs.Digits.{bytes_of, number_at}
use Rattle.base.proofs.TestLaws.{and_left, and_right}
use Rattle.base.proofs.FirstLaws.{there-at, least_at}
use Rattle.base.proofs.DigitLaws.{bytes_back}
use Rattle.base.proofs.ListLaws.{Ascends, chosen_ascending, joined_same, joined-take, length-joined, length_chosen}
use Rattle.model.specs.Map.{Map, live}
use Rattle.model.specs.File.{tags_from, links_from, slots_from, live_darts, section, file_in, darts_in, slot_in, tag_in, link_in, place_in, form_in, map_in}
use Rattle.model.proofs.FileLaws.{place_in_lem, tag_in_lem, link_in_lem}
use Rattle.file.specs.Form.{head_ok, counts_ok, frame_ok, slots_ok}
use Rattle.file.specs.Records.{Formed}
use Rattle.file.specs.Sections.{link_bytes, part_bytes, part_size, darts_bytes, section_bytes, head_bytes}
use Rattle.file.specs.declared.sections.Part.{Part}
use Rattle.file.specs.declared.sections.Part.TheVariants.{Slots, Tags, Links}
use Rattle.file.proofs.FormLaws.{form-is, formed}
use Rattle.file.proofs.SectionLaws.{file-parts}
use Rattle.file.proofs.WrittenLaws.{start}

module _ (w n N : ℕ) (b : List ℕ) (t : form_in w n N b ≡ true) where
  abbrev m : Map
  m = map_in w n N b

  abbrev L : ℕ
  L = darts_in w b

  tests : (frame_ok w n N b and slots_ok w N b L) ≡ true
  tests = sym (form-is w n N b) ∙ t

  F : Formed w n N b
  F = formed w n N b tests

  live-is : (x : ℕ) → live m x ≡ there (place_in w b x)
  unfolding map_in
  live-is x = go (there (place_in w b x))
    where
      go : (c : Bool) → eqb (bit c) 1 ≡ c
      go true = refl
      go false = refl

  ascends : Ascends N (live m) L (slot_in w b)
  unfolding there place_in
  ascends = record {
    inside = F.below;
    has = λ i h. live-is (slot_in w b i) ∙ rw (place_in_lem w n N b t i h) refl;
    up = F.ascends;
    each = λ x h e.
        let k = there-at (place_in w b x) (sym (live-is x) ∙ e) in
        let r = least_at L (λ o. eqb (slot_in w b o) x) k.0 k.1 in
        (k.0, r.0, eqb-true _ _ r.1);
  }

  -- as many darts are live as the file has
  live-darts : live_darts m ≡ L
  unfolding live_darts map_in
  live-darts =
      let one : ℕ → List ℕ = λ x. 0 ∷ [] in
      let e : 1 * count_below N (live m) ≡ 1 * L = sym (length_chosen 1 (live m) one (λ x. refl) N)
      ∙ ap length (chosen_ascending (live m) (slot_in w b) one N L ascends) ∙ length-joined 1 _ (λ i. refl) L in
      omega arith

  module _ (bytes : (i : ℕ) → get_or b i 0 < 256) where
    size : length b ≡ links_from w L + w + w * ((n + 1) * L)
    size = F.size ∙ omega arith

    part_bytes_lem : (part : Part) (k : ℕ) → k < L
        → part_bytes w n m part (slot_in w b k) ≡ take (part_size w n part) (drop (start w L part + w + part_size w n part * k) b)
    unfolding part_bytes part_size start slot_in link_bytes tag_in link_in
    part_bytes_lem Slots k l =
        let more : k + 1 ≤ L = omega arith in
        bytes_back w b (slots_from w + w + w * k) bytes (omega (arith, size, mul-le-mul_left w more))
    part_bytes_lem Tags k l =
        let more : k + 1 ≤ L = omega arith in
        ap (bytes_of 4) (tag_in_lem w n N b t k l) ∙ bytes_back 4 b (tags_from w L + w + 4 * k) bytes (omega (arith, size))
    part_bytes_lem Links k l =
        let p : ℕ = links_from w L + w + w * ((n + 1) * k) in
        let at : p ≡ links_from w L + w + w * (n + 1) * k = omega arith in
        let more : k + 1 ≤ L = omega arith in
        let all : w * suc n ≡ w * (n + 1) = omega arith in
        joined_same (suc n) _ _ (λ i g.
        let one : i + 1 ≤ n + 1 = omega arith in
        ap (bytes_of w) (link_in_lem w n N b t k l i (omega arith))
        ∙ bytes_back w b (p + w * i) bytes (omega (arith, size, mul-le-mul_left w (mul-le-mul_left (n + 1) more), mul-le-mul_left w one)))
        ∙ joined-take w b p (suc n)
        ∙ ap₂ (λ (u v : ℕ). take u (drop v b)) all at

    darts-bytes : (part : Part) → darts_bytes w n m part N ≡ take (part_size w n part * L) (drop (start w L part + w) b)
    unfolding darts_bytes
    darts-bytes part =
        chosen_ascending (live m) (slot_in w b) (part_bytes w n m part) N L ascends
        ∙ joined_same L _ _ (part_bytes_lem part)
        ∙ joined-take (part_size w n part) b (start w L part + w) L

    -- a section's count stands at its start
    counted : (part : Part) → number_at w b (start w L part) ≡ L
    unfolding start frame_ok counts_ok
    counted Slots = refl
    counted Tags = eqb-true _ _ (and_left _ _ (and_right _ _ (and_left _ _ (and_left _ _ tests))))
    counted Links = eqb-true _ _ (and_right _ _ (and_right _ _ (and_left _ _ (and_left _ _ tests))))

    start_fits : (part : Part) → start w L part + w ≤ length b
    unfolding start
    start_fits Slots = omega (arith, size)
    start_fits Tags = omega (arith, size)
    start_fits Links = omega (arith, size)

    section-bytes : (part : Part) → section_bytes w n m part ≡ take (w + part_size w n part * L) (drop (start w L part) b)
    unfolding section_bytes section map_in darts_bytes
    section-bytes part =
        let s : ℕ = start w L part in
        ap₂ (λ (a z : List ℕ). a ++ z)
        (ap (bytes_of w) (live-darts ∙ sym (counted part)) ∙ bytes_back w b s bytes (start_fits part))
        (darts-bytes part ∙ ap (take (part_size w n part * L)) (sym (drop-drop w s b)))
        ∙ sym (take-add w (part_size w n part * L) (drop s b))

    head_bytes_lem : head_bytes w n N ≡ take (1 + w) b
    unfolding head_bytes frame_ok head_ok
    head_bytes_lem =
        let e = and_left _ _ (and_left _ _ (and_left _ _ tests)) in
        ap₂ (λ (u v : List ℕ). u ++ v)
        (ap (bytes_of 1) (sym (eqb-true _ _ (and_left _ _ e))) ∙ bytes_back 1 b 0 bytes (omega (arith, size)))
        (ap (bytes_of w) (sym (eqb-true _ _ (and_right _ _ e))) ∙ bytes_back w b 1 bytes (omega (arith, size)))
        ∙ sym (take-add 1 w b)

    -- a section after what stands before it
    then_section : (part : Part) (l : List ℕ) (e : ℕ) → l ≡ take (start w L part) b → start w L part + (w + part_size w n part * L) ≡ e
        → l ++ section_bytes w n m part ≡ take e b
    then_section part l e q r =
        ap₂ (λ (u v : List ℕ). u ++ v) q (section-bytes part) ∙ sym (take-add (start w L part) (w + part_size w n part * L) b) ∙ ap (λ (z : ℕ). take z b) r

    pub all-bytes : file_in w n m ≡ b
    unfolding start part_size map_in
    all-bytes =
        file-parts w n m
        ∙ then_section Links _ (length b)
        (then_section Tags _ (links_from w L) (then_section Slots _ (tags_from w L) head_bytes_lem (omega arith)) (omega arith))
        (omega (arith, size))
        ∙ take_all (length b) b (omega arith)

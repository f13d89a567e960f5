-- What is read in the file that was written for a map.
use Prim.Native.Nat.{ℕ, suc, ◌+◌, ◌*◌, ◌^◌, ◌≤◌, ◌<◌}
use mathlib.Core.Path.{◌≡◌, refl, sym, ap, ◌∙◌}
use mathlib.Core.List.{◌++◌}
use native.Mathlib.Nat.{zero-add, mul-le-mul_left}
use native.Mathlib.Omega.{arith}
use lib.ListN.{length, get_or, length-append, get_or-append}
use lib.Seq.{get_or-append-add}
use borrow.Author.Tests.{eq-eqb}
use Rattle.base.specs.Below.{count_below}
use Rattle.base.specs.Digits.{bytes_of, number_at}
use Rattle.base.proofs.BelowLaws.{count_lt}
use Rattle.base.proofs.DigitLaws.{length-bytes, number-back}
use Rattle.base.proofs.ListLaws.{get_or-joined, get_or_chosen}
use Rattle.model.specs.Map.{Map, live}
use Rattle.model.specs.File.{slots_from, tags_from, links_from, live_darts, section, file_in, slot_in}
use Rattle.file.specs.Sections.{link_bytes, part_bytes, part_size, darts_bytes, section_bytes, head_bytes}
use Rattle.file.specs.declared.sections.Part.{Part}
use Rattle.file.specs.declared.sections.Part.TheVariants.{Slots, Tags, Links}
use Rattle.file.proofs.SectionLaws.{file_before, file_split, length_part, length-section}

-- where a section starts in a file of L darts
unfoldable pub start : ℕ → ℕ → Part → ℕ
start w L Slots = slots_from w
start w L Tags = tags_from w L
start w L Links = links_from w L

module _ (w n : ℕ) (m : Map) where
  abbrev L : ℕ
  L = live_darts m

  length_before : (part : Part) → length (file_before w n m part) ≡ start w L part
  unfolding file_before start head_bytes part_size
  length_before Slots = rw (length-append, length-bytes, length-bytes)
  length_before Tags = rw (length-append, length-append, length-section, length-bytes, length-bytes) (omega arith)
  length_before Links = rw (length-append, length-append, length-append, length-section, length-section, length-bytes, length-bytes) (omega arith)

  -- the k-th byte of a section
  in_section : (part : Part) (k : ℕ) → k < length (section_bytes w n m part)
      → get_or (file_in w n m) (start w L part + k) 0 ≡ get_or (section_bytes w n m part) k 0
  in_section part k l = rw (file_split w n m part, ← length_before part)
      (get_or-append (file_before w n m part ++ section_bytes w n m part) _ 0 (length (file_before w n m part) + k) (rw length-append (omega arith))
      ∙ get_or-append-add (file_before w n m part) (section_bytes w n m part) k 0)

  count_front : (part : Part) (j : ℕ) → j < w → get_or (section_bytes w n m part) j 0 ≡ get_or (bytes_of w L) j 0
  unfolding section_bytes section
  count_front part j g = get_or-append (bytes_of w L) _ 0 j (rw length-bytes g)

  -- a section's count is read
  pub count-back : (part : Part) → L < 256 ^ w → number_at w (file_in w n m) (start w L part) ≡ L
  count-back part l =
      number-back w L (file_in w n m) (start w L part) l (λ j g. in_section part j (rw length-section (omega arith)) ∙ count_front part j g)

  after-count : (part : Part) (k : ℕ) → get_or (section_bytes w n m part) (w + k) 0 ≡ get_or (darts_bytes w n m part m.slots) k 0
  unfolding section_bytes section darts_bytes
  after-count part k = ap (λ (z : ℕ). get_or (bytes_of w L ++ darts_bytes w n m part m.slots) (z + k) 0) (sym (length-bytes w L))
      ∙ get_or-append-add (bytes_of w L) (darts_bytes w n m part m.slots) k 0

  module _ (x : ℕ) (b : x < m.slots) (e : m.state x ≡ 1) where
    abbrev c : ℕ
    c = count_below x (live m)

    counted : c + 1 ≤ L
    unfolding live_darts
    counted = omega (arith, count_lt (live m) x m.slots b (eq-eqb _ _ e))

    -- the j-th byte that a section has of x
    of_dart : (part : Part) (j : ℕ) → j < part_size w n part
        → get_or (file_in w n m) (start w L part + (w + (part_size w n part * c + j))) 0 ≡ get_or (part_bytes w n m part x) j 0
    unfolding darts_bytes
    of_dart part j l =
        in_section part (w + (part_size w n part * c + j)) (rw length-section (omega (arith, mul-le-mul_left (part_size w n part) counted)))
        ∙ after-count part (part_size w n part * c + j)
        ∙ get_or_chosen (part_size w n part) (live m) (part_bytes w n m part) (length_part w n m part) m.slots x j 0 b (eq-eqb _ _ e) l

    -- a number that a section has of x is read
    dart-back : (part : Part) (off u v at : ℕ) → at ≡ start w L part + (w + (part_size w n part * c + off)) → off + u ≤ part_size w n part → v < 256 ^ u
        → ((j : ℕ) → j < u → get_or (part_bytes w n m part x) (off + j) 0 ≡ get_or (bytes_of u v) j 0) → number_at u (file_in w n m) at ≡ v
    dart-back part off u v at q r s f = number-back u v (file_in w n m) at s (λ j l.
        let i : at + j ≡ start w L part + (w + (part_size w n part * c + (off + j))) = omega arith in
        ap (λ (z : ℕ). get_or (file_in w n m) z 0) i ∙ of_dart part (off + j) (omega arith) ∙ f j l)

    pub slot-back : x < 256 ^ w → slot_in w (file_in w n m) c ≡ x
    unfolding slot_in start part_size part_bytes
    slot-back l = dart-back Slots 0 w x (slots_from w + w + w * c) (omega arith) (omega arith) l (λ j g. rw zero-add refl)

    pub tag_back : m.tag x < 4294967296 → number_at 4 (file_in w n m) (tags_from w L + w + 4 * c) ≡ m.tag x
    unfolding start part_size part_bytes
    tag_back l = dart-back Tags 0 4 (m.tag x) (tags_from w L + w + 4 * c) (omega arith) (omega arith) l (λ j g. rw zero-add refl)

    pub link-back : (i : ℕ) → i ≤ n → m.link i x < 256 ^ w → number_at w (file_in w n m) (links_from w L + w + w * ((n + 1) * c) + w * i) ≡ m.link i x
    unfolding start part_size part_bytes link_bytes
    link-back i k l =
        let more : i + 1 ≤ n + 1 = omega arith in
        dart-back Links (w * i) w (m.link i x) (links_from w L + w + w * ((n + 1) * c) + w * i) (omega arith) (omega (arith, mul-le-mul_left w more)) l
        (λ j g. get_or-joined w _ (λ y. length-bytes w (m.link y x)) (suc n) i j 0 (omega arith) g)

  -- the head is read
  in_head : (k : ℕ) → k < 1 + w → get_or (file_in w n m) k 0 ≡ get_or (head_bytes w n m.slots) k 0
  unfolding file_before head_bytes
  in_head k l = rw (file_split w n m Slots)
      (get_or-append (head_bytes w n m.slots ++ section_bytes w n m Slots) _ 0 k
      (rw (length-append, length-append, length-bytes, length-bytes) (omega arith))
      ∙ get_or-append (head_bytes w n m.slots) _ 0 k (rw (length-append, length-bytes, length-bytes) (omega arith)))

  pub head_back : n < 256 → m.slots < 256 ^ w → (number_at 1 (file_in w n m) 0 ≡ n) × (number_at w (file_in w n m) 1 ≡ m.slots)
  unfolding head_bytes
  head_back h l = (
    number-back 1 n (file_in w n m) 0 h (λ j g. rw zero-add (in_head j (omega arith) ∙ get_or-append (bytes_of 1 n) _ 0 j (rw length-bytes g))),
    number-back w m.slots (file_in w n m) 1 l (λ j g. in_head (1 + j) (omega arith)
        ∙ ap (λ (z : ℕ). get_or (head_bytes w n m.slots) (z + j) 0) (sym (length-bytes 1 n))
        ∙ get_or-append-add (bytes_of 1 n) (bytes_of w m.slots) j 0),
  )

-- `file::write` meets its contract.
use Prim.Native.Nat.{ℕ}
use mathlib.Core.List.{List, ◌++◌}
use native.Mathlib.Omega.{arith}
use Rattle.model.specs.Map.{Map}
use Rattle.model.specs.File.{width}
use Rattle.table.specs.Seen.{map_of}
use Rattle.numbers.specs.Places.{Put}
use Rattle.file.specs.Sections.{head_bytes, section_bytes}
use Rattle.file.specs.declared.sections.Part.TheVariants.{Slots, Tags, Links}
use Rattle.numbers.proofs.PlaceLaws.{put_then}
use Rattle.file.proofs.SectionLaws.{length_in, file_before, section-room, file-put}
use Rattle.file.proofs.write.Goals as goal

-- the sections that are put one after another
module _ (n N : ℕ) (m : Map) (l : List ℕ) where
  slotted : (l1 l2 : List ℕ) (a b : ℕ) → Put l 0 (head_bytes width n N) l1 a → Put l1 a (section_bytes width n m Slots) l2 b
      → Put l 0 (head_bytes width n N ++ section_bytes width n m Slots) l2 b
  slotted l1 l2 a b p q = put_then _ _ _ _ _ _ _ _ p q

  tagged : (l1 l2 l3 : List ℕ) (a b d : ℕ) → Put l 0 (head_bytes width n N) l1 a → Put l1 a (section_bytes width n m Slots) l2 b
      → Put l2 b (section_bytes width n m Tags) l3 d
      → Put l 0 (head_bytes width n N ++ section_bytes width n m Slots ++ section_bytes width n m Tags) l3 d
  tagged l1 l2 l3 a b d p q r = put_then _ _ _ _ _ _ _ _ (slotted l1 l2 a b p q) r

pub head-a-requires-clause-head_in_bounds : goal.head-a-requires-clause-head_in_bounds
head-a-requires-clause-head_in_bounds c =
    (c.args.table.now.sized.few, omega (arith, c.requires.file_in_bounds, length_in width c.args.n (map_of c.args.table.now)))

pub section-b-requires-clause-section_in_bounds : goal.section-b-requires-clause-section_in_bounds
unfolding file_before
section-b-requires-clause-section_in_bounds c =
    section-room width _ _ Slots _ c.requires.live_value _ c.requires.file_in_bounds _ _ c.head-a.ensures

pub section-c-requires-clause-section_in_bounds : goal.section-c-requires-clause-section_in_bounds
unfolding file_before
section-c-requires-clause-section_in_bounds c =
    let put = slotted _ _ _ _ _ _ _ _ c.head-a.ensures c.section-b.ensures in
    section-room width _ _ Tags _ c.requires.live_value _ c.requires.file_in_bounds _ _ put

pub section-end-requires-clause-section_in_bounds : goal.section-end-requires-clause-section_in_bounds
unfolding file_before
section-end-requires-clause-section_in_bounds c =
    let put = tagged _ _ _ _ _ _ _ _ _ _ c.head-a.ensures c.section-b.ensures c.section-c.ensures in
    section-room width _ _ Links _ c.requires.live_value _ c.requires.file_in_bounds _ _ put

pub returns : goal.returns
returns c =
    let put = tagged _ _ _ _ _ _ _ _ _ _ c.head-a.ensures c.section-b.ensures c.section-c.ensures in
    file-put width _ _ _ c.requires.file_in_bounds _ _ (put_then _ _ _ _ _ _ _ _ put c.section-end.ensures)

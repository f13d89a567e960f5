-- A section, dart by dart.
use Prim.Native.Nat.{ℕ, suc, ◌+◌, ◌*◌, ◌≤◌, ◌<◌}
use mathlib.Core.Path.{◌≡◌, refl, sym, ap, ap₂, ◌∙◌, subst}
use mathlib.Core.List.{List, [], ◌++◌, append-nil, append_assoc}
use native.Mathlib.Nat.{add-zero, mul-le-mul_left}
use native.Mathlib.Omega.{arith}
use lib.ListN.{length, drop, length-append}
use lib.Seq.{sets}
use borrow.Author.Tests.{eq-eqb, ne_eqb}
use Rattle.base.specs.Below.{count_below}
use Rattle.base.specs.Lists.{joined}
use Rattle.base.specs.Digits.{bytes_of}
use Rattle.base.proofs.BelowLaws.{count_le, count_lt}
use Rattle.base.proofs.ListLaws.{joined_step, length-joined, length_chosen, sets-start}
use Rattle.base.proofs.DigitLaws.{length-bytes}
use Rattle.model.specs.Map.{Map, live}
use Rattle.model.specs.File.{width, size_in, live_darts, section, file_in, file}
use Rattle.numbers.specs.Places.{Put}
use Rattle.file.specs.Form.{file_size}
use Rattle.file.specs.Sections.{link_bytes, part_bytes, part_size, darts_bytes, section_bytes, head_bytes}
use Rattle.file.specs.declared.sections.Part.{Part}
use Rattle.file.specs.declared.sections.Part.TheVariants.{Slots, Tags, Links}
use Rattle.numbers.proofs.PlaceLaws.{put_then, put-length}

-- ---- the links of a dart

pub length-links : (w : ℕ) (m : Map) (x k : ℕ) → length (link_bytes w m x k) ≡ w * k
unfolding link_bytes
length-links w m x k = length-joined w _ (λ i. length-bytes w (m.link i x)) k

module _ (w : ℕ) (m : Map) (x : ℕ) (l : List ℕ) (at : ℕ) where
  pub link-none : Put l at (link_bytes w m x 0) l at
  unfolding link_bytes joined
  link-none = record { bytes = refl; after = sym (add-zero at) }

  pub link-first : (l' : List ℕ) (p : ℕ) → Put l at (bytes_of w (m.link 0 x)) l' p → Put l at (link_bytes w m x 1) l' p
  unfolding link_bytes joined
  link-first l' p y = y

  module _ (i : ℕ) (l' : List ℕ) (p : ℕ) (u : Put l at (link_bytes w m x i) l' p) where
    pub link-more : (l'' : List ℕ) (q : ℕ) → Put l' p (bytes_of w (m.link i x)) l'' q → Put l at (link_bytes w m x (suc i)) l'' q
    unfolding link_bytes joined
    link-more l'' q y = put_then l at _ l' p _ l'' q u y

    pub link-room : at + w * i + w ≤ length l → p + w ≤ length l'
    link-room h = rw (put-length l at _ l' p u, u.after, length-links w m x i) h

    pub links-all : (n : ℕ) → i ≡ suc n → Put l at (link_bytes w m x (suc n)) l' p
    links-all n e = rw (← e) u

pub ruleset link_rooms = (link-room, links-all)

-- ---- what a section has of a dart

pub length_part : (w n : ℕ) (m : Map) (part : Part) (x : ℕ) → length (part_bytes w n m part x) ≡ part_size w n part
unfolding part_bytes part_size
length_part w n m Slots x = length-bytes w x
length_part w n m Tags x = length-bytes 4 (m.tag x)
length_part w n m Links x = length-links w m x (suc n) ∙ omega arith

module _ (w n : ℕ) (m : Map) (part : Part) (x : ℕ) (l : List ℕ) (at : ℕ) (l' : List ℕ) (p : ℕ) where
  pub part-slot : part ≡ Slots → Put l at (bytes_of w x) l' p → Put l at (part_bytes w n m part x) l' p
  unfolding part_bytes
  part-slot e y = rw e y

  pub part-tag : (v : ℕ) → part ≡ Tags → v ≡ m.tag x → Put l at (bytes_of 4 v) l' p → Put l at (part_bytes w n m part x) l' p
  unfolding part_bytes
  part-tag v e q y = rw (e, ← q) y

  pub part-links : part ≡ Links → Put l at (link_bytes w m x (suc n)) l' p → Put l at (part_bytes w n m part x) l' p
  unfolding part_bytes
  part-links e y = rw e y

module _ (w n : ℕ) (part : Part) where
  pub size-slot : part ≡ Slots → part_size w n part ≡ w
  unfolding part_size
  size-slot e = rw e

  pub size-tag : part ≡ Tags → part_size w n part ≡ 4
  unfolding part_size
  size-tag e = rw e

  pub size-links : part ≡ Links → part_size w n part ≡ w * (n + 1)
  unfolding part_size
  size-links e = rw e

pub ruleset part_sizes = (size-slot, size-tag, size-links)

-- ---- a section

pub length-darts : (w n : ℕ) (m : Map) (part : Part) (x : ℕ) → length (darts_bytes w n m part x) ≡ part_size w n part * count_below x (live m)
unfolding darts_bytes
length-darts w n m part x = length_chosen (part_size w n part) (live m) (part_bytes w n m part) (length_part w n m part) x

module _ (w n : ℕ) (m : Map) (part : Part) (l : List ℕ) (at : ℕ) where
  pub darts-none : Put l at (darts_bytes w n m part 0) l at
  unfolding darts_bytes joined
  darts-none = record { bytes = refl; after = sym (add-zero at) }

  module _ (x : ℕ) (l' : List ℕ) (p : ℕ) (u : Put l at (darts_bytes w n m part x) l' p) (s : ℕ) (e : s ≡ m.state x) where
    pub darts-dead : (s ≡ 1 → ⊥) → Put l at (darts_bytes w n m part (x + 1)) l' p
    unfolding darts_bytes
    darts-dead d = rw (joined_step, ← e, ne_eqb s 1 d, append-nil) u

    pub darts-live : s ≡ 1 → (l'' : List ℕ) (q : ℕ) → Put l' p (part_bytes w n m part x) l'' q → Put l at (darts_bytes w n m part (x + 1)) l'' q
    unfolding darts_bytes
    darts-live a l'' q y = rw (joined_step, ← e, eq-eqb s 1 a) (put_then l at _ l' p _ l'' q u y)

    -- there is room for a live dart, where there is room for all
    pub darts-room : s ≡ 1 → x < m.slots → (k : ℕ) → k ≡ live_darts m → at + part_size w n part * k ≤ length l → p + part_size w n part ≤ length l'
    unfolding live_darts
    darts-room a h k f room =
        let less : count_below x (live m) + 1 ≤ k = rw f (omega (arith, count_lt (live m) x m.slots h (eq-eqb _ _ (sym e ∙ a)))) in
        rw (put-length l at _ l' p u, u.after, length-darts w n m part x) (omega (arith, mul-le-mul_left (part_size w n part) less))

  pub darts-all : (k : ℕ) (l' : List ℕ) (p x : ℕ) (l'' : List ℕ) (q : ℕ) → k ≡ live_darts m → x ≡ m.slots → Put l at (bytes_of w k) l' p
      → Put l' p (darts_bytes w n m part x) l'' q → Put l at (section_bytes w n m part) l'' q
  unfolding section_bytes section darts_bytes
  darts-all k l' p x l'' q f e y z =
      put_then l at _ l' p _ l'' q
      (subst (λ (j : ℕ). Put l at (bytes_of w j) l' p) f y) (subst (λ (j : ℕ). Put l' p (darts_bytes w n m part j) l'' q) e z)

pub few-live : (n : ℕ) (m : Map) (k : ℕ) → k ≡ live_darts m → k ≤ m.slots
unfolding live_darts
few-live n m k e = rw e (count_le m.slots (live m))

pub length-section : (w n : ℕ) (m : Map) (part : Part) → length (section_bytes w n m part) ≡ w + part_size w n part * live_darts m
unfolding section_bytes section live_darts
length-section w n m part = length-append (bytes_of w (live_darts m)) _
    ∙ ap₂ (λ (j k : ℕ). j + k) (length-bytes w (live_darts m))
    (length_chosen (part_size w n part) (live m) (part_bytes w n m part) (length_part w n m part) m.slots)

-- ---- a file

-- what stands before a section, and what after it
unfoldable pub file_before : ℕ → ℕ → Map → Part → List ℕ
file_before w n m Slots = head_bytes w n m.slots
file_before w n m Tags = head_bytes w n m.slots ++ section_bytes w n m Slots
file_before w n m Links = head_bytes w n m.slots ++ section_bytes w n m Slots ++ section_bytes w n m Tags

unfoldable pub file_after : ℕ → ℕ → Map → Part → List ℕ
file_after w n m Slots = section_bytes w n m Tags ++ section_bytes w n m Links
file_after w n m Tags = section_bytes w n m Links
file_after w n m Links = []

module _ (w n : ℕ) (m : Map) where
  pub file-parts : file_in w n m ≡ head_bytes w n m.slots ++ section_bytes w n m Slots ++ section_bytes w n m Tags ++ section_bytes w n m Links
  unfolding file_in head_bytes section_bytes part_bytes link_bytes
  file-parts = refl

  pub length_in : length (file_in w n m) ≡ size_in w n (live_darts m)
  unfolding part_size head_bytes
  length_in =
      rw (file-parts, length-append, length-append, length-append, length-append, length-section, length-section, length-section, length-bytes, length-bytes)
      (omega arith)

  -- a file about one of its sections
  pub file_split : (part : Part) → file_in w n m ≡ file_before w n m part ++ section_bytes w n m part ++ file_after w n m part
  unfolding file_before file_after
  file_split Slots = file-parts ∙ append_assoc (head_bytes w n m.slots ++ section_bytes w n m Slots) _ _
  file_split Tags = file-parts
  file_split Links = file-parts ∙ sym (append-nil _)

  -- there is room for a section after what stands before it
  pub section-room : (part : Part) (k : ℕ) → k ≡ live_darts m → (l : List ℕ) → length (file_in w n m) ≤ length l
      → (l' : List ℕ) (p : ℕ) → Put l 0 (file_before w n m part) l' p → p + w + part_size w n part * k ≤ length l'
  section-room part k f l fits l' p x =
      let len : length (file_in w n m) ≡ length (file_before w n m part) + (w + part_size w n part * k) + length (file_after w n m part)
      = rw (file_split part, f, length-append, length-append, length-section) in
      rw (put-length l 0 _ l' p x, x.after) (omega arith)

  module _ (l : List ℕ) (fits : length (file_in w n m) ≤ length l) where
    pub file-put : (l' : List ℕ) (p : ℕ)
        → Put l 0 (head_bytes w n m.slots ++ section_bytes w n m Slots ++ section_bytes w n m Tags ++ section_bytes w n m Links) l' p
        → l' ≡ file_in w n m ++ drop (length (file_in w n m)) l
    file-put l' p x = x.bytes ∙ ap (sets l 0) (sym file-parts) ∙ sets-start l (file_in w n m) fits

-- the length of a map file
pub length-file : (n : ℕ) (m : Map) → n < 256 → length (file n m) ≡ file_size n (live_darts m)
length-file n m h = length_in width n m

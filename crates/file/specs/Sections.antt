-- What each section of a file whose numbers have w bytes has of a dart, and how long that is.
use Rattle.std.specs.Prelude.{ℕ, suc, ◌+◌, ◌*◌, cond, List, [], ◌++◌}
use Rattle.base.specs.Lists.{joined}
use Rattle.base.specs.Digits.{bytes_of}
use Rattle.model.specs.Map.{Map, live}
use Rattle.model.specs.File.{section}
use Rattle.file.specs.declared.sections.Part.{Part}
use Rattle.file.specs.declared.sections.Part.TheVariants.{Slots, Tags, Links}

-- the first k links of x
unfoldable pub link_bytes : ℕ → Map → ℕ → ℕ → List ℕ
link_bytes w m x k = joined k (λ i. bytes_of w (m.link i x))

unfoldable pub part_bytes : ℕ → ℕ → Map → Part → ℕ → List ℕ
part_bytes w n m Slots x = bytes_of w x
part_bytes w n m Tags x = bytes_of 4 (m.tag x)
part_bytes w n m Links x = link_bytes w m x (suc n)

unfoldable pub part_size : ℕ → ℕ → Part → ℕ
part_size w n Slots = w
part_size w n Tags = 4
part_size w n Links = w * (n + 1)

-- what a section has of the live darts below x
unfoldable pub darts_bytes : ℕ → ℕ → Map → Part → ℕ → List ℕ
darts_bytes w n m part x = joined x (λ y. cond (live m y) (part_bytes w n m part y) [])

unfoldable pub section_bytes : ℕ → ℕ → Map → Part → List ℕ
section_bytes w n m part = section w m (part_bytes w n m part)

-- what stands before the sections
unfoldable pub head_bytes : ℕ → ℕ → ℕ → List ℕ
head_bytes w n N = bytes_of 1 n ++ bytes_of w N

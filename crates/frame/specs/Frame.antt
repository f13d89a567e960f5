-- What the frame tells of a scheme's bytes, once their counts are read.
use Rattle.std.specs.Prelude.{ℕ, ◌+◌, ◌*◌, ◌-◌, ◌≤◌, ◌≡◌, ◌⊎◌, Bool, false, List, length, leb, Option, Some, None}
use Rattle.base.specs.Test.{bit}
use Rattle.model.specs.Bytes.{dimension_of, names_second, names_donors, places_of, nodes_of, arcs_at, arc_count, end_at}
use Rattle.model.specs.Scheme.{left, right, in_form}
use Rattle.frame.specs.declared.Marks.{Marks}
use Rattle.frame.specs.declared.Opening.{Opening}
use Rattle.frame.specs.declared.Layout.{Layout}

-- whether a first byte has the mark of this weight; `start` is the byte, or what an earlier mark leaves of it
abbrev pub mark_of : ℕ → ℕ → Bool
mark_of weight start = leb weight start

-- m is what a first byte says: take off the mark of 32, then that of 16, and n is left
pub record MarksOf (start : ℕ) (m : Marks) : Type 0 where
  pub hook_is : m.hook ≡ mark_of 32 start
  pub donors_is : m.donors ≡ mark_of 16 (start - 32 * bit m.hook)
  pub n_is : m.n ≡ start - 32 * bit m.hook - 16 * bit m.donors

-- the bytes say this n, whether a second hook and donors are named, and these counts of places and nodes, each in its range
pub record Headed (b : List ℕ) (n : ℕ) (hook donors : Bool) (places nodes : ℕ) : Type 0 where
  pub n_is : n ≡ dimension_of b
  pub hook_is : hook ≡ names_second b
  pub donors_is : donors ≡ names_donors b
  pub places_is : places ≡ places_of b
  pub nodes_is : nodes ≡ nodes_of b
  pub dimension : (n ≡ 2) ⊎ (n ≡ 3)
  pub places_few : places ≤ n + 1
  pub nodes_some : 1 ≤ nodes
  pub nodes_few : nodes ≤ 16

abbrev pub HeadOf : List ℕ → Option Opening → Type 0
HeadOf b (Some o) = Headed b o.n o.hook o.donors o.places o.nodes × (o.first.at ≡ 1) × (o.next.at ≡ arcs_at b left)
HeadOf b None = in_form b ≡ false

-- l is the layout of the bytes, and the last section ends where the bytes end
pub record LaidOut (b : List ℕ) (l : Layout) : Type 0 where
  pub headed : Headed b l.n l.hook l.donors l.places l.nodes
  pub lcount_is : l.lcount ≡ arc_count b left
  pub lcount_few : l.lcount ≤ 64
  pub rcount_is : l.rcount ≡ arc_count b right
  pub rcount_few : l.rcount ≤ 64
  pub first_is : l.first.at ≡ 1
  pub ends : length b ≡ end_at b

abbrev pub FrameOf : List ℕ → Option Layout → Type 0
FrameOf b (Some l) = LaidOut b l
FrameOf b None = in_form b ≡ false

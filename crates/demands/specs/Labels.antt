-- The label follows the metal, as a predicate on a kernel. It stands beside the demands, and every kernel that meets demand 2 has it
-- (`labels_follow` of proofs/Labels.antt). A tag is the lot of a sheet, and the label of a part names the tags of its darts.
use Rattle.std.specs.Prelude.{ℕ, ◌<◌, ◌≡◌, Bool, true, List}
use Rattle.base.specs.Below.{count_below}
use Rattle.model.specs.Map.{view}
use Rattle.model.specs.Scheme.{added, scheme_of}
use Rattle.model.specs.Site.{LiveDart}
use Rattle.model.specs.Match.{Assignment}
use Rattle.model.specs.Edit.{is_free, rank}
use Rattle.model.specs.Label.{Label}
use Rattle.model.specs.Answer.{number}
use Rattle.model.specs.Sequence.{edit, Lent, Outcome}
use Rattle.model.specs.declared.Darts.{Darts}
use Rattle.demands.specs.Kernel.{Kernel}
use Rattle.demands.specs.Refusals.{Orbit, site_over}

-- where the tags of the table t' come from, which an edit made of t: each live dart has the tag that it had itself, or the tag that the dart of its donor
-- had, which the match assigns. No tag comes from an unused record, and none from a dart outside the match. `dart` gives the dart of each pair, and is
-- settled: the match assigns those of the left pairs, and the added pairs have the lowest slots among the unused and the deleted ones in their order
pub record Labelled (N : ℕ) (t b : List ℕ) (D : Darts) (t' : List ℕ) : Type 0 where
  pub orbit : ℕ → Bool
  pub is_orbit : Orbit N t b D orbit
  pub dart : ℕ → ℕ → ℕ
  pub assigned : Assignment (site_over N t b D orbit) dart
  pub in_order : (u s : ℕ) → orbit u ≡ true → s < (scheme_of b).nodes → added (scheme_of b) s ≡ true
      → count_below (dart u s) (is_free (site_over N t b D orbit) dart) ≡ rank (site_over N t b D orbit) u s
  pub label : (x : ℕ) → LiveDart (view N t') x → Label (site_over N t b D orbit) dart x ((view N t').tag x)

-- some live dart has the tag v
pub record Tagged (N : ℕ) (t : List ℕ) (v : ℕ) : Type 0 where
  pub dart : ℕ
  pub alive : LiveDart (view N t) dart
  pub tag : (view N t).tag dart ≡ v

pub record LabelsFollow (K : Kernel) : Type 0 where
  pub follows : (n N : ℕ) (t b : List ℕ) (D : Darts) (l : Lent) (o : Outcome) → K.Does n N t (edit b D) l o
      → number o.answer ≡ 0 → Labelled N t b D o.table
  -- so a lot that is on no live dart before an edit is on none after it, whatever the unused records hold
  pub no_other : (n N : ℕ) (t b : List ℕ) (D : Darts) (l : Lent) (o : Outcome) → K.Does n N t (edit b D) l o
      → number o.answer ≡ 0 → (v : ℕ) → Tagged N o.table v → Tagged N t v

-- The label follows the metal in every kernel that meets demand 2, and so in ours.
use Prim.Native.Nat.{ℕ, ◌≤◌, ◌<◌}
use mathlib.Core.Path.{◌≡◌, sym, ap, ◌∙◌, subst}
use mathlib.Core.List.{List}
use native.Mathlib.Omega.{arith}
use Rattle.model.specs.Map.{Field, State, Tag, field_at, field_of, dimension, view}
use Rattle.model.specs.Edit.{rank}
use Rattle.model.specs.Label.{Label, own, given}
use Rattle.model.specs.Answer.{number}
use Rattle.model.specs.Sequence.{edit, Lent, Outcome}
use Rattle.model.specs.declared.Darts.{Darts}
use Rattle.model.proofs.MapLaws.{field_words}
use Rattle.model.proofs.LabelLaws.{label-follows}
use Rattle.demands.specs.Kernel.{Kernel}
use Rattle.demands.specs.Ours.{ours}
use Rattle.demands.specs.Refusals.{site_over}
use Rattle.demands.specs.Demands.{Demand2}
use Rattle.demands.specs.Labels.{Labelled, Tagged, LabelsFollow}
use Rattle.demands.proofs.AdmitLaws.{sound}
use Rattle.demands.proofs.Demands.{demand2}

module _ (K : Kernel) (D : Demand2 K) (n N : ℕ) (t b : List ℕ) (d : Darts) (l : Lent) (o : Outcome) (p : K.Does n N t (edit b d) l o)
    (done : number o.answer ≡ 0) where
  abbrev t' : List ℕ
  t' = o.table

  edit_labelled : Labelled N t b d t'
  unfolding rank
  edit_labelled =
      let a = D.only_then n N t b d l o p done in
      let e = D.edits n N t b d l o p a in
      let word : (f : Field) → dimension f ≤ 3 → (x : ℕ) → x < N → field_at t' f x ≡ field_of e.new f x = λ f l x h.
      ap (λ (w : List ℕ). field_at w f x) e.table ∙ field_words e.new x (subst (λ (k : ℕ). x < k) (sym e.rewriting.slots) h) f l in
      record {
        orbit = e.orbit;
        is_orbit = e.is_orbit;
        dart = e.dart;
        assigned = e.rewriting.assigned;
        in_order = e.rewriting.in_order;
        label = λ x h. subst (Label (site_over N t b d e.orbit) e.dart x) (sym (word Tag (omega arith) x h.slot))
            (label-follows (site_over N t b d e.orbit) (sound n N t b d l a.admitted).accepted e.is_orbit.within e.rewriting x h.slot
            (sym (word State (omega arith) x h.slot) ∙ h.alive));
      }

  edit-tagged : (v : ℕ) → Tagged N t' v → Tagged N t v
  edit-tagged v w = from (edit_labelled.label w.dart w.alive)
    where
      from : Label (site_over N t b d edit_labelled.orbit) edit_labelled.dart w.dart ((view N t').tag w.dart) → Tagged N t v
      from (own alive e) = record { dart = w.dart; alive = alive; tag = sym e ∙ w.tag }
      from (given y g e) = record { dart = y; alive = g.alive; tag = sym e ∙ w.tag }

pub labels_follow : (K : Kernel) → Demand2 K → LabelsFollow K
labels_follow K D = record { follows = edit_labelled K D; no_other = edit-tagged K D }

-- "the label follows the metal"
pub label_follows_metal : LabelsFollow ours
label_follows_metal = labels_follow ours demand2

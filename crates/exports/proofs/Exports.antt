-- What a program in C sees of the kernel meets the demands: the answer of each request comes back from its word.
use Prim.Native.Nat.{ℕ}
use mathlib.Core.Path.{◌≡◌, refl, sym, ap, ◌∙◌}
use mathlib.Core.List.{List}
use Rattle.model.specs.Sequence.{Request, Lent, outcome_of}
use Rattle.demands.specs.Kernel.{Kernel, Refines}
use Rattle.demands.specs.Ours.{ours}
use Rattle.demands.specs.Demands.{Demand1, Demand2, Demand3}
use Rattle.demands.specs.Labels.{LabelsFollow}
use Rattle.demands.proofs.RefineLaws.{refined1, refined2, refined3}
use Rattle.demands.proofs.Demands.{demand1, demand2, demand3}
use Rattle.demands.proofs.Labels.{labels_follow}
use Rattle.word.specs.Word.{packed, unpacked}
use Rattle.exports.specs.Exports.{Packed, Seen}
use Rattle.exports.proofs.PackLaws.{answer-unpacked}

-- one outcome: two words and what is left beside them, which an export allows, are equal
pub one-packed : (n N : ℕ) (t : List ℕ) (q : Request) (l : Lent) {w v : ℕ} {t' u : List ℕ} {l' k : Lent} → Packed n N t q l w t' l' → Packed n N t q l v u k
    → (w ≡ v) × (t' ≡ u) × (l' ≡ k)
one-packed n N t q l p r = (p.word ∙ sym r.word, p.table ∙ sym r.table, p.lent ∙ sym r.lent)

-- the kernel that C sees
abbrev pub exported : Kernel
exported = record {
  Does = Seen;
  responds = λ n N t q l. (
    outcome_of n N t q l,
    record {
      word = packed (outcome_of n N t q l).answer;
      promised = record { word = refl; table = refl; lent = refl };
      answer = sym (answer-unpacked n N t q l);
    },
  );
}

exported-ours : Refines exported ours
exported-ours n N t q l o s =
    let answer = s.answer ∙ ap (unpacked q) s.promised.word ∙ answer-unpacked n N t q l in
    λ i. record { answer = answer i; table = s.promised.table i; lent = s.promised.lent i }

pub exported1 : Demand1 exported
exported1 = refined1 exported ours exported-ours demand1

pub exported2 : Demand2 exported
exported2 = refined2 exported ours exported-ours demand2

pub exported3 : Demand3 exported
exported3 = refined3 exported ours exported-ours demand3

-- the label follows the metal in what a program in C sees
pub exported_labels : LabelsFollow exported
exported_labels = labels_follow exported exported2

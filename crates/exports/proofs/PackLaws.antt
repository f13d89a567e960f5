-- Every answer of the kernel fits its word, and comes back from it, by the request.
use Prim.Native.Nat.{ℕ}
use mathlib.Core.Path.{◌≡◌, refl, ap, sym, subst, ◌∙◌}
use mathlib.Core.List.{List}
use lib.ListN.{length}
use Rattle.model.specs.Map.{view}
use Rattle.model.specs.Scheme.{in_form}
use Rattle.model.specs.File.{file}
use Rattle.model.specs.Calls.{table_fault, check_table, bytes_fault, check_scheme, site_done, edit_fault, edit_answer, count_fault, count_answer}
use Rattle.model.specs.Calls.{load_fault, load_answer, write_fault, write_answer}
use Rattle.model.specs.Sequence.{Request, table_check, scheme_check, edit, count, load, write, Lent, Outcome, outcome_of}
use Rattle.model.specs.declared.Reply.TheVariants.{Written}
use Rattle.demands.specs.Promises.{Promised}
use Rattle.word.specs.Word.{packed, Small, unpacked}
use Rattle.word.proofs.WordLaws.{counts-back, answer_back}
use Rattle.exports.specs.Exports.{Packed}
use Rattle.exports.proofs.SmallLaws.{answered-small, map-small, scheme-small, edit-small, output-small, load-small, edited-small, written_small}

module _ (n N : ℕ) (t : List ℕ) where
  answer-small : (q : Request) (l : Lent) → Small (outcome_of n N t q l).answer
  unfolding check_table check_scheme edit_answer count_answer load_answer write_answer table_fault count_fault write_fault
  answer-small table_check l = answered-small _ _ (map-small _ n N t) (λ e. tt)
  answer-small (scheme_check b) l = answered-small _ _ (scheme-small b) (λ e. tt)
  answer-small (edit b d) l = answered-small _ _ (edit-small n N t l.store b d) (edited-small n N t l.store b d)
  answer-small count l = answered-small _ _ (output-small _ n N t _ l.output) (λ e. tt)
  answer-small (load b) l = answered-small _ _ (load-small n N t b) (λ e. tt)
  answer-small write l = answered-small _ _ (output-small _ n N t _ l.output) (written_small n N t l.output)

  pub answer-unpacked : (q : Request) (l : Lent) → unpacked q (packed (outcome_of n N t q l).answer) ≡ (outcome_of n N t q l).answer
  unfolding check_table check_scheme edit_answer count_answer load_answer write_answer site_done
  answer-unpacked table_check l = answer_back table_check _ (table_fault n N t) (answer-small table_check l) (λ e. refl)
  answer-unpacked (scheme_check b) l = answer_back (scheme_check b) _ (bytes_fault (in_form b) b) (answer-small (scheme_check b) l) (λ e. refl)
  answer-unpacked (edit b d) l = answer_back (edit b d) _ (edit_fault n N t l.store b d) (answer-small (edit b d) l)
      (λ e. counts-back b d _ _ _ (edited-small n N t l.store b d e))
  answer-unpacked count l = answer_back count _ (count_fault n N t l.store l.output) (answer-small count l) (λ e. refl)
  answer-unpacked (load b) l = answer_back (load b) _ (load_fault n N t b) (answer-small (load b) l) (λ e. refl)
  answer-unpacked write l = answer_back write (Written (length (file n (view N t)))) (write_fault n N t l.output) (answer-small write l) (λ e. refl)

-- ---- an export

-- a promised answer can be packed ..
pub pack_ready : (n N : ℕ) (t : List ℕ) (q : Request) (l : Lent) (o : Outcome) → Promised n N t q l o → Small o.answer
pack_ready n N t q l o p = subst (λ (x : Outcome). Small x.answer) (sym p) (answer-small n N t q l)

-- .. and its word is the promised one
pub packed-is : (n N : ℕ) (t : List ℕ) (q : Request) (l : Lent) (o : Outcome) {w : ℕ} → Promised n N t q l o → w ≡ packed o.answer
    → Packed n N t q l w o.table o.lent
packed-is n N t q l o p e = record {
  word = e ∙ ap (λ (x : Outcome). packed x.answer) p;
  table = ap (λ (x : Outcome). x.table) p;
  lent = ap (λ (x : Outcome). x.lent) p;
}

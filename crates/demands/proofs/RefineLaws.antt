-- A kernel whose every outcome is one of another's meets the demands that the other meets.
use Prim.Native.Nat.{ℕ}
use mathlib.Core.List.{List}
use Rattle.model.specs.Sequence.{Event}
use Rattle.demands.specs.Kernel.{Kernel, Refines}
use Rattle.demands.specs.Runs.{Run, end, next}
use Rattle.demands.specs.Demands.{Demand1, FileAccepted, Demand2, Demand3}

module _ (K L : Kernel) (R : Refines K L) where
  pub refined1 : Demand1 L → Demand1 K
  refined1 D = record {
    order = λ n N t q l o p. D.order n N t q l o (R n N t q l o p);
    leaves = λ n N t q l o p. D.leaves n N t q l o (R n N t q l o p);
  }

  refined_file : (n N : ℕ) (t b t' : List ℕ) → FileAccepted K n N t b t' → FileAccepted L n N t b t'
  refined_file n N t b t' a = record {
    lent = a.lent;
    loaded = a.loaded;
    loads = R n N t _ a.lent a.loaded a.loads;
    done = a.done;
    leaves = a.leaves;
    lent_then = a.lent_then;
    checked = a.checked;
    checks = R n N t' _ a.lent_then a.checked a.checks;
    passes = a.passes;
  }

  pub refined2 : Demand2 L → Demand2 K
  refined2 D = record {
    accepted = λ n N t b l o p. D.accepted n N t b l o (R n N t _ l o p);
    no_match = λ n N t b d l o p. D.no_match n N t b d l o (R n N t _ l o p);
    edits = λ n N t b d l o p. D.edits n N t b d l o (R n N t _ l o p);
    only_then = λ n N t b d l o p. D.only_then n N t b d l o (R n N t _ l o p);
    writes = λ n N t l o p. D.writes n N t l o (R n N t _ l o p);
    written_loaded = λ n N t l o p e small u k v len q j c r.
        D.written_loaded n N t l o (R n N t _ l o p) e small u k v len (R n N u _ k v q) j c (R n N v.table _ j c r);
    accepted_written = λ n N t b t' a bytes l o len p. D.accepted_written n N t b t' (refined_file n N t b t' a) bytes l o len (R n N t' _ l o p);
  }

  refined_run : {n N : ℕ} {t : List ℕ} {s : List Event} → Run K n N t s → Run L n N t s
  refined_run end = end
  refined_run (next {t} {e} p r) = next (R _ _ t e.call.request e.call.lent e.outcome p) (refined_run r)

  pub refined3 : Demand3 L → Demand3 K
  refined3 D = record {
    edits = refined2 D.edits;
    throughout = λ n N t t' h a s s' r r'. D.throughout n N t t' h a s s' (refined_run r) (refined_run r');
  }

-- The demands leave nothing open: whatever a kernel that meets demands 1 and 2 answers and leaves, ours does. So it meets demand 3 too.
use Prim.Native.Nat.{ℕ, zero, suc, ◌≤◌, ◌<◌}
use mathlib.Core.Path.{◌≡◌, refl, sym, ap, ◌∙◌, subst}
use mathlib.Core.Logic.{◌⊎◌, inl, inr, ⊎_elim}
use mathlib.Core.Bool.{Bool, true≢false}
use Rattle.std.specs.Prelude.{Option, Some, None, Err}
use mathlib.Core.List.{List, [], ◌∷◌, ◌++◌}
use native.Mathlib.Omega.{arith}
use lib.ListN.{length, get_or, drop}
use lib.Seq.{ext_get_or}
use lib.Dec.{eqb}
use borrow.Author.Tests.{eqb-true, eqb-false, eq-eqb}
use Rattle.base.specs.First.{least}
use Rattle.base.proofs.FirstLaws.{least_at, least-none}
use Rattle.base.proofs.TestLaws.{true_or_false}
use Rattle.base.proofs.BelowLaws.{le_or_lt}
use Rattle.model.specs.Map.{Field, State, Link, Tag, dimension, field_at, view}
use Rattle.model.specs.WellFormed.{WellFormed}
use Rattle.model.specs.Scheme.{scheme_of, orbit_dim}
use Rattle.model.specs.Count.{all}
use Rattle.model.specs.File.{darts, slot_at}
use Rattle.model.specs.Answer.{Answer, number}
use Rattle.model.specs.Calls.{first_dart, count_fault, count_answer, load_answer, load_table, write_fault, write_answer}
use Rattle.model.specs.Sequence.{Request, table_check, scheme_check, edit, count, load, write, Lent, Outcome, outcome_of}
use Rattle.model.specs.declared.Scheme.{Scheme}
use Rattle.model.specs.declared.Darts.{Darts}
use Rattle.model.specs.declared.Refusal.{Refusal}
use Rattle.model.specs.declared.Refusal.TheVariants.{BadHook, BadIncidence, BadCycle}
use Rattle.model.proofs.AnswerLaws.{answered-free}
use Rattle.model.proofs.WellFormedLaws.{well_formed_iff}
use Rattle.model.proofs.SizeLaws.{sizes_iff}
use Rattle.model.proofs.OrbitLaws.{orbit-only}
use Rattle.model.proofs.CallLaws.{output-passed}
use Rattle.model.proofs.MapLaws.{field_view, words_are}
use Rattle.model.proofs.CountLaws.{all_but_small}
use Rattle.demands.specs.Kernel.{Kernel, Refines}
use Rattle.demands.specs.Ours.{ours}
use Rattle.demands.specs.Refusals.{Rule, when, FirstOf, LeastNode, HookFault, FirstPair, hook_rule, incidence_rule, cycle_rule, scheme_rules, site_over}
use Rattle.demands.specs.Refusals.{site_rules, rules_of}
use Rattle.demands.specs.Demands.{done_at, Returned, Cells, Numbers, Filed, Cleared, LoadLeft, Demand1, Demand2, Demand3}
use Rattle.demands.proofs.OrderLaws.{cells-only, stored_iff}
use Rattle.demands.proofs.AdmitLaws.{free_applicable, done-is}
use Rattle.demands.proofs.RefusalLaws.{load-done}
use Rattle.demands.proofs.FileDemandLaws.{write-holds, write_done}
use Rattle.demands.proofs.RefineLaws.{refined3}
use Rattle.demands.proofs.Demands.{in_order_lem, left, demand3}

-- ---- two answers by one list of rules

-- a rule gives one refusal
abbrev Single : Rule → Type 0
Single r = (f g : Refusal) → r f → r g → f ≡ g

unfoldable Singles : List Rule → Type 0
Singles [] = Unit
Singles (r ∷ l) = Single r × Singles l

-- so there is one first refusal, and one answer where what is done is one
first_one : (l : List Rule) (D : Answer → Type 0) (r a : Answer) → Singles l → (D r → D a → r ≡ a) → FirstOf l D r → FirstOf l D a → r ≡ a
unfolding FirstOf Singles
first_one [] D r a s one p q = one p q
first_one (f ∷ l) D r a s one (inl p) (inl q) = p.1 ∙ ap Err (s.0 _ _ p.2 q.2) ∙ sym q.1
first_one (f ∷ l) D r a s one (inl p) (inr q) = absurd (q.0 _ p.2)
first_one (f ∷ l) D r a s one (inr p) (inl q) = absurd (p.0 _ q.2)
first_one (f ∷ l) D r a s one (inr p) (inr q) = first_one l D r a s.1 one p.1 q.1

when-one : (P : Type 0) (f : Refusal) → Single (when P f)
when-one P f g h p q = p.1 ∙ sym q.1

-- ---- the least node and the first pair are one

least-one : {c : ℕ} {P : ℕ → Type 0} (s u : ℕ) → LeastNode c P s → LeastNode c P u → s ≡ u
least-one s u p q = ⊎_elim
    (λ (le : s ≤ u). ⊎_elim (λ (ge : u ≤ s). omega arith) (λ less. absurd (q.least s less p.has)) (le_or_lt u s))
    (λ less. absurd (p.least u less q.has))
    (le_or_lt s u)

hook-one : (S : Scheme) (s u : ℕ) → HookFault S s → HookFault S u → s ≡ u
hook-one S s u (inl p) (inl q) = least-one s u p q
hook-one S s u (inl p) (inr q) = absurd (p.has.wrong (q.0 s p.has.hook))
hook-one S s u (inr p) (inl q) = absurd (q.has.wrong (p.0 u q.has.hook))
hook-one S s u (inr p) (inr q) = least-one s u p.1 q.1

pair_one : (S : Scheme) (s i j k l : ℕ) → FirstPair S s i j → FirstPair S s k l → (i ≡ k) × (j ≡ l)
pair_one S s i j k l p q = ⊎_elim
    (λ less. ⊎_elim (λ more. absurd (omega arith)) (λ e. let same = e.0 in absurd (omega arith)) (q.first i j p.offends))
    (λ e. ⊎_elim
    (λ more. let same = e.0 in absurd (omega arith))
    (λ g. let one = e.0 in let low = e.1 in let high = g.1 in (one, omega arith))
    (q.first i j p.offends))
    (p.first k l q.offends)

module _ (S : Scheme) where
  hook-single : Single (hook_rule S)
  hook-single f g p q = p.2 ∙ ap BadHook (hook-one S p.0 q.0 p.1 q.1) ∙ sym q.2

  incidence-single : Single (incidence_rule S)
  incidence-single f g p q = p.2 ∙ ap BadIncidence (least-one p.0 q.0 p.1 q.1) ∙ sym q.2

  cycle_single : Single (cycle_rule S)
  cycle_single f g p q =
      let node : p.0 ≡ q.0 = least-one p.0 q.0 p.3.node q.3.node in
      let pair = pair_one S q.0 p.1 p.2 q.1 q.2 (subst (λ (z : ℕ). FirstPair S z p.1 p.2) node p.3) q.3 in
      p.4 ∙ (λ z. BadCycle (node z) (pair.0 z) (pair.1 z)) ∙ sym q.4

scheme-singles : (P : Type 0) (b : List ℕ) (l : List Rule) → Singles l → Singles (scheme_rules P b l)
unfolding Singles
scheme-singles P b l s = (when-one _ _, (hook-single (scheme_of b), (incidence-single (scheme_of b), (cycle_single (scheme_of b), s))))

-- ---- every request has one answer

singles : (n N : ℕ) (t : List ℕ) (q : Request) (l : Lent) → Singles (rules_of n N t q l)
unfolding Singles
singles n N t table_check l = (when-one _ _, (when-one _ _, tt))
singles n N t (scheme_check b) l = scheme-singles _ b [] tt
singles n N t (edit b d) l =
    let site : Singles (site_rules n N t b d) = (when-one _ _, (when-one _ _, (when-one _ _, (when-one _ _, (when-one _ _, tt))))) in
    (when-one _ _, scheme-singles _ b (site_rules n N t b d) site)
singles n N t count l = (when-one _ _, (when-one _ _, (when-one _ _, tt)))
singles n N t (load b) l = (when-one _ _, (when-one _ _, tt))
singles n N t write l = (when-one _ _, (when-one _ _, (when-one _ _, tt)))

returned_one : (n N : ℕ) (t : List ℕ) (q : Request) (r a : Answer) → Returned n N t q r → Returned n N t q a → r ≡ a
returned_one n N t table_check r a p q = p ∙ sym q
returned_one n N t (scheme_check b) r a p q = p ∙ sym q
returned_one n N t (edit b d) r a p q =
    p.2 ∙ ap (λ (O : ℕ → Bool). done_at (site_over N t b d O)) (orbit-only (view N t) (scheme_of b).places (orbit_dim (scheme_of b)) (first_dart d) p.1 q.1)
    ∙ sym q.2
returned_one n N t count r a p q = p ∙ sym q
returned_one n N t (load b) r a p q = p ∙ sym q
returned_one n N t write r a p q = p ∙ sym q

-- ---- the six numbers of a count, and the table that a load leaves, are one

module _ (n N : ℕ) (t : List ℕ) (w : WellFormed n (view N t)) (two : (n ≡ 2) ⊎ (n ≡ 3)) where
  cell-one : {k : ℕ} {dim : ℕ → ℕ} → ((p : ℕ) → p < k → dim p ≤ n) → {c e : ℕ} → Cells (view N t) k dim c → Cells (view N t) k dim e → c ≡ e
  cell-one small p q = cells-only (view N t) _ _ n w small p ∙ sym (cells-only (view N t) _ _ n w small q)

  numbers_one : (u v : List ℕ) → Numbers n N t u → Numbers n N t v → u ≡ v
  numbers_one u v p q = ext_get_or 0 u v (p.six ∙ sym q.six) (λ i h. at i (omega (arith, p.six)))
    where
      at : (i : ℕ) → i < 6 → get_or u i 0 ≡ get_or v i 0
      at zero h = p.darts ∙ sym q.darts
      at (suc zero) h = cell-one (all_but_small n 0) p.vertices q.vertices
      at (suc (suc zero)) h = cell-one (all_but_small n 1) p.edges q.edges
      at (suc (suc (suc zero))) h = cell-one (all_but_small n 2) p.faces q.faces
      at (suc (suc (suc (suc zero)))) h = cell-one {dim = all} (λ k l. omega arith) p.pieces q.pieces
      at (suc (suc (suc (suc (suc zero))))) h = ⊎_elim
          (λ e. p.flat e ∙ sym (q.flat e))
          (λ e. cell-one (all_but_small n 3) (p.volumes e) (q.volumes e))
          two
      at (suc (suc (suc (suc (suc (suc i)))))) h = absurd (omega arith)

module _ (n N : ℕ) (b t u : List ℕ) (two : (n ≡ 2) ⊎ (n ≡ 3)) (p : Filed n N b t) (q : Filed n N b u) where
  -- a slot stands in the file or not
  stands : (x : ℕ) → ((k : ℕ) × (k < darts b) × (slot_at b k ≡ x)) ⊎ ((k : ℕ) → k < darts b → slot_at b k ≡ x → ⊥)
  stands x = go (least (darts b) (λ k. eqb (slot_at b k) x)) refl
    where
      go : (o : Option ℕ) → least (darts b) (λ k. eqb (slot_at b k) x) ≡ o
          → ((k : ℕ) × (k < darts b) × (slot_at b k ≡ x)) ⊎ ((k : ℕ) → k < darts b → slot_at b k ≡ x → ⊥)
      go None e = inr (λ k h z. true≢false (sym (eq-eqb _ _ z) ∙ least-none (darts b) (λ k. eqb (slot_at b k) x) e k h))
      go (Some k) e = let l = least_at (darts b) (λ k. eqb (slot_at b k) x) k e in inl (k, l.0, eqb-true _ _ l.1)

  third : (i : ℕ) → i ≤ 3 → (i ≤ n) ⊎ ((n ≡ 2) × (i ≡ 3))
  third i l = ⊎_elim (λ e. ⊎_elim (λ g. inl g) (λ g. inr (e, omega arith)) (le_or_lt i n)) (λ e. inl (omega arith)) two

  at_slot : (k : ℕ) → k < darts b → (f : Field) → dimension f ≤ 3 → field_at t f (slot_at b k) ≡ field_at u f (slot_at b k)
  at_slot k h State l = p.live k h ∙ sym (q.live k h)
  at_slot k h Tag l = p.tag k h ∙ sym (q.tag k h)
  at_slot k h (Link i) l = ⊎_elim
      (λ g. p.link k h i g ∙ sym (q.link k h i g))
      (λ g. subst (λ (j : ℕ). field_at t (Link j) (slot_at b k) ≡ field_at u (Link j) (slot_at b k)) (sym g.1) (p.flat g.0 k h ∙ sym (q.flat g.0 k h)))
      (third i l)

  word-one : (f : Field) (x : ℕ) → dimension f ≤ 3 → x < N → field_at t f x ≡ field_at u f x
  word-one f x l h = ⊎_elim
      (λ s. subst (λ (y : ℕ). field_at t f y ≡ field_at u f y) s.2 (at_slot s.0 s.1 f l))
      (λ out. p.zero x h out f ∙ sym (q.zero x h out f))
      (stands x)

  filed-one : t ≡ u
  filed-one = words_are (view N u) t p.long (λ f x l h. word-one f x l h ∙ field_view N u f x)
      ∙ sym (words_are (view N u) u q.long (λ f x l h. field_view N u f x))

-- ---- what is left, where the answer is ours

-- an answer has a number, or another
has-number : {A : Type 0} (a : Answer) (k : ℕ) → (number a ≡ k → A) → ((number a ≡ k → ⊥) → A) → A
has-number a k it other = ⊎_elim (λ e. it (eqb-true _ _ e)) (λ e. other (eqb-false _ _ e)) (true_or_false (eqb (number a) k))

-- a store that comes back zero, save after 1
cleared-one : {store : List ℕ} {o p : Outcome} → o.answer ≡ p.answer → Cleared store o → Cleared store p → o.lent.store ≡ p.lent.store
cleared-one {o = o} same c d = let n = ap number same in has-number o.answer 1
    (λ e. c.after_one e ∙ sym (d.after_one (sym n ∙ e)))
    (λ e. c.after_others e ∙ sym (d.after_others (λ z. e (n ∙ z))))

module _ (K : Kernel) (D : Demand1 K) (E : Demand2 K) (n N : ℕ) (t : List ℕ) where
  answer-settled : (q : Request) (l : Lent) (o : Outcome) → K.Does n N t q l o → o.answer ≡ (outcome_of n N t q l).answer
  answer-settled q l o p =
      first_one (rules_of n N t q l) (Returned n N t q) o.answer _ (singles n N t q l) (returned_one n N t q _ _)
      (D.order n N t q l o p) (in_order_lem n N t q l)

  edit-table : (b : List ℕ) (d : Darts) (l : Lent) (o : Outcome) → K.Does n N t (edit b d) l o → o.table ≡ (outcome_of n N t (edit b d) l).table
  edit-table b d l o p = let same = ap number (answer-settled (edit b d) l o p) in has-number o.answer 0
      (λ e. let a = free_applicable n N t b d l (sym same ∙ e) in (done-is n N t b d l a o (E.edits n N t b d l o p a)).1)
      (λ e. (D.leaves n N t (edit b d) l o p).refused e ∙ sym ((left n N t (edit b d) l).refused (λ z. e (same ∙ z))))

  count-output : (l : Lent) (o : Outcome) → K.Does n N t count l o → o.lent.output ≡ (outcome_of n N t count l).lent.output
  unfolding count_answer count_fault
  count-output l o p = let same = ap number (answer-settled count l o p) in has-number o.answer 0
      (λ e.
      let mine = (left n N t count l).done (sym same ∙ e) in
      let its = (D.leaves n N t count l o p).done e in
      let free = answered-free _ (count_fault n N t l.store l.output) (sym same ∙ e) in
      let passed = output-passed _ n (view N t) _ _ free in
      let two = ((stored_iff n N t l.store).0 passed.0).0.dimension in
      let same_numbers = numbers_one n N t ((well_formed_iff n (view N t)).0 passed.1) two its.0 mine.0 its.1 mine.1 in
      its.2 ∙ ap (λ (v : List ℕ). v ++ drop (length v) l.output) same_numbers ∙ sym mine.2)
      (λ e. (D.leaves n N t count l o p).refused e ∙ sym ((left n N t count l).refused (λ z. e (same ∙ z))))

  load-table : (b : List ℕ) (l : Lent) (o : Outcome) → K.Does n N t (load b) l o → o.table ≡ load_table n N t b
  unfolding FirstOf
  load-table b l o p = by (D.order n N t (load b) l o p)
    where
      is : number o.answer ≡ number (load_answer n N t b)
      is = ap number (answer-settled (load b) l o p)

      its : LoadLeft n N t b l o
      its = D.leaves n N t (load b) l o p

      mine : LoadLeft n N t b l (outcome_of n N t (load b) l)
      mine = left n N t (load b) l

      by : FirstOf (rules_of n N t (load b) l) (Returned n N t (load b)) o.answer → o.table ≡ load_table n N t b
      by (inl x) = let one = ap number (x.1 ∙ ap Err x.2.1) in its.after_one one ∙ sym (mine.after_one (sym is ∙ one))
      by (inr (_, inl x)) = let eleven = ap number (x.1 ∙ ap Err x.2.1) in its.after_eleven eleven ∙ sym (mine.after_eleven (sym is ∙ eleven))
      by (inr (_, inr (_, x))) =
          let done = ap number x in
          let two = ((sizes_iff n N t).0 (load-done n N t b (sym is ∙ done)).0).dimension in
          filed-one n N b o.table (load_table n N t b) two (its.done done) (mine.done (sym is ∙ done))

  write-output : (l : Lent) (o : Outcome) → K.Does n N t write l o → o.lent.output ≡ (outcome_of n N t write l).lent.output
  unfolding write_answer
  write-output l o p = let same = ap number (answer-settled write l o p) in has-number o.answer 0
      (λ e.
      let free = answered-free _ (write_fault n N t l.output) (sym same ∙ e) in
      let h = write-holds n N t l free in
      (E.writes n N t l o p h.0 h.1).1 ∙ sym (write_done n N t l h.0 h.1).1)
      (λ e. (D.leaves n N t write l o p).refused e ∙ sym ((left n N t write l).refused (λ z. e (same ∙ z))))

  -- whatever K does, ours does
  request-settled : (q : Request) (l : Lent) (o : Outcome) → K.Does n N t q l o → o ≡ outcome_of n N t q l
  request-settled q l o p = go q p
    where
      go : (q : Request) → K.Does n N t q l o → o ≡ outcome_of n N t q l
      go table_check p = let v = D.leaves n N t table_check l o p in
          λ i. record { answer = answer-settled table_check l o p i; table = v.table i; lent = v.lent i }
      go (scheme_check b) p = let v = D.leaves n N t (scheme_check b) l o p in
          λ i. record { answer = answer-settled (scheme_check b) l o p i; table = v.table i; lent = v.lent i }
      go (edit b d) p =
          let v = D.leaves n N t (edit b d) l o p in
          let store = cleared-one (answer-settled (edit b d) l o p) v.cleared (left n N t (edit b d) l).cleared in
          λ i. record { answer = answer-settled (edit b d) l o p i; table = edit-table b d l o p i; lent = record { store = store i; output = v.output i } }
      go count p =
          let v = D.leaves n N t count l o p in
          let store = cleared-one (answer-settled count l o p) v.cleared (left n N t count l).cleared in
          λ i. record { answer = answer-settled count l o p i; table = v.table i; lent = record { store = store i; output = count-output l o p i } }
      go (load b) p = let v = D.leaves n N t (load b) l o p in
          λ i. record { answer = answer-settled (load b) l o p i; table = load-table b l o p i; lent = v.lent i }
      go write p = let v = D.leaves n N t write l o p in
          λ i. record { answer = answer-settled write l o p i; table = v.table i; lent = record { store = v.store i; output = write-output l o p i } }

pub settled : (K : Kernel) → Demand1 K → Demand2 K → Refines K ours
settled K D E n N t = request-settled K D E n N t

-- so demand 3 follows
pub settled3 : (K : Kernel) → Demand1 K → Demand2 K → Demand3 K
settled3 K D E = refined3 K ours (settled K D E) demand3

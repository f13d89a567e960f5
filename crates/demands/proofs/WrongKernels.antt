-- Kernels that demand 2 shuts out: one that refuses everything, one that gives a fixed answer, whatever it is, one that changes nothing, one that
-- rewrites only the first orbit dart, and one that invents its counts, whatever they are. The first four are refuted on P8, V on E at 0, and P10, W on
-- E at 0.
-- Two more take other darts than the call's two, and are refuted on F at 0 and 3: one takes the first for both hooks, and finds no match where two
-- flanges are sewn; one takes them in the wrong order, and works on the other piece where the first is kept and the second dropped.
-- One more gives new darts the tag of the first hook's dart, whatever their donors are, and is refuted where an edge's other end is renewed.
-- One more takes the slots that an edit deletes for no room, and is refuted where an edge is replaced in a full table.
-- Kernels that demand 1 shuts out: one whose load refuses a broken map, and one whose load leaves a word of an unused record.
-- Two more are shut out by how they count: one counts a cell at each of its darts, and one counts volumes with n = 2.
-- In the kernel that was licensed before, a new dart kept the tag of its slot, which it had from an earlier job: there the label does not follow the metal.
use Prim.Native.Nat.{ℕ, zero, suc, ◌<◌}
use mathlib.Core.Path.{◌≡◌, refl, sym, ap, ◌∙◌, subst}
use mathlib.Core.Logic.{inl, inr}
use mathlib.Core.Bool.{Bool, true, not, cond, true≢false}
use mathlib.Core.List.{List, [], ◌∷◌, ◌++◌, append-nil}
use native.Mathlib.Omega.{arith}
use lib.ListN.{get_or, take, drop, replicate}
use lib.Dec.{eqb, ltb}
use borrow.Author.Tests.{eqb-false, eq-eqb, not-true}
use Rattle.std.specs.Prelude.{Ok, Err}
use Rattle.base.specs.Test.{◌or◌, ◌⇒◌}
use Rattle.base.specs.Below.{all_below, count_below}
use Rattle.base.specs.First.{there}
use Rattle.base.proofs.TestLaws.{or_false, if_so}
use Rattle.base.proofs.BelowLaws.{all-at}
use Rattle.model.specs.Map.{State, Link, Tag, field_at, put, view, live, unused, table_of, table_size}
use Rattle.model.specs.WellFormed.{well_formed}
use Rattle.model.specs.Count.{cells, all_but}
use Rattle.model.specs.Scheme.{scheme_of}
use Rattle.model.specs.Site.{site_at}
use Rattle.model.specs.Edit.{added_darts, edited}
use Rattle.model.specs.Answer.{Answer, number, values}
use Rattle.model.specs.File.{darts, slot_at}
use Rattle.model.specs.Calls.{check_table, first_dart, second_dart, site_of, edit_fault, edit_answer, edit_table, load_answer, load_table, count_answer}
use Rattle.model.specs.Sequence.{Request, table_check, scheme_check, edit, count, load, write, Lent, Outcome, outcome_of, written, known_after}
use Rattle.model.specs.declared.Scheme.{Scheme}
use Rattle.model.specs.declared.Darts.{Darts}
use Rattle.model.specs.declared.Darts.TheVariants.{One, Two}
use Rattle.model.specs.declared.Reply.TheVariants.{Done, Edited}
use Rattle.model.specs.declared.Refusal.TheVariants.{BadCall, BadTable, NoMatch, NoRoom}
use Rattle.model.proofs.WellFormedLaws.{well_formed_iff}
use Rattle.model.proofs.CountLaws.{all_but_small}
use Rattle.model.proofs.Computes.{computes}
use Rattle.model.proofs.Samples.{dart, e8, unused_slots, v_bytes, w_bytes, store8, v_darts, e_file, broken_file, f_darts, sew_bytes, store4}
use Rattle.model.proofs.Samples.{e_darts, renew_bytes, renewed, turn_bytes}
use Rattle.demands.specs.Kernel.{Kernel}
use Rattle.demands.specs.Runs.{AlikeRuns}
use Rattle.demands.specs.Refusals.{FirstOf, rules_of, site_over}
use Rattle.demands.specs.Demands.{Returned, Numbers, Demand1, Demand2, Demand3}
use Rattle.demands.specs.Labels.{Tagged, LabelsFollow}
use Rattle.demands.proofs.AdmitLaws.{free_applicable, done-is}
use Rattle.demands.proofs.OrderLaws.{cells-only}
use Rattle.demands.proofs.RunLaws.{AlikeCall, alike_runs}
use Rattle.demands.proofs.OneOutcome.{answer_of, table_of_lem}
use Rattle.demands.proofs.RefusalLaws.{cond-true}

-- ---- the kernels

-- the kernel whose every request has the one outcome that f gives
abbrev pub doing : (ℕ → ℕ → List ℕ → Request → Lent → Outcome) → Kernel
doing f = record { Does = λ n N t q l o. o ≡ f n N t q l; responds = λ n N t q l. (f n N t q l, refl) }

-- every request is answered with 1, and nothing is written
abbrev pub refusing : Kernel
refusing = doing (λ n N t q l. record { answer = Err BadCall; table = t; lent = l })

-- an outcome with another answer, another table or another output
abbrev pub answering : Answer → Outcome → Outcome
answering a o = record { answer = a; table = o.table; lent = o.lent }

abbrev pub tabling : List ℕ → Outcome → Outcome
tabling t o = record { answer = o.answer; table = t; lent = o.lent }

abbrev pub writing : List ℕ → Outcome → Outcome
writing v o = record { answer = o.answer; table = o.table; lent = record { store = o.lent.store; output = v } }

-- ours, but for what e makes of the outcome of an edit, c of a count and f of a load
module _ (e : ℕ → ℕ → List ℕ → List ℕ → Darts → Lent → Outcome → Outcome) (c : ℕ → ℕ → List ℕ → Outcome → Outcome)
    (f : ℕ → ℕ → List ℕ → List ℕ → Outcome → Outcome) where
  abbrev changing : ℕ → ℕ → List ℕ → Request → Lent → Outcome → Outcome
  changing n N t table_check l o = o
  changing n N t (scheme_check b) l o = o
  changing n N t (edit b d) l o = e n N t b d l o
  changing n N t count l o = c n N t o
  changing n N t (load b) l o = f n N t b o
  changing n N t write l o = o

  abbrev changed : Kernel
  changed = doing (λ n N t q l. changing n N t q l (outcome_of n N t q l))

-- but for edits alone, for counts alone, for loads alone
abbrev pub editing : (ℕ → ℕ → List ℕ → List ℕ → Darts → Lent → Outcome → Outcome) → Kernel
editing e = changed e (λ n N t o. o) (λ n N t b o. o)

abbrev pub counting : (ℕ → ℕ → List ℕ → Outcome → Outcome) → Kernel
counting c = changed (λ n N t b d l o. o) c (λ n N t b o. o)

abbrev pub loading : (ℕ → ℕ → List ℕ → List ℕ → Outcome → Outcome) → Kernel
loading f = changed (λ n N t b d l o. o) (λ n N t o. o) f

-- every edit gives the answer a
abbrev pub fixed : Answer → Kernel
fixed a = editing (λ n N t b d l o. answering a o)

-- no edit changes a record
abbrev pub idle : Kernel
idle = editing (λ n N t b d l o. tabling t o)

-- an edit rewrites as if the first dart were its whole orbit
abbrev pub first-only : Kernel
first-only = editing (λ n N t b d l o.
    tabling (cond (there (edit_fault n N t l.store b d)) t (table_of (edited (site_over N t b d (eqb (first_dart d)))))) o)

-- an edit that is done answers what f invents
abbrev pub inventing : (ℕ → ℕ → List ℕ → List ℕ → Darts → Lent → Answer) → Kernel
inventing f = editing (λ n N t b d l o. answering (cond (eqb (number o.answer) 0) (f n N t b d l) o.answer) o)

-- an edit takes the darts that f makes of the call's
abbrev pub taking : (f : Darts → Darts) → Kernel
taking f = editing (λ n N t b d l o. outcome_of n N t (edit b (f d)) l)

-- the first dart for both
abbrev pub twice : Darts → Darts
twice (One d) = One d
twice (Two d e) = Two d d

-- two darts in the wrong order
abbrev pub swap : Darts → Darts
swap (One d) = One d
swap (Two d e) = Two e d

-- an edit takes the first of two darts for both hooks
abbrev pub first-twice : Kernel
first-twice = taking twice

-- an edit takes each of two darts for the other's hook
abbrev pub swapped : Kernel
swapped = taking swap

-- the scheme without its donors: node 0 is the donor of every added node
abbrev pub undonated : Scheme → Scheme
undonated S = record {
  n = S.n;
  places = S.places;
  orbit = S.orbit;
  nodes = S.nodes;
  second = S.second;
  kinds = S.kinds;
  donors = replicate 16 0;
  lwords = S.lwords;
  rwords = S.rwords;
  ltargets = S.ltargets;
  rtargets = S.rtargets;
  lcount = S.lcount;
  larcs = S.larcs;
  rcount = S.rcount;
  rarcs = S.rarcs;
}

-- a new dart takes the tag of the first hook's dart
abbrev pub hook-tagged : Kernel
hook-tagged = editing (λ n N t b d l o. tabling (cond (there (edit_fault n N t l.store b d)) t
    (table_of (edited (site_at (view N t) (undonated (scheme_of b)) (first_dart d) (second_dart d))))) o)

-- the slots that an edit deletes are no room in it
abbrev pub hoarding : Kernel
hoarding = editing (λ n N t b d l o. cond (ltb (count_below N (unused (view N t))) (added_darts (site_of N t b d)))
    (answering (Err NoRoom) (tabling t o)) o)

-- the table t' with the tags that the unused records of t hold
abbrev pub stale_tags : ℕ → List ℕ → List ℕ → List ℕ
stale_tags N t t' = table_of (record {
  slots = N;
  state = (view N t').state;
  link = (view N t').link;
  tag = λ x. cond (unused (view N t) x) ((view N t).tag x) ((view N t').tag x);
})

-- a new dart keeps the tag that its slot held
abbrev pub stale : Kernel
stale = editing (λ n N t b d l o. tabling (stale_tags N t o.table) o)

-- a load checks the map too, and answers 7 where it is broken
abbrev pub strict : Kernel
strict = loading (λ n N t b o. answering (cond (eqb (number o.answer) 0) (check_table n N o.table) o.answer) o)

-- a load leaves the tag of slot 7 as it was
abbrev pub leaving : Kernel
leaving = loading (λ n N t b o. tabling (put o.table Tag 7 (field_at t Tag 7)) o)

-- a cell is counted at each of its darts
abbrev pub each-dart : Kernel
each-dart = counting (λ n N t o. let d = count_below N (live (view N t)) in writing (d ∷ d ∷ d ∷ d ∷ d ∷ cond (eqb n 3) d 0 ∷ drop 6 o.lent.output) o)

-- volumes are counted with n = 2 too, where they are the pieces
abbrev pub thick : Kernel
thick = counting (λ n N t o. let v = o.lent.output in writing (take 5 v ++ get_or v 4 0 ∷ drop 6 v) o)

-- ---- the samples

-- a store is lent, and no output
abbrev stored : List ℕ → Lent
stored s = record { store = s; output = [] }

p8_answer : edit_answer 2 8 e8 store8 v_bytes (One 0) ≡ Ok (Edited 2 2 0)
unfolding computes
p8_answer = refl

p8_table : edit_table 2 8 e8 store8 v_bytes (One 0) ≡ v_darts ++ unused_slots 4
unfolding computes
p8_table = refl

p10_answer : edit_answer 2 8 e8 store8 w_bytes (One 0) ≡ Ok (Edited 1 0 0)
unfolding computes
p10_answer = refl

-- two flanges are sewn at 0 and 3, and at 0 and 0 there is no match
sew_answer : edit_answer 2 4 f_darts store4 (sew_bytes 0 1) (Two 0 3) ≡ Ok (Edited 2 0 0)
unfolding computes
sew_answer = refl

twice-answer : edit_answer 2 4 f_darts store4 (sew_bytes 0 1) (Two 0 0) ≡ Err NoMatch
unfolding computes
twice-answer = refl

-- orbit type 0 1 2, node 0 preserved with its word, node 1, the second hook, deleted: the first piece is kept and the second dropped
abbrev pub keep_bytes : List ℕ
keep_bytes = 34 ∷ 3 ∷ 0 ∷ 1 ∷ 2 ∷ 2 ∷ 2 ∷ 0 ∷ 1 ∷ 2 ∷ 0 ∷ 1 ∷ 2 ∷ 1 ∷ 0 ∷ 1 ∷ 2 ∷ 255 ∷ 255 ∷ 255 ∷ 1 ∷ 0 ∷ 0 ∷ []

-- at 0 and 3 and at 3 and 0 the answer is the same, and the piece that is kept is not
keep_answer : edit_answer 2 4 f_darts store4 keep_bytes (Two 0 3) ≡ Ok (Edited 2 0 2)
unfolding computes
keep_answer = refl

pub swap_answer : edit_answer 2 4 f_darts store4 keep_bytes (Two 3 0) ≡ Ok (Edited 2 0 2)
unfolding computes
swap_answer = refl

keep_table : edit_table 2 4 f_darts store4 keep_bytes (Two 0 3) ≡ dart 1 0 0 0 7 ++ dart 0 1 1 1 7 ++ replicate (table_size 2) 0
unfolding computes
keep_table = refl

swap-table : edit_table 2 4 f_darts store4 keep_bytes (Two 3 0) ≡ replicate (table_size 2) 0 ++ dart 3 2 2 2 9 ++ dart 2 3 3 3 9
unfolding computes
swap-table = refl

-- the dart at the other end of an edge, of lot 9, is renewed by one of its lot
renew_answer : edit_answer 2 8 e8 store8 (renew_bytes 18 (1 ∷ [])) (One 0) ≡ Ok (Edited 1 1 1)
unfolding computes
renew_answer = refl

renew_table : edit_table 2 8 e8 store8 (renew_bytes 18 (1 ∷ [])) (One 0) ≡ renewed 9
unfolding computes
renew_table = refl

-- what demand 2 asks of an edit that ours does: the same answer and the same table
module _ (K : Kernel) (D : Demand2 K) where
  as_ours : (n N : ℕ) (t b : List ℕ) (d : Darts) (l : Lent) → number (edit_answer n N t l.store b d) ≡ 0
      → (o : Outcome) → K.Does n N t (edit b d) l o
      → (o.answer ≡ edit_answer n N t l.store b d) × (o.table ≡ edit_table n N t l.store b d)
  as_ours n N t b d l done o p =
      let applies = free_applicable n N t b d l done in
      done-is n N t b d l applies o (D.edits n N t b d l o p applies)

  -- and so of an edit at P8 and at P10
  p8_done : (o : Outcome) → K.Does 2 8 e8 (edit v_bytes (One 0)) (stored store8) o → (o.answer ≡ Ok (Edited 2 2 0)) × (o.table ≡ v_darts ++ unused_slots 4)
  p8_done o p = let is = as_ours 2 8 e8 v_bytes (One 0) (stored store8) (ap number p8_answer) o p in (is.0 ∙ p8_answer, is.1 ∙ p8_table)

  p10_done : (o : Outcome) → K.Does 2 8 e8 (edit w_bytes (One 0)) (stored store8) o → o.answer ≡ Ok (Edited 1 0 0)
  p10_done o p = (as_ours 2 8 e8 w_bytes (One 0) (stored store8) (ap number p10_answer) o p).0 ∙ p10_answer

-- ---- none of the kernels meets demand 2

-- the first value of an answer
first-value : Answer → ℕ
first-value a = get_or (values a) 0 0

pub not_refusing : Demand2 refusing → ⊥
not_refusing D = let one : ◌≡◌ {A = ℕ} 1 0 = ap number (p8_done refusing D _ refl).0 in omega arith

pub not_fixed : (a : Answer) → Demand2 (fixed a) → ⊥
unfolding first-value
not_fixed a D = let size : ◌≡◌ {A = ℕ} 2 1 = ap first-value (sym (p8_done (fixed a) D _ refl).0 ∙ p10_done (fixed a) D _ refl) in omega arith

-- whatever is invented: where it is not the answer of an edit that ours does, the kernel is shut out
pub not_inventing : (f : ℕ → ℕ → List ℕ → List ℕ → Darts → Lent → Answer) (n N : ℕ) (t b : List ℕ) (d : Darts) (l : Lent)
    → number (edit_answer n N t l.store b d) ≡ 0 → (f n N t b d l ≡ edit_answer n N t l.store b d → ⊥) → Demand2 (inventing f) → ⊥
not_inventing f n N t b d l done other D =
    other (sym (cond-true _ (f n N t b d l) _ (eq-eqb _ _ done)) ∙ (as_ours (inventing f) D n N t b d l done _ refl).0)

pub not_idle : Demand2 idle → ⊥
unfolding field_at
not_idle D = let link : ◌≡◌ {A = ℕ} 1 2 = ap (λ (t : List ℕ). field_at t (Link 0) 0) (p8_done idle D _ refl).1 in omega arith

-- dart 1, the second of the orbit, is as it was
first-table : cond (there (edit_fault 2 8 e8 store8 v_bytes (One 0))) e8 (table_of (edited (site_over 8 e8 v_bytes (One 0) (eqb 0))))
    ≡ v_darts ++ unused_slots 4 → ⊥
unfolding computes
first-table e = let link : ◌≡◌ {A = ℕ} 0 3 = ap (λ (t : List ℕ). field_at t (Link 0) 1) e in omega arith

pub not_first_only : Demand2 first-only → ⊥
not_first_only D = first-table (p8_done first-only D _ refl).1

pub not_first_twice : Demand2 first-twice → ⊥
not_first_twice D =
    let is = as_ours first-twice D 2 4 f_darts (sew_bytes 0 1) (Two 0 3) (stored store4) (ap number sew_answer) _ refl in
    let nine : ◌≡◌ {A = ℕ} 9 0 = ap number (sym twice-answer ∙ is.0 ∙ sew_answer) in
    omega arith

-- dart 0, of the piece to be kept, is not live
pub not_swapped : Demand2 swapped → ⊥
unfolding field_at
not_swapped D =
    let is = as_ours swapped D 2 4 f_darts keep_bytes (Two 0 3) (stored store4) (ap number keep_answer) _ refl in
    let state : ◌≡◌ {A = ℕ} 0 1 = ap (λ (t : List ℕ). field_at t State 0) (sym swap-table ∙ is.1 ∙ keep_table) in
    omega arith

hook-tagged-table : cond (there (edit_fault 2 8 e8 store8 (renew_bytes 18 (1 ∷ [])) (One 0))) e8
    (table_of (edited (site_at (view 8 e8) (undonated (scheme_of (renew_bytes 18 (1 ∷ [])))) 0 0))) ≡ renewed 7
unfolding computes
hook-tagged-table = refl

pub not_hook_tagged : Demand2 hook-tagged → ⊥
unfolding field_at
not_hook_tagged D =
    let is = as_ours hook-tagged D 2 8 e8 (renew_bytes 18 (1 ∷ [])) (One 0) (stored store8) (ap number renew_answer) _ refl in
    let tag : ◌≡◌ {A = ℕ} 7 9 = ap (λ (t : List ℕ). field_at t Tag 1) (sym hook-tagged-table ∙ is.1 ∙ renew_table) in
    omega arith

turn-answer : edit_answer 2 2 e_darts (replicate 32 5) turn_bytes (One 0) ≡ Ok (Edited 1 2 2)
unfolding computes
turn-answer = refl

-- two new darts, and no unused slot
full : ltb (count_below 2 (unused (view 2 e_darts))) (added_darts (site_of 2 e_darts turn_bytes (One 0))) ≡ true
unfolding computes
full = refl

pub not_hoarding : Demand2 hoarding → ⊥
not_hoarding D =
    let l = stored (replicate 32 5) in
    let is = as_ours hoarding D 2 2 e_darts turn_bytes (One 0) l (ap number turn-answer) _ refl in
    let full-outcome = answering (Err NoRoom) (tabling e_darts (outcome_of 2 2 e_darts (edit turn_bytes (One 0)) l)) in
    let refuses = ap (λ (o : Outcome). o.answer) (cond-true _ full-outcome _ full) in
    let ten : ◌≡◌ {A = ℕ} 10 0 = ap number (sym refuses ∙ is.0 ∙ turn-answer) in
    omega arith

-- ---- where the label does not follow the metal

-- no live dart of E has the tag that its unused records hold
no_stale_tag : all_below 8 (λ x. live (view 8 e8) x ⇒ not (eqb ((view 8 e8).tag x) 904)) ≡ true
unfolding computes
no_stale_tag = refl

not_tagged : Tagged 8 e8 904 → ⊥
not_tagged w = eqb-false _ _ (not-true _ (if_so _ (all-at 8 _ no_stale_tag w.dart w.alive.slot) (eq-eqb _ _ w.alive.alive))) w.tag

-- V on E at 0 makes slot 2 live
stale-state : (view 8 (stale_tags 8 e8 (edit_table 2 8 e8 store8 v_bytes (One 0)))).state 2 ≡ 1
unfolding computes
stale-state = refl

stale-tag : (view 8 (stale_tags 8 e8 (edit_table 2 8 e8 store8 v_bytes (One 0)))).tag 2 ≡ 904
unfolding computes
stale-tag = refl

pub not_stale : LabelsFollow stale → ⊥
not_stale L = not_tagged (L.no_other 2 8 e8 v_bytes (One 0) (stored store8) _ refl (ap number p8_answer) 904
    (record { dart = 2; alive = record { slot = omega arith; alive = stale-state }; tag = stale-tag }))

-- ---- none of the loads meets demand 1

strict-answer : cond (eqb (number (load_answer 2 8 e8 broken_file)) 0) (check_table 2 8 (load_table 2 8 e8 broken_file)) (load_answer 2 8 e8 broken_file)
    ≡ Err BadTable
unfolding computes
strict-answer = refl

-- 7 is no answer of a load
no_seven : (n N : ℕ) (t b : List ℕ) (l : Lent) → FirstOf (rules_of n N t (load b) l) (Returned n N t (load b)) (Err BadTable) → ⊥
unfolding FirstOf
no_seven n N t b l (inl p) = let one : ◌≡◌ {A = ℕ} 7 1 = ap number (p.1 ∙ ap Err p.2.1) in omega arith
no_seven n N t b l (inr (_, inl p)) = let eleven : ◌≡◌ {A = ℕ} 7 11 = ap number (p.1 ∙ ap Err p.2.1) in omega arith
no_seven n N t b l (inr (_, inr (_, p))) = let zero : ◌≡◌ {A = ℕ} 7 0 = ap number p in omega arith

pub not_strict : Demand1 strict → ⊥
not_strict D = no_seven 2 8 e8 broken_file (stored [])
    (subst (FirstOf (rules_of 2 8 e8 (load broken_file) (stored [])) (Returned 2 8 e8 (load broken_file))) strict-answer
    (D.order 2 8 e8 (load broken_file) (stored []) _ refl))

-- E's file has no dart at slot 7
not_there : (k : ℕ) → k < darts e_file → slot_at e_file k ≡ 7 → ⊥
unfolding computes
not_there zero h e = omega arith
not_there (suc zero) h e = omega arith
not_there (suc (suc k)) h e = omega arith

left-tag : field_at (put (load_table 2 8 e8 e_file) Tag 7 (field_at e8 Tag 7)) Tag 7 ≡ 904
unfolding computes put
left-tag = refl

e_loads : load_answer 2 8 e8 e_file ≡ Ok Done
unfolding computes
e_loads = refl

pub not_leaving : Demand1 leaving → ⊥
not_leaving D =
    let filed = (D.leaves 2 8 e8 (load e_file) (stored []) _ refl).done (ap number e_loads) in
    let zero : ◌≡◌ {A = ℕ} 904 0 = sym left-tag ∙ filed.zero 7 (omega arith) not_there Tag in
    omega arith

-- ---- none of the counts meets demand 1

-- what is left in the output where E is counted
abbrev six : Lent
six = record { store = store8; output = replicate 6 99 }

e_counts : count_answer 2 8 e8 store8 (replicate 6 99) ≡ Ok Done
unfolding computes
e_counts = refl

module _ (K : Kernel) (D : Demand1 K) (o : Outcome) (p : K.Does 2 8 e8 count six o) (done : number o.answer ≡ 0) where
  -- six numbers fill an output of six words
  e_numbers : Numbers 2 8 e8 o.lent.output
  e_numbers = let v = (D.leaves 2 8 e8 count six o p).done done in
      subst (Numbers 2 8 e8) (sym (v.2 ∙ rw v.1.six (append-nil v.0))) v.1

e_well : well_formed 2 (view 8 e8) ≡ true
unfolding computes
e_well = refl

-- E has one edge
e_edges : cells (view 8 e8) 2 (all_but 1) ≡ 1
unfolding computes
e_edges = refl

pub not_each_dart : Demand1 each-dart → ⊥
unfolding computes
not_each_dart D =
    let numbers = e_numbers each-dart D _ refl (ap number e_counts) in
    let edges : ◌≡◌ {A = ℕ} 2 1 = cells-only _ 2 (all_but 1) 2 ((well_formed_iff 2 (view 8 e8)).0 e_well) (all_but_small 2 1) numbers.edges ∙ e_edges in
    omega arith

pub not_thick : Demand1 thick → ⊥
unfolding computes
not_thick D = let volumes : ◌≡◌ {A = ℕ} 1 0 = (e_numbers thick D _ refl (ap number e_counts)).flat refl in omega arith

-- ---- a kernel that gives one answer to everything

-- what demand 3 says of sequences holds of it ..
no_file : (q : Request) (o : Outcome) → o.answer ≡ Err BadCall → written q o ≡ []
no_file table_check o e = refl
no_file (scheme_check b) o e = refl
no_file (edit b d) o e = refl
no_file count o e = rw e refl
no_file (load b) o e = refl
no_file write o e = rw e refl

-- nothing is found to be well-formed
no_more_known : (known : Bool) (q : Request) (a : Answer) → a ≡ Err BadCall → known_after known q a ≡ true → known ≡ true
no_more_known known table_check a e k = sym (or_false known) ∙ subst (λ (r : Answer). (known or eqb (number r) 0) ≡ true) e k
no_more_known known (scheme_check b) a e k = k
no_more_known known (edit b d) a e k = k
no_more_known known count a e k = k
no_more_known known (load b) a e k = absurd (true≢false (sym k))
no_more_known known write a e k = k

constant_call : AlikeCall refusing
constant_call n N t t' a known k e e' same p p' = record {
  tables = rw (table_of_lem p, table_of_lem p') a;
  answers = answer_of p ∙ sym (answer_of p');
  files = no_file e.call.request e.outcome (answer_of p) ∙ sym (no_file e'.call.request e'.outcome (answer_of p'));
  well = λ h. rw (table_of_lem p, table_of_lem p') (k (no_more_known known e.call.request e.outcome.answer (answer_of p) h));
}

pub constant_alike : AlikeRuns refusing
constant_alike = alike_runs refusing constant_call

-- .. and yet it does not carry the demand, which speaks of demand 2's edits
pub constant_falls : Demand3 refusing → ⊥
constant_falls D = not_refusing D.edits

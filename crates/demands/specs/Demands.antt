-- The customer's three demands, as predicates on a kernel. Ours meets them (proofs/Demands.antt), and so does what a program in C sees of it
-- (`exported1` to `exported3` of crates/exports/proofs/Exports.antt). A kernel that meets demands 1 and 2 allows no outcome but ours
-- (proofs/Settled.antt); some that do not meet them are in proofs/WrongKernels.antt.
-- That no call faults or runs on is no statement here: it is part of what proving a function means.
use Rattle.std.specs.Prelude.{ℕ, ◌+◌, ◌*◌, ◌≤◌, ◌<◌, ◌≡◌, ◌↔◌, Bool, true, List, ◌++◌, length, get_or, drop, replicate}
use Rattle.std.specs.Prelude.{Ok, Err}
use Rattle.base.specs.Below.{count_below}
use Rattle.model.specs.Map.{Map, Field, State, Link, Tag, field_at, table_size, view, table_of, live}
use Rattle.model.specs.WellFormed.{WellFormed}
use Rattle.model.specs.Scheme.{in_form, scheme_of}
use Rattle.model.specs.Accepted.{Consistent}
use Rattle.model.specs.Orbit.{InOrbit}
use Rattle.model.specs.Count.{all_but, all}
use Rattle.model.specs.Site.{Site, LiveDart}
use Rattle.model.specs.Edit.{orbit_size, added_darts, deleted_darts, room_of}
use Rattle.model.specs.Rewriting.{Rewriting}
use Rattle.model.specs.File.{file, darts, slot_at, tag_at, link_at}
use Rattle.model.specs.Answer.{Answer, number}
use Rattle.model.specs.Calls.{Sizes, first_dart, second_dart}
use Rattle.model.specs.Sequence.{Holds, AlikeTables, Request, table_check, scheme_check, edit, count, load, write, Lent, Outcome, written}
use Rattle.model.specs.declared.Darts.{Darts}
use Rattle.model.specs.declared.Refusal.TheVariants.{NoMatch}
use Rattle.model.specs.declared.Reply.TheVariants.{Done, Edited, Written}
use Rattle.demands.specs.Kernel.{Kernel}
use Rattle.demands.specs.Runs.{AlikeRuns}
use Rattle.demands.specs.Refusals.{FirstOf, rules_of, AsMany, Orbit, site_over, Matched}

-- ---- demand 1: what is returned

-- the size of O, darts added and darts deleted
abbrev pub done_at : Site → Answer
done_at E = Ok (Edited (orbit_size E) (added_darts E) (deleted_darts E))

-- what a request that is done returns: an edit its three counts, a write the length of the file, every other nothing
abbrev pub Returned : ℕ → ℕ → List ℕ → Request → Answer → Type 0
Returned n N t table_check a = a ≡ Ok Done
Returned n N t (scheme_check b) a = a ≡ Ok Done
Returned n N t (edit b D) a = (O : ℕ → Bool) × Orbit N t b D O × (a ≡ done_at (site_over N t b D O))
Returned n N t count a = a ≡ Ok Done
Returned n N t (load b) a = a ≡ Ok Done
Returned n N t write a = a ≡ Ok (Written (length (file n (view N t))))

-- ---- demand 1: what is left

-- c is the number of orbits of a type, each counted by its smallest dart: a live one from which no smaller one is reached
pub record Cells (m : Map) (k : ℕ) (dim : ℕ → ℕ) (c : ℕ) : Type 0 where
  pub smallest : ℕ → Bool
  pub is : (x : ℕ) → x < m.slots → (smallest x ≡ true) ↔ ((m.state x ≡ 1) × ((y : ℕ) → y < x → InOrbit m k dim x y → ⊥))
  pub many : c ≡ count_below m.slots smallest

-- the six numbers of a count: live darts, vertices, edges, faces, pieces, volumes
pub record Numbers (n N : ℕ) (t v : List ℕ) : Type 0 where
  pub six : length v ≡ 6
  pub darts : get_or v 0 0 ≡ count_below N (live (view N t))
  pub vertices : Cells (view N t) n (all_but 0) (get_or v 1 0)
  pub edges : Cells (view N t) n (all_but 1) (get_or v 2 0)
  pub faces : Cells (view N t) n (all_but 2) (get_or v 3 0)
  pub pieces : Cells (view N t) (n + 1) all (get_or v 4 0)
  pub volumes : n ≡ 3 → Cells (view N t) n (all_but 3) (get_or v 5 0)
  pub flat : n ≡ 2 → get_or v 5 0 ≡ 0

-- the table t' holds the records of a file's bytes b, and nothing else
pub record Filed (n N : ℕ) (b t' : List ℕ) : Type 0 where
  pub long : length t' ≡ table_size N
  -- the k-th dart of the file is live, its tag and links are as they stand there, whether a link is below N or not, and with n = 2 α3 is its own slot
  pub live : (k : ℕ) → k < darts b → field_at t' State (slot_at b k) ≡ 1
  pub tag : (k : ℕ) → k < darts b → field_at t' Tag (slot_at b k) ≡ tag_at b k
  pub link : (k : ℕ) → k < darts b → (i : ℕ) → i ≤ n → field_at t' (Link i) (slot_at b k) ≡ link_at n b k i
  pub flat : n ≡ 2 → (k : ℕ) → k < darts b → field_at t' (Link 3) (slot_at b k) ≡ slot_at b k
  -- every word of every other record is zero
  pub zero : (x : ℕ) → x < N → ((k : ℕ) → k < darts b → slot_at b k ≡ x → ⊥) → (f : Field) → field_at t' f x ≡ 0

-- a working store comes back zero, and after refusal 1 as it was
pub record Cleared (store : List ℕ) (o : Outcome) : Type 0 where
  pub after_one : number o.answer ≡ 1 → o.lent.store ≡ store
  pub after_others : (number o.answer ≡ 1 → ⊥) → o.lent.store ≡ replicate (length store) 0

-- nothing is changed
pub record Untouched (t : List ℕ) (l : Lent) (o : Outcome) : Type 0 where
  pub table : o.table ≡ t
  pub lent : o.lent ≡ l

-- a refused edit changes no record; what one that is done leaves is said by demand 2
pub record EditLeft (t : List ℕ) (l : Lent) (o : Outcome) : Type 0 where
  pub refused : (number o.answer ≡ 0 → ⊥) → o.table ≡ t
  pub cleared : Cleared l.store o
  pub output : o.lent.output ≡ l.output

-- a count changes no record; one that is done leaves its numbers at the start of the output
pub record CountLeft (n N : ℕ) (t : List ℕ) (l : Lent) (o : Outcome) : Type 0 where
  pub table : o.table ≡ t
  pub cleared : Cleared l.store o
  pub refused : (number o.answer ≡ 0 → ⊥) → o.lent.output ≡ l.output
  pub done : number o.answer ≡ 0 → (v : List ℕ) × Numbers n N t v × (o.lent.output ≡ v ++ drop (length v) l.output)

-- a load refused with 1 leaves the table as it was, one refused with 11 leaves it all zero, and one that is done leaves the file's records
pub record LoadLeft (n N : ℕ) (t b : List ℕ) (l : Lent) (o : Outcome) : Type 0 where
  pub after_one : number o.answer ≡ 1 → o.table ≡ t
  pub after_eleven : number o.answer ≡ 11 → o.table ≡ replicate (length t) 0
  pub done : number o.answer ≡ 0 → Filed n N b o.table
  pub lent : o.lent ≡ l

-- a refused write leaves the output as it was; what one that is done leaves is said by demand 2
pub record WriteLeft (t : List ℕ) (l : Lent) (o : Outcome) : Type 0 where
  pub table : o.table ≡ t
  pub store : o.lent.store ≡ l.store
  pub refused : (number o.answer ≡ 0 → ⊥) → o.lent.output ≡ l.output

abbrev pub Left : ℕ → ℕ → List ℕ → Request → Lent → Outcome → Type 0
Left n N t table_check l o = Untouched t l o
Left n N t (scheme_check b) l o = Untouched t l o
Left n N t (edit b D) l o = EditLeft t l o
Left n N t count l o = CountLeft n N t l o
Left n N t (load b) l o = LoadLeft n N t b l o
Left n N t write l o = WriteLeft t l o

pub record Demand1 (K : Kernel) : Type 0 where
  -- every request is answered with the refusal that the order of docs/RULES.md puts first, with its values, and is done where none applies
  pub order : (n N : ℕ) (t : List ℕ) (q : Request) (l : Lent) (o : Outcome) → K.Does n N t q l o
      → FirstOf (rules_of n N t q l) (Returned n N t q) o.answer
  -- "A refused edit changes no record. The working store comes back zero, but after refusal 1 nothing at all is written."
  pub leaves : (n N : ℕ) (t : List ℕ) (q : Request) (l : Lent) (o : Outcome) → K.Does n N t q l o → Left n N t q l o

-- ---- demand 2

-- none of the refusals 1 to 8 of an edit at a dart or two applies
pub record Admitted (n N : ℕ) (t store b : List ℕ) (D : Darts) : Type 0 where
  pub sizes : Sizes n N t
  pub stored : length store ≡ 16 * N
  pub form : in_form b ≡ true
  pub many : AsMany D (scheme_of b)
  pub consistent : Consistent (scheme_of b)
  pub dimension : (scheme_of b).n ≡ n
  pub well : WellFormed n (view N t)
  pub dart : LiveDart (view N t) (first_dart D)
  pub other : LiveDart (view N t) (second_dart D)

-- none of 1 to 10 applies
pub record Applicable (n N : ℕ) (t store b : List ℕ) (D : Darts) : Type 0 where
  pub admitted : Admitted n N t store b D
  pub match : Matched N t b D
  pub room : added_darts (site_over N t b D match.orbit) ≤ room_of (site_over N t b D match.orbit)

-- what an edit that is done comes to: the new table is that of a map that is the published rewriting of the old one, and no other rewriting has
-- another table (`rewriting-once` of crates/model/proofs/RewritingOnce.antt); the answer counts the orbit, the added and the deleted darts
pub record EditDone (n N : ℕ) (t b : List ℕ) (D : Darts) (o : Outcome) : Type 0 where
  pub orbit : ℕ → Bool
  pub is_orbit : Orbit N t b D orbit
  pub new : Map
  pub dart : ℕ → ℕ → ℕ
  pub rewriting : Rewriting (site_over N t b D orbit) new dart
  pub table : o.table ≡ table_of new
  pub answer : o.answer ≡ done_at (site_over N t b D orbit)
  pub well : Holds n N o.table

-- an accepted file: the kernel answers 0 to its load, and 0 to the check of the table that the load leaves
pub record FileAccepted (K : Kernel) (n N : ℕ) (t b t' : List ℕ) : Type 0 where
  pub lent : Lent
  pub loaded : Outcome
  pub loads : K.Does n N t (load b) lent loaded
  pub done : number loaded.answer ≡ 0
  pub leaves : loaded.table ≡ t'
  pub lent_then : Lent
  pub checked : Outcome
  pub checks : K.Does n N t' table_check lent_then checked
  pub passes : number checked.answer ≡ 0

pub record Demand2 (K : Kernel) : Type 0 where
  -- a scheme is accepted exactly when it has the byte form and is as the publication asks
  pub accepted : (n N : ℕ) (t b : List ℕ) (l : Lent) (o : Outcome) → K.Does n N t (scheme_check b) l o
      → (number o.answer ≡ 0) ↔ ((in_form b ≡ true) × Consistent (scheme_of b))
  -- refusal 9 is given exactly when none of 1 to 8 applies and no assignment exists
  pub no_match : (n N : ℕ) (t b : List ℕ) (D : Darts) (l : Lent) (o : Outcome) → K.Does n N t (edit b D) l o
      → (o.answer ≡ Err NoMatch) ↔ (Admitted n N t l.store b D × (Matched N t b D → ⊥))
  -- where no refusal applies, and only there, an edit is done, and it is the published rewriting
  pub edits : (n N : ℕ) (t b : List ℕ) (D : Darts) (l : Lent) (o : Outcome) → K.Does n N t (edit b D) l o
      → Applicable n N t l.store b D → EditDone n N t b D o
  pub only_then : (n N : ℕ) (t b : List ℕ) (D : Darts) (l : Lent) (o : Outcome) → K.Does n N t (edit b D) l o
      → number o.answer ≡ 0 → Applicable n N t l.store b D
  -- a well-formed map with room for its file is written; output beyond the file stays as it was
  pub writes : (n N : ℕ) (t : List ℕ) (l : Lent) (o : Outcome) → K.Does n N t write l o → Holds n N t
      → length (file n (view N t)) ≤ length l.output
      → (o.answer ≡ Ok (Written (length (file n (view N t)))))
      × (o.lent.output ≡ file n (view N t) ++ drop (length (file n (view N t))) l.output)
  -- its file is loaded again and passes the check, with the same live records; words of a table are below 2³², and the second table has as many words
  pub written_loaded : (n N : ℕ) (t : List ℕ) (l : Lent) (o : Outcome) → K.Does n N t write l o → number o.answer ≡ 0
      → ((i : ℕ) → get_or t i 0 < 4294967296)
      → (u : List ℕ) (k : Lent) (p : Outcome) → length u ≡ length t → K.Does n N u (load (written write o)) k p
      → (j : Lent) (c : Outcome) → K.Does n N p.table table_check j c
      → (number p.answer ≡ 0) × (number c.answer ≡ 0) × AlikeTables n N t p.table
  -- an accepted file is written back byte for byte; bytes are below 256
  pub accepted_written : (n N : ℕ) (t b t' : List ℕ) → FileAccepted K n N t b t' → ((i : ℕ) → get_or b i 0 < 256)
      → (l : Lent) (o : Outcome) → length b ≤ length l.output → K.Does n N t' write l o
      → (number o.answer ≡ 0) × (written write o ≡ b)

-- ---- demand 3

-- it speaks of demand 2's edits, so that a kernel whose answers are all alike cannot carry it
pub record Demand3 (K : Kernel) : Type 0 where
  pub edits : Demand2 K
  pub throughout : AlikeRuns K

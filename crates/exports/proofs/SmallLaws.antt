-- What an answer holds is small enough for its place in the word, whatever the request.
use Prim.Native.Nat.{ℕ, ◌+◌, ◌*◌, ◌≤◌, ◌<◌}
use mathlib.Core.Path.{◌≡◌, refl, subst}
use mathlib.Core.Logic.{⊎_elim}
use mathlib.Core.Bool.{Bool, true}
use Rattle.std.specs.Prelude.{Option, Some, None, Ok}
use mathlib.Core.List.{List}
use native.Mathlib.Nat.{mul-le-mul, mul-le-mul_left, mul-le-mul_right}
use native.Mathlib.Omega.{arith}
use lib.ListN.{length}
use Rattle.base.specs.Below.{count_below}
use Rattle.base.specs.First.{some_if, ◌or_else◌}
use Rattle.base.proofs.TestLaws.{true_or_false, and_left}
use Rattle.base.proofs.BelowLaws.{count_le}
use Rattle.base.proofs.FirstLaws.{when-at, or_else_cases}
use Rattle.model.specs.Map.{view, live, max_slots}
use Rattle.model.specs.Scheme.{in_form, scheme_of, added, deleted}
use Rattle.model.specs.Edit.{orbit_size, added_darts, deleted_darts}
use Rattle.model.specs.File.{live_darts, file}
use Rattle.model.specs.Site.{Site}
use Rattle.model.specs.Answer.{answered}
use Rattle.model.specs.Calls.{map_fault, bytes_fault, takes, fit_fault, site_fault, site_done, site_of, edit_fault_at, edit_fault, output_fault_at}
use Rattle.model.specs.Calls.{load_fault_at, load_fault, write_fault}
use Rattle.model.specs.declared.Darts.{Darts}
use Rattle.model.specs.declared.Refusal.{Refusal}
use Rattle.model.specs.declared.Refusal.TheVariants.{BadForm}
use Rattle.model.specs.declared.Reply.{Reply}
use Rattle.model.specs.declared.Reply.TheVariants.{Written}
use Rattle.model.proofs.SizeLaws.{sizes_iff}
use Rattle.model.proofs.SchemeLaws.{shaped}
use Rattle.model.proofs.CallLaws.{granted, output-passed}
use Rattle.file.proofs.FormLaws.{three_le}
use Rattle.file.proofs.SectionLaws.{length-file}
use Rattle.conditions.proofs.SmallLaws.{SmallFault, hook_small, incidence_small, cycle_small, fault-small}
use Rattle.word.specs.Word.{value_of, SmallRefusal, Small}

-- ---- refusals

-- every refusal that may be found is small
abbrev Smalls : Option Refusal → Type 0
Smalls o = (f : Refusal) → o ≡ Some f → SmallRefusal f

pub answered-small : (reply : Reply) (o : Option Refusal) → Smalls o → (o ≡ None → Small (Ok reply)) → Small (answered reply o)
answered-small reply None s d = d refl
answered-small reply (Some f) s d = s f refl

small_or : (o p : Option Refusal) → Smalls o → Smalls p → Smalls (o or_else p)
small_or o p s r f e = ⊎_elim (λ q. s f q) (λ q. r f q.1) (or_else_cases o p f e)

-- a refusal that names nothing
small_test : (t : Bool) (g : Refusal) → (value_of g 0 ≡ 0) × (value_of g 1 ≡ 0) × (value_of g 2 ≡ 0) → Smalls (some_if t g)
small_test t g z f e = subst SmallRefusal (when-at t e).1 (omega (arith, z.0), omega (arith, z.1), omega (arith, z.2))

fault-fits : {f : Refusal} → SmallFault f → SmallRefusal f
fault-fits (hook_small h) = (omega arith, omega arith, omega arith)
fault-fits (incidence_small h) = (omega arith, omega arith, omega arith)
fault-fits (cycle_small h i j) = (omega arith, omega arith, omega arith)

-- of bytes that are taken, which are in the form at least, only the scheme is asked
bytes_small : (taken : Bool) (b : List ℕ) → (taken ≡ true → in_form b ≡ true) → Smalls (bytes_fault taken b)
unfolding bytes_fault some_if ◌or_else◌
bytes_small taken b form f e = ⊎_elim
    (λ t. fault-fits (fault-small (scheme_of b) (shaped b (form t)) f (rw t at e)))
    (λ t. small_test true BadForm (refl, refl, refl) f (rw t at e))
    (true_or_false taken)

-- ---- refusals, request by request

pub map-small : (fit : Bool) (n N : ℕ) (t : List ℕ) → Smalls (map_fault fit n (view N t))
unfolding map_fault
map-small fit n N t = small_or _ _ (small_test _ _ (refl, refl, refl)) (small_test _ _ (refl, refl, refl))

pub scheme-small : (b : List ℕ) → Smalls (bytes_fault (in_form b) b)
scheme-small b = bytes_small (in_form b) b (λ e. e)

pub edit-small : (n N : ℕ) (t store b : List ℕ) (d : Darts) → Smalls (edit_fault n N t store b d)
unfolding edit_fault edit_fault_at site_fault fit_fault
edit-small n N t store b d = small_or _ _ (small_test _ _ (refl, refl, refl)) (small_or _ _ (bytes_small (takes d b) b (and_left _ _))
    (small_or _ _ (small_test _ _ (refl, refl, refl)) (small_or _ _ (small_test _ _ (refl, refl, refl))
    (small_or _ _ (small_test _ _ (refl, refl, refl)) (small_or _ _ (small_test _ _ (refl, refl, refl)) (small_test _ _ (refl, refl, refl)))))))

pub output-small : (fit : Bool) (n N : ℕ) (t : List ℕ) (size : ℕ) (out : List ℕ) → Smalls (output_fault_at fit n (view N t) size out)
unfolding output_fault_at
output-small fit n N t size out = small_or _ _ (map-small fit n N t) (small_test _ _ (refl, refl, refl))

pub load-small : (n N : ℕ) (t b : List ℕ) → Smalls (load_fault n N t b)
unfolding load_fault load_fault_at
load-small n N t b = small_or _ _ (small_test _ _ (refl, refl, refl)) (small_test _ _ (refl, refl, refl))

-- ---- what is returned

-- the counts of an edit
counts-few : (E : Site) → E.map.slots ≤ max_slots → E.scheme.nodes ≤ 16 → Small (Ok (site_done E))
unfolding site_done orbit_size added_darts deleted_darts
counts-few E few nodes =
    let S = E.scheme in
    let size : count_below E.map.slots E.orbit ≤ max_slots = omega (arith, count_le E.map.slots E.orbit) in
    let times : (p : ℕ → Bool) → count_below E.map.slots E.orbit * count_below S.nodes p < 2097152 =
    λ p. product _ _ size (omega (arith, count_le S.nodes p)) in
    (omega arith, times (added S), times (deleted S))
  where
    product : (a b : ℕ) → a ≤ max_slots → b ≤ 16 → a * b < 2097152
    product a b h l = omega (arith, mul-le-mul_right b h, mul-le-mul_left max_slots l)

pub edited-small : (n N : ℕ) (t store b : List ℕ) (d : Darts) → edit_fault n N t store b d ≡ None → Small (Ok (site_done (site_of N t b d)))
edited-small n N t store b d q =
    let g = granted n N t store b d q in
    counts-few (site_of N t b d) ((sizes_iff n N t).0 g.sizes).few (shaped b g.form).nodes_few

-- the length of a file
pub written_small : (n N : ℕ) (t out : List ℕ) → write_fault n N t out ≡ None → Small (Ok (Written (length (file n (view N t)))))
unfolding write_fault live_darts
written_small n N t out q =
    let s = (sizes_iff n N t).0 (output-passed _ n (view N t) _ out q).0 in
    let three = three_le s.dimension in
    let each : 6 + 2 * (n + 1) ≤ 14 = omega arith in
    let darts : count_below N (live (view N t)) ≤ 65535 = omega (arith, count_le N (live (view N t)), s.few) in
    rw (length-file n (view N t) (omega arith)) (omega (arith, mul-le-mul darts each))

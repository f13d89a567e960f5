-- Document 01's refusals: for each request those that it can be given, in their order, each with what it is given for and what is returned beside it.
-- What they are given for is said by rules, and not by the tests and searches that find it (Calls.antt of crates/model/specs).
use Rattle.std.specs.Prelude.{ℕ, ◌+◌, ◌*◌, ◌≤◌, ◌<◌, ◌≡◌, ◌⊎◌, Bool, true, List, [], ◌∷◌, length}
use Rattle.std.specs.Prelude.{Err}
use Rattle.model.specs.Map.{view}
use Rattle.model.specs.WellFormed.{WellFormed}
use Rattle.model.specs.Scheme.{left, orbit_dim, has, first_hook, is_hook, in_form, scheme_of}
use Rattle.model.specs.Conditions.{Hooked, Reached}
use Rattle.model.specs.Accepted.{Incident, Cyclic}
use Rattle.model.specs.Orbit.{IsOrbit}
use Rattle.model.specs.Site.{Site, site_with, LiveDart}
use Rattle.model.specs.Match.{Assignment}
use Rattle.model.specs.Edit.{added_darts, room_of}
use Rattle.model.specs.File.{file, file_form}
use Rattle.model.specs.Calls.{Sizes, first_dart, second_dart, count_size}
use Rattle.model.specs.Sequence.{Request, table_check, scheme_check, edit, count, load, write, Lent}
use Rattle.model.specs.declared.Scheme.{Scheme}
use Rattle.model.specs.declared.Darts.{Darts}
use Rattle.model.specs.declared.Darts.TheVariants.{One, Two}
use Rattle.model.specs.declared.Refusal.{Refusal}
use Rattle.model.specs.declared.Refusal.TheVariants.{BadCall, BadForm, BadHook, BadIncidence, BadCycle, OtherDimension, BadTable, NoDart, NoMatch}
use Rattle.model.specs.declared.Refusal.TheVariants.{NoRoom, BadFile, ShortOutput}
use Rattle.model.specs.Answer.{Answer}

-- ---- the first that applies

-- a rule: which refusals it gives. `refusal_number` and `refusal_values` (Answer.antt of crates/model/specs) have the number and the values of each
abbrev pub Rule : Type 1
Rule = Refusal → Type 0

-- the rule that gives the refusal f, where P
abbrev pub when : Type 0 → Refusal → Rule
when P f g = P × (g ≡ f)

-- a is the first refusal that a rule gives; where none gives any it is as `Done` asks
unfoldable pub FirstOf : List Rule → (Answer → Type 0) → Answer → Type 0
FirstOf [] Done a = Done a
FirstOf (r ∷ l) Done a = ((f : Refusal) × (a ≡ Err f) × r f) ⊎ (((f : Refusal) → r f → ⊥) × FirstOf l Done a)

-- ---- 2: the bytes that an edit takes

-- the scheme's hooks are as many as the call's darts: it has no second hook at one dart, where node 0 stands for it, and has one at two
abbrev pub AsMany : Darts → Scheme → Type 0
AsMany (One d) S = S.second ≡ first_hook
AsMany (Two d e) S = S.second ≡ first_hook → ⊥

-- the bytes are in the form, and their scheme has as many hooks as the call has darts
abbrev pub BytesTaken : Darts → List ℕ → Type 0
BytesTaken D b = (in_form b ≡ true) × AsMany D (scheme_of b)

-- ---- 3 to 5: a scheme in the form

-- s is the least of c nodes that has P
pub record LeastNode (c : ℕ) (P : ℕ → Type 0) (s : ℕ) : Type 0 where
  pub below : s < c
  pub has : P s
  pub least : (o : ℕ) → o < s → P o → ⊥

module _ (S : Scheme) where
  -- a hook that has not kind 1 or 2, or whose left word is not the orbit type
  pub record WrongHook (s : ℕ) : Type 0 where
    pub hook : is_hook S s ≡ true
    pub wrong : Hooked S s → ⊥

  -- a node of kind 1 or 2 that cannot be reached from a hook over left arcs
  pub record Unreached (s : ℕ) : Type 0 where
    pub on_left : has S left s ≡ true
    pub cut : Reached S s → ⊥

  -- node 0 if it is wrong, else the second hook if it is wrong, else the least unreached node; of two wrong hooks the least is node 0
  abbrev pub HookFault : ℕ → Type 0
  HookFault s = LeastNode S.nodes WrongHook s ⊎ (((h : ℕ) → is_hook S h ≡ true → Hooked S h) × LeastNode S.nodes Unreached s)

  -- a node and a pair of dimensions that are not as the cycles ask
  pub record Offends (s i j : ℕ) : Type 0 where
    pub apart : i + 2 ≤ j
    pub within : j ≤ S.n
    pub wrong : Cyclic S s i j → ⊥

  -- the least such node, and at it the first such pair
  pub record FirstPair (s i j : ℕ) : Type 0 where
    pub node : LeastNode S.nodes (λ u. (k : ℕ) × (l : ℕ) × Offends u k l) s
    pub offends : Offends s i j
    pub first : (k l : ℕ) → Offends s k l → (i < k) ⊎ ((i ≡ k) × (j ≤ l))

  abbrev pub hook_rule : Rule
  hook_rule f = (s : ℕ) × HookFault s × (f ≡ BadHook s)

  abbrev pub incidence_rule : Rule
  incidence_rule f = (s : ℕ) × LeastNode S.nodes (λ u. Incident S u → ⊥) s × (f ≡ BadIncidence s)

  abbrev pub cycle_rule : Rule
  cycle_rule f = (s : ℕ) × (i : ℕ) × (j : ℕ) × FirstPair s i j × (f ≡ BadCycle s i j)

-- 2 to 5, where 2 is given for bytes that are not as P asks
abbrev pub scheme_rules : Type 0 → List ℕ → List Rule → List Rule
scheme_rules P b l = when (P → ⊥) BadForm ∷ hook_rule (scheme_of b) ∷ incidence_rule (scheme_of b) ∷ cycle_rule (scheme_of b) ∷ l

-- ---- 8 to 10: an accepted scheme at a dart or two of a well-formed map

-- both darts are live slots; an edit at one dart has that one twice
abbrev pub LiveDarts : ℕ → List ℕ → Darts → Type 0
LiveDarts N t D = LiveDart (view N t) (first_dart D) × LiveDart (view N t) (second_dart D)

module _ (N : ℕ) (t b : List ℕ) (D : Darts) where
  -- O is the set of darts reached from d, the first dart, by links of the orbit type
  abbrev pub Orbit : (ℕ → Bool) → Type 0
  Orbit = IsOrbit (view N t) (scheme_of b).places (orbit_dim (scheme_of b)) (first_dart D)

  -- the site of the edit, where O is the orbit
  abbrev pub site_over : (ℕ → Bool) → Site
  site_over = site_with (view N t) (scheme_of b) (first_dart D) (second_dart D)

  -- an assignment over O
  pub record Matched : Type 0 where
    pub orbit : ℕ → Bool
    pub is_orbit : Orbit orbit
    pub dart : ℕ → ℕ → ℕ
    pub assigned : Assignment (site_over orbit) dart

  -- size of O × added nodes exceeds the unused slots before the edit plus size of O × deleted nodes
  pub record Crowded : Type 0 where
    pub orbit : ℕ → Bool
    pub is_orbit : Orbit orbit
    pub few : room_of (site_over orbit) < added_darts (site_over orbit)

-- ---- the requests

-- the sizes are right, with a working store of 16 × N words
abbrev pub Stored : ℕ → ℕ → List ℕ → List ℕ → Type 0
Stored n N t store = Sizes n N t × (length store ≡ 16 * N)

-- 7: the map is not well-formed
abbrev pub broken : ℕ → ℕ → List ℕ → Rule
broken n N t = when (WellFormed n (view N t) → ⊥) BadTable

-- 6 to 10 of an edit
abbrev pub site_rules : ℕ → ℕ → List ℕ → List ℕ → Darts → List Rule
site_rules n N t b D = when ((scheme_of b).n ≡ n → ⊥) OtherDimension ∷ broken n N t ∷ when (LiveDarts N t D → ⊥) NoDart
    ∷ when (Matched N t b D → ⊥) NoMatch ∷ when (Crowded N t b D) NoRoom ∷ []

-- the refusals of each request, in their order
abbrev pub rules_of : ℕ → ℕ → List ℕ → Request → Lent → List Rule
rules_of n N t table_check l = when (Sizes n N t → ⊥) BadCall ∷ broken n N t ∷ []
rules_of n N t (scheme_check b) l = scheme_rules (in_form b ≡ true) b []
rules_of n N t (edit b D) l = when (Stored n N t l.store → ⊥) BadCall ∷ scheme_rules (BytesTaken D b) b (site_rules n N t b D)
rules_of n N t count l = when (Stored n N t l.store → ⊥) BadCall ∷ broken n N t ∷ when (length l.output < count_size) ShortOutput ∷ []
rules_of n N t (load b) l = when (Sizes n N t → ⊥) BadCall ∷ when (file_form n N b ≡ true → ⊥) BadFile ∷ []
rules_of n N t write l = when (Sizes n N t → ⊥) BadCall ∷ broken n N t ∷ when (length l.output < length (file n (view N t))) ShortOutput ∷ []

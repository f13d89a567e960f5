-- What the tests of refusals 2, 8 and 9 and the searches of refusals 3 to 5 find is what the rules of specs/Refusals.antt say.
use Prim.Native.Nat.{ℕ, suc, ◌+◌, ◌≤◌, ◌<◌}
use mathlib.Core.Path.{◌≡◌, refl, sym, ap, ◌∙◌, subst}
use mathlib.Core.Logic.{inl, inr, ⊎_elim, ◌↔◌}
use mathlib.Core.Bool.{Bool, true, false, not, true≢false}
use Rattle.std.specs.Prelude.{Option, Some, None}
use mathlib.Core.List.{List}
use native.Mathlib.Omega.{arith}
use lib.Dec.{leb}
use borrow.Author.Tests.{leb-true, le-leb, ltb-true, lt-ltb, ltb-false, le-ltb, eq-eqb}
use Rattle.base.specs.Test.{◌and◌}
use Rattle.base.specs.First.{some_if, there, first, least}
use Rattle.base.proofs.TestLaws.{and_left, and_right, and_of, brings, impossible}
use Rattle.base.proofs.BelowLaws.{le_or_lt}
use Rattle.base.proofs.FirstLaws.{when-at, when-none, or_else_cases, or_else_none, first-at, first-none, least_at, least-none}
use Rattle.model.specs.Map.{Map, view}
use Rattle.model.specs.Scheme.{left, has, first_hook, is_hook, orbit_dim, scheme_of}
use Rattle.model.specs.Shaped.{Shaped}
use Rattle.model.specs.Conditions.{path_to, hook_ok, hook_fault, incidence_ok, incidence_fault, cycle_ok, cycle_fault}
use Rattle.model.specs.Accepted.{Incident}
use Rattle.model.specs.Match.{matches, Assignment}
use Rattle.model.specs.Site.{Site, LiveDart, Sound}
use Rattle.model.specs.Calls.{first_dart, second_dart, as_many, takes, is_dart, site_of}
use Rattle.model.specs.declared.Scheme.{Scheme}
use Rattle.model.specs.declared.Darts.{Darts}
use Rattle.model.specs.declared.Darts.TheVariants.{One, Two}
use Rattle.model.specs.declared.Refusal.{Refusal}
use Rattle.model.specs.declared.Refusal.TheVariants.{BadCycle}
use Rattle.model.proofs.AcceptedLaws.{incident_iff, cyclic_iff}
use Rattle.model.proofs.HookLaws.{hook_iff, hook-below, found-reached, reached-found}
use Rattle.model.proofs.OrbitLaws.{orbit-is, orbit-only}
use Rattle.model.proofs.MatchIff.{match_iff}
use Rattle.model.proofs.CallLaws.{live-dart}
use Rattle.demands.specs.Refusals.{AsMany, BytesTaken, LeastNode, WrongHook, Unreached, HookFault, Offends, FirstPair}
use Rattle.demands.specs.Refusals.{LiveDarts, Orbit, site_over, Matched}

-- ---- tests

pub not-true : (b : Bool) → not b ≡ true → b ≡ false
not-true true e = absurd (true≢false (sym e))
not-true false e = refl

-- a test that is not passed is a rule that does not hold
not_iff : (b : Bool) {P : Type 0} → (b ≡ true) ↔ P → (not b ≡ true) ↔ (P → ⊥)
not_iff b i = ((λ e p. true≢false (sym (i.1 p) ∙ not-true b e)), λ no. ap not (impossible b (λ t. no (i.0 t))))

-- ---- the bytes that an edit takes, and its darts

pub many_iff : (d : Darts) (S : Scheme) → (as_many d S ≡ true) ↔ AsMany d S
many_iff (One d) S = (
  (λ e. let none = ltb-false first_hook S.second (not-true _ e) in omega arith),
  (λ z. ap not (le-ltb first_hook S.second (omega arith))),
)
many_iff (Two d e) S = (
  (λ e z. let more = ltb-true first_hook S.second e in omega arith),
  (λ ne. ⊎_elim (λ z. absurd (ne (omega arith))) (λ more. lt-ltb first_hook S.second more) (le_or_lt S.second first_hook)),
)

pub taken_iff : (d : Darts) (b : List ℕ) → (takes d b ≡ true) ↔ BytesTaken d b
taken_iff d b = (
  (λ e. (and_left _ _ e, (many_iff d (scheme_of b)).0 (and_right _ _ e))),
  (λ p. and_of p.0 ((many_iff d (scheme_of b)).1 p.1)),
)

dart_iff : (m : Map) (x : ℕ) → (is_dart m x ≡ true) ↔ LiveDart m x
dart_iff m x = (live-dart m x, λ l. and_of (lt-ltb _ _ l.slot) (eq-eqb _ _ l.alive))

pub darts_iff : (N : ℕ) (t : List ℕ) (d : Darts) → ((is_dart (view N t) (first_dart d) and is_dart (view N t) (second_dart d)) ≡ true) ↔ LiveDarts N t d
darts_iff N t d = (
  (λ e. ((dart_iff (view N t) (first_dart d)).0 (and_left _ _ e), (dart_iff (view N t) (second_dart d)).0 (and_right _ _ e))),
  (λ p. and_of ((dart_iff (view N t) (first_dart d)).1 p.0) ((dart_iff (view N t) (second_dart d)).1 p.1)),
)

-- ---- the least node that has a property

module _ (c : ℕ) (p : ℕ → Bool) (P : ℕ → Type 0) (is : (s : ℕ) → s < c → (p s ≡ true) ↔ P s) where
  pub least-found : (s : ℕ) → least c p ≡ Some s → LeastNode c P s
  least-found s e =
      let l = least_at c p s e in
      record {
        below = l.0;
        has = (is s l.0).0 l.1;
        least = λ o h q. true≢false (sym ((is o (omega (arith, l.0))).1 q) ∙ l.2 o h);
      }

  pub least-nowhere : least c p ≡ None → (s : ℕ) → LeastNode c P s → ⊥
  least-nowhere e s l = true≢false (sym ((is s l.below).1 l.has) ∙ least-none c p e s l.below)

-- ---- hook

module _ (S : Scheme) (f : Shaped S) where
  wrong_iff : (s : ℕ) → s < S.nodes → ((is_hook S s and not (hook_ok S s)) ≡ true) ↔ WrongHook S s
  wrong_iff s h = (
    (λ e. record { hook = and_left _ _ e; wrong = λ k. true≢false (sym ((hook_iff S s).1 k) ∙ not-true _ (and_right _ _ e)) }),
    (λ w. and_of w.hook (ap not (impossible _ (λ t. w.wrong ((hook_iff S s).0 t))))),
  )

  unreached_iff : (s : ℕ) → s < S.nodes → ((has S left s and not (there (path_to S s))) ≡ true) ↔ Unreached S s
  unreached_iff s h = (
    (λ e. record { on_left = and_left _ _ e; cut = λ r. true≢false (sym (reached-found S f r) ∙ not-true _ (and_right _ _ e)) }),
    (λ u. and_of u.on_left (ap not (impossible _ (λ t. u.cut (found-reached S f s h t))))),
  )

  pub hook-found : (s : ℕ) → hook_fault S ≡ Some s → HookFault S s
  unfolding hook_fault
  hook-found s e = ⊎_elim
      (λ w. inl (least-found S.nodes _ (WrongHook S) wrong_iff s w))
      (λ w. inr (
        (λ h q. (hook_iff S h).0 (brings q (least-none _ _ w.0 h (hook-below S f h q)))),
        least-found S.nodes _ (Unreached S) unreached_iff s w.1,
      ))
      (or_else_cases _ _ s e)

  pub hook-nowhere : hook_fault S ≡ None → (s : ℕ) → HookFault S s → ⊥
  unfolding hook_fault
  hook-nowhere e s h =
      let w = or_else_none _ _ e in
      ⊎_elim (least-nowhere S.nodes _ (WrongHook S) wrong_iff w.0 s)
      (λ q. least-nowhere S.nodes _ (Unreached S) unreached_iff w.1 s q.1) h

-- ---- incidence

module _ (S : Scheme) where
  pub incidence-found : (s : ℕ) → incidence_fault S ≡ Some s → LeastNode S.nodes (λ u. Incident S u → ⊥) s
  unfolding incidence_fault
  incidence-found = least-found S.nodes _ _ (λ s h. not_iff (incidence_ok S s) (incident_iff S s))

  pub incidence-nowhere : incidence_fault S ≡ None → (s : ℕ) → LeastNode S.nodes (λ u. Incident S u → ⊥) s → ⊥
  unfolding incidence_fault
  incidence-nowhere = least-nowhere S.nodes _ _ (λ s h. not_iff (incidence_ok S s) (incident_iff S s))

  -- ---- cycles

  offends_iff : (s i j : ℕ) → j < suc S.n → ((leb (i + 2) j and not (cycle_ok S s i j)) ≡ true) ↔ Offends S s i j
  offends_iff s i j h = (
    (λ e. record { apart = leb-true _ _ (and_left _ _ e); within = omega arith; wrong = (not_iff _ (cyclic_iff S s i j)).0 (and_right _ _ e) }),
    (λ o. and_of (le-leb _ _ o.apart) ((not_iff _ (cyclic_iff S s i j)).1 o.wrong)),
  )

  -- what is looked for at a node and i, and at a node
  at_pair_lem : ℕ → ℕ → ℕ → Option Refusal
  at_pair_lem s i j = some_if (leb (i + 2) j and not (cycle_ok S s i j)) (BadCycle s i j)

  no_pair_lem : (s i j : ℕ) → at_pair_lem s i j ≡ None → Offends S s i j → ⊥
  unfolding at_pair_lem
  no_pair_lem s i j e o = true≢false (sym ((offends_iff s i j (omega (arith, o.within))).1 o) ∙ when-none _ _ e)

  no_row : (s i : ℕ) → first (suc S.n) (at_pair_lem s i) ≡ None → (j : ℕ) → Offends S s i j → ⊥
  no_row s i e j o = no_pair_lem s i j (first-none _ _ e j (omega (arith, o.within))) o

  no_node : (s : ℕ) → first (suc S.n) (λ i. first (suc S.n) (at_pair_lem s i)) ≡ None → (i j : ℕ) → Offends S s i j → ⊥
  no_node s e i j o = no_row s i (first-none _ _ e i (omega (arith, o.within, o.apart))) j o

  pub cycle_found : (a : Refusal) → cycle_fault S ≡ Some a → (s i j : ℕ) × FirstPair S s i j × (a ≡ BadCycle s i j)
  unfolding cycle_fault at_pair_lem
  cycle_found a e =
      let node = first-at S.nodes _ a e in
      let row = first-at (suc S.n) _ a node.2 in
      let pair = first-at (suc S.n) _ a row.2 in
      let w = when-at _ pair.2 in
      let s = node.0 in
      let i = row.0 in
      let j = pair.0 in
      let here : Offends S s i j = (offends_iff s i j pair.1).0 w.0 in (
        s,
        i,
        j,
        record {
          node = record { below = node.1; has = (i, j, here); least = λ o h q. no_node o (node.3 o h) q.0 q.1 q.2 };
          offends = here;
          first = λ k l o. ⊎_elim
              (λ (ge : i ≤ k). ⊎_elim (λ (le : k ≤ i). inr (after s i j k l (omega arith) o pair.3)) (λ more. inl more) (le_or_lt k i))
              (λ less. absurd (no_row s k (row.3 k less) l o))
              (le_or_lt i k);
        },
        sym w.1,
      )
    where
      after : (s i j k l : ℕ) → i ≡ k → Offends S s k l → ((o : ℕ) → o < j → at_pair_lem s i o ≡ None) → (i ≡ k) × (j ≤ l)
      after s i j k l e o none_before = (
        e,
        ⊎_elim (λ ge. ge) (λ less. absurd (no_pair_lem s i l (none_before l less) (subst (λ (z : ℕ). Offends S s z l) (sym e) o))) (le_or_lt j l),
      )

  pub cycle_nowhere : cycle_fault S ≡ None → (s i j : ℕ) → FirstPair S s i j → ⊥
  unfolding cycle_fault at_pair_lem
  cycle_nowhere e s i j p = no_node s (first-none _ _ e s p.node.below) i j p.offends

-- ---- the match

module _ (N : ℕ) (t b : List ℕ) (d : Darts) (g : Sound (site_of N t b d)) where
  -- the computed orbit is the orbit
  pub orbit_of : Orbit N t b d (site_of N t b d).orbit
  orbit_of = orbit-is (view N t) (scheme_of b).places (orbit_dim (scheme_of b)) (first_dart d) (scheme_of b).n g.well g.accepted.shaped.orbit_dims
      g.dart.slot g.dart.alive

  -- so that the site over any other is the same
  pub site-one : {O : ℕ → Bool} → Orbit N t b d O → site_over N t b d O ≡ site_of N t b d
  site-one o = ap (site_over N t b d) (orbit-only (view N t) (scheme_of b).places (orbit_dim (scheme_of b)) (first_dart d) o orbit_of)

  pub matched_iff : (matches (site_of N t b d) ≡ true) ↔ Matched N t b d
  matched_iff =
      let found = match_iff (view N t) (scheme_of b) (first_dart d) (second_dart d) g in (
        (λ q. let f = found.0 q in record { orbit = (site_of N t b d).orbit; is_orbit = orbit_of; dart = f.0; assigned = f.1 }),
        (λ m. found.1 (m.dart, subst (λ (E : Site). Assignment E m.dart) (site-one m.is_orbit) m.assigned)),
      )

-- `matches` holds just when an assignment exists, and then `image` is the only one.
use Prim.Native.Nat.{ℕ, suc, ◌≤◌, ◌<◌}
use mathlib.Core.Path.{◌≡◌, refl, sym, ap, ap₂, ◌∙◌, subst}
use mathlib.Core.Logic.{◌⊎◌, inl, inr, ⊎_elim}
use mathlib.Core.Bool.{Bool, true}
use Rattle.std.specs.Prelude.{Option}
use mathlib.Core.List.{List, [], ◌∷◌, ◌++◌}
use native.Mathlib.Omega.{arith}
use borrow.Author.Tests.{eqb-true, eq-eqb}
use Rattle.base.specs.Test.{◌and◌}
use Rattle.base.specs.Below.{all_below}
use Rattle.model.specs.Map.{Map}
use Rattle.model.specs.WellFormed.{WellFormed}
use Rattle.model.specs.Reach.{here, step}
use Rattle.model.specs.Scheme.{left, orbit_dim, word, arcs, arc_part, has, first_hook}
use Rattle.model.specs.Conditions.{Arc, absent, explicit, implicit, arc_at, touches, far, path_from}
use Rattle.model.specs.Orbit.{InOrbit, itself, onward}
use Rattle.model.specs.Site.{Site, LiveDart}
use Rattle.model.specs.Match.{walk, along, second_dart_of, image, arc_holds, each_pair, only_pair, matches, Assignment}
use Rattle.model.specs.Accepted.{Accepted}
use Rattle.base.proofs.TestLaws.{and_left, and_right, and_of, or_cases, if_so, if_of}
use Rattle.base.proofs.BelowLaws.{all-at, all_of}
use Rattle.base.proofs.FirstLaws.{there-at}
use Rattle.model.proofs.ArcLaws.{SingleSide, explicit-at, implicit-at, explicit-from, implicit-from, far_from, far-to, touches-from, touches-to}
use Rattle.model.proofs.AcceptedLaws.{one_side, small}
use Rattle.model.proofs.HookLaws.{Path, second-hook, hook-path, arc_between, path-from, path_cases, reached-found}
use Rattle.model.proofs.OrbitLaws.{step-link, OrbitPath, orbit-path}

module _ (E : Site) where
  open E use {map as m, scheme as S, orbit as O}

  -- what the match needs of an orbit: its darts are live and reached from the dart, and it is closed under the links of the orbit type;
  -- and of the second dart: it is live
  pub record GoodOrbit : Type 0 where
    pub slot : (u : ℕ) → O u ≡ true → u < m.slots
    pub alive : (u : ℕ) → O u ≡ true → m.state u ≡ 1
    pub link : (u p : ℕ) → O u ≡ true → p < S.places → O (m.link (orbit_dim S p) u) ≡ true
    pub dart : O E.dart ≡ true
    pub reached : (u : ℕ) → O u ≡ true → InOrbit m S.places (orbit_dim S) E.dart u
    pub other : LiveDart m E.other

-- ---- walks

walk_more : (m : Map) (p : List ℕ) (i x : ℕ) → walk m (p ++ (i ∷ [])) x ≡ m.link i (walk m p x)
unfolding walk
walk_more m [] i x = refl
walk_more m (j ∷ p) i x = walk_more m p i (m.link j x)

module _ (E : Site) (g : Accepted E.scheme) where
  open E use {map as m, scheme as S, dart as d, other as d₂, orbit as O}

  image-hook : (u : ℕ) → image E u first_hook ≡ u
  unfolding image walk
  image-hook u = ap (λ (o : Option (List ℕ)). along m o u (along m (path_from S S.second first_hook) (second_dart_of E u) u)) (hook-path S g.shaped)

  abbrev gl : SingleSide S left
  gl = one_side g left

  -- the image of (u, s) is the end of a walk from the dart of a hook: u at the first, its second dart (`second_dart_of`) at the second
  record Walk (u s : ℕ) : Type 0 where
    hook : ℕ
    start : ℕ
    path : List ℕ
    leads : Path S hook path s
    is : image E u s ≡ walk m path start
    from : ((hook ≡ first_hook) × (start ≡ u)) ⊎ ((hook ≡ S.second) × (start ≡ second_dart_of E u))

  image-walk : (u s : ℕ) → s < S.nodes → has S left s ≡ true → Walk u s
  unfolding image
  image-walk u s h l = ⊎_elim
      (λ q. let p = there-at _ q in record {
        hook = first_hook;
        start = u;
        path = p.0;
        leads = path-from S first_hook s p.0 h p.1;
        is = ap (λ (o : Option (List ℕ)). along m o u (along m (path_from S S.second s) (second_dart_of E u) u)) p.1;
        from = inl (refl, refl);
      })
      (λ q. let p = there-at _ q.1 in record {
        hook = S.second;
        start = second_dart_of E u;
        path = p.0;
        leads = path-from S S.second s p.0 h p.1;
        is = ap₂ (λ (o r : Option (List ℕ)). along m o u (along m r (second_dart_of E u) u)) q.0 p.1;
        from = inr (refl, refl);
      })
      (path_cases S s (reached-found S g.shaped (g.consistent.reach s h l)))

  module _ (o : GoodOrbit E) where
    -- all that is reached from the dart is in the orbit
    in_orbit_lem : {u : ℕ} → InOrbit m S.places (orbit_dim S) d u → O u ≡ true
    in_orbit_lem itself = o.dart
    in_orbit_lem (onward {x} {y} r p b e) = subst (λ (z : ℕ). O z ≡ true) e (o.link x p (in_orbit_lem r) b)

    abbrev OPath : List ℕ → ℕ → Type 0
    OPath = OrbitPath m S.places (orbit_dim S) d

    -- every orbit dart has a path from the dart, and its second dart is the end of that path from the other dart
    second-path : (u : ℕ) → O u ≡ true → (p : List ℕ) × OPath p u × (second_dart_of E u ≡ walk m p d₂)
    unfolding second_dart_of
    second-path u e =
        let f = orbit-path m S.places (orbit_dim S) d (λ x r. o.slot x (in_orbit_lem r)) (o.reached u e) in
        (f.0, f.2, ap (λ (q : Option (List ℕ)). along m q d₂ d₂) f.1)

    -- what `each_pair` says of a pair
    pair-at : (t : ℕ → ℕ → Bool) → each_pair E t ≡ true → (u : ℕ) → O u ≡ true → (s : ℕ) → s < S.nodes → has S left s ≡ true → t u s ≡ true
    unfolding each_pair
    pair-at t q u e s h l = if_so (has S left s) (all-at S.nodes _ (if_so (O u) (all-at m.slots _ q u (o.slot u e)) e) s h) l

    pair_of_lem : (t : ℕ → ℕ → Bool) → ((u : ℕ) → u < m.slots → O u ≡ true → (s : ℕ) → s < S.nodes → has S left s ≡ true → t u s ≡ true) → each_pair E t ≡ true
    unfolding each_pair
    pair_of_lem t f = all_of m.slots _ (λ u b. if_of (O u) (λ e. all_of S.nodes _ (λ s h. if_of (has S left s) (λ l. f u b e s h l))))

    -- ---- a match is an assignment

    module _ (w : WellFormed S.n m) where
      -- one link more from a live dart
      more-live : (p : List ℕ) (i x : ℕ) → i ≤ S.n → LiveDart m (walk m p x) → LiveDart m (walk m (p ++ (i ∷ [])) x)
      more-live p i x k r = subst (LiveDart m) (sym (walk_more m p i x)) (record {
        slot = w.below (walk m p x) r.slot r.alive i k;
        alive = w.alive (walk m p x) r.slot r.alive i k;
      })

      walk-live : (v h : ℕ) → LiveDart m v → {p : List ℕ} {s : ℕ} → Path S h p s → LiveDart m (walk m p v)
      unfolding walk
      walk-live v h r (here b z) = r
      walk-live v h r (step {p} {x} {y} {i} l b j) =
          let a = arc_between S x y i j in
          more-live p i v (subst (λ (k : ℕ). k ≤ S.n) a.2 (gl.shaped.dims a.0 a.1)) (walk-live v h r l)

      orbit-live : {p : List ℕ} {u : ℕ} → OPath p u → LiveDart m (walk m p d₂)
      unfolding walk
      orbit-live (here b z) = o.other
      orbit-live (step {p} {x} {y} {i} l b j) =
          let a = step-link m S.places (orbit_dim S) d x y i j in
          more-live p i d₂ (subst (λ (k : ℕ). k ≤ S.n) a.2 (g.shaped.orbit_dims a.0 a.1)) (orbit-live l)

      -- the dart of a hook is live, and so is what is found from it
      start-live : (u s : ℕ) → O u ≡ true → (v : Walk u s) → LiveDart m v.start
      start-live u s e v = ⊎_elim
          (λ q. subst (LiveDart m) (sym q.1) (record { slot = o.slot u e; alive = o.alive u e }))
          (λ q. let r = second-path u e in subst (LiveDart m) (sym (q.1 ∙ r.2)) (orbit-live r.1))
          v.from

      image-live : (u : ℕ) → O u ≡ true → (s : ℕ) → s < S.nodes → has S left s ≡ true → LiveDart m (image E u s)
      image-live u e s h l =
          let v = image-walk u s h l in subst (LiveDart m) (sym v.is) (walk-live v.start v.hook (start-live u s e v) v.leads)

      module _ (q : matches E ≡ true) where
        both_at : (u : ℕ) → O u ≡ true → (s : ℕ) → s < S.nodes → has S left s ≡ true
            → (all_below (suc S.n) (λ i. arc_holds E u s i (arc_at S left s i)) and only_pair E u s) ≡ true
        unfolding matches
        both_at u e s h l = pair-at _ (and_right _ _ q) u e s h l

        arc-at : (u : ℕ) → O u ≡ true → (s : ℕ) → s < S.nodes → has S left s ≡ true → (i : ℕ) → i ≤ S.n → arc_holds E u s i (arc_at S left s i) ≡ true
        arc-at u e s h l i k = all-at (suc S.n) _ (and_left _ _ (both_at u e s h l)) i (omega arith)

        link-explicit : (u : ℕ) → O u ≡ true → (s : ℕ) → s < S.nodes → has S left s ≡ true → (a : ℕ) → a < arcs S left
            → touches S left s (arc_part S left a 0) a ≡ true → m.link (arc_part S left a 0) (image E u s) ≡ image E u (far S left s a)
        unfolding arc_holds
        link-explicit u e s h l a b t =
            let i = arc_part S left a 0 in
            let k = gl.shaped.dims a b in
            eqb-true _ _ (subst (λ (c : Arc). arc_holds E u s i c ≡ true) (explicit-at S left gl s i a h b k t) (arc-at u e s h l i k))

        link-implicit : (u : ℕ) → O u ≡ true → (s : ℕ) → s < S.nodes → has S left s ≡ true → (p : ℕ) → p < S.places
            → word S left s p ≤ S.n → m.link (word S left s p) (image E u s) ≡ image E (m.link (orbit_dim S p) u) s
        unfolding arc_holds
        link-implicit u e s h l p b k =
            let i = word S left s p in
            eqb-true _ _ (subst (λ (c : Arc). arc_holds E u s i c ≡ true) (implicit-at S left gl s i p h b k refl) (arc-at u e s h l i k))

        pub match_assigns : Assignment E (image E)
        unfolding only_pair matches
        match_assigns = record {
          darts = λ u b e s h l. let r = image-live u e s h l in (r.slot, r.alive);
          hook = λ u b e. image-hook u;
          second = eqb-true _ _ (and_left _ _ q);
          explicit_arc = λ u b e a k.
              let f = gl.shaped.from a k in
              let t = gl.shaped.to a k in (
                link-explicit u e _ f.0 f.1 a k (touches-from S left a) ∙ ap (image E u) (far_from S left a),
                link-explicit u e _ t.0 t.1 a k (touches-to S left a) ∙ ap (image E u) (far-to S left a),
              );
          implicit_arc = λ u b e s h l p k no. ⊎_elim (λ z. absurd (no z)) (λ d. link-implicit u e s h l p k d) (gl.shaped.words s p h k);
          different = λ u b e s h l v c f t i r same.
              let d = if_so _ (pair-at _ (and_right _ _ (both_at u e s h l)) v f t i r) (eq-eqb _ _ same) in
              (eqb-true _ _ (and_left _ _ d), eqb-true _ _ (and_right _ _ d));
        }

    -- ---- an assignment is the match

    module _ (f : ℕ → ℕ → ℕ) (A : Assignment E f) where
      -- from the dart of (u, h) a path leads to the dart of (u, s)
      walk_is : (u : ℕ) → O u ≡ true → (v h : ℕ) → v ≡ f u h → {p : List ℕ} {s : ℕ} → Path S h p s → walk m p v ≡ f u s
      unfolding walk
      walk_is u e v h same (here b z) = same ∙ ap (f u) (eqb-true h _ z)
      walk_is u e v h same (step {p} {x} {y} {i} l b j) =
          let a = arc_between S x y i j in
          let x-arc = A.explicit_arc u (o.slot u e) e a.0 a.1 in
          walk_more m p i v ∙ ap (m.link i) (walk_is u e v h same l)
          ∙ ⊎_elim
          (λ c. ap₂ (λ (k z : ℕ). m.link k (f u z)) (sym a.2) (sym c.0) ∙ x-arc.0 ∙ ap (f u) c.1)
          (λ c. ap₂ (λ (k z : ℕ). m.link k (f u z)) (sym a.2) (sym c.1) ∙ x-arc.1 ∙ ap (f u) c.0)
          a.3

      -- what the second hook's implicit arcs say: its darts follow one another as the orbit darts do
      pub second-link : (u p : ℕ) → O u ≡ true → p < S.places → m.link (orbit_dim S p) (f u S.second) ≡ f (m.link (orbit_dim S p) u) S.second
      second-link u p e k =
          let h = g.consistent.hooks S.second (second-hook S) in
          let q : word S left S.second p ≡ orbit_dim S p = h.word p k in
          let low = g.shaped.orbit_dims p k in
          let n3 = small S g.shaped in
          ap (λ (i : ℕ). m.link i (f u S.second)) (sym q)
          ∙ A.implicit_arc u (o.slot u e) e S.second g.shaped.second_below h.kind p k (λ c. omega arith)

      -- so the path from the dart to u leads from the other dart to the second dart of u
      orbit-is : {p : List ℕ} {u : ℕ} → OPath p u → (walk m p d₂ ≡ f u S.second) × (O u ≡ true)
      unfolding walk
      orbit-is (here {y} b z) =
          let same = eqb-true d y z in (sym A.second ∙ ap (λ (x : ℕ). f x S.second) same, subst (λ (x : ℕ). O x ≡ true) same o.dart)
      orbit-is (step {p} {x} {y} {i} l b j) =
          let r = orbit-is l in
          let a = step-link m S.places (orbit_dim S) d x y i j in (
            walk_more m p i d₂ ∙ ap₂ m.link (sym a.2) r.0 ∙ second-link x a.0 r.1 a.1 ∙ ap (λ (z : ℕ). f z S.second) a.3,
            subst (λ (z : ℕ). O z ≡ true) a.3 (o.link x a.0 r.1 a.1),
          )

      -- there is no other assignment than `image`
      pub assigned : (u : ℕ) → O u ≡ true → (s : ℕ) → s < S.nodes → has S left s ≡ true → image E u s ≡ f u s
      assigned u e s h l =
          let v = image-walk u s h l in
          v.is ∙ walk_is u e v.start v.hook (⊎_elim
          (λ q. q.1 ∙ sym (A.hook u (o.slot u e) e) ∙ ap (f u) (sym q.0))
          (λ q. let r = second-path u e in q.1 ∙ r.2 ∙ (orbit-is r.1).0 ∙ ap (f u) (sym q.0))
          v.from) v.leads

      touched : (u : ℕ) → O u ≡ true → (s i a : ℕ) → a < arcs S left → touches S left s i a ≡ true
          → (far S left s a < S.nodes) × (has S left (far S left s a) ≡ true) × (m.link i (f u s) ≡ f u (far S left s a))
      touched u e s i a b t =
          let x-arc = A.explicit_arc u (o.slot u e) e a b in
          let dim : arc_part S left a 0 ≡ i = eqb-true _ _ (and_left _ _ t) in
          let End : ℕ → Type 0 = λ z. (z < S.nodes) × (has S left z ≡ true) × (m.link i (f u s) ≡ f u z) in
          ⊎_elim
          (λ q.
          let same = eqb-true (arc_part S left a 1) s q in
          let end = gl.shaped.to a b in
          subst End (sym (far_from S left a) ∙ ap (λ (z : ℕ). far S left z a) same)
          (end.0, end.1, ap₂ (λ (k z : ℕ). m.link k (f u z)) (sym dim) (sym same) ∙ x-arc.0))
          (λ q.
          let same = eqb-true (arc_part S left a 2) s q in
          let end = gl.shaped.from a b in
          subst End (sym (far-to S left a) ∙ ap (λ (z : ℕ). far S left z a) same)
          (end.0, end.1, ap₂ (λ (k z : ℕ). m.link k (f u z)) (sym dim) (sym same) ∙ x-arc.1))
          (or_cases _ _ (and_right _ _ t))

      pub arc_of_lem : (u : ℕ) → O u ≡ true → (s : ℕ) → s < S.nodes → has S left s ≡ true → (i : ℕ) → i ≤ S.n → (c : Arc) → arc_at S left s i ≡ c
          → arc_holds E u s i c ≡ true
      unfolding arc_holds
      arc_of_lem u e s h l i k absent z = refl
      arc_of_lem u e s h l i k (explicit t) z =
          let x = explicit-from S left s i t z in
          let y = touched u e s i x.0 x.1 x.2 in
          let far-t = x.3 in
          eq-eqb _ _ (ap (m.link i) (assigned u e s h l) ∙ y.2 ∙ sym (assigned u e _ y.0 y.1) ∙ ap (image E u) far-t)
      arc_of_lem u e s h l i k (implicit p) z =
          let x = implicit-from S left s i p z in
          let v = m.link (orbit_dim S p) u in
          eq-eqb _ _ (ap (m.link i) (assigned u e s h l) ∙ ap (λ (j : ℕ). m.link j (f u s)) (sym x.1)
          ∙ A.implicit_arc u (o.slot u e) e s h l p x.0 (λ c. let word-i = x.1 in let n3 = small S g.shaped in omega arith)
          ∙ sym (assigned v (o.link u p e x.0) s h l))

      pub assigns_match : matches E ≡ true
      unfolding matches only_pair
      assigns_match = and_of (eq-eqb _ _ (assigned d o.dart S.second g.shaped.second_below (g.consistent.hooks _ (second-hook S)).kind ∙ A.second))
          (pair_of_lem _ (λ u b e s h l. and_of
          (all_of (suc S.n) _ (λ i k. arc_of_lem u e s h l i (omega arith) (arc_at S left s i) refl))
          (pair_of_lem _ (λ v c d t i r. if_of _ (λ same.
          let q = A.different u b e s h l v c d t i r (sym (assigned u e s h l) ∙ eqb-true _ _ same ∙ assigned v d t i r) in
          and_of (eq-eqb _ _ q.0) (eq-eqb _ _ q.1))))))

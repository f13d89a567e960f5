-- The laws of `follow`, `expand` and `walk`: a turn of each loop, on plain values; and what the walk found still holds after the later phases.
use Prim.Native.Nat.{ℕ, ◌+◌, ◌*◌, ◌-◌, ◌≤◌, ◌<◌}
use mathlib.Core.Path.{◌≡◌, refl, sym, ap, ◌∙◌, subst}
use mathlib.Core.Logic.{◌≢◌, by_cases, ⊎_elim}
use mathlib.Core.Bool.{Bool, true, false}
use mathlib.Core.List.{List}
use native.Mathlib.Decide.{dec_lt}
use native.Mathlib.Omega.{arith}
use lib.ListN.{length, get_or, set, take}
use lib.Seq.{get_or-set_same, get_or-set_other, get_or-take, length-take-le}
use borrow.Author.Count.{below_more}
use borrow.Author.Tests.{le-ltb}
use Rattle.base.specs.Test.{◌or◌}
use Rattle.base.specs.Below.{count_below}
use Rattle.base.proofs.TestLaws.{same_test, or_left, or_right, or_cases}
use Rattle.base.proofs.BelowLaws.{count_same}
use Rattle.model.specs.Map.{Map}
use Rattle.model.specs.WellFormed.{WellFormed}
use Rattle.model.specs.Orbit.{orbit, InOrbit, itself, onward}
use Rattle.model.proofs.CountLaws.{orbit-by}
use Rattle.model.proofs.OrbitLaws.{reached-dart, orbit_iff}
use Rattle.orbit.specs.Store.{mark, place, next, marked, among, Taken, Arrived, Walked, Kept}
use Rattle.orbit.specs.Places.{Pushed, Blank}
use Rattle.orbit.specs.Walk.{BeforeWalking, MoreTaken, Followed, Expanded, Begun, OrbitAdded}
use Rattle.orbit.proofs.StoreLaws.{
  place-set-behind,
  taken-set-behind,
  pushed-here,
  pushed-places,
  pushed-other,
  among-at,
  among_of,
  among-all,
  mark_le,
  place-marked,
  marked-place,
  blank-taken,
}

-- ---- `follow`

module _ (N : ℕ) (s : List ℕ) (end at y : ℕ) (behind : 2 * N ≤ at) (inside : at < 16 * N) where
  -- the place v of y is kept in the word `at`
  kept-place : (a : List ℕ) (e v : ℕ) → MoreTaken N s end a e → ((j : ℕ) → end ≤ j → j < e → v ≡ j)
      → ((i : ℕ) → 2 * N ≤ i → get_or a i 0 ≡ get_or s i 0) → v < e → place N a v ≡ y → Followed N s end at y (set a at v) e
  kept-place a e v g new others l q =
      let here : get_or (set a at v) at 0 ≡ v = get_or-set_same a at v 0 (omega (arith, g.taken.long)) in
      let same : (j : ℕ) → j < e → place N (set a at v) j ≡ place N a j = λ j h. place-set-behind N a at v behind j (omega (arith, g.taken.fits)) in
      record {
        grown = record {
          taken = taken-set-behind N a at v behind e g.taken;
          longer = g.longer;
          places = λ j h. same j (omega (arith, g.longer)) ∙ g.places j h;
        };
        new = λ j h k. here ∙ new j h k;
        leads = (rw here l, ap (place N (set a at v)) here ∙ same v l ∙ q);
        others = λ i h ne. get_or-set_other a at i v 0 ne ∙ others i h;
      }

  module _ (t : Taken N s end) (l : y < N) where
    pub followed-old : {a : List ℕ} {w : ℕ} → w ≡ mark s y → w ≢ 0 → a ≡ set s at (w - 1) → Followed N s end at y a end
    followed-old {a} {w} q ne e =
        let f = t.found y l (omega arith) in
        let here : place N s (w - 1) ≡ y = ap (λ (z : ℕ). place N s (z - 1)) q ∙ f.1 in
        rw e (kept-place s end (w - 1) (record { taken = t; longer = omega arith; places = λ j h. refl })
        (λ j h k. absurd (omega arith)) (λ i h. refl) (omega (arith, f.0)) here)

    pub followed-new : {a b : List ℕ} → Pushed N s end y a → b ≡ set a at end → Followed N s end at y b (end + 1)
    followed-new {a} {b} p e =
        let here : place N a end ≡ y = pushed-here N s end y t l a p in
        rw e (kept-place a (end + 1) end
        (record {
          taken = p.taken;
          longer = omega arith;
          places = pushed-places N s end y l a p;
        })
        (λ j h k. omega arith)
        (λ i h. ap (λ (z : List ℕ). get_or z i 0) p.is ∙ pushed-other N s end y i (λ q. absurd (omega arith)) (λ q. absurd (omega (arith, p.taken.fits))))
        (omega arith) here)

-- ---- `expand`

module _ (m : Map) (dim : ℕ → ℕ) (head : ℕ) (s : List ℕ) (tail : ℕ) where
  pub expanded_none : Taken m.slots s tail → Expanded m 0 dim head s tail s tail
  expanded_none t = record {
    grown = record { taken = t; longer = omega arith; places = λ e h. refl };
    new = λ e h k. absurd (omega arith);
    links = λ p h. absurd (omega arith);
    earlier = λ r p h k. refl;
  }

  -- one link more, to y
  pub expanded_more : (p x y : ℕ) (a : List ℕ) (e : ℕ) (b : List ℕ) (e' : ℕ) → p < 4 → x ≡ place m.slots s head → y ≡ m.link (dim p) x
      → Expanded m p dim head s tail a e → Followed m.slots a e (4 * m.slots + 4 * head + p) y b e'
      → Expanded m (p + 1) dim head s tail b e'
  unfolding next
  expanded_more p x₀ y a e b e' few ex ey x f =
      let g = x.grown in
      let h = f.grown in
      let led : y ≡ m.link (dim p) (place m.slots s head) = ey ∙ ap (m.link (dim p)) ex in
      let same : (q : ℕ) → q < p → next m.slots b head q ≡ next m.slots a head q = λ q l. f.others _ (omega arith) (λ z. absurd (omega arith)) in
      record {
        grown = record { taken = h.taken; longer = omega arith; places = λ j l. h.places j (omega arith) ∙ g.places j l };
        new = λ j l u. by_cases (dec_lt j e)
            (λ v.
            let w = x.new j l v in (
              w.0,
              omega (arith, w.1),
              same w.0 w.1 ∙ w.2,
              below_more _ p (λ q b o. w.3 q b (rw (same q b) at o)) (λ o. w.1),
            ))
            (λ v.
            let here = f.new j (omega arith) u in (
              p,
              omega arith,
              here,
              below_more _ p (λ q b o. absurd (omega (arith, same q b, (x.links q b).0))) (λ o. absurd (omega arith)),
            ));
        links = below_more _ p
            (λ q l.
            let w = x.links q l in
            (omega (arith, w.0, same q l), ap (place m.slots b) (same q l) ∙ h.places _ w.0 ∙ w.1))
            (f.leads.0, f.leads.1 ∙ led);
        earlier = λ r q l u. f.others _ (omega arith) (λ z. absurd (omega arith)) ∙ x.earlier r q l u;
      }

-- ---- `walk`

-- where the links of the first places stay, a place is reached as it was
reached-kept : {N k : ℕ} {s s' : List ℕ} {passed passed' e : ℕ} (w : Arrived N k s passed e) → passed' ≤ passed → w.from < passed'
    → ((r p : ℕ) → r < passed' → p < k → next N s' r p ≡ next N s r p) → Arrived N k s' passed' e
reached-kept w few low same = record {
  from = w.from;
  position = w.position;
  before = w.before;
  below = w.below;
  leads = same w.from w.position low w.below ∙ w.leads;
  first = λ r b p l f. w.first r (omega arith) p l (rw (same r p b l) at f);
}

-- where no slot is marked, the walk can begin at the first place
pub blank-begun : (m : Map) (k : ℕ) (dim : ℕ → ℕ) (s : List ℕ) (d : ℕ) → Blank m.slots s → d < m.slots → Begun m k dim s 0 d
blank-begun m k dim s d b l =
    let t = blank-taken m.slots s b in
    record { taken = t; closed = λ x p h a. absurd (omega (arith, (marked-place t x h a).1)); free = b.none d l }

module _ (m : Map) (k : ℕ) (dim : ℕ → ℕ) (d : ℕ) (s₁ : List ℕ) (begin : ℕ) where
  -- at the loop's head, s₁ being the store in which d took the place `begin`: what stood before it stands there; what stands from it on is in the orbit,
  -- and the links of those before `head` lead to places; where `begin` is the first place, each other is reached over a link of one before `head`
  pub record Walking (s : List ℕ) (head tail : ℕ) : Type 0 where
    pub taken : Taken m.slots s tail
    pub some : begin < tail
    pub begun : begin ≤ head
    pub passed : head ≤ tail
    pub start : place m.slots s begin ≡ d
    pub old : (e : ℕ) → e < begin → place m.slots s e ≡ place m.slots s₁ e
    pub sound : (e : ℕ) → begin ≤ e → e < tail → InOrbit m k dim d (place m.slots s e)
    pub reached : begin ≡ 0 → (e : ℕ) → 1 ≤ e → e < tail → (w : Arrived m.slots k s head e) × (w.from < head)
    pub links : (r : ℕ) → r < head → begin ≤ r → (p : ℕ) → p < k → (next m.slots s r p < tail)
        × (place m.slots s (next m.slots s r p) ≡ m.link (dim p) (place m.slots s r))

  pub walking-first : (s₀ : List ℕ) → Taken m.slots s₀ begin → d < m.slots → Pushed m.slots s₀ begin d s₁ → Walking s₁ begin (begin + 1)
  walking-first s₀ t l p =
      let here : place m.slots s₁ begin ≡ d = pushed-here m.slots s₀ begin d t l s₁ p in
      record {
        taken = p.taken;
        some = omega arith;
        begun = omega arith;
        passed = omega arith;
        start = here;
        old = λ e h. refl;
        sound = λ e h b. let w : e ≡ begin = omega arith in rw (w, here) itself;
        reached = λ z e h b. absurd (omega arith);
        links = λ r h b. absurd (omega arith);
      }

  pub walking-more : (s : List ℕ) (head tail : ℕ) (s' : List ℕ) (tail' : ℕ) → k ≤ 4 → head < tail → Walking s head tail
      → Expanded m k dim head s tail s' tail' → Walking s' (head + 1) tail'
  walking-more s head tail s' tail' few l w x =
      let g = x.grown in
      record {
        taken = g.taken;
        some = omega arith;
        begun = omega arith;
        passed = omega arith;
        start = g.places begin (omega arith) ∙ w.start;
        old = λ e h. g.places e (omega arith) ∙ w.old e h;
        sound = λ e b h. by_cases (dec_lt e tail)
            (λ v. rw (g.places e v) (w.sound e b v))
            (λ v.
            let n = x.new e (omega arith) h in
            let there : place m.slots s' e ≡ m.link (dim n.0) (place m.slots s head) =
            ap (place m.slots s') (sym n.2) ∙ (x.links n.0 n.1).1 in
            rw there (onward (w.sound head w.begun l) n.0 n.1 refl));
        reached = λ z e one h. by_cases (dec_lt e tail)
            (λ v.
            let o = w.reached z e one v in
            let r = o.0 in (
              record {
                from = r.from;
                position = r.position;
                before = r.before;
                below = r.below;
                leads = x.earlier r.from r.position o.1 (omega (arith, r.below)) ∙ r.leads;
                first = below_more _ head
                    (λ q b p c f. r.first q b p c (rw (x.earlier q p b (omega arith)) at f))
                    (λ p c f. omega (arith, o.1, r.below));
              },
              omega (arith, o.1),
            ))
            (λ v.
            let n = x.new e (omega arith) h in (
              record {
                from = head;
                position = n.0;
                before = omega arith;
                below = n.1;
                leads = n.2;
                first = below_more _ head
                    (λ q b p c f. absurd (omega (arith, f, x.earlier q p b (omega arith), (w.links q b (omega arith) p c).0)))
                    (λ p c f. omega (arith, n.3 p c f));
              },
              omega arith,
            ));
        links = below_more _ head
            (λ r h b p c.
            let same : next m.slots s' r p ≡ next m.slots s r p = x.earlier r p h (omega arith) in
            let o = w.links r h b p c in
            (omega (arith, o.0), ap (place m.slots s') same ∙ g.places _ o.0 ∙ o.1 ∙ ap (m.link (dim p)) (sym (g.places r (omega arith)))))
            (λ b p c. let o = x.links p c in (o.0, o.1 ∙ ap (m.link (dim p)) (sym (g.places head l))));
      }

  module _ (n : ℕ) (w : WellFormed n m) (dims : (p : ℕ) → p < k → dim p ≤ n) (h : d < m.slots) (l : m.state d ≡ 1) where
    -- what stands at a place from `begin` on is a live dart
    pub walking-live : (s : List ℕ) (head tail e : ℕ) → Walking s head tail → begin ≤ e → e < tail → m.state (place m.slots s e) ≡ 1
    walking-live s head tail e v f b = (reached-dart m k dim d n w dims h l (v.sound e f b)).1

    -- every place is passed
    module _ (s₀ : List ℕ) (c : Begun m k dim s₀ begin d) (p : Pushed m.slots s₀ begin d s₁)
        (s : List ℕ) (head tail : ℕ) (v : Walking s head tail) (all : tail ≤ head) where
      -- the places before `begin` hold what they held, and what stands there was marked
      before : (e : ℕ) → e < begin → place m.slots s e ≡ place m.slots s₀ e
      before e f = v.old e f ∙ pushed-places m.slots s₀ begin d h s₁ p e f

      was-marked : {x : ℕ} (e : ℕ) → e < begin → place m.slots s e ≡ x → marked s₀ x ≡ true
      was-marked e f q = place-marked c.taken e f (sym (before e f) ∙ q)

      -- what was marked before stands at a place
      stood : (x : ℕ) → x < m.slots → marked s₀ x ≡ true → (e : ℕ) × (e < tail) × (place m.slots s e ≡ x)
      stood x b a = let i = marked-place c.taken x b a in (i.0, omega (arith, i.1, v.some), before i.0 i.1 ∙ i.2)

      -- and so does what is reached
      stands : {x : ℕ} → InOrbit m k dim d x → (e : ℕ) × (e < tail) × (place m.slots s e ≡ x)
      stands itself = (begin, v.some, v.start)
      stands (onward {x} {y} r p b q) =
          let i = stands r in
          by_cases (dec_lt i.0 begin)
          (λ f.
          let a = c.closed x p (reached-dart m k dim d n w dims h l r).0 (was-marked i.0 f i.2) b in
          stood y (reached-dart m k dim d n w dims h l (onward r p b q)).0 (subst (λ (z : ℕ). marked s₀ z ≡ true) q a))
          (λ f.
          let o = v.links i.0 (omega (arith, i.1)) (omega arith) p b in
          (next m.slots s i.0 p, o.0, o.1 ∙ ap (m.link (dim p)) i.2 ∙ q))

      -- a slot is marked just where it was before or is in the orbit
      is-joined : (x : ℕ) → x < m.slots → marked s x ≡ (marked s₀ x or orbit m k dim d x)
      is-joined x b = same_test _ _
          (λ a.
          let i = marked-place v.taken x b a in
          by_cases (dec_lt i.0 begin)
          (λ f. or_left _ (was-marked i.0 f i.2))
          (λ f. or_right _ ((orbit_iff m k dim d n w dims h l x).1 (subst (InOrbit m k dim d) i.2 (v.sound i.0 (omega arith) i.1)))))
          (λ o.
          let i : (e : ℕ) × (e < tail) × (place m.slots s e ≡ x) =
          ⊎_elim (stood x b) (λ q. stands ((orbit_iff m k dim d n w dims h l x).0 q)) (or_cases _ _ o) in
          place-marked v.taken i.0 i.1 i.2)

      -- where no place was taken before, just the orbit is marked
      is-orbit : begin ≡ 0 → (x : ℕ) → x < m.slots → marked s x ≡ orbit m k dim d x
      unfolding marked ◌or◌
      is-orbit z x b =
          let none : marked s₀ x ≡ false = le-ltb 0 (mark s₀ x) (omega (arith, mark_le m.slots s₀ begin c.taken x b)) in
          is-joined x b ∙ ap (λ (a : Bool). a or orbit m k dim d x) none

      is-walked : begin ≡ 0 → Walked m k dim d s tail
      is-walked z = record {
        some = omega (arith, v.some);
        fits = v.taken.fits;
        slot = v.taken.slot;
        back = v.taken.back;
        is = λ x b. among-all m.slots s tail v.taken x b ∙ is-orbit z x b;
        found = λ x b a. (v.taken.found x b (among-at s tail x a).0).1;
        links = λ r p b. v.links r (omega arith) (omega arith) p;
        start = ap (place m.slots s) (sym z) ∙ v.start;
        reached = λ e one b. let o = v.reached z e one b in reached-kept o.0 all (omega (arith, b, o.0.before)) (λ r p c l. refl);
        counted = count_same m.slots (orbit m k dim d) (marked s) (λ x b. sym (is-orbit z x b)) ∙ v.taken.total;
      }

      pub walking-done : OrbitAdded m k dim d s₀ s tail × (begin ≡ 0 → Walked m k dim d s tail)
      walking-done = (record { taken = v.taken; is = is-joined }, is-walked)

-- ---- the walk by the first k dimensions of a list

module _ {m : Map} {k : ℕ} {dim dim' : ℕ → ℕ} (same : (p : ℕ) → p < k → dim p ≡ dim' p) where
  -- an orbit type has the dimensions below k, so others change nothing
  walked-by : {d : ℕ} {s : List ℕ} {size : ℕ} → Walked m k dim d s size → Walked m k dim' d s size
  walked-by {d} {s} w =
      let orbits = orbit-by m k dim dim' same in
      record {
        some = w.some;
        fits = w.fits;
        slot = w.slot;
        back = w.back;
        is = λ x h. w.is x h ∙ ap (λ (o : ℕ → ℕ → Bool). o d x) orbits;
        found = w.found;
        links = λ r p h b. let o = w.links r p h b in (o.0, o.1 ∙ ap (λ (i : ℕ). m.link i (place m.slots s r)) (same p b));
        start = w.start;
        reached = w.reached;
        counted = ap (λ (o : ℕ → ℕ → Bool). count_below m.slots (o d)) (sym orbits) ∙ w.counted;
      }

module _ (dims : List ℕ) (k : ℕ) (few : k ≤ length dims) where
  lent-at : (p : ℕ) → p < k → get_or (take k dims) p 0 ≡ get_or dims p 0
  lent-at p h = get_or-take k dims p 0 h

  -- the walk can begin by the first k
  pub lent-ready : {m : Map} → BeforeWalking m dims k → BeforeWalking m (take k dims) (length (take k dims))
  lent-ready r = rw (length-take-le k dims few)
      (record { n = r.n; small = r.small; well = r.well; few = r.few; dim = λ p h. rw (lent-at p h) (r.dim p h) })

  -- and what it finds is the orbit by them
  pub lent-walked : {m : Map} {d : ℕ} {s : List ℕ} {size : ℕ} → Walked m (length (take k dims)) (λ p. get_or (take k dims) p 0) d s size
      → Walked m k (λ p. get_or dims p 0) d s size
  lent-walked w = walked-by lent-at (rw (length-take-le k dims few) at w)

-- ---- after the walk

-- a phase that keeps the orbit's places, marks and links keeps what the walk found
pub walked-kept : (m : Map) (k : ℕ) (dim : ℕ → ℕ) (d : ℕ) (s s' : List ℕ) (size : ℕ) → k ≤ 4 → Walked m k dim d s size → Kept m.slots s s' size
    → Walked m k dim d s' size
walked-kept m k dim d s s' size few w c =
    let N = m.slots in
    record {
      some = w.some;
      fits = w.fits;
      slot = λ r h. rw (c.places r h) (w.slot r h);
      back = λ r h.
          let there : among s size (place N s r) ≡ true = among_of s size (place N s r) (omega (arith, w.back r h)) (omega (arith, w.back r h)) in
          ap (mark s') (c.places r h) ∙ c.ranks (place N s r) (w.slot r h) there ∙ w.back r h;
      is = λ x h. c.marks x h ∙ w.is x h;
      found = λ x h a.
          let there : among s size x ≡ true = sym (c.marks x h) ∙ a in
          ap (λ (z : ℕ). place N s' (z - 1)) (c.ranks x h there) ∙ c.places (mark s x - 1) (omega (arith, among-at s size x there)) ∙ w.found x h there;
      links = λ r p h b.
          let o = w.links r p h b in
          let same : next N s' r p ≡ next N s r p = c.nexts r p h (omega arith) in
          (omega (arith, o.0), ap (place N s') same ∙ c.places (next N s r p) o.0 ∙ o.1 ∙ ap (m.link (dim p)) (sym (c.places r h)));
      start = c.places 0 (omega (arith, w.some)) ∙ w.start;
      reached = λ e one h.
          let o = w.reached e one h in
          reached-kept o (omega arith) (omega (arith, o.before)) (λ r p b l. c.nexts r p b (omega arith));
      counted = w.counted;
    }

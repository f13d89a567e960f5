-- Trees of arcs with one more entry, and the passes over the arcs.
use Prim.Native.Nat.{ℕ, zero, suc, ◌+◌, ◌-◌, ◌≤◌, ◌<◌}
use mathlib.Core.Path.{◌≡◌, refl, sym, ap, ◌∙◌, subst}
use mathlib.Core.Logic.{◌⊎◌, inl, inr, ⊎_elim}
use mathlib.Core.Bool.{Bool, true, false, true≢false}
use mathlib.Core.List.{List}
use native.Mathlib.Omega.{arith}
use lib.ListN.{length, get_or, set, replicate, length-set, get_or-eq_default}
use lib.Seq.{get_or-set_same, get_or-set_other}
use lib.Dec.{eqb, leb}
use borrow.Author.Tests.{eqb-true, eqb-false, leb-true, leb-false, lt-ltb, le-ltb}
use Rattle.base.specs.Below.{count_below}
use Rattle.std.specs.Prelude.{None}
use Rattle.base.specs.First.{least}
use Rattle.base.proofs.TestLaws.{true_or_false}
use Rattle.base.proofs.BelowLaws.{le_or_lt, below_step, count-more, count_le, count-some}
use Rattle.base.proofs.ListLaws.{get_or_inside, get_or-replicate_all}
use Rattle.model.specs.Codes.{entry}
use Rattle.model.specs.Scheme.{first_hook}
use Rattle.conditions.specs.Arcs.{part_of}
use Rattle.conditions.specs.Hook.{left_out}
use Rattle.conditions.proofs.HookLaws.{none_out}
use Rattle.conditions.specs.Tree.{Ends, ByArc, ByTarget, Branch, roots_of, Roots, TreeBy, with_entry, Reaching, Aimed, Lefts, Spans, TreeJoined, TreeGrown}
use Rattle.conditions.specs.Tree.{Spanning}
use Rattle.conditions.specs.declared.tree.Tree.{Tree}

mark-keeps : (l : List Bool) (y z : ℕ) → y < length l → get_or l z false ≡ true → get_or (set l y true) z false ≡ true
mark-keeps l y z h e = ⊎_elim
    (λ q. ap (λ (x : ℕ). get_or (set l y true) x false) (eqb-true z y q) ∙ get_or-set_same l y true false h)
    (λ q. get_or-set_other l y z true false (eqb-false z y q) ∙ e)
    (true_or_false (eqb z y))

mark_was : (l : List Bool) (y z : ℕ) → get_or (set l y true) z false ≡ true → (z ≡ y) ⊎ (get_or l z false ≡ true)
mark_was l y z e = ⊎_elim
    (λ q. inl (eqb-true z y q))
    (λ q. inr (sym (get_or-set_other l y z true false (eqb-false z y q)) ∙ e))
    (true_or_false (eqb z y))

-- ---- the hooks, the first entries

pub one_root : (second : ℕ) → second ≡ first_hook → roots_of second ≡ 1
one_root second e = rw (le-ltb first_hook second (omega arith))

pub two_roots : (second : ℕ) → (second ≡ first_hook → ⊥) → roots_of second ≡ 2
two_roots second ne = rw (lt-ltb first_hook second (omega arith))

root_count : (second : ℕ) → ((roots_of second ≡ 1) × (second ≡ first_hook)) ⊎ ((roots_of second ≡ 2) × (first_hook < second))
root_count second = ⊎_elim
    (λ l. inl (one_root second (omega arith), omega arith))
    (λ l. inr (two_roots second (λ e. absurd (omega arith)), l))
    (le_or_lt second first_hook)

-- there are one or two
pub roots_few : (second : ℕ) → (1 ≤ roots_of second) × (roots_of second ≤ 2)
roots_few second = ⊎_elim (λ e. (omega (arith, e.0), omega (arith, e.0))) (λ e. (omega (arith, e.0), omega (arith, e.0))) (root_count second)

-- an entry before the branches is the first hook or the second
pub root_cases : (node dim : List ℕ) (second : ℕ) → Roots node dim second → (k : ℕ) → k < roots_of second
    → (get_or node k 0 ≡ first_hook) ⊎ (get_or node k 0 ≡ second)
root_cases node dim second r zero h = inl r.first
root_cases node dim second r (suc k) h =
    let f = roots_few second in
    let e : suc k ≡ roots_of second - 1 = omega arith in
    inr (ap (λ (z : ℕ). get_or node z 0) e ∙ r.last)

-- ---- one more entry

module _ (J : ℕ → ℕ → ℕ → Type 0) (second : ℕ) (t : Tree) (s : TreeBy J second t) where
  module _ (y : ℕ) (hy : y < 16) (ry : get_or t.reached y false ≡ false) where
    more : count_below 16 (λ z. get_or t.reached z false) < count_below 16 (λ z. get_or (set t.reached y true) z false)
    more =
        let long : y < length t.reached = omega (arith, s.long_reached) in
        count-more 16 _ _ y hy ry (get_or-set_same t.reached y true false long) (λ z h e. mark-keeps t.reached y z long e)

    -- a node that is not reached finds room for its entry
    pub room : t.size < 16
    room = let a = more in let b = count_le 16 (λ z. get_or (set t.reached y true) z false) in omega (arith, s.total)

  kept : (l : List ℕ) (v j : ℕ) → j < t.size → get_or (set l t.size v) j 0 ≡ get_or l j 0
  kept l v j h = get_or-set_other l t.size j v 0 (λ e. absurd (omega arith))

  module _ (i x y : ℕ) (joins : J i x y) (rx : get_or t.reached x false ≡ true) (ry : get_or t.reached y false ≡ false) (hy : y < 16) where
    new : (l : List ℕ) (v : ℕ) → length l ≡ 16 → get_or (set l t.size v) t.size 0 ≡ v
    new l v e = let h = room y hy ry in get_or-set_same l t.size v 0 (omega arith)

    old-branch : (k : ℕ) → roots_of second ≤ k → k < t.size → Branch J (set t.node t.size y) (set t.parent t.size x) (set t.dim t.size i) k
    old-branch k l h =
        let o = s.branch k l h in
        record {
          earlier = o.earlier;
          before = o.before;
          parent_is = kept t.node y o.earlier (omega (arith, o.before)) ∙ o.parent_is ∙ sym (kept t.parent x k h);
          joined = rw (kept t.dim i k h, kept t.parent x k h, kept t.node y k h) o.joined;
        }

    new-branch : Branch J (set t.node t.size y) (set t.parent t.size x) (set t.dim t.size i) t.size
    new-branch =
        let o = s.found x rx in
        record {
          earlier = o.0;
          before = o.1;
          parent_is = kept t.node y o.0 o.1 ∙ o.2 ∙ sym (new t.parent x s.long_parent);
          joined = rw (new t.dim i s.long_dim, new t.parent x s.long_parent, new t.node y s.long_node) joins;
        }

    -- the hooks stay where they are
    old-roots : Roots (set t.node t.size y) (set t.dim t.size i) second
    old-roots =
        let f = roots_few second in
        let some = s.some in
        record {
          first = kept t.node y 0 (omega arith) ∙ s.roots.first;
          last = kept t.node y (roots_of second - 1) (omega arith) ∙ s.roots.last;
          bare = λ k h. kept t.dim i k (omega arith) ∙ s.roots.bare k h;
        }

    not_there : (j : ℕ) → j < t.size → get_or t.node j 0 ≡ y → ⊥
    not_there j h e = true≢false (sym (s.marked j h) ∙ ap (λ (z : ℕ). get_or t.reached z false) e ∙ ry)

    -- y becomes an entry, joined to x
    pushed : TreeBy J second (with_entry i x y t)
    pushed =
        let long : y < length t.reached = omega (arith, s.long_reached) in
        record {
          long_node = simp length-set s.long_node;
          long_parent = simp length-set s.long_parent;
          long_dim = simp length-set s.long_dim;
          long_reached = simp length-set s.long_reached;
          roots_is = s.roots_is;
          some = omega (arith, s.some);
          total = let m = more y hy ry in omega (arith, s.total);
          roots = old-roots;
          branch = λ k l h. ⊎_elim (λ e. rw e new-branch) (λ w. old-branch k l w) (below_step h);
          marked = λ k h. ⊎_elim
              (λ e. ap (λ (z : ℕ). get_or (set t.reached y true) (get_or (set t.node t.size y) z 0) false) e
              ∙ ap (λ (z : ℕ). get_or (set t.reached y true) z false) (new t.node y s.long_node) ∙ get_or-set_same t.reached y true false long)
              (λ w. rw (kept t.node y k w) (mark-keeps t.reached y _ long (s.marked k w)))
              (below_step h);
          found = λ z e. ⊎_elim
              (λ q. (t.size, omega arith, new t.node y s.long_node ∙ sym q))
              (λ q. let o = s.found z q in (o.0, omega (arith, o.1), kept t.node y o.0 o.1 ∙ o.2))
              (mark_was t.reached y z e);
          once = λ j k h l e. ⊎_elim
              (λ p. ⊎_elim
              (λ q. p ∙ sym q)
              (λ q. absurd (not_there k q (sym (kept t.node y k q) ∙ sym e ∙ ap (λ (z : ℕ). get_or (set t.node t.size y) z 0) p ∙ new t.node y s.long_node)))
              (below_step l))
              (λ p. ⊎_elim
              (λ q. absurd (not_there j p (sym (kept t.node y j p) ∙ e ∙ ap (λ (z : ℕ). get_or (set t.node t.size y) z 0) q ∙ new t.node y s.long_node)))
              (λ q. s.once j k p q (sym (kept t.node y j p) ∙ e ∙ kept t.node y k q))
              (below_step l))
              (below_step h);
        }

    pub tree_push : (t' : Tree) → t' ≡ with_entry i x y t → TreeBy J second t'
    tree_push t' e = rw e pushed

  pub entry-small : (k : ℕ) → k < t.size → get_or t.node k 0 < 16
  entry-small k h = ⊎_elim
      (λ l. absurd (true≢false (sym (s.marked k h) ∙ get_or-eq_default t.reached false (rw s.long_reached (leb-true 16 (get_or t.node k 0) l)))))
      (λ l. leb-false 16 (get_or t.node k 0) l)
      (true_or_false (leb 16 (get_or t.node k 0)))

  pub some-entry : 0 < t.size
  some-entry = let f = roots_few second in omega (arith, s.some)

  pub few : t.size ≤ 16
  few = let a = count_le 16 (λ z. get_or t.reached z false) in omega (arith, s.total)

-- if K joins whatever J joins, a tree joined by J is a tree joined by K
pub tree_weaker : (J K : ℕ → ℕ → ℕ → Type 0) (second : ℕ) (t : Tree) → TreeBy J second t
    → ((k : ℕ) → k < t.size
    → J (get_or t.dim k 0) (get_or t.parent k 0) (get_or t.node k 0) → K (get_or t.dim k 0) (get_or t.parent k 0) (get_or t.node k 0))
    → TreeBy K second t
tree_weaker J K second t s f = record {
  long_node = s.long_node;
  long_parent = s.long_parent;
  long_dim = s.long_dim;
  long_reached = s.long_reached;
  roots_is = s.roots_is;
  some = s.some;
  total = s.total;
  roots = s.roots;
  branch = λ k l h. let b = s.branch k l h in record { earlier = b.earlier; before = b.before; parent_is = b.parent_is; joined = f k h b.joined };
  marked = s.marked;
  found = s.found;
  once = s.once;
}

-- ---- the walk over targets

-- the target of s at dimension i becomes an entry
pub reach_push : (targets : List ℕ) (second : ℕ) (t : Tree) (s : ℕ) → Reaching targets second t s → s < 16
    → (i y : ℕ) → i < 4 → y ≡ entry targets s i → y < 16 → get_or t.reached y false ≡ false
    → (t' : Tree) → t' ≡ with_entry i s y t → Reaching targets second t' s
reach_push targets second t s r h i y hi e hy ry t' et = record {
  tree = tree_push _ _ _ r.tree i s y (record { node = h; dim = hi; is = sym e }) r.at ry hy _ et;
  at = rw et (mark-keeps t.reached y s (omega (arith, r.tree.long_reached)) r.at);
}

-- an entry of a tree over targets is reached
pub reach-entry : (targets : List ℕ) (second : ℕ) (t : Tree) → TreeBy (ByTarget targets) second t
    → (k s : ℕ) → k < t.size → s ≡ get_or t.node k 0 → (s < 16) × Reaching targets second t s
reach-entry targets second t b k s h e = (rw e (entry-small _ _ _ b k h), record { tree = b; at = rw e (b.marked k h) })

-- what is reached over targets is reached over arcs
pub tree-aimed : (targets arcs : List ℕ) (c : ℕ) → Aimed targets arcs c → (second : ℕ) (t : Tree)
    → TreeBy (ByTarget targets) second t → Spans arcs c second t
tree-aimed targets arcs c a second t s = tree_weaker _ _ _ _ s (λ k h j.
    subst (ByArc (part_of arcs) c _ _) j.is (a.at _ _ j.node j.dim (subst (λ (z : ℕ). z < 16) (sym j.is) (entry-small _ _ _ s k h))))

-- ---- the passes over the arcs

module _ (arcs : List ℕ) (c second : ℕ) (t : Tree) (s : Spans arcs c second t) where
  -- the far end of arc a becomes an entry
  pub joined_push : (a x y : ℕ) → a < c → Ends (part_of arcs) a x y → get_or t.reached x false ≡ true → get_or t.reached y false ≡ false → y < 16
      → (i : ℕ) → i ≡ part_of arcs a 0 → (t' : Tree) → t' ≡ with_entry i x y t → TreeJoined arcs c a second t t'
  joined_push a x y b ends rx ry hy i ei t' et =
      let more : t'.size ≡ t.size + 1 = ap (λ (z : Tree). z.size) et in
      record {
        spans = tree_push _ _ _ s i x y (record { arc = a; below = b; dim_is = sym ei; ends = ends }) rx ry hy _ et;
        longer = omega arith;
        even = λ e. absurd (omega arith);
      }

  -- an arc adds nothing if both ends are reached, or neither is
  pub joined_same : (a x y : ℕ) → x ≡ part_of arcs a 1 → y ≡ part_of arcs a 2 → get_or t.reached x false ≡ get_or t.reached y false
      → TreeJoined arcs c a second t t
  joined_same a x y ex ey e = record {
    spans = s;
    longer = omega arith;
    even = λ q. (refl, ap (λ (z : ℕ). get_or t.reached z false) (sym ex) ∙ e ∙ ap (λ (z : ℕ). get_or t.reached z false) ey);
  }

  pub grown-none : TreeGrown arcs c 0 second t.size t
  grown-none = record { spans = s; longer = omega arith; even = λ q a h. absurd (omega arith) }

-- one more arc of a pass
pub grown-more : (arcs : List ℕ) (c k second size₀ : ℕ) (t t' : Tree)
    → TreeGrown arcs c k second size₀ t → TreeJoined arcs c k second t t' → TreeGrown arcs c (k + 1) second size₀ t'
grown-more arcs c k second size₀ t t' g j = record {
  spans = j.spans;
  longer = omega (arith, g.longer, j.longer);
  even = λ e a h.
      let l = g.longer in
      let m = j.longer in
      let same : t'.size ≡ t.size = omega arith in
      let r = j.even same in
      ⊎_elim (λ q. rw q r.1) (λ q. rw r.0 (g.even (omega arith) a q)) (below_step h);
}

-- before the first pass: `last` is below `size`, so nothing is said of the arcs yet
pub grown-start : (arcs : List ℕ) (c second : ℕ) (t : Tree) (last : ℕ)
    → Spans arcs c second t → last < t.size → TreeGrown arcs c c second last t
grown-start arcs c second t last s h = record { spans = s; longer = omega arith; even = λ f. absurd (omega arith) }

-- no arc leads out of trees that have all left nodes, since arcs join left nodes
pub closed-walk : (arcs : List ℕ) (c nodes : ℕ) (kinds : List ℕ) (second : ℕ) (t : Tree)
    → Spans arcs c second t → Lefts nodes kinds arcs c → None ≡ least nodes (left_out kinds t.reached) → Spanning arcs c second t
closed-walk arcs c nodes kinds second t s l e = record {
  spans = s;
  even = λ a h.
      let from = l.from a h in
      let to = l.to a h in
      none_out nodes kinds t.reached e _ from.0 from.1 ∙ sym (none_out nodes kinds t.reached e _ to.0 to.1);
}

-- ---- the hooks alone

module _ (second : ℕ) (h : second < 16) where
  abbrev entries : List ℕ
  entries = set (replicate 16 0) (roots_of second - 1) second

  abbrev one : List Bool
  one = set (replicate 16 false) first_hook true

  abbrev marks : List Bool
  marks = set one second true

  -- the entries are node 0 and the second hook
  last-is : get_or entries (roots_of second - 1) 0 ≡ second
  last-is = let f = roots_few second in get_or-set_same (replicate 16 0) (roots_of second - 1) second 0 (omega arith)

  first-is : get_or entries 0 0 ≡ first_hook
  first-is = ⊎_elim
      (λ e. let z : 0 ≡ roots_of second - 1 = omega (arith, e.0) in ap (λ (k : ℕ). get_or entries k 0) z ∙ last-is ∙ e.1)
      (λ e. get_or-set_other (replicate 16 0) (roots_of second - 1) 0 second 0 (λ z. absurd (omega (arith, e.0))))
      (root_count second)

  hooks : Roots entries (replicate 16 255) second
  hooks = record {
    first = first-is;
    last = last-is;
    bare = λ k l. let f = roots_few second in get_or_inside (replicate 16 255) k 0 255 (omega arith) ∙ get_or-replicate_all 16 k 255;
  }

  -- they are marked, and nothing else is
  first-marked : get_or marks first_hook false ≡ true
  first-marked = mark-keeps one second first_hook (omega arith) refl

  last-marked : get_or marks second false ≡ true
  last-marked = get_or-set_same one second true false (omega arith)

  marks_were : (s : ℕ) → get_or marks s false ≡ true → (s ≡ first_hook) ⊎ (s ≡ second)
  marks_were s e = ⊎_elim
      (λ q. inr q)
      (λ q. ⊎_elim (λ z. inl z) (λ z. absurd (true≢false (sym z ∙ get_or-replicate_all 16 s false))) (mark_was (replicate 16 false) first_hook s q))
      (mark_was one second s e)

  -- there are as many as are marked
  marks-enough : roots_of second ≤ count_below 16 (λ s. get_or marks s false)
  marks-enough = ⊎_elim
      (λ e. let c = count-some 16 (λ s. get_or marks s false) first_hook (omega arith) first-marked in omega (arith, e.0))
      (λ e. let c = count-some 16 (λ s. get_or one s false) first_hook (omega arith) refl in
      let m = count-more 16 (λ s. get_or one s false) (λ s. get_or marks s false) second h
      (get_or-set_other (replicate 16 false) first_hook second true false (λ z. absurd (omega (arith, e.1))) ∙ get_or-replicate_all 16 second false)
      last-marked (λ j l. mark-keeps one second j (omega arith)) in
      omega (arith, e.0))
      (root_count second)

  -- and they differ
  apart : (j k : ℕ) → j < k → k < roots_of second → get_or entries j 0 ≡ get_or entries k 0 → ⊥
  apart j k l m e = ⊎_elim
      (λ q. absurd (omega (arith, q.0)))
      (λ q. let x : 0 ≡ j = omega (arith, q.0) in
      let y : k ≡ roots_of second - 1 = omega (arith, q.0) in
      let z : first_hook ≡ second = sym first-is ∙ ap (λ (i : ℕ). get_or entries i 0) x ∙ e ∙ ap (λ (i : ℕ). get_or entries i 0) y ∙ last-is in
      absurd (omega (arith, q.1, z)))
      (root_count second)

  start : (J : ℕ → ℕ → ℕ → Type 0) → TreeBy J second (record {
    size = roots_of second;
    roots = roots_of second;
    node = entries;
    parent = replicate 16 0;
    dim = replicate 16 255;
    reached = marks;
  })
  start J = let f = roots_few second in record {
    long_node = simp length-set refl;
    long_parent = refl;
    long_dim = refl;
    long_reached = simp length-set refl;
    roots_is = refl;
    some = omega arith;
    total = marks-enough;
    roots = hooks;
    branch = λ k l m. absurd (omega arith);
    marked = λ k l. ⊎_elim
        (λ e. ap (λ (s : ℕ). get_or marks s false) e ∙ first-marked)
        (λ e. ap (λ (s : ℕ). get_or marks s false) e ∙ last-marked)
        (root_cases entries (replicate 16 255) second hooks k l);
    found = λ s e. ⊎_elim
        (λ q. (0, omega arith, first-is ∙ sym q))
        (λ q. (roots_of second - 1, omega arith, last-is ∙ sym q))
        (marks_were s e);
    once = λ j k l m e. ⊎_elim
        (λ (q : j ≤ k). ⊎_elim (λ (w : k ≤ j). omega arith) (λ w. absurd (apart j k w m e)) (le_or_lt k j))
        (λ q. absurd (apart k j q l (sym e)))
        (le_or_lt j k);
  }

-- the same, as the code writes them; r is the number of hooks
pub tree-start : (J : ℕ → ℕ → ℕ → Type 0) (second r : ℕ) → second < 16 → r ≡ roots_of second → TreeBy J second (record {
  size = r;
  roots = r;
  node = set (replicate 16 0) (r - 1) second;
  parent = replicate 16 0;
  dim = replicate 16 255;
  reached = set (set (replicate 16 false) first_hook true) second true;
})
tree-start J second r h e = rw e (start second h J)

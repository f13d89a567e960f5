-- What a map has after the loops of `links`, word by word: what the laws of `links::rewrite` rest on.
use Prim.Native.Nat.{ℕ, ◌+◌, ◌*◌, ◌-◌, ◌/◌, ◌%◌, ◌≤◌, ◌<◌}
use mathlib.Core.Path.{◌≡◌, sym, ap, ◌∙◌}
use mathlib.Core.Logic.{⊎_elim}
use mathlib.Core.Bool.{Bool, true}
use mathlib.Core.List.{List}
use native.Mathlib.Omega.{arith}
use lib.ListN.{get_or}
use lib.Dec.{ltb}
use borrow.Author.Tests.{ltb-true, ltb-false}
use Rattle.base.proofs.TestLaws.{true_or_false}
use Rattle.base.proofs.StepLaws.{steps-untouched, steps-alone}
use Rattle.model.specs.Map.{Map, Field, Link, field_of, dimension}
use Rattle.table.proofs.WriteLaws.{set_same, set_other, links-same, links_leave}
use Rattle.orbit.specs.Store.{next, dart_at}
use Rattle.rewriting.specs.Links.{overwritten, followed, relinked}
use Rattle.rewriting.proofs.LinkLaws.{by-node, by-position, by-none}

-- ---- the links of some slots

module _ (at v : ℕ → ℕ) (n : ℕ) (l : ℕ → ℕ) where
  pub overwritten-leaves : (y : ℕ) → ((r : ℕ) → r < n → at r ≡ y → ⊥) → overwritten at v n l y ≡ l y
  unfolding overwritten
  overwritten-leaves y off = steps-untouched _ (λ k. k y) n (λ r k h. set_other k (at r) (v r) y (λ q. off r h (sym q))) l

  pub overwritten-sets : (r : ℕ) → r < n → ((q : ℕ) → q < n → at q ≡ at r → q ≡ r) → overwritten at v n l (at r) ≡ v r
  unfolding overwritten
  overwritten-sets r h once = steps-alone _ (λ k. k (at r)) n r h
      (λ q k b ne. set_other k (at q) (v q) (at r) (λ w. ne (once q b (sym w))))
      (λ w. v r) (λ k. set_same k (at r) (v r)) l

-- ---- the links of all pairs

module _ (N : ℕ) (store : List ℕ) (size : ℕ) (rows : List ℕ) where
  -- the dart of the pair of node v and the orbit dart at place r
  abbrev pub pair_dart : ℕ → ℕ → ℕ
  pair_dart v r = dart_at store (get_or rows v 0) r

  -- the darts of the pairs of those of c nodes that have p are different slots
  pub record Different (c : ℕ) (p : ℕ → Bool) : Type 0 where
    pub slot : (v r : ℕ) → v < c → p v ≡ true → r < size → pair_dart v r < N
    pub once : (v q w r : ℕ) → v < c → p v ≡ true → q < size → w < c → p w ≡ true → r < size → pair_dart v q ≡ pair_dart w r → (v ≡ w) × (q ≡ r)

  -- the links of slots that are no darts of the node
  followed-leaves : (base code y : ℕ) → (code < 255 → (r : ℕ) → r < size → dart_at store base r ≡ y → ⊥) → (l : ℕ → ℕ)
      → followed N store size rows base code l y ≡ l y
  followed-leaves base code y off l = ⊎_elim
      (λ a. ap (λ (k : ℕ → ℕ). k y) (by-node N store size rows base code l (ltb-true code 16 a))
      ∙ overwritten-leaves _ _ size l y (off (let h = ltb-true code 16 a in omega arith)))
      (λ a. ⊎_elim
      (λ b. ap (λ (k : ℕ → ℕ). k y) (by-position N store size rows base code l (ltb-false code 16 a) (ltb-true code 255 b))
      ∙ overwritten-leaves _ _ size l y (off (ltb-true code 255 b)))
      (λ b. ap (λ (k : ℕ → ℕ). k y) (by-none N store size rows base code l (ltb-false code 255 b)))
      (true_or_false (ltb code 255)))
      (true_or_false (ltb code 16))

  module _ (codes : List ℕ) (n : ℕ) where
    pub relinked-leaves : (y : ℕ) (f : Field) → ((k r : ℕ) → k < n → get_or codes k 0 < 255 → r < size → pair_dart (k / 4) r ≡ y → f ≡ Link (k % 4) → ⊥)
        → (m : Map) → field_of (relinked N store size rows codes n m) f y ≡ field_of m f y
    unfolding relinked
    relinked-leaves y f off m = steps-untouched _ (λ a. field_of a f y) n
        (λ k a h. links_leave a (k % 4) _ f y (λ q. followed-leaves _ _ y (λ l r b e. off k r h l b e q) (a.link (k % 4)))) m

  -- each link that is written is one of a node that has p
  module _ (codes : List ℕ) (c : ℕ) {p : ℕ → Bool} (D : Different c p) (named : (k : ℕ) → k < 4 * c → get_or codes k 0 < 255 → p (k / 4) ≡ true)
      (v i r : ℕ) (hv : v < c) (pv : p v ≡ true) (hi : i < 4) (hr : r < size) where
    -- the arc of node v at dimension i alone sets that link of the node's darts
    relinked-one : (g : ℕ → ℕ)
        → ((l : ℕ → ℕ) → followed N store size rows (get_or rows v 0) (get_or codes (4 * v + i) 0) l (pair_dart v r) ≡ g (l (pair_dart v r)))
        → (m : Map) → (relinked N store size rows codes (4 * c) m).link i (pair_dart v r) ≡ g (m.link i (pair_dart v r))
    unfolding relinked
    relinked-one g one m = steps-alone _ (λ a. a.link i (pair_dart v r)) (4 * c) (4 * v + i) (omega arith)
        (λ j a h ne. links_leave a (j % 4) _ (Link i) (pair_dart v r) (λ z. followed-leaves _ _ (pair_dart v r)
        (λ n q b w.
        let same = (D.once (j / 4) q v r (omega arith) (named j h n) b hv pv hr w).0 in
        let one : i ≡ j % 4 = ap dimension z in
        ne (omega arith)) (a.link (j % 4))))
        g
        (λ a. rw (quotient, rest) (ap (λ (k : ℕ → ℕ). k (pair_dart v r)) (links-same a i _) ∙ one (a.link i)))
        m
      where
        quotient : (4 * v + i) / 4 ≡ v
        quotient = omega arith

        rest : (4 * v + i) % 4 ≡ i
        rest = omega arith

    module _ (code : ℕ) (is : get_or codes (4 * v + i) 0 ≡ code) (m : Map) where
      by_code : (g : ℕ → ℕ) → ((l : ℕ → ℕ) → followed N store size rows (get_or rows v 0) code l (pair_dart v r) ≡ g (l (pair_dart v r)))
          → (relinked N store size rows codes (4 * c) m).link i (pair_dart v r) ≡ g (m.link i (pair_dart v r))
      by_code g one = relinked-one g (λ l. rw is (one l)) m

      sets : (value l : ℕ → ℕ) → overwritten (pair_dart v) value size l (pair_dart v r) ≡ value r
      sets value l = overwritten-sets (pair_dart v) value size l r hr (λ q b w. (D.once v q v r hv pv b hv pv hr w).1)

      pub relinked-node : code < 16 → (relinked N store size rows codes (4 * c) m).link i (pair_dart v r) ≡ pair_dart code r
      relinked-node h = by_code (λ w. pair_dart code r)
          (λ l. ap (λ (k : ℕ → ℕ). k (pair_dart v r)) (by-node N store size rows (get_or rows v 0) code l h) ∙ sets _ l)

      pub relinked-position : 16 ≤ code → code < 255
          → (relinked N store size rows codes (4 * c) m).link i (pair_dart v r) ≡ pair_dart v (next N store r (code - 16))
      relinked-position h k = by_code (λ w. pair_dart v (next N store r (code - 16)))
          (λ l. ap (λ (k : ℕ → ℕ). k (pair_dart v r)) (by-position N store size rows (get_or rows v 0) code l h k)
          ∙ sets (λ q. pair_dart v (next N store q (code - 16))) l)

      pub relinked-none : 255 ≤ code → (relinked N store size rows codes (4 * c) m).link i (pair_dart v r) ≡ m.link i (pair_dart v r)
      relinked-none h = by_code (λ w. w) (λ l. ap (λ (k : ℕ → ℕ). k (pair_dart v r)) (by-none N store size rows (get_or rows v 0) code l h))

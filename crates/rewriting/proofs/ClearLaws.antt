-- The laws of `room::erase` and `room::clear`: what a map has once the words of deleted pairs are zeros.
use Prim.Native.Nat.{ℕ, ◌<◌}
use mathlib.Core.Path.{◌≡◌, refl, sym, ap, ◌∙◌}
use mathlib.Core.Logic.{⊎_elim}
use mathlib.Core.List.{List}
use lib.ListN.{get_or}
use lib.Dec.{eqb}
use borrow.Author.Tests.{eqb-true, eqb-false, eq-eqb, ne_eqb}
use Rattle.base.proofs.TestLaws.{true_or_false}
use Rattle.base.proofs.StepLaws.{steps-untouched, steps-alone}
use Rattle.model.specs.Map.{Map, Field, field_of}
use Rattle.table.specs.Writes.{zeroed}
use Rattle.table.proofs.WriteLaws.{zeroed-same, zeroed-other}
use Rattle.orbit.specs.Store.{dart_at}
use Rattle.rewriting.specs.Room.{erased, cleared_by, cleared}
use Rattle.rewriting.proofs.LinkWriteLaws as W

-- zeros by another name of their slot
pub zeroed-at : (m m' : Map) (x y : ℕ) → m' ≡ zeroed x m → x ≡ y → m' ≡ zeroed y m
zeroed-at m m' x y e p = e ∙ ap (λ (z : ℕ). zeroed z m) p

-- ---- a node by its kind

module _ (store : List ℕ) (size base kind : ℕ) (m m' : Map) where
  pub by-deleted : kind ≡ 1 → m' ≡ erased (dart_at store base) size m → m' ≡ cleared_by store size base kind m
  unfolding cleared_by
  by-deleted h e = rw (eq-eqb kind 1 h) e

  pub by-other : (kind ≡ 1 → ⊥) → m' ≡ m → m' ≡ cleared_by store size base kind m
  unfolding cleared_by
  by-other h e = rw (ne_eqb kind 1 h) e

-- ---- the words of some slots

module _ (at : ℕ → ℕ) (n : ℕ) (f : Field) (m : Map) where
  erased-leaves : (y : ℕ) → ((r : ℕ) → r < n → at r ≡ y → ⊥) → field_of (erased at n m) f y ≡ field_of m f y
  unfolding erased
  erased-leaves y off = steps-untouched _ (λ a. field_of a f y) n (λ r a h. zeroed-other a (at r) f y (λ q. off r h (sym q))) m

  erased-sets : (r : ℕ) → r < n → ((q : ℕ) → q < n → at q ≡ at r → q ≡ r) → field_of (erased at n m) f (at r) ≡ 0
  unfolding erased
  erased-sets r h once = steps-alone _ (λ a. field_of a f (at r)) n r h
      (λ q a b ne. zeroed-other a (at q) f (at r) (λ w. ne (once q b (sym w))))
      (λ w. 0) (λ a. zeroed-same a (at r) f) m

-- ---- the words of deleted pairs

module _ (N : ℕ) (store : List ℕ) (size : ℕ) (rows kinds : List ℕ) (c : ℕ) where
  abbrev pair_dart : ℕ → ℕ → ℕ
  pair_dart = W.pair_dart N store size rows

  node-leaves : (v y : ℕ) (f : Field) → (get_or kinds v 0 ≡ 1 → (r : ℕ) → r < size → pair_dart v r ≡ y → ⊥) → (m : Map)
      → field_of (cleared_by store size (get_or rows v 0) (get_or kinds v 0) m) f y ≡ field_of m f y
  node-leaves v y f off m = ⊎_elim
      (λ a. let k = eqb-true _ _ a in
      ap (λ (z : Map). field_of z f y) (sym (by-deleted store size (get_or rows v 0) (get_or kinds v 0) m _ k refl))
      ∙ erased-leaves (pair_dart v) size f m y (off k))
      (λ a. ap (λ (z : Map). field_of z f y) (sym (by-other store size (get_or rows v 0) (get_or kinds v 0) m _ (eqb-false _ _ a) refl)))
      (true_or_false (eqb (get_or kinds v 0) 1))

  pub cleared-leaves : (y : ℕ) (f : Field) → ((v r : ℕ) → v < c → get_or kinds v 0 ≡ 1 → r < size → pair_dart v r ≡ y → ⊥) → (m : Map)
      → field_of (cleared store size rows kinds c m) f y ≡ field_of m f y
  unfolding cleared
  cleared-leaves y f off m = steps-untouched _ (λ a. field_of a f y) c (λ v a h. node-leaves v y f (λ k r b. off v r h k b) a) m

  pub cleared-sets : W.Different N store size rows c (λ v. eqb (get_or kinds v 0) 1) → (v r : ℕ) (f : Field) → v < c → r < size
      → get_or kinds v 0 ≡ 1 → (m : Map) → field_of (cleared store size rows kinds c m) f (pair_dart v r) ≡ 0
  unfolding cleared
  cleared-sets D v r f hv hr kind m = steps-alone _ (λ a. field_of a f (pair_dart v r)) c v hv
      (λ w a h ne. node-leaves w (pair_dart v r) f (λ k q b z. ne (D.once w q v r h (eq-eqb _ _ k) b hv (eq-eqb _ _ kind) hr z).0) a)
      (λ w. 0)
      (λ a. ap (λ (z : Map). field_of z f (pair_dart v r)) (sym (by-deleted store size (get_or rows v 0) (get_or kinds v 0) a _ kind refl))
      ∙ erased-sets (pair_dart v) size f a r hr (λ q b w. (D.once v q v r hv (eq-eqb _ _ kind) b hv (eq-eqb _ _ kind) hr w).1))
      m

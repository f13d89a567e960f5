-- The dimensions of a word as they are marked in a row of the targets. A dimension is fresh if its target is 255.
use Prim.Native.Nat.{ℕ, zero, suc, ◌+◌, ◌≤◌, ◌<◌}
use mathlib.Core.Path.{◌≡◌, refl, sym, ap, ◌∙◌}
use mathlib.Core.Logic.{◌⊎◌, inl, inr, ⊎_elim, by_cases}
use mathlib.Core.Bool.{Bool, true, false, true≢false}
use Rattle.std.specs.Prelude.{Option, Some, None}
use mathlib.Core.List.{List}
use native.Mathlib.Decide.{ℕ_discrete}
use native.Mathlib.Numerals.{add-one}
use native.Mathlib.Omega.{arith}
use lib.ListN.{length, get_or, set, length-set}
use lib.Seq.{get_or-set_same, get_or-set_other}
use lib.Dec.{eqb}
use borrow.Author.Tests.{eq-eqb, ne_eqb, eqb-true, lt-leb, le-leb, leb-true}
use Rattle.base.specs.Test.{◌and◌, ◌or◌}
use Rattle.base.specs.Below.{all_below}
use Rattle.base.specs.First.{some_if, first, least}
use Rattle.base.proofs.TestLaws.{and_left, and_right, and_of, or_left, or_right, or_rest, if_so, if_of, impossible, true_or_false, same_test}
use Rattle.base.proofs.BelowLaws.{all-at, all_of}
use Rattle.base.proofs.FirstLaws.{or_else_last, least_at, least-none, least-none_of, least_hit}
use Rattle.model.specs.Bytes.{byte}
use Rattle.model.specs.Codes.{place_code}
use Rattle.scheme.specs.Words.{fresh_at, fits_at}
use Rattle.scheme.specs.Targets.{markable, marked, rowed}

-- ---- one mark

module _ (targets : List ℕ) (base n d p : ℕ) where
  -- a byte 255 marks nothing
  pub mark-gone : d ≡ 255 → (true ≡ markable targets base n d) × (targets ≡ marked targets base d p)
  unfolding markable marked
  mark-gone e = (sym (or_left _ (eq-eqb _ _ e)), rw (eq-eqb _ _ e) refl)

  -- a byte above n is not marked
  pub mark-none : (d ≡ 255 → ⊥) → n < d → false ≡ markable targets base n d
  unfolding markable ◌or◌ ◌and◌
  mark-none e h = rw (ne_eqb _ _ e, lt-leb _ _ h)

  -- a dimension that has a code is not marked again
  pub mark-twice : {i : ℕ} → (d ≡ 255 → ⊥) → d ≤ n → i ≡ base + d → (get_or targets i 0 ≡ 255 → ⊥) → false ≡ markable targets base n d
  unfolding markable ◌or◌ ◌and◌
  mark-twice e h q w = rw (ne_eqb _ _ e, le-leb _ _ h, ← q, ne_eqb _ _ w)

  -- a dimension that has none is marked
  pub mark-once : {i : ℕ} → (d ≡ 255 → ⊥) → d ≤ n → i ≡ base + d → get_or targets i 0 ≡ 255
      → (true ≡ markable targets base n d) × (set targets i (16 + p) ≡ marked targets base d p)
  unfolding markable marked
  mark-once e h q w =
      (sym (or_right _ (and_of (le-leb _ _ h) (eq-eqb _ _ (ap (λ (j : ℕ). get_or targets j 0) (sym q) ∙ w)))), rw (ne_eqb _ _ e, q) refl)

-- ---- the first p bytes of a word

-- if the test fails at p, a search up to p finds no more than one below p
least-pass : (p : ℕ) (f : ℕ → Bool) → f p ≡ false → least (suc p) f ≡ least p f
unfolding least first some_if
least-pass p f e = rw e (or_else_last _)

module _ (b : List ℕ) (at : ℕ) where
  -- the byte at o is the dimension d
  abbrev pub stands : ℕ → ℕ → Bool
  stands d o = eqb (byte b (at + o)) d

  -- a dimension that is fresh among the first p bytes is none of them
  fresh-least : (p d : ℕ) → all_below p (fresh_at b at d) ≡ true → least p (stands d) ≡ None
  unfolding fresh_at
  fresh-least p d q = least-none_of p (stands d) (λ o h. impossible _ (λ e. true≢false (sym (if_so _ (all-at p _ q o h) e))))

  -- a dimension is fresh just if its code is 255
  fresh-code : (p d : ℕ) → p ≤ 4 → eqb (place_code (least p (stands d))) 255 ≡ all_below p (fresh_at b at d)
  unfolding fresh_at
  fresh-code p d few = same_test _ _
      (λ q. all_of p _ (λ o h. if_of _ (λ e. absurd (true≢false (sym e ∙ least-none p (stands d) (go (least p (stands d)) refl q) o h)))))
      (λ q. eq-eqb _ _ (ap place_code (fresh-least p d q)))
    where
      go : (o : Option ℕ) → least p (stands d) ≡ o → eqb (place_code o) 255 ≡ true → least p (stands d) ≡ None
      go None e q = e
      go (Some k) e q = let h : k < p = (least_at p (stands d) k e).0 in let v : 16 + k ≡ 255 = eqb-true _ _ q in absurd (omega arith)

  -- a byte that fits is 255, or a dimension that is fresh
  fit_cases : (n p : ℕ) → fits_at b n at p ≡ true
      → (byte b (at + p) ≡ 255) ⊎ ((byte b (at + p) ≡ 255 → ⊥) × (byte b (at + p) ≤ n) × (all_below p (fresh_at b at (byte b (at + p))) ≡ true))
  unfolding fits_at
  fit_cases n p q = by_cases (ℕ_discrete (byte b (at + p)) 255)
      (λ e. inl e)
      (λ ne. let u = or_rest (ne_eqb _ _ ne) q in inr (ne, leb-true _ _ (and_left _ _ u), and_right _ _ u))

  module _ (targets : List ℕ) (base : ℕ) where
    -- the table with p bytes
    abbrev rows : ℕ → List ℕ
    rows p = rowed targets base b at p

    -- no byte marks nothing
    pub rowed-none : rowed targets base b at 0 ≡ targets
    unfolding rowed
    rowed-none = refl

    -- one more byte
    pub rowed-more : {l : List ℕ} {v : ℕ} (p : ℕ) → l ≡ rowed targets base b at p → v ≡ byte b (at + p) → marked l base v p ≡ rowed targets base b at (p + 1)
    unfolding rowed
    rowed-more p e q = rw (add-one p, e, q) refl

    -- the same number of bytes by another name
    pub rowed-all : {l : List ℕ} (p k : ℕ) → l ≡ rowed targets base b at p → p ≡ k → l ≡ rowed targets base b at k
    rowed-all p k e q = rw (← q) e

    -- the table keeps its length
    pub length-rowed : (p : ℕ) → length (rowed targets base b at p) ≡ length targets
    unfolding rowed marked
    length-rowed zero = refl
    length-rowed (suc p) = ⊎_elim (λ w. rw w (length-rowed p)) (λ w. rw w (length-set (rows p) _ _ ∙ length-rowed p))
        (true_or_false (eqb (byte b (at + p)) 255))

    -- what a byte 255 marks
    gone : (l : List ℕ) (d p : ℕ) → d ≡ 255 → marked l base d p ≡ l
    unfolding marked
    gone l d p e = rw (eq-eqb _ _ e) refl

    -- what a dimension marks
    here : (l : List ℕ) (d p : ℕ) → (d ≡ 255 → ⊥) → marked l base d p ≡ set l (base + d) (16 + p)
    unfolding marked
    here l d p e = rw (ne_eqb _ _ e) refl

    module _ (n : ℕ) (few : n ≤ 3) where
      -- the entries outside the row are as before
      pub rowed_else : (p : ℕ) → all_below p (fits_at b n at) ≡ true → (k : ℕ) → (k < base) ⊎ (base + 4 ≤ k)
          → get_or (rowed targets base b at p) k 0 ≡ get_or targets k 0
      unfolding rowed all_below
      rowed_else zero q k h = refl
      rowed_else (suc p) q k h =
          let before = rowed_else p (and_left _ _ q) k h in
          ⊎_elim
          (λ e. ap (λ (l : List ℕ). get_or l k 0) (gone (rows p) _ p e) ∙ before)
          (λ f. ap (λ (l : List ℕ). get_or l k 0) (here (rows p) _ p f.0)
          ∙ get_or-set_other (rows p) _ k _ 0 (λ e. ⊎_elim (λ u. apart_low k f.1 e u) (λ u. apart_high k f.1 e u) h) ∙ before)
          (fit_cases n p (and_right _ _ q))
        where
          apart_low : {d : ℕ} (k : ℕ) → d ≤ n → k ≡ base + d → k < base → ⊥
          apart_low k l e u = omega arith

          apart_high : {d : ℕ} (k : ℕ) → d ≤ n → k ≡ base + d → base + 4 ≤ k → ⊥
          apart_high k l e u = omega arith

      module _ (room : base + 4 ≤ length targets) (clear : (i : ℕ) → i < 4 → get_or targets (base + i) 0 ≡ 255) where
        -- if the row was clear, the code of each dimension is the first position at which the word has it
        pub rowed-at : (p : ℕ) → all_below p (fits_at b n at) ≡ true → (i : ℕ) → i < 4
            → get_or (rowed targets base b at p) (base + i) 0 ≡ place_code (least p (stands i))
        unfolding rowed all_below
        rowed-at zero q i h = clear i h ∙ ap place_code (sym (least-none_of 0 (stands i) (λ k l. absurd (omega arith))))
        rowed-at (suc p) q i h =
            let before = rowed-at p (and_left _ _ q) i h in
            let pass : stands i p ≡ false → place_code (least p (stands i)) ≡ place_code (least (suc p) (stands i)) =
            λ ne. ap place_code (sym (least-pass p (stands i) ne)) in
            ⊎_elim
            (λ e. ap (λ (l : List ℕ). get_or l (base + i) 0) (gone (rows p) _ p e) ∙ before ∙ pass (ne_eqb _ _ (λ f. far i h e f)))
            (λ f. ap (λ (l : List ℕ). get_or l (base + i) 0) (here (rows p) _ p f.0)
            ∙ by_cases (ℕ_discrete i (byte b (at + p)))
            (λ e. ap (λ (j : ℕ). get_or (set (rows p) (base + byte b (at + p)) (16 + p)) (base + j) 0) e
            ∙ get_or-set_same (rows p) _ _ 0 (inside f.1)
            ∙ ap place_code (sym (least_hit (suc p) (stands i) p (omega arith)
            (fresh-least p i (ap (λ (d : ℕ). all_below p (fresh_at b at d)) e ∙ f.2)) (eq-eqb _ _ (sym e)))))
            (λ ne. get_or-set_other (rows p) _ (base + i) _ 0 (λ e. ne (omega arith)) ∙ before ∙ pass (ne_eqb _ _ (λ e. ne (sym e)))))
            (fit_cases n p (and_right _ _ q))
          where
            far : {d : ℕ} (i : ℕ) → i < 4 → d ≡ 255 → d ≡ i → ⊥
            far i h e f = omega arith

            inside : byte b (at + p) ≤ n → base + byte b (at + p) < length (rowed targets base b at p)
            inside u = omega (arith, length-rowed p)

        -- the next byte can be marked just if it fits
        pub rowed-fits : {l : List ℕ} {r : Bool} {v : ℕ} (p : ℕ) → l ≡ rowed targets base b at p → p ≤ 4 → all_below p (fits_at b n at) ≡ true
            → v ≡ byte b (at + p) → r ≡ markable l base n v → r ≡ fits_at b n at p
        unfolding fits_at markable
        rowed-fits {l} p e small q w r = r ∙ ap (λ (x : ℕ). markable l base n x) w ∙ ⊎_elim
            (λ w. or_left _ w ∙ sym (or_left _ w))
            (λ w. same_test _ _
            (λ t. or_right _ (let u = or_rest w t in and_of (and_left _ _ u) (sym (code (leb-true _ _ (and_left _ _ u))) ∙ and_right _ _ u)))
            (λ t. or_right _ (let u = or_rest w t in and_of (and_left _ _ u) (code (leb-true _ _ (and_left _ _ u)) ∙ and_right _ _ u))))
            (true_or_false (eqb (byte b (at + p)) 255))
          where
            code : byte b (at + p) ≤ n → eqb (get_or l (base + byte b (at + p)) 0) 255 ≡ all_below p (fresh_at b at (byte b (at + p)))
            code h = ap (λ (x : ℕ). eqb x 255) (ap (λ (m : List ℕ). get_or m (base + byte b (at + p)) 0) e ∙ rowed-at p q (byte b (at + p)) (omega arith))
                ∙ fresh-code p (byte b (at + p)) small

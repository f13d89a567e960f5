-- What the cursor's answers tell of the bytes.
use Prim.Native.Nat.{ℕ, ◌+◌, ◌≤◌, ◌<◌}
use mathlib.Core.Path.{◌≡◌, refl, sym, ap, ◌∙◌}
use mathlib.Core.Bool.{true, false}
use mathlib.Core.List.{List}
use native.Mathlib.Omega.{arith}
use borrow.Author.Tests.{lt-ltb, le-ltb, ltb-true, ltb-false, le-leb, lt-leb, leb-true}
use lib.ListN.{length, set}
use Rattle.base.specs.Filled.{stored}
use Rattle.base.proofs.TestLaws.{and_left, and_right, and_of, and_no_left, and_no_right}
use Rattle.base.proofs.FilledLaws.{stored_next}
use Rattle.model.specs.Bytes.{byte}
use Rattle.frame.specs.Place.{TakenAt, ArcAt, step_at, after, fits, section_at}
use Rattle.frame.specs.declared.cursor.Cursor.{Cursor}
use Rattle.frame.proofs.OptionLaws.{cond_none}
use Rattle.std.specs.Prelude.{Some, None}
use Rattle.std.proofs.lemmas.Option.{cond_some, some_pair_parts}

-- ---- a byte that is there

-- a byte that was taken p bytes after a place
pub taken_at : (b : List ℕ) (from p : ℕ) {at : ℕ} {r : ℕ × Cursor} → TakenAt b at r → at ≡ from + p
    → (r.0 ≡ byte b (from + p)) × (r.1.at ≡ from + (p + 1))
taken_at b from p t e = (t.value_is ∙ ap (byte b) e, omega (arith, t.next_is))

-- three bytes in a row are an arc
pub arc_of_lem : (b : List ℕ) (at : ℕ) {x y z : ℕ × Cursor} → TakenAt b at x → TakenAt b x.1.at y → TakenAt b y.1.at z
    → ArcAt b at (record { dim = x.0; near = y.0; far = z.0 }, z.1)
arc_of_lem b at {x} {y} {z} p q r =
    let second : x.1.at ≡ at + 1 = p.next_is in
    let third : y.1.at ≡ at + 2 = omega (arith, q.next_is) in
    record {
      dim_is = p.value_is;
      near_is = q.value_is ∙ ap (byte b) second;
      far_is = r.value_is ∙ ap (byte b) third;
      next_is = omega (arith, r.next_is);
    }

-- a byte that was taken is stored behind those before it
pub stored-byte : (l : List ℕ) (base : ℕ) (b : List ℕ) (at m : ℕ) {d : List ℕ} {i v : ℕ} → d ≡ stored l base b at m → i ≡ base + m → v ≡ byte b (at + m)
    → set d i v ≡ stored l base b at (m + 1)
stored-byte l base b at m {d} {i} e q w = ap (λ (x : ℕ). set d i x) w ∙ stored_next l base b at m e q

-- ---- a byte or the end

module _ (b : List ℕ) (at : ℕ) where
  pub step-byte : at < length b → Some (byte b at, record { at = at + 1 }) ≡ step_at b at
  unfolding step_at
  step-byte h = rw (lt-ltb _ _ h) refl

  pub step_end : length b ≤ at → None ≡ step_at b at
  unfolding step_at
  step_end h = rw (le-ltb _ _ h) refl

module _ (b : List ℕ) {at : ℕ} where
  pub stepped : {v : ℕ} {c : Cursor} → Some (v, c) ≡ step_at b at → (at < length b) × (v ≡ byte b at) × (c.at ≡ at + 1)
  unfolding step_at
  stepped e =
      let t = cond_some _ _ _ (sym e) in
      let p = some_pair_parts _ _ _ _ (ap Some t.1) in
      (ltb-true _ _ t.0, sym p.0, ap (λ (d : Cursor). d.at) (sym p.1))

  pub ended : None ≡ step_at b at → length b ≤ at
  unfolding step_at
  ended e = ltb-false _ _ (cond_none _ _ (sym e))

-- ---- a count

module _ (b : List ℕ) (at least most size : ℕ) where
  pub record Fitted : Type 0 where
    pub some : least ≤ byte b at
    pub few : byte b at ≤ most
    pub within : after b at size ≤ length b

  pub fitted : fits b at least most size ≡ true → Fitted
  unfolding fits
  fitted e = record {
    some = leb-true _ _ (and_left _ _ (and_left _ _ e));
    few = leb-true _ _ (and_right _ _ (and_left _ _ e));
    within = leb-true _ _ (and_right _ _ e);
  }

  pub fitting : Fitted → fits b at least most size ≡ true
  unfolding fits
  fitting f = and_of (and_of (le-leb _ _ f.some) (le-leb _ _ f.few)) (le-leb _ _ f.within)

  pub section-count : {m k : ℕ} → m ≡ byte b at → k ≡ after b at size → Fitted → Some (m, record { at = k }) ≡ section_at b at least most size
  unfolding section_at
  section-count p z f = rw (p, z, fitting f) refl

  pub section-bad : fits b at least most size ≡ false → None ≡ section_at b at least most size
  unfolding section_at
  section-bad e = rw e refl

  pub below-least : byte b at < least → fits b at least most size ≡ false
  unfolding fits
  below-least h = and_no_left _ (and_no_left _ (lt-leb _ _ h))

  pub above_most : most < byte b at → fits b at least most size ≡ false
  unfolding fits
  above_most h = and_no_left _ (and_no_right _ (lt-leb _ _ h))

  pub beyond : length b < after b at size → fits b at least most size ≡ false
  unfolding fits
  beyond h = and_no_right _ (lt-leb _ _ h)

-- what a count's answer tells, with the place, the bound and the size as the model names them
module _ (b : List ℕ) (at least most size : ℕ) {at' most' size' : ℕ} (p : at' ≡ at) (q : most' ≡ most) (z : size' ≡ size) where
  pub counted : {m : ℕ} {c : Cursor} → Some (m, c) ≡ section_at b at' least most' size'
      → (m ≡ byte b at) × (c.at ≡ after b at size) × Fitted b at least most size
  unfolding section_at
  counted e =
      let t = cond_some _ _ _ (sym (rw (p, q, z) at e)) in
      let u = some_pair_parts _ _ _ _ (ap Some t.1) in
      (sym u.0, ap (λ (d : Cursor). d.at) (sym u.1), fitted b at least most size t.0)

  pub uncounted : None ≡ section_at b at' least most' size' → fits b at least most size ≡ false
  unfolding section_at
  uncounted e = cond_none _ _ (sym (rw (p, q, z) at e))

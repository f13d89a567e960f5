-- The tests of a file's form: what each says where the code stops, and what they say together.
use Prim.Native.Nat.{ℕ, zero, suc, ◌+◌, ◌-◌, ◌*◌, ◌≤◌, ◌<◌}
use mathlib.Core.Path.{◌≡◌, refl, sym, ap, ap₂, ◌∙◌}
use mathlib.Core.Logic.{◌⊎◌, inl, inr, ⊎_elim}
use mathlib.Core.Bool.{Bool, true, false, true≢false, ◌&&◌}
use Rattle.std.specs.Prelude.{Some, None}
use mathlib.Core.List.{List}
use native.Mathlib.Numerals.{add-one}
use native.Mathlib.Omega.{arith}
use lib.ListN.{length}
use lib.Dec.{eqb, ltb}
use borrow.Author.Tests.{eqb-true, eq-eqb, ne_eqb, ltb-true, lt-ltb, le-ltb}
use Rattle.base.specs.Test.{◌and◌}
use Rattle.base.specs.Below.{all_below}
use Rattle.base.specs.First.{some_if}
use Rattle.base.specs.Digits.{number_at}
use Rattle.base.proofs.TestLaws.{both, and_left, and_right, and_of, and_true, and_assoc, true_or_false, same_test}
use Rattle.base.proofs.BelowLaws.{below_suc, below_step, all-at, all_of, all_none, all-stops, all-step}
use Rattle.model.specs.File.{slots_from, size_in, darts_in, slot_in, form_in}
use Rattle.file.specs.Form.{head_ok, counts_ok, frame_ok, framed, rises, slots_ok}
use Rattle.file.specs.Records.{Formed}

pub three_le : {n : ℕ} → (n ≡ 2) ⊎ (n ≡ 3) → n ≤ 3
three_le (inl e) = omega arith
three_le (inr e) = omega arith

-- ---- two numbers that are to be two others

pub pair_no : (v a n : ℕ) (t : Bool) → v ≡ a → (v ≡ n → ⊥) → false ≡ (eqb a n and t)
unfolding ◌and◌
pair_no v a n t e d = rw (← e, ne_eqb v n d)

-- the test of the first, which is all that is read then
pub pair_off : (v a n : ℕ) (t : Bool) → v ≡ a → (v ≡ n → ⊥) → eqb v n ≡ (eqb a n and t)
pair_off v a n t e d = ne_eqb v n d ∙ pair_no v a n t e d

pub pair_is : (v a n w c k : ℕ) → v ≡ a → v ≡ n → w ≡ c → eqb w k ≡ (eqb a n and eqb c k)
unfolding ◌and◌
pair_is v a n w c k e d f = rw (← e, eq-eqb v n d, ← f)

pub ruleset pairs = (pair_is, pair_off)

-- ---- the frame

module _ (w n N : ℕ) (b : List ℕ) where
  refuted : {t : Bool} → (frame_ok w n N b ≡ true → t ≡ true) → t ≡ false → None ≡ framed w n N b
  unfolding framed some_if
  refuted f e = ⊎_elim (λ y. absurd (true≢false (sym (f y) ∙ e))) (λ y. rw y refl) (true_or_false (frame_ok w n N b))

  pub frame_length : frame_ok w n N b ≡ true → length b ≡ size_in w n (darts_in w b)
  unfolding frame_ok
  frame_length t = eqb-true _ _ (and_right _ _ t)

  pub frame_short : length b < 1 + 4 * w → None ≡ framed w n N b
  unfolding frame_ok
  frame_short h = refuted (λ y. and_right _ _ y) (ne_eqb (length b) _ (λ e. omega (arith)))

  pub frame_head : (r : Bool) → r ≡ head_ok w n N b → r ≡ false → None ≡ framed w n N b
  unfolding frame_ok
  frame_head r e h = refuted (λ y. and_left _ _ (and_left _ _ y)) (sym e ∙ h)

  module _ (L : ℕ) (e : L ≡ darts_in w b) where
    pub frame_size : (length b ≡ size_in w n L → ⊥) → None ≡ framed w n N b
    unfolding frame_ok
    frame_size h = refuted (λ y. and_right _ _ y) (rw (← e) (ne_eqb (length b) _ h))

    pub frame_counts : (r : Bool) → r ≡ counts_ok w b L → r ≡ false → None ≡ framed w n N b
    unfolding frame_ok
    frame_counts r f h = refuted (λ y. and_right _ _ (and_left _ _ y)) (rw (← e) (sym f ∙ h))

    whole : (r s : Bool) → r ≡ head_ok w n N b → r ≡ true → length b ≡ size_in w n L → s ≡ counts_ok w b L → s ≡ true → frame_ok w n N b ≡ true
    unfolding frame_ok
    whole r s f h z g k = and_of (and_of (sym f ∙ h) (rw (← e) (sym g ∙ k))) (rw (← e) (eq-eqb (length b) _ z))

    pub frame_is : (r s : Bool) → r ≡ head_ok w n N b → r ≡ true → length b ≡ size_in w n L → s ≡ counts_ok w b L → s ≡ true
        → Some L ≡ framed w n N b
    unfolding framed some_if
    frame_is r s f h z g k = rw (whole r s f h z g k, e) refl

pub ruleset frames = (frame_short, frame_head, frame_size, frame_counts, frame_is)

-- ---- the slots

module _ (w : ℕ) (b : List ℕ) where
  -- the slot that is read at the k-th place
  pub here : (k at x : ℕ) → at ≡ slots_from w + w + w * k → x ≡ number_at w b at → x ≡ slot_in w b k
  unfolding slot_in
  here k at x e f = f ∙ ap (number_at w b) e

  pub rise_none : true ≡ rises w b 0
  unfolding rises all_below
  rise_none = refl

  module _ (k low high : ℕ) (e : low ≡ slot_in w b k) (f : high ≡ slot_in w b (k + 1)) where
    pub rise_stops : high ≤ low → false ≡ rises w b (k + 1)
    unfolding rises
    rise_stops l = all-stops _ k (k + 1) (omega arith) (rw (← e, ← f) (le-ltb low high l))

    pub rise_more : (g : Bool) → g ≡ rises w b k → low < high → g ≡ rises w b (k + 1)
    unfolding rises
    rise_more g q l = rw (all-step, ← e, ← f, lt-ltb low high l, and_true) q

    -- a pair more, whether it rises or not
    pub rise_step : (g : Bool) → g ≡ rises w b k → (g && ltb low high) ≡ rises w b (k + 1)
    unfolding rises
    rise_step g q = both q (ap₂ ltb e f) ∙ sym (all-step k _)

  -- slots that rise one by one are below all that come after
  rise_far : (m : ℕ) → rises w b m ≡ true → (j k : ℕ) → j < k → k ≤ m → slot_in w b j < slot_in w b k
  unfolding rises
  rise_far m t j zero l h = absurd (omega arith)
  rise_far m t j (suc k) l h =
      let next : slot_in w b k < slot_in w b (suc k) = rw (← add-one k) (ltb-true _ _ (all-at m _ t k h)) in
      ⊎_elim (λ e. rw e next) (λ l₂. let r = rise_far m t j k l₂ (omega arith) in omega arith) (below_suc l)

module _ (w N : ℕ) (b : List ℕ) where
  pub slots-none : (L : ℕ) → L ≡ 0 → true ≡ slots_ok w N b L
  unfolding slots_ok
  slots-none L e = rw e (sym (all_none _))

  module _ (m L x : ℕ) (e : L ≡ m + 1) (f : x ≡ slot_in w b m) where
    -- where the last slot is not below N, the slots are not in order
    pub slots-out : N ≤ x → false ≡ slots_ok w N b L
    unfolding slots_ok ◌and◌
    slots-out l = all-stops _ m L (omega arith) (rw (← f, le-ltb x N l) refl)

    -- where the last slot is below N, all that rise to it are
    pub slots_rise : x < N → rises w b m ≡ slots_ok w N b L
    unfolding slots_ok rises
    slots_rise l = same_test _ _
        (λ t. all_of L _ (λ k h. and_of (lt-ltb _ _ (below t k h)) (all_of k _ (λ o g. lt-ltb _ _ (rise_far w b m t o k g (omega arith))))))
        (λ t. all_of m _ (λ o h. all-at (o + 1) _ (and_right _ _ (all-at L _ t (o + 1) (omega arith))) o (omega arith)))
      where
        below : rises w b m ≡ true → (k : ℕ) → k < L → slot_in w b k < N
        below t k h = ⊎_elim
            (λ (q : k ≡ m). rw (q, ← f) l)
            (λ (q : k < m). let r = rise_far w b m t k m q (omega arith) in omega arith)
            (below_step (rw (← e) h))

  -- the last slot, where it is read
  module _ (L at x : ℕ) (some : L ≡ 0 → ⊥) (p : at ≡ 1 + w + w * L) (f : x ≡ number_at w b at) where
    last : L ≡ L - 1 + 1
    last = omega arith

    last_slot : x ≡ slot_in w b (L - 1)
    last_slot = here w b (L - 1) at x (p ∙ ap (λ (k : ℕ). 1 + w + w * k) last ∙ omega arith) f

    pub last_out : N ≤ x → ltb x N ≡ slots_ok w N b L
    last_out l = le-ltb x N l ∙ slots-out (L - 1) L x last last_slot l

    pub last_rise : x < N → rises w b (L - 1) ≡ slots_ok w N b L
    last_rise = slots_rise (L - 1) L x last last_slot

pub ruleset rising = (here, rise_none, rise_step)

pub ruleset slots = (slots-none, last_out, last_rise)

-- ---- the model's form

module _ (w n N : ℕ) (b : List ℕ) where
  pub form-is : form_in w n N b ≡ (frame_ok w n N b and slots_ok w N b (darts_in w b))
  unfolding form_in frame_ok head_ok counts_ok slots_ok
  form-is = ap (λ (t : Bool). t and eqb (length b) (size_in w n (darts_in w b)) and slots_ok w N b (darts_in w b)) (and_assoc _ _ _)

  module _ (t : (frame_ok w n N b and slots_ok w N b (darts_in w b)) ≡ true) where
    pub formed : Formed w n N b
    unfolding slots_ok
    formed = record {
      size = frame_length w n N b (and_left _ _ t);
      below = λ k h. ltb-true _ _ (and_left _ _ (all-at (darts_in w b) _ (and_right _ _ t) k h));
      ascends = λ j k l h. ltb-true _ _ (all-at k _ (and_right _ _ (all-at (darts_in w b) _ (and_right _ _ t) k h)) j l);
    }

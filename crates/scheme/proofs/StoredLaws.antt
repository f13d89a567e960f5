-- Bytes that are copied to the front of a list, or tested, as a part of the bytes.
use Prim.Native.Nat.{ℕ, zero, suc, ◌+◌, ◌≤◌, ◌<◌}
use mathlib.Core.Path.{◌≡◌, refl, sym, ap, ap₂, ◌∙◌}
use mathlib.Core.Bool.{Bool, true}
use mathlib.Core.Logic.{◌↔◌}
use mathlib.Core.List.{List, ◌∷◌, ◌++◌, []}
use native.Mathlib.Omega.{arith}
use lib.ListN.{length, get_or, set, take, drop}
use lib.Seq.{take-suc, drop-cons, set-append_seam, length-take-le, get_or-take, get_or-drop}
use Rattle.std.proofs.lemmas.List.{append_assoc, length-drop}
use borrow.Author.Tests.{eq-eqb, eqb-true}
use Rattle.base.specs.Below.{all_below}
use Rattle.base.specs.Filled.{stored}
use Rattle.base.proofs.TestLaws.{same_test}
use Rattle.base.proofs.BelowLaws.{all-at, all_of}
use Rattle.scheme.specs.Words.{empty_at}

-- a part of s before the rest of l is that part stored in l
pub stored-front : (l s : List ℕ) (at m : ℕ) → at + m ≤ length s → m ≤ length l → take m (drop at s) ++ drop m l ≡ stored l 0 s at m
unfolding stored
stored-front l s at zero h k = refl
stored-front l s at (suc m) h k =
    let front = take m (drop at s) in
    let rest = drop (suc m) l in
    let x = get_or (drop at s) m 0 in
    let long : m < length (drop at s) = omega (arith, length-drop at s) in
    let here : length front ≡ 0 + m = length-take-le m (drop at s) (omega arith) ∙ omega arith in
    ap (λ (t : List ℕ). t ++ rest) (take-suc (drop at s) m 0 long) ∙ append_assoc front (x ∷ []) rest
    ∙ sym (set-append_seam front (get_or l m 0) rest x)
    ∙ ap₂ (λ (t : List ℕ) (i : ℕ). set (front ++ t) i x) (sym (drop-cons l m 0 k)) here
    ∙ ap₂ (λ (t : List ℕ) (v : ℕ). set t (0 + m) v) (stored-front l s at m (omega arith) (omega arith)) (get_or-drop at s m 0)

-- a part of s whose bytes are all 255
pub part-empty : (s : List ℕ) (at m : ℕ) {r : Bool} → at + m ≤ length s
    → (r ≡ true ↔ ((k : ℕ) → k < length (take m (drop at s)) → get_or (take m (drop at s)) k 0 ≡ 255)) → r ≡ all_below m (empty_at s at)
unfolding empty_at
part-empty s at m {r} h e =
    let long : length (take m (drop at s)) ≡ m = length-take-le m (drop at s) (omega (arith, length-drop at s)) in
    let byte : (k : ℕ) → k < m → get_or (take m (drop at s)) k 0 ≡ get_or s (at + k) 0 = λ k l. get_or-take m (drop at s) k 0 l ∙ get_or-drop at s k 0 in
    same_test _ _
    (λ t. all_of m _ (λ k l. eq-eqb _ _ (sym (byte k l) ∙ e.0 t k (omega arith))))
    (λ q. e.1 (λ k l. let inside : k < m = omega arith in byte k inside ∙ eqb-true _ _ (all-at m _ q k inside)))

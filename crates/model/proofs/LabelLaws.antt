-- After a rewriting every live dart has its own tag, or that of its donor's dart, from before.
use Prim.Native.Nat.{ℕ, ◌<◌}
use mathlib.Core.Path.{◌≡◌, refl, sym, ap, ◌∙◌, subst}
use mathlib.Core.Logic.{⊎_elim}
use mathlib.Core.Bool.{true}
use native.Mathlib.Omega.{arith}
use Rattle.base.proofs.TestLaws.{or_cases}
use Rattle.model.specs.Map.{Map, State, Tag}
use Rattle.model.specs.Scheme.{left, right, donor, has}
use Rattle.model.specs.Accepted.{Accepted}
use Rattle.model.specs.Site.{Site, LiveDart}
use Rattle.model.specs.Rewriting.{Rewriting}
use Rattle.model.specs.Label.{Label, own, given}
use Rattle.model.proofs.AcceptedLaws.{donor-left}
use Rattle.model.proofs.KindLaws.{preserved-left}
use Rattle.model.proofs.RewritingOnce.{Role, right_pair, gone_pair, no_pair, role}

-- where an edit is accepted the darts of the orbit are slots
module _ (E : Site) (a : Accepted E.scheme) (slot : (u : ℕ) → E.orbit u ≡ true → u < E.map.slots) {m' : Map} {f : ℕ → ℕ → ℕ} (r : Rewriting E m' f) where
  open E use {map as m, scheme as S, orbit as O}

  -- the dart of a left pair was live
  matched-live : (u s : ℕ) → O u ≡ true → s < S.nodes → has S left s ≡ true → LiveDart m (f u s)
  matched-live u s e h l = let d = r.assigned.darts u (slot u e) e s h l in record { slot = d.0; alive = d.1 }

  -- the dart of a preserved or added pair
  of_pair : (u s : ℕ) → O u ≡ true → s < S.nodes → has S right s ≡ true → Label E f (f u s) (m'.tag (f u s))
  of_pair u s e h z = ⊎_elim
      (λ p. own (matched-live u s e h (preserved-left S s p)) (r.kept_tag u s e h p))
      (λ n. given (f u (donor S s)) (record {
        dart = u;
        node = s;
        in_orbit = e;
        below = h;
        is_added = n;
        new = refl;
        was_free = r.was_free u s e h n;
        donor_below = a.shaped.donor_below s h;
        donor_left = donor-left S a s h;
        giver = refl;
        alive = matched-live u (donor S s) e (a.shaped.donor_below s h) (donor-left S a s h);
      }) (r.new_tag u s e h n))
      (or_cases _ _ z)

  pub label-follows : (x : ℕ) → x < m.slots → m'.state x ≡ 1 → Label E f x (m'.tag x)
  label-follows x b live = by-role (role S a.shaped m.slots O f x slot)
    where
      by-role : Role S O f x → Label E f x (m'.tag x)
      by-role (right_pair u s e h z w) = subst (λ (y : ℕ). Label E f y (m'.tag y)) w (of_pair u s e h z)
      by-role (gone_pair u s e h d w off) =
          let gone : m'.state (f u s) ≡ 0 = r.gone u s e h d (λ v t i k n y. off v t i k n (y ∙ w)) State (omega arith) in
          let same : m'.state (f u s) ≡ m'.state x = ap m'.state w in
          absurd (omega arith)
      by-role (no_pair off) =
          own (record { slot = b; alive = sym (r.others x off State (omega arith)) ∙ live }) (r.others x off Tag (omega arith))

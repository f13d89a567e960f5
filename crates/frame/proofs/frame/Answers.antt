-- `frame::frame` meets its contract.
use mathlib.Core.Path.{◌≡◌, refl, sym, ◌∙◌}
use native.Mathlib.Omega.{arith}
use borrow.Author.Tests.{eqb-true, eqb-false}
use Rattle.model.specs.Bytes.{arcs_at, arc_count}
use Rattle.model.specs.Scheme.{left, right}
use Rattle.frame.specs.Place.{after}
use Rattle.frame.specs.Frame.{FrameOf}
use Rattle.frame.proofs.OptionLaws.{then_some-cases}
use Rattle.frame.proofs.PlaceLaws.{Fitted, counted, uncounted}
use Rattle.frame.proofs.FrameLaws.{no_arcs, other-end}
use Rattle.frame.proofs.frame.Goals as goal
use Rattle.frame.proofs.frame.Goals.{In_ok-lcount, In_ok-rcount}

-- what the count of left arcs is, and where that of right arcs is
lefts-told : (c : In_ok-lcount) → let b = c.args.bytes.now in
    (c.in_ok-lcount.lcount ≡ arc_count b left) × (c.in_ok-lcount.second.at ≡ arcs_at b right) × Fitted b (arcs_at b left) 0 64 3
unfolding after
lefts-told c =
    let s = counted _ _ 0 64 3 c.in_ok-n.ensures.2 refl refl c.in_ok-lcount.ensures in
    (s.0, s.1 ∙ omega arith, s.2)

-- what the count of right arcs is, and the place after them
rights-told : (c : In_ok-rcount) → let b = c.args.bytes.now in c.in_ok-lcount.second.at ≡ arcs_at b right
    → (c.in_ok-rcount.rcount ≡ arc_count b right) × (c.in_ok-rcount.third.at ≡ after b (arcs_at b right) 3) × Fitted b (arcs_at b right) 0 64 3
rights-told c at = counted _ _ 0 64 3 at refl refl c.in_ok-rcount.ensures

pub returns-in_err-lcount : goal.returns-in_err-lcount
returns-in_err-lcount c =
    rw c.from_residual-in_err-lcount.ensures (no_arcs _ left (uncounted _ _ 0 64 3 c.in_ok-n.ensures.2 refl refl c.in_err-lcount.ensures))

pub returns-in_err-rcount : goal.returns-in_err-rcount
returns-in_err-rcount c =
    let h = lefts-told (goal.at.returns-in_err-rcount c).In_ok-lcount in
    rw c.from_residual-in_err-rcount.ensures (no_arcs _ right (uncounted _ _ 0 64 3 h.1 refl refl c.in_err-rcount.ensures))

pub returns : goal.returns
unfolding after
returns c =
    let b = c.args.bytes.now in
    let g = lefts-told (goal.at.returns c).In_ok-lcount in
    let h = rights-told (goal.at.returns c).In_ok-rcount g.1 in
    let o = c.in_ok-n.ensures in
    let few = h.2 in
    let fewer = g.2 in
    let last = c.in_ok-rcount.third.at in
    rw c.then_some.ensures (then_some-cases (FrameOf b) _ _
    (λ e. record {
      headed = o.0;
      lcount_is = g.0;
      lcount_few = omega arith;
      rcount_is = h.0;
      rcount_few = omega arith;
      first_is = o.1;
      ends = sym (eqb-true _ _ e) ∙ h.1 ∙ omega arith;
    })
    (λ e. other-end b (λ q. eqb-false _ _ e (h.1 ∙ q))))

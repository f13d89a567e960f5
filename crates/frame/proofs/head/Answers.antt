-- `frame::head` meets its contract.
use Prim.Native.Nat.{ℕ, ◌+◌, ◌<◌}
use mathlib.Core.Path.{◌≡◌, refl, ap, ◌∙◌}
use mathlib.Core.Logic.{⊎_elim}
use native.Mathlib.Omega.{arith}
use lib.ListN.{length}
use Rattle.base.specs.Test.{bit}
use Rattle.model.specs.Bytes.{names_second, names_donors, dimension_of, places_of, hook_bytes}
use Rattle.frame.specs.Place.{after}
use Rattle.frame.proofs.PlaceLaws.{Fitted, stepped, ended, counted, uncounted}
use Rattle.frame.proofs.FrameLaws.{from_bool-bit, two_or_three, first_told, no_bytes, low-dimension, high_dimension, no_places}
use Rattle.frame.proofs.head.Goals as goal
use Rattle.frame.proofs.head.Goals.{After-marks_of-n, In_ok-places}

-- what the first byte says
took : (c : After-marks_of-n) → let b = c.args.bytes.now in let m = c.marks_of-n.result in
    (0 < length b) × (m.hook ≡ names_second b) × (m.donors ≡ names_donors b) × (m.n ≡ dimension_of b) × (c.in_ok-start.first.at ≡ 1)
took c =
    let s = stepped _ c.in_ok-start.ensures in
    let t = first_told _ s.1 c.marks_of-n.ensures in
    (s.0, t.0, t.1, t.2, s.2)

-- what the count of places is, and where the count of nodes is
places-told : (c : In_ok-places) → let b = c.args.bytes.now in c.marks_of-n.result.n ≡ dimension_of b → c.in_ok-start.first.at ≡ 1
    → (c.in_ok-places.places ≡ places_of b) × (c.in_ok-places.second.at ≡ 2 + places_of b) × Fitted b 1 0 (dimension_of b + 1) 1
unfolding after
places-told c n first =
    let s = counted _ 1 0 _ 1 first (ap (λ (n : ℕ). n + 1) n) refl c.in_ok-places.ensures in
    (s.0, omega arith, s.2)

pub returns-in_err-start : goal.returns-in_err-start
returns-in_err-start c = rw c.from_residual.ensures (no_bytes _ (ended _ c.in_err-start.ensures))

pub returns-then-n-lt2 : goal.returns-then-n-lt2
returns-then-n-lt2 c =
    let t = took (goal.at.returns-then-n-lt2 c).After-marks_of-n in
    ⊎_elim (λ h. low-dimension _ (omega arith)) (λ h. high_dimension _ (omega arith)) c.then-n-lt2.either

pub returns-in_err-places : goal.returns-in_err-places
returns-in_err-places c =
    let t = took (goal.at.returns-in_err-places c).After-marks_of-n in
    rw c.from_residual-in_err-places.ensures (no_places _ (uncounted _ 1 0 _ 1 t.4 (ap (λ (n : ℕ). n + 1) t.3) refl c.in_err-places.ensures))

pub count_nodes-requires : goal.count_nodes-requires
count_nodes-requires c =
    let t = took (goal.at.count_nodes-requires c).After-marks_of-n in
    let p = places-told (goal.at.count_nodes-requires c).In_ok-places t.3 t.4 in
    let f = p.2 in
    record { node_size = record { places_is = p.0; places_few = omega arith; donors_is = t.2 }; at_count = p.1 }

pub returns : goal.returns
unfolding hook_bytes
returns c =
    let t = took (goal.at.returns c).After-marks_of-n in
    let p = places-told (goal.at.returns c).In_ok-places t.3 t.4 in
    let s = c.in_ok-nodes.ensures in
    let count = s.0 in
    let place = s.1 in
    let f = p.2 in
    let hook = from_bool-bit c.marks_of-n.result.hook ∙ ap bit t.1 in (
      record {
        n_is = t.3;
        hook_is = t.1;
        donors_is = t.2;
        places_is = p.0;
        nodes_is = count.nodes_is;
        dimension = two_or_three (omega arith) (omega arith);
        places_few = omega arith;
        nodes_some = count.some;
        nodes_few = count.few;
      },
      t.4,
      omega arith,
    )

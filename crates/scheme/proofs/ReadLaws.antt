-- The parts of a scheme that was read, put together.
use Prim.Native.Nat.{ℕ, ◌+◌, ◌*◌, ◌≤◌}
use mathlib.Core.Path.{◌≡◌, refl, sym, ◌∙◌}
use mathlib.Core.Logic.{inl, inr, ⊎_elim}
use mathlib.Core.Bool.{Bool, true, false}
use mathlib.Core.List.{List}
use native.Mathlib.Omega.{arith}
use lib.ListN.{length}
use Rattle.base.specs.Below.{all_below}
use Rattle.base.proofs.TestLaws.{refuted}
use Rattle.model.specs.Bytes.{nodes_of, second_of, arcs_at, arc_count}
use Rattle.model.specs.Scheme.{Side, left, right, orbit_form, node_form, donor_form, second_form, arcs_form, in_form, scheme_of}
use Rattle.frame.specs.Frame.{LaidOut}
use Rattle.scheme.specs.Nodes.{Noded}
use Rattle.scheme.specs.Arcs.{ArcsPlaced, ArcsRead}
use Rattle.std.specs.Prelude.{Option, Some, None}
use Rattle.std.proofs.lemmas.Option.{cond_some}
use Rattle.frame.proofs.OptionLaws.{cond_none}
use Rattle.scheme.specs.Reading.{read_as, reading}
use Rattle.scheme.specs.declared.Reading.{Reading}
use Rattle.frame.specs.declared.Layout.{Layout}
use Rattle.scheme.specs.declared.Reading.{Reading}
use Rattle.model.proofs.FormLaws.{parts, whole}
use Rattle.scheme.proofs.TwiceLaws.{twice_same}

-- ---- a part that is not in the form

module _ (b : List ℕ) where
  pub no_orbit : orbit_form b ≡ false → in_form b ≡ false
  no_orbit e = refuted (λ q. (parts b q).orbit) e

  pub no_nodes : all_below (nodes_of b) (node_form b) ≡ false → in_form b ≡ false
  no_nodes e = refuted (λ q. (parts b q).nodes) e

  pub no_donors : all_below (nodes_of b) (donor_form b) ≡ false → in_form b ≡ false
  no_donors e = refuted (λ q. (parts b q).donors) e

  pub no_second : second_form b ≡ false → in_form b ≡ false
  no_second e = refuted (λ q. (parts b q).second) e

  pub no_arcs : (side : Side) → arcs_form b side ≡ false → in_form b ≡ false
  no_arcs side e = refuted (λ q. (parts b q).arcs side) e

-- ---- what is known before the arcs are read, and after it

module _ (b : List ℕ) (l : Layout) (laid : LaidOut b l) (nodes : all_below (nodes_of b) (node_form b) ≡ true) where
  -- the arcs of a side are few and lie within the bytes
  side-inside : (side : Side) → (arc_count b side ≤ 64) × (arcs_at b side + 1 + 3 * arc_count b side ≤ length b)
  side-inside left = (omega (arith, laid.lcount_is, laid.lcount_few), omega (arith, laid.ends))
  side-inside right = (omega (arith, laid.rcount_is, laid.rcount_few), omega (arith, laid.ends))

  pub placed-side : {kinds : List ℕ} {from : ℕ} → kinds ≡ (scheme_of b).kinds → (side : Side)
      → from ≡ arcs_at b side → ArcsPlaced b l kinds side from
  placed-side k side f = let i = side-inside side in record {
    laid = laid;
    nodes = nodes;
    kinds_are = k;
    from_is = f;
    few = i.0;
    inside = i.1;
  }

  pub all-formed : orbit_form b ≡ true → all_below (nodes_of b) (donor_form b) ≡ true → second_form b ≡ true → arcs_form b left ≡ true
      → arcs_form b right ≡ true → in_form b ≡ true
  all-formed orbit donors second lefts rights =
      let h = laid.headed in
      whole b (record {
        dimension = ⊎_elim (λ e. inl (sym h.n_is ∙ e)) (λ e. inr (sym h.n_is ∙ e)) h.dimension;
        orbit = orbit;
        nodes_some = omega arith;
        nodes_few = omega arith;
        nodes = nodes;
        donors = donors;
        second = second;
        arcs = λ side. sides side;
        ends = laid.ends;
      })
    where
      sides : (side : Side) → arcs_form b side ≡ true
      sides left = lefts
      sides right = rights

-- ---- the reading

module _ (b : List ℕ) where
  pub read-broken : in_form b ≡ false → None ≡ reading b
  unfolding reading
  read-broken e = rw e refl

  -- and what is read tells the form and the scheme
  pub broken-read : None ≡ reading b → in_form b ≡ false
  unfolding reading
  broken-read e = cond_none (in_form b) _ (sym e)

  pub formed-read : {r : Reading} → Some r ≡ reading b → (in_form b ≡ true) × (r ≡ read_as (scheme_of b))
  unfolding reading
  formed-read e = let t = cond_some (in_form b) _ _ (sym e) in (t.0, sym t.1)

  -- the reading is made of its parts
  pub read-formed : {l : Layout} {first second third hook : ℕ} {orbit kinds donors lwords rwords lplaced rplaced larcs ltargets rarcs rtargets : List ℕ}
      {ltwice rtwice : List Bool} → in_form b ≡ true → LaidOut b l → orbit ≡ (scheme_of b).orbit → Noded b first kinds lwords rwords lplaced rplaced
      → donors ≡ (scheme_of b).donors → hook ≡ second_of b → ArcsRead b left second larcs ltargets ltwice → ArcsRead b right third rarcs rtargets rtwice
      → ◌≡◌ {A = Option Reading} (Some (record {
        scheme = record {
          n = l.n;
          places = l.places;
          orbit = orbit;
          nodes = l.nodes;
          second = hook;
          kinds = kinds;
          donors = donors;
          lwords = lwords;
          rwords = rwords;
          ltargets = ltargets;
          rtargets = rtargets;
          lcount = l.lcount;
          larcs = larcs;
          rcount = l.rcount;
          rarcs = rarcs;
        };
        ltwice = ltwice;
        rtwice = rtwice;
      })) (reading b)
  unfolding reading scheme_of
  read-formed e laid o n d h f g = rw (
    e,
    laid.headed.n_is,
    laid.headed.places_is,
    laid.headed.nodes_is,
    laid.lcount_is,
    laid.rcount_is,
    o,
    n.kinds_is,
    n.lwords_is,
    n.rwords_is,
    d,
    h,
    f.arcs_is,
    f.targets_is,
    g.arcs_is,
    g.targets_is,
    f.twice_is ∙ twice_same b e left,
    g.twice_is ∙ twice_same b e right,
  ) refl

-- `bench::session::session` meets its contract: the lines of the darts and the last one are printed.
use Prim.Native.Nat.{◌≤◌}
use mathlib.Core.Path.{◌∙◌}
use native.Mathlib.Omega.{arith}
use lib.ListN.{length}
use Rattle.bench.proofs.PrintedLaws.{printed_session, edits-room, tally_few, last-room, wrote_run}
use Rattle.bench.proofs.SessionLaws.{stands-long}
use Rattle.bench.specs.Session.{longest}
use Rattle.bench.proofs.session.session.Goals as goal

pub edits-at-requires : goal.edits-at-requires
edits-at-requires c =
    record {
      laid = c.requires.laid;
      map_open = c.requires.map_open;
      stands = c.requires.stands;
      lines_in_bounds = edits-room _ _ c.args.out.now c.requires.laid c.requires.longest_in_bounds;
    }

pub invariant_of-edited : goal.invariant_of-edited
invariant_of-edited c =
    record {
      sized = record {
        few = omega (arith, c.requires.map_open.few);
        long = c.edits-at.auto.table ∙ stands-long _ _ _ c.requires.map_open _ _ c.requires.stands;
      };
    }

pub last_line-requires : goal.last_line-requires
last_line-requires c =
    let small = c.requires.map_open.few in
    let room : longest ≤ length c.edits-at.new.out = omega (arith, c.requires.longest_in_bounds, c.edits-at.auto.out) in
    last-room c.args.input.now c.edits-at.new.out _ c.args.layout.darts _ _ c.edits-at.ensures.upper_bound c.requires.laid.darts_fit
    (tally_few _ _ _ c.tally-live.ensures small) (tally_few _ _ _ c.tally-unused.ensures small) room

pub returns : goal.returns
returns c =
    let small = c.requires.map_open.few in
    let x = c.tally-live.ensures in
    let y = c.tally-unused.ensures in
    wrote_run _ _ _ _ _ c.args.layout.darts _ _ _ _ c.edits-at.ensures.upper_bound c.requires.laid.darts_fit (tally_few _ _ _ x small) (tally_few _ _ _ y small)
    (printed_session _ _ c.requires.laid _ _ _ _ _ c.requires.map_open c.edits-at.ensures.table_after x y) c.edits-at.ensures.put c.last_line.ensures

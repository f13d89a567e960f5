-- `bench::run` meets its contract: the refusals of the framing and of the map's opening, and the session.
use Prim.Native.Nat.{ℕ, ◌*◌, ◌≤◌, ◌<◌}
use mathlib.Core.Path.{◌≡◌, sym}
use native.Mathlib.Omega.{arith}
use lib.ListN.{length, length-replicate}
use lib.Seq.{length-take-le}
use Rattle.model.specs.Answer.{Answer, number}
use Rattle.model.specs.Map.{table_size}
use Rattle.model.proofs.AnswerLaws.{number-few}
use Rattle.program.specs.Opening.{most_slots, MapOpen}
use Rattle.program.proofs.OpeningLaws.{open_of, refused_of}
use Rattle.bench.specs.Bench.{map_bytes, map_answer}
use Rattle.bench.specs.Input.{Laid}
use Rattle.bench.proofs.FramingLaws.{fault_of_lem, laid_of}
use Rattle.bench.proofs.PrintedLaws.{printed-fault, printed-refused, refused-room, wrote_refused, printed_of}
use Rattle.bench.proofs.SessionLaws.{map-part, stands_open, blank_part, blank-length}
use Rattle.bench.proofs.run.Goals as goal
use Rattle.bench.proofs.run.Goals.{In-Ok}

few : (a : Answer) (k : ℕ) → k ≡ number a → k < 100
few a k e = omega (arith, e, number-few a)

-- the map is open, with the number of slots that it names
laid : (c : In-Ok) → Laid c.args.input.now c.in-Some.layout
laid c = laid_of _ _ _ c.in-Some.is c.frame.ensures

opened : (c : In-Ok) → MapOpen (map_bytes c.args.input.now) c.in-Ok.map.n c.in-Ok.map.slots
opened c = open_of _ _ _ _ (map-part _ _ (laid c)) c.in-Ok.is c.«open».ensures.opened_as

pub refused_line-requires : goal.refused_line-requires
refused_line-requires c = refused-room c.args.input.now c.args.out.now 11 (omega arith) c.requires

pub returns-in_default : goal.returns-in_default
returns-in_default c =
    printed_of _ _ _ _ c.requires (wrote_refused _ _ 11 _ _ (omega arith) (printed-fault _ (fault_of_lem _ _ c.in_default.is c.frame.ensures))
    c.refused_line.ensures)

pub overflow_add-end : goal.overflow_add-end
overflow_add-end c =
    let laid : Laid c.args.input.now c.in-Some.layout = laid_of _ _ _ c.in-Some.is c.frame.ensures in
    omega (arith, laid.map_fits)

pub refused_line-requires-in-Err : goal.refused_line-requires-in-Err
refused_line-requires-in-Err c =
    let laid : Laid c.args.input.now c.in-Some.layout = laid_of _ _ _ c.in-Some.is c.frame.ensures in
    let refused = refused_of _ _ _ _ _ (map-part _ _ laid) c.in-Err.is c.«open».ensures.opened_as c.number.ensures in
    refused-room c.args.input.now c.args.out.now _ (few (map_answer c.args.input.now) _ refused.0) c.requires

pub returns-in-Err : goal.returns-in-Err
returns-in-Err c =
    let laid : Laid c.args.input.now c.in-Some.layout = laid_of _ _ _ c.in-Some.is c.frame.ensures in
    let refused = refused_of _ _ _ _ _ (map-part _ _ laid) c.in-Err.is c.«open».ensures.opened_as c.number.ensures in
    printed_of _ _ _ _ c.requires (wrote_refused _ _ _ _ _ (few (map_answer c.args.input.now) _ refused.0) (printed-refused _ _ laid _ refused)
    c.refused_line-in-Err.ensures)

pub slice_bounds-table-end : goal.slice_bounds-table-end
slice_bounds-table-end c =
    let m = opened (goal.at.slice_bounds-table-end c).In-Ok in
    omega (arith, c.size-words.ensures, m.few, c.«open».auto.table)

pub slice_bounds-session-end : goal.slice_bounds-session-end
slice_bounds-session-end c =
    let m = opened (goal.at.slice_bounds-session-end c).In-Ok in
    let within : c.size-words.result ≤ length c.«open».new.table = omega (arith, c.size-words.ensures, m.few, c.«open».auto.table) in
    sym (length-take-le _ c.«open».new.table within)

pub slice_bounds-store-end : goal.slice_bounds-store-end
slice_bounds-store-end c = let m = opened (goal.at.slice_bounds-store-end c).In-Ok in omega (arith, m.few)

pub slice_bounds-session-end-in-Ok : goal.slice_bounds-session-end-in-Ok
slice_bounds-session-end-in-Ok c =
    let m = opened (goal.at.slice_bounds-session-end-in-Ok c).In-Ok in
    blank-length _ (16 * most_slots) (omega (arith, m.few))

pub session-requires : goal.session-requires
session-requires c =
    let i = (goal.at.session-requires c).In-Ok in
    let m = opened i in
    let blank = blank_part (16 * c.in-Ok.map.slots) (16 * most_slots) (omega (arith, m.few)) in
    record {
      laid = laid i;
      map_open = m;
      stands = stands_open _ _ _ m _ _ _ _ _ (map-part _ _ (laid i)) (length-replicate {A = ℕ} (table_size most_slots) 0) c.«open».ensures.table_after
          c.size-words.ensures blank;
      longest_in_bounds = c.requires;
    }

pub returns-in-Ok : goal.returns-in-Ok
returns-in-Ok c = printed_of _ _ _ _ c.requires c.session.ensures

-- `edit::settle` meets its contract.
use Rattle.std.proofs.Common.{◌∙◌, arith}
use Rattle.table.proofs.WordLaws.{sized_same}
use Rattle.edit.proofs.ApplyLaws.{ascending, room-few, pairs-few, no_room, room-ready, give_ready, link-ready, done}
use Rattle.edit.proofs.settle.Goals as goal

pub overflow_mul-size : goal.overflow_mul-size
overflow_mul-size c = omega (arith, pairs-few c.requires.settling 1 c.of_kind-gone.ensures.of_kind.listed.total)

pub overflow_add-room : goal.overflow_add-room
overflow_add-room c =
    omega (arith, pairs-few c.requires.settling 1 c.of_kind-gone.ensures.of_kind.listed.total, room-few c.requires.settling)

pub overflow_mul-size-2 : goal.overflow_mul-size-2
overflow_mul-size-2 c =
    let P = c.requires.settling in
    omega (arith, pairs-few P 3 (ascending P c.of_kind-new.ensures.of_kind.listed).total)

pub returns-then-room-size : goal.returns-then-room-size
returns-then-room-size c =
    λ P. no_room P (ascending P c.of_kind-new.ensures.of_kind.listed) c.of_kind-gone.ensures.of_kind.listed.total c.if-room-size.true

pub prepare-requires-clause-before_room : goal.prepare-requires-clause-before_room
prepare-requires-clause-before_room c =
    let P = c.requires.settling in
    room-ready P (ascending P c.of_kind-new.ensures.of_kind.listed) c.of_kind-gone.ensures.of_kind.listed.total c.if-room-size.false

pub give-requires : goal.give-requires
give-requires c =
    let P = c.requires.settling in
    let n = ascending P c.of_kind-new.ensures.of_kind.listed in
    let o = c.of_kind-gone.ensures.of_kind.listed.total in
    let h = c.if-room-size.false in
    record {
      sized = sized_same c.requires.sized c.prepare.auto.table;
      before_giving = give_ready P n o h (c.prepare.ensures (room-ready P n o h));
    }

pub rewrite-requires : goal.rewrite-requires
rewrite-requires c =
    let P = c.requires.settling in
    let n = ascending P c.of_kind-new.ensures.of_kind.listed in
    let o = c.of_kind-gone.ensures.of_kind.listed.total in
    let h = c.if-room-size.false in
    let r = c.prepare.ensures (room-ready P n o h) in
    record {
      sized = sized_same c.requires.sized (c.give.auto.table ∙ c.prepare.auto.table);
      before_rewriting = link-ready P n o h r (c.give.ensures (give_ready P n o h r));
    }

pub overflow_mul-result-2 : goal.overflow_mul-result-2
overflow_mul-result-2 c = omega (arith, pairs-few c.requires.settling 1 c.of_kind-gone.ensures.of_kind.listed.total)

pub overflow_cast-result-3 : goal.overflow_cast-result-3
overflow_cast-result-3 c = omega (arith, pairs-few c.requires.settling 1 c.of_kind-gone.ensures.of_kind.listed.total)

pub returns : goal.returns
returns c =
    let n = ascending c.requires.settling c.of_kind-new.ensures.of_kind.listed in
    let o = c.of_kind-gone.ensures.of_kind.listed.total in
    let h = c.if-room-size.false in
    λ P.
    let r = c.prepare.ensures (room-ready P n o h) in
    done P n o h (c.rewrite.ensures (link-ready P n o h r (c.give.ensures (give_ready P n o h r))))

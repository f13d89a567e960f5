-- `scheme::donors::read_donor` meets its contract.
use Prim.Native.Nat.{◌+◌, ◌*◌}
use mathlib.Core.Path.{◌≡◌, sym, ap, ◌∙◌}
use native.Mathlib.Omega.{arith}
use Rattle.std.specs.Option.{is_some}
use Rattle.model.specs.Bytes.{places_of, node_at}
use Rattle.frame.proofs.FrameLaws.{node-inside}
use Rattle.frame.proofs.OptionLaws.{is_some-then_some, IfSome-then_some}
use Rattle.scheme.proofs.DonorLaws.{plain-formed, plain_more, donor-inside, no_node, some-formed, some_more}
use Rattle.scheme.proofs.donors.read_donor.Goals as goal
use Rattle.scheme.proofs.donors.read_donor.Goals.{After-from}

-- the place after the words of the node
past_words : (c : After-from) → let a = c.args in a.from.at + 1 + 2 * c.from.result ≡ node_at a.bytes.now a.s + 1 + 2 * places_of a.bytes.now
past_words c =
    let h = c.requires.donors_placed.laid.headed in
    omega (arith, c.from.ensures, c.requires.before.place_is)

pub overflow_add-past : goal.overflow_add-past
overflow_add-past c = omega (arith, node-inside _ _ c.requires.donors_placed.laid _ c.requires.s_bound, c.requires.before.place_is)

pub overflow_add-past-2 : goal.overflow_add-past-2
overflow_add-past-2 c =
    let past = past_words (goal.at.overflow_add-past-2 c).After-from in
    omega (arith, node-inside _ _ c.requires.donors_placed.laid _ c.requires.s_bound)

pub returns-then-kinds-s-ne3 : goal.returns-then-kinds-s-ne3
returns-then-kinds-s-ne3 c =
    let p = c.requires.donors_placed in
    let s = c.requires.s_bound in
    let plain = c.if-kinds-s-ne3.true in
    let past = past_words (goal.at.returns-then-kinds-s-ne3 c).After-from in
    record { formed = plain-formed _ _ p s plain; donated = plain_more _ _ p s plain c.requires.before past }

pub take-donor-requires : goal.take-donor-requires
take-donor-requires c =
    let past = past_words (goal.at.take-donor-requires c).After-from in
    let s = c.requires.s_bound in
    omega (arith, donor-inside _ _ c.requires.donors_placed s c.requires.named c.if-kinds-s-ne3.false)

pub returns-then-l-donor-clause-formed : goal.returns-then-l-donor-clause-formed
returns-then-l-donor-clause-formed c =
    let past = past_words (goal.at.returns-then-l-donor-clause-formed c).After-from in
    let s = c.requires.s_bound in
    no_node _ _ c.requires.donors_placed s c.requires.named c.if-kinds-s-ne3.false past c.take-donor.ensures c.if-l-donor.true

pub returns : goal.returns
returns c =
    let past = past_words (goal.at.returns c).After-from in
    let p = c.requires.donors_placed in
    let s = c.requires.s_bound in
    let named = c.requires.named in
    let some = c.if-kinds-s-ne3.false in
    let formed = some-formed _ _ p s named some past c.take-donor.ensures c.from-2.ensures c.if-l-donor.false in
    let given = c.then_some.ensures in
    record {
      formed = ap is_some given ∙ is_some-then_some _ _ ∙ formed;
      donated = rw given (IfSome-then_some _ _ _ (λ e. some_more _ _ p s named some past c.take-donor.ensures c.requires.before (sym formed ∙ e)));
    }

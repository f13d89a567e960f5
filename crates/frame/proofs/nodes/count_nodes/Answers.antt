-- `frame::nodes::count_nodes` meets its contract.
use Prim.Native.Nat.{ℕ, ◌+◌, ◌*◌, ◌≤◌}
use mathlib.Core.Path.{◌≡◌, refl, sym, ap, ◌∙◌}
use native.Mathlib.Omega.{arith}
use lib.ListN.{length}
use Rattle.model.specs.Bytes.{places_of, nodes_of}
use Rattle.model.proofs.NodePlaceLaws.{node-first, node-plain}
use Rattle.frame.specs.Place.{after}
use Rattle.frame.specs.Nodes.{NodeCount}
use Rattle.frame.proofs.PlaceLaws.{counted, uncounted}
use Rattle.frame.proofs.FrameLaws.{no_nodes}
use Rattle.frame.proofs.nodes.count_nodes.Goals as goal
use Rattle.frame.proofs.nodes.count_nodes.Goals.{In_ok-nodes}

pub returns-in_err-nodes : goal.returns-in_err-nodes
returns-in_err-nodes c =
    let size = ap (λ (n : ℕ). 1 + 2 * n) c.requires.node_size.places_is in
    rw c.from_residual.ensures (no_nodes _ (uncounted _ _ 1 _ _ c.requires.at_count refl size c.in_err-nodes.ensures) (omega arith))

-- what the count is, and the place after that many nodes without donors: they lie within the bytes
told : (c : In_ok-nodes) → let b = c.args.bytes.now in NodeCount b c.in_ok-nodes.nodes
    × (c.in_ok-nodes.next.at ≡ 3 + places_of b + nodes_of b * (1 + 2 * places_of b)) × (c.in_ok-nodes.next.at ≤ length b)
unfolding after
told c =
    let p = c.requires.at_count in
    let s = counted _ _ 1 _ _ p refl (ap (λ (n : ℕ). 1 + 2 * n) c.requires.node_size.places_is) c.in_ok-nodes.ensures in
    let f = s.2 in
    (record { nodes_is = s.0; some = omega arith; few = omega arith }, omega arith, omega arith)

pub returns-then-not-donors : goal.returns-then-not-donors
returns-then-not-donors c =
    let t = told (goal.at.returns-then-not-donors c).In_ok-nodes in
    let plain = node-plain _ (sym c.requires.node_size.donors_is ∙ c.if-not-donors.true) _ in
    (t.0, record { place_is = t.1 ∙ sym plain; inside = t.2 })

pub past_nodes-requires-clause-node_count : goal.past_nodes-requires-clause-node_count
past_nodes-requires-clause-node_count c = (told (goal.at.past_nodes-requires-clause-node_count c).In_ok-nodes).0

pub past_nodes-requires-clause-first_node : goal.past_nodes-requires-clause-first_node
past_nodes-requires-clause-first_node c =
    let t = told (goal.at.past_nodes-requires-clause-first_node c).In_ok-nodes in
    record { place_is = omega (arith, node-first c.args.bytes.now); inside = omega arith }

pub returns : goal.returns
returns c = ((told (goal.at.returns c).In_ok-nodes).0, c.in_ok-end.ensures)

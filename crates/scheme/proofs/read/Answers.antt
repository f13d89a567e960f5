-- `scheme::read` meets its contract.
use mathlib.Core.Path.{sym, ◌∙◌}
use Rattle.model.specs.Scheme.{left, right}
use Rattle.scheme.proofs.ReadLaws.{no_orbit, no_nodes, no_donors, no_second, no_arcs, all-formed, read-broken, read-formed}
use Rattle.scheme.proofs.read.Goals as goal

pub returns-in_err-l : goal.returns-in_err-l
returns-in_err-l c = c.from_residual.ensures ∙ read-broken _ c.in_err-l.ensures

pub returns-in_err-second : goal.returns-in_err-second
returns-in_err-second c = c.from_residual-in_err-second.ensures ∙ read-broken _ (no_orbit _ (sym c.in_err-second.ensures.formed))

pub returns-in_err-third : goal.returns-in_err-third
returns-in_err-third c = c.from_residual-in_err-third.ensures ∙ read-broken _ (no_nodes _ (sym c.in_err-third.ensures.formed))

pub returns-in_err-read_donors : goal.returns-in_err-read_donors
returns-in_err-read_donors c = c.from_residual-in_err-read_donors.ensures ∙ read-broken _ (no_donors _ (sym c.in_err-read_donors.ensures.formed))

pub returns-in_err-hook : goal.returns-in_err-hook
returns-in_err-hook c = c.from_residual-in_err-hook.ensures ∙ read-broken _ (no_second _ (sym c.in_err-hook.ensures.formed))

pub returns-in_err-fifth : goal.returns-in_err-fifth
returns-in_err-fifth c = c.from_residual-in_err-fifth.ensures ∙ read-broken _ (no_arcs _ left (sym c.in_err-fifth.ensures.formed))

pub returns-in_err-read_arcs : goal.returns-in_err-read_arcs
returns-in_err-read_arcs c = c.from_residual-in_err-read_arcs.ensures ∙ read-broken _ (no_arcs _ right (sym c.in_err-read_arcs.ensures.formed))

pub returns : goal.returns
returns c =
    let laid = c.in_ok-l.ensures in
    let orbit = c.in_ok-second.ensures in
    let nodes = c.in_ok-third.ensures in
    let donors = c.in_ok-read_donors.ensures in
    let second = c.in_ok-hook.ensures in
    let lefts = c.in_ok-fifth.ensures in
    let rights = c.in_ok-read_arcs.ensures in
    read-formed _
    (all-formed _ _ laid (sym nodes.formed) (sym orbit.formed) (sym donors.formed) (sym second.formed) (sym lefts.formed) (sym rights.formed))
    laid orbit.orbit_after.0 nodes.noded donors.donors_after second.hook_read.0 lefts.arcs_read rights.arcs_read

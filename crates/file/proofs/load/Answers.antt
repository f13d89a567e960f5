-- `file::load` meets its contract.
use mathlib.Core.Path.{refl}
use mathlib.Core.Logic.{inl}
use Rattle.model.specs.File.{width}
use Rattle.file.proofs.LoadLaws.{load-broken, load_unordered, load-formed, load-done, load-file, darts_are, darts_fit_lem}
use Rattle.file.proofs.load.Goals as goal

pub returns-in_default : goal.returns-in_default
returns-in_default c = load-file _ _ _ _ _ _ (load-broken width _ _ _ _ c.frame.ensures _ _ c.in_default.is c.clear.ensures)

pub ascending-requires : goal.ascending-requires
ascending-requires c = (inl refl, darts_fit_lem width _ _ _ _ c.frame.ensures _ c.in-Some.is)

pub returns-then-not-ascending : goal.returns-then-not-ascending
returns-then-not-ascending c =
    load-file _ _ _ _ _ _ (load_unordered width _ _ _ _ c.frame.ensures _ c.in-Some.is _
    c.ascending.ensures _ _ c.if-not-ascending.true c.clear.ensures)

pub fill-requires-clause-formed : goal.fill-requires-clause-formed
fill-requires-clause-formed c =
    load-formed width _ _ _ _ c.frame.ensures _ c.in-Some.is _ c.ascending.ensures c.if-not-ascending.false

pub fill-requires-clause-darts_value : goal.fill-requires-clause-darts_value
fill-requires-clause-darts_value c = darts_are width _ _ _ _ c.frame.ensures _ c.in-Some.is

pub returns : goal.returns
returns c =
    load-file _ _ _ _ _ _ (load-done width _ _ _ _ c.frame.ensures _ c.in-Some.is _
    c.ascending.ensures _ _ c.if-not-ascending.false c.fill.ensures)

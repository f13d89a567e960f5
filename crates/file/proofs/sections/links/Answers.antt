-- `file::sections::links` meets its contract.
use mathlib.Core.Path.{◌≡◌, ap, sym}
use native.Mathlib.Numerals.{add-one}
use native.Mathlib.Omega.{arith}
use Prim.Native.Nat.{suc}
use Rattle.table.proofs.SlotLaws.{not_two}
use Rattle.file.proofs.SectionLaws.{link-none, link-more, links-all}
use Rattle.file.proofs.sections.links.Goals as goal

pub loop-i-init : goal.loop-i-init
loop-i-init g c = link-none _ _ _ _ _

pub loop-i-preserved : goal.loop-i-preserved
loop-i-preserved g c = rw add-one (link-more _ _ _ _ _ _ _ _ c.loop-i.invariant _ _ c.link-at.ensures)

pub returns : goal.returns
returns g c =
    let n = not_two c.requires.kind.dimension c.if-n-eq2.false in
    let three : c.loop-i.i ≡ 3 = omega arith in
    links-all _ _ _ _ _ 4 _ _ (link-more _ _ _ _ _ 3 _ _ (rw three at c.loop-i.invariant) _ _ c.link.ensures) _ (ap suc (sym n))

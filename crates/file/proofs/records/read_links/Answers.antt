-- `file::records::read_links` meets its contract.
use native.Mathlib.Omega.{arith}
use Rattle.table.proofs.SlotLaws.{two_le, not_two}
use Rattle.file.proofs.RecordLaws.{link_here, link-flat, links-of}
use Rattle.file.proofs.records.read_links.Goals as goal

pub returns-then-n-eq2 : goal.returns-then-n-eq2
returns-then-n-eq2 g c =
    links-of _ _ _ _ _ _ _ _ _ (two_le c.requires.kind.dimension) c.number-a0.ensures c.number-a1.ensures c.number-a2.ensures
    (link-flat _ _ _ _ _ c.if-n-eq2.true)

pub returns-else-n-eq2 : goal.returns-else-n-eq2
returns-else-n-eq2 g c =
    let three = not_two c.requires.kind.dimension c.if-n-eq2.false in
    links-of _ _ _ _ _ _ _ _ _ (two_le c.requires.kind.dimension) c.number-a0.ensures c.number-a1.ensures c.number-a2.ensures
    (link_here _ _ _ _ _ 3 _ _ (omega (arith, three)) (omega arith) c.number.ensures.value)

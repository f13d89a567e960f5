-- `file::sections::dart` meets its contract.
use Rattle.file.proofs.SectionLaws.{part-slot, part-tag, part-links}
use Rattle.file.proofs.sections.dart.Goals as goal

pub returns-in-Slots : goal.returns-in-Slots
returns-in-Slots g c = part-slot _ _ _ _ _ _ _ _ _ c.in-Slots.is c.put.ensures

pub returns-in-Tags : goal.returns-in-Tags
returns-in-Tags g c = part-tag _ _ _ _ _ _ _ _ _ _ c.in-Tags.is c.tag.ensures c.put-in-Tags.ensures

pub returns-in-Links : goal.returns-in-Links
returns-in-Links g c = part-links _ _ _ _ _ _ _ _ _ c.in-Links.is c.links.ensures

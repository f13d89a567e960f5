-- `rewriting::links::rewrite` meets its contract.
use mathlib.Core.Path.{ap, ◌∙◌}
use Rattle.model.specs.Map.{Map, field_of}
use Rattle.model.specs.Edit.{edited}
use Rattle.table.proofs.WordLaws.{sized_same}
use Rattle.table.proofs.WriteLaws.{shown-words}
use Rattle.orbit.specs.At.{site}
use Rattle.rewriting.proofs.LinkRewriteLaws.{rows-held, coding, rewritten}
use Rattle.rewriting.proofs.links.rewrite.Goals as goal

pub relink-requires : goal.relink-requires
relink-requires c = record {
  sized = c.requires.sized;
  rows = rows-held c.requires.before_rewriting c.changes-codes.ensures;
  codes = coding c.requires.before_rewriting c.changes-codes.ensures;
}

pub returns : goal.returns
unfolding edited
returns c =
    λ R. shown-words (edited (site R.at)) _ (sized_same c.requires.sized c.relink.auto.table)
    (λ f x h b. ap (λ (m : Map). field_of m f x) c.relink.ensures ∙ rewritten R c.changes-codes.ensures f x h)

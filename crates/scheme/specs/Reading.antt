-- What reading a scheme's bytes answers.
use Rattle.std.specs.Prelude.{ℕ, cond, List, Option, Some, None}
use Rattle.model.specs.Scheme.{left, right, in_form, scheme_of}
use Rattle.model.specs.Twice.{twice_of}
use Rattle.model.specs.declared.Scheme.{Scheme}
use Rattle.scheme.specs.declared.Reading.{Reading}

-- the reading of a scheme: the scheme, and its nodes with two arcs of one dimension
abbrev pub read_as : Scheme → Reading
read_as S = record {
  scheme = S;
  ltwice = twice_of S left;
  rtwice = twice_of S right;
}

-- none where the bytes are not in the form
unfoldable pub reading : List ℕ → Option Reading
reading b = cond (in_form b) (Some (read_as (scheme_of b))) None

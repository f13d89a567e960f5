-- The nodes: what holds once some of them are read, and once all are.
use Rattle.std.specs.Prelude.{ℕ, ◌*◌, ◌≡◌, true, List}
use Rattle.base.specs.Below.{all_below}
use Rattle.base.specs.Filled.{filled}
use Rattle.base.specs.Lists.{list}
use Rattle.model.specs.Bytes.{nodes_of, node_at, kind_at}
use Rattle.model.specs.Codes.{placed, placed_at}
use Rattle.model.specs.Scheme.{left, right, node_form, scheme_of}
use Rattle.scheme.specs.Words.{row}

-- the first s nodes are in the form, the arrays hold them, and `at` is the place after them
pub record Passed (b : List ℕ) (s at : ℕ) (kinds lwords rwords ltargets rtargets : List ℕ) : Type 0 where
  pub formed : all_below s (node_form b) ≡ true
  pub place_is : at ≡ node_at b s
  pub kinds_is : kinds ≡ filled 16 s (kind_at b) 0
  pub lwords_is : lwords ≡ filled 64 (4 * s) (row b left) 255
  pub rwords_is : rwords ≡ filled 64 (4 * s) (row b right) 255
  pub ltargets_is : ltargets ≡ filled 64 (4 * s) (placed b left) 255
  pub rtargets_is : rtargets ≡ filled 64 (4 * s) (placed b right) 255

-- the arrays hold all nodes, and `at` is the place after them
pub record Noded (b : List ℕ) (at : ℕ) (kinds lwords rwords ltargets rtargets : List ℕ) : Type 0 where
  pub place_is : at ≡ node_at b (nodes_of b)
  pub kinds_is : kinds ≡ (scheme_of b).kinds
  pub lwords_is : lwords ≡ (scheme_of b).lwords
  pub rwords_is : rwords ≡ (scheme_of b).rwords
  pub ltargets_is : ltargets ≡ list 64 (placed_at b left)
  pub rtargets_is : rtargets ≡ list 64 (placed_at b right)

-- The loop's invariant: the first k codes are as they are to be.
use Rattle.std.proofs.Common.{◌≡◌, ℕ, ◌<◌, length, get_or}
use Rattle.rewriting.specs.Links.{changed}
use Rattle.rewriting.proofs.links.changes.Given as goal

abbrev pub invariant-loop-k : goal.invariant-loop-k
invariant-loop-k l = (length l.codes ≡ 64) × ((j : ℕ) → j < l.k → get_or l.codes j 0 ≡ changed (get_or l.lefts j 0) (get_or l.rights j 0))

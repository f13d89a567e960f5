-- The condition of hooks, over the lists of a scheme's value: the test of a hook, and the left nodes that are not reached.
use Rattle.std.specs.Prelude.{ℕ, ◌+◌, ◌*◌, Bool, false, not, cond, List, get_or, eqb}
use Rattle.std.specs.Prelude.{Option, Some}
use Rattle.base.specs.Test.{◌and◌}
use Rattle.base.specs.Below.{all_below}
use Rattle.model.specs.Scheme.{first_hook}

-- node h is as a hook must be: not added, with the orbit type as its left word
unfoldable pub hooked_by : ℕ → List ℕ → List ℕ → List ℕ → ℕ → Bool
hooked_by places orbit kinds words h =
    not (eqb (get_or kinds h 0) 3) and all_below places (λ p. eqb (get_or words (4 * h + p) 0) (get_or orbit p 0))

-- s is a left node that is not reached
unfoldable pub left_out : List ℕ → List Bool → ℕ → Bool
left_out kinds reached s = not (eqb (get_or kinds s 0) 3) and not (get_or reached s false)

-- the node that breaks the condition, if there is one: the first hook, else the second, else `out`, which no hook reaches
unfoldable pub hook_by : ℕ → List ℕ → List ℕ → List ℕ → ℕ → Option ℕ → Option ℕ
hook_by places orbit kinds words second out =
    cond (hooked_by places orbit kinds words first_hook) (cond (hooked_by places orbit kinds words second) out (Some second)) (Some first_hook)

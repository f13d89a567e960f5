-- Lines of ASCII: numbers in decimal, a line of numbers, and the line of a refusal.
use Rattle.std.specs.Prelude.{ℕ, zero, suc, ◌+◌, ◌-◌, ◌/◌, ◌%◌, cond, List, [], ◌∷◌, ◌++◌, length, get_or, ltb}
use Rattle.base.specs.Lists.{joined}

-- a number in decimal, with the fewest digits; `most` is how many there may be
unfoldable pub spelled : ℕ → ℕ → List ℕ
spelled zero v = []
spelled (suc most) v = cond (ltb v 10) ((48 + v) ∷ []) (spelled most (v / 10) ++ ((48 + v % 10) ∷ []))

unfoldable pub decimal : ℕ → List ℕ
decimal v = spelled 20 v

abbrev pub space : List ℕ
space = 32 ∷ []

abbrev pub line_feed : List ℕ
line_feed = 10 ∷ []

-- the k numbers after the first of vs, each after a space
unfoldable pub fields : List ℕ → ℕ → List ℕ
fields vs k = joined k (λ i. space ++ decimal (get_or vs (i + 1) 0))

unfoldable pub numbers_line : List ℕ → List ℕ
numbers_line vs = decimal (get_or vs 0 0) ++ fields vs (length vs - 1) ++ line_feed

-- the word refused
abbrev pub refused_word : List ℕ
refused_word = 114 ∷ 101 ∷ 102 ∷ 117 ∷ 115 ∷ 101 ∷ 100 ∷ []

unfoldable pub refused_line : ℕ → List ℕ
refused_line k = refused_word ++ space ++ decimal k ++ line_feed

-- Tests and how they are joined. They stay shut, so that a law about `a and b` finds a and b by itself.
use Rattle.std.specs.Prelude.{ℕ, Bool, true, false}

infixl 35 ◌and◌
infixl 30 ◌or◌
infixr 20 ◌⇒◌
unfoldable pub ◌and◌ : Bool → Bool → Bool
true and b = b
false and b = false

unfoldable pub ◌or◌ : Bool → Bool → Bool
true or b = true
false or b = b

-- b is asked only where a holds
unfoldable pub ◌⇒◌ : Bool → Bool → Bool
true ⇒ b = b
false ⇒ b = true

abbrev pub bit : Bool → ℕ
bit true = 1
bit false = 0

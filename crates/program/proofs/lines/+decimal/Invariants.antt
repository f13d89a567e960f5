-- The measure is the number itself: each call drops its last digit.
use Rattle.program.proofs.lines.+decimal.Given as goal

abbrev pub decreases-decimal : goal.decreases-decimal
decreases-decimal l = l.v

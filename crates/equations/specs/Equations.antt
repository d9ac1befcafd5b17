-- Equations over bits: coefficients, the right side, and what solves them.
use Rattle.std.specs.Prelude.{ℕ, zero, suc, ◌/◌, ◌%◌, Bool, true, cond, ◌&&◌, List, [], ◌∷◌, Some, None, Option, ◌==◌, slice_index}
use Rattle.std.specs.Bool.{beq}
use Rattle.bits.specs.Lists.{row_of}
use Rattle.bits.specs.Rows.{Row, sum_of}
use Rattle.bits.specs.Words.{bit_of}
use Rattle.equations.specs.declared.Equation.{Equation}
use Rattle.equations.specs.Counting.{Test}

-- words of 64 bits one after another as a row
abbrev pub words_row : List ℕ → Row
words_row words i = bit_of (slice_index words (i / 64)) (i % 64)

-- the coefficient of each variable; from 256 on it is 0
abbrev pub coefficients_of : Equation → Row
coefficients_of e = words_row e.coefficients

-- the row with the one bit i
abbrev pub unit : ℕ → Row
unit i j = i == j

-- the sum of those bits of x whose coefficient is 1
unfoldable pub dot : Row → Row → Bool
dot c x = sum_of 256 (λ i. c i && x i)

-- an equation holds of a row if that sum is its right side
abbrev pub holds : Equation → Row → Bool
holds e x = beq (dot (coefficients_of e) x) e.right

-- a row solves equations if each of them holds of it
abbrev pub solves : List Equation → Row → Bool
solves [] x = true
solves (e ∷ es) x = holds e x && solves es x

-- the solutions of equations, as a test on lists of bits
abbrev pub solutions : List Equation → Test
solutions es x = solves es (row_of x)

-- the highest place below n at which a row has a bit
abbrev pub highest : ℕ → Row → Option ℕ
highest zero c = None
highest (suc n) c = cond (c n) (Some n) (highest n c)

-- the highest place of 256
unfoldable pub last_bit : Row → Option ℕ
last_bit c = highest 256 c

-- the lead of an equation: its highest-numbered variable
abbrev pub lead_of : Equation → Option ℕ
lead_of e = last_bit (coefficients_of e)

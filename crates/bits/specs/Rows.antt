-- Rows of bits. Cells, outlets and injected bits are rows, and so is a set of places.
-- A row has a bit at every place 0, 1, 2, ..; a row that stands for n bits is false from place n on.
use Rattle.std.specs.Prelude.{ℕ, zero, suc, Bool, true, false, cond, nat_lt}

-- the sum of two bits is their exclusive-or
abbrev pub xor : Bool → Bool → Bool
xor true true = false
xor true false = true
xor false b = b

abbrev pub Row : Type 0
Row = ℕ → Bool

-- the row of noughts
abbrev pub zeros : Row
zeros i = false

-- the sum of two rows, place by place
abbrev pub plus : Row → Row → Row
plus s t i = xor (s i) (t i)

-- the first n bits of a row
abbrev pub upto : ℕ → Row → Row
upto n s i = cond (nat_lt i n) (s i) false

-- the sum of the first n bits of a row
abbrev pub sum_of : ℕ → Row → Bool
sum_of zero s = false
sum_of (suc n) s = xor (sum_of n s) (s n)

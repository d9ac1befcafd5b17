-- Words as rows and rows as words; bit 0 is the least significant.
use Rattle.std.specs.Prelude.{ℕ, zero, suc, ◌+◌, ◌*◌, ◌/◌, ◌%◌, ◌^◌, Bool, true, false, ◌==◌}
use Rattle.bits.specs.Rows.{Row}

-- bit i of a number
abbrev pub bit_of : ℕ → Row
bit_of w i = w / 2 ^ i % 2 == 1

abbrev pub one_if : Bool → ℕ
one_if true = 1
one_if false = 0

-- the number whose first n bits are those of the row, and whose other bits are 0
abbrev pub word_of : ℕ → Row → ℕ
word_of zero s = 0
word_of (suc n) s = one_if (s zero) + 2 * word_of n (λ i. s (suc i))

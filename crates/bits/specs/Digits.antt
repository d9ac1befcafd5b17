-- Bits as digits: the characters 0 and 1, place 0 first.
use Rattle.std.specs.Prelude.{ℕ, Bool, true, false, ◌||◌, List, map, ◌==◌, slice_index}
use Rattle.std.specs.List.{list_all}
use Rattle.bits.specs.Rows.{Row}
use Rattle.bits.specs.Lists.{list_of}

abbrev pub digit_of : Bool → ℕ
digit_of true = 49
digit_of false = 48

-- the first n bits of a row as digits
abbrev pub digits_of : ℕ → Row → List ℕ
digits_of n s = map digit_of (list_of n s)

abbrev pub is_digit : ℕ → Bool
is_digit d = d == 48 || d == 49

-- each of some bytes is a digit
abbrev pub all_digits : List ℕ → Bool
all_digits = list_all is_digit

-- the row that digits write
abbrev pub digit_row : List ℕ → Row
digit_row digits i = slice_index digits i == 49

-- Bits that may be unknown, as they are printed.
use Rattle.std.specs.Prelude.{ℕ, Bool, true, false, List, map}
use Rattle.std.specs.List.{range_with_len}
use Rattle.bits.specs.Digits.{digit_of}
use Rattle.bits.specs.Rows.{Row}

-- an unknown bit is printed as the character X, a known one as 0 or 1
abbrev pub mark_of : Bool → Bool → ℕ
mark_of true value = 88
mark_of false value = digit_of value

-- the first n bits of a row of values beside a row of unknown marks
abbrev pub marks_of : ℕ → Row → Row → List ℕ
marks_of n values unknowns = map (λ i. mark_of (unknowns i) (values i)) (range_with_len 0 n)

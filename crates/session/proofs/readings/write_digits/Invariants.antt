use Rattle.std.proofs.Common.{◌≡◌, ◌++◌, drop}
use Rattle.bits.specs.Digits.{digits_of}
use Rattle.equations.specs.Equations.{words_row}
use Rattle.session.proofs.readings.write_digits.Given as goal

-- the digits so far stand over the beginning
abbrev pub invariant-loop-i : goal.invariant-loop-i
invariant-loop-i l = l.digits ≡ digits_of l.i (words_row l.words) ++ drop l.i l.initial.digits

use Rattle.std.proofs.Common.{◌≡◌}
use Rattle.bits.specs.Digits.{digit_row}
use Rattle.bits.specs.Words.{word_of}
use Rattle.patterns.proofs.digits.word_of.Given as goal

-- the digits so far are in
abbrev pub invariant-loop-k : goal.invariant-loop-k
invariant-loop-k l = l.word ≡ word_of l.k (digit_row l.digits)

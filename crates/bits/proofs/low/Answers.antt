use Rattle.std.proofs.Common.{lt_of_lt_of_le, arith, pow_mono}
use Rattle.bits.proofs.Bitwise.{low_is, word_self}
use Rattle.bits.proofs.low.Goals as goal

pub returns-then-count-lt64 : goal.returns-then-count-lt64
returns-then-count-lt64 c = low_is c.args.word c.args.count c.if-count-lt64.true

pub returns-else-count-lt64 : goal.returns-else-count-lt64
returns-else-count-lt64 c = word_self c.args.count c.args.word (lt_of_lt_of_le (omega arith) (pow_mono c.if-count-lt64.false))

use Rattle.std.proofs.Common.{arith}
use Rattle.bits.proofs.Bitwise.{parity_sum}
use Rattle.bits.proofs.parity.Goals as goal

pub returns : goal.returns
returns c = parity_sum 64 c.args.word (omega arith)

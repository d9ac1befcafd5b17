use Rattle.std.proofs.Common.{arith}
use Rattle.equations.proofs.FourWords.{words_with}
use Rattle.equations.proofs.words.with_bit.Goals as goal

pub returns-then-place-lt256 : goal.returns-then-place-lt256
returns-then-place-lt256 c = words_with c.args.words c.args.place c.args.bit (omega arith) c.if-place-lt256.true

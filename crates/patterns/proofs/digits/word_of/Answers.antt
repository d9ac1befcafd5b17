use Rattle.std.proofs.Common.{eqb, get_or, refl, arith}
use Rattle.bits.proofs.Bitwise.{word_flag}
use Rattle.bits.specs.Digits.{digit_row}
use Rattle.patterns.proofs.digits.word_of.Goals as goal

pub loop-k-preserved : goal.loop-k-preserved
loop-k-preserved c =
    let few = c.requires in
    word_flag c.loop-k.k c.loop-k.word (eqb (get_or c.args.digits.now c.loop-k.k 0) 49) (digit_row c.args.digits.now) (omega arith)
    c.loop-k.invariant refl

use Rattle.std.proofs.Common.{ap, ◌∙◌, arith}
use Rattle.bits.specs.Digits.{digit_of}
use Rattle.equations.specs.Equations.{words_row}
use Rattle.session.proofs.Solving.{digits_more}
use Rattle.session.proofs.readings.write_digits.Goals as goal

pub loop-i-preserved : goal.loop-i-preserved
loop-i-preserved c =
    digits_more c.loop-i.i c.digit.result (words_row c.args.words) c.args.digits.now c.loop-i.digits (omega arith) c.loop-i.invariant
    (c.digit.ensures ∙ ap digit_of c.has_bit.ensures)

use Rattle.bits.specs.Words.{bit_of}
use Rattle.registers.proofs.Circles.{circled_is}
use Rattle.registers.proofs.size.Size.circled.Goals as goal

pub returns : goal.returns
returns c = let n = c.args.self in rw c.last.ensures (circled_is n.cells c.low.result (bit_of c.args.word) n.some n.few c.low.ensures)

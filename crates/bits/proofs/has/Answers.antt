use Rattle.std.proofs.Common.{sym, ◌∙◌, arith}
use Rattle.std.proofs.lemmas.Bool.{le-ltb}
use Rattle.bits.proofs.Bitwise.{bit_above}
use Rattle.bits.proofs.has.Goals as goal

pub returns-else-place-lt64 : goal.returns-else-place-lt64
returns-else-place-lt64 c =
    le-ltb c.args.place 64 c.if-place-lt64.false ∙ sym (bit_above c.args.word 64 c.args.place (omega arith) c.if-place-lt64.false)

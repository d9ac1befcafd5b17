use Rattle.bits.specs.Rows.{upto}
use Rattle.bits.specs.Words.{bit_of}
use Rattle.layers.specs.Delays.{shift_is}
use Rattle.layers.proofs.delay.DelayMachine.shift.Goals as goal

pub returns-clause-after : goal.returns-clause-after
returns-clause-after g c =
    let d = c.args.self.now in
    let m = g.M.Machine.meaning d.below in
    shift_is m _ (g.M.Machine.cells d.below) _ (upto m.outlets (bit_of d.kept)) _ c.read-before.result c.shift.ensures.same
    (g.met.M.Machine.held d.below) c.shift.ensures.after c.read-before.ensures

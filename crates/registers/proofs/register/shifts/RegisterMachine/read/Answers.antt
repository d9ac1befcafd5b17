use Rattle.bits.proofs.Bitwise.{word_self}
use Rattle.registers.proofs.register.shifts.RegisterMachine.read.Goals as goal

pub returns : goal.returns
returns g c = let r = c.args.self.now in word_self (g.T.Turns.size r.turning) r.cells r.held

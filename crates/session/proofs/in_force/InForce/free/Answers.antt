use Rattle.std.proofs.Common.{length, arith}
use Rattle.equations.proofs.Solved.{system_few}
use Rattle.session.proofs.in_force.InForce.free.Goals as goal

pub overflow_sub-result : goal.overflow_sub-result
overflow_sub-result c =
    let s = c.args.self.now in
    system_few s.variables s.rows.now (length s.rows.now) (omega arith) s.led s.apart

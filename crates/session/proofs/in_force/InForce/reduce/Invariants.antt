use Rattle.equations.specs.Systems.{Reduced}
use Rattle.session.proofs.in_force.InForce.reduce.Given as goal

-- reduced by the rows so far
abbrev pub invariant-loop-row : goal.invariant-loop-row
invariant-loop-row l = Reduced l.self.variables l.self.rows.now l.row-index l.initial.equation l.equation

use Rattle.session.proofs.Solving.{LeadersOf}
use Rattle.session.proofs.in_force.InForce.leaders.Given as goal

-- those of the rows so far are in
abbrev pub invariant-loop-row : goal.invariant-loop-row
invariant-loop-row l = LeadersOf l.self.rows.now l.row-index l.leaders

use Rattle.std.proofs.Common.{ℕ, ◌+◌, sym, refl, subst}
use Rattle.equations.specs.Systems.{row_at}
use Rattle.equations.proofs.Leads.{lead_top}
use Rattle.session.proofs.Solving.{LeadersOf, leaders_none, leaders_more, leaders_skip}
use Rattle.session.proofs.in_force.InForce.leaders.Goals.{in-Some, in_default}
use Rattle.session.proofs.in_force.InForce.leaders.Goals as goal

pub loop-row-init : goal.loop-row-init
loop-row-init c = leaders_none c.args.self.now.rows.now

pub loop-row-preserved : goal.loop-row-preserved
loop-row-preserved c =
    let rows = c.args.self.now.rows.now in
    let k : ℕ = c.loop-row.row-index in
    elim c.match-lead.branch [
      | in-Some w ↦ subst (LeadersOf rows (k + 1)) (sym w.leaders-is) (leaders_more rows k c.loop-row.leaders w.in-Some.lead _ refl (sym w.in-Some.ensures)
          (lead_top (row_at rows k) w.in-Some.lead (sym w.in-Some.ensures)).below c.loop-row.invariant)
      | in_default w ↦ subst (LeadersOf rows (k + 1)) (sym w.leaders-is) (leaders_skip rows k c.loop-row.leaders (sym w.in_default.ensures) c.loop-row.invariant)
    ]

use Rattle.std.proofs.Common.{rules, ◌≡◌, ℕ, ◌+◌, ◌<◌, length, sym, ◌∙◌, subst, arith}
use Rattle.equations.specs.Equations.{coefficients_of}
use Rattle.equations.specs.Systems.{Reduced}
use Rattle.equations.proofs.Leads.{below_is}
use Rattle.equations.proofs.Reductions.{row_added, row_passed}
use Rattle.session.proofs.in_force.InForce.reduce.Goals.{then-is_some_and, else-is_some_and}
use Rattle.session.proofs.in_force.InForce.reduce.Goals as goal

pub loop-row-preserved : goal.loop-row-preserved
loop-row-preserved c =
    let s = c.args.self.now in
    let rows = s.rows.now in
    let k : ℕ = c.loop-row.row-index in
    let e = c.args.equation in
    let r = c.loop-row.equation in
    let inside : k < length rows = omega arith in
    let lead = below_is s.variables _ (s.led k inside) in
    let has : c.is_some_and.result ≡ coefficients_of r lead.0 = search rules in
    elim c.if-is_some_and.branch [
      | then-is_some_and w ↦ (
          subst (Reduced s.variables rows (k + 1) e) (sym w.equation-is)
          (row_added s.variables rows (length rows) s.led s.clear k e r inside inside c.loop-row.invariant
          lead.0 w.plus-equation.result lead.1 (sym has ∙ w.if-is_some_and.true) w.plus-equation.ensures.coefficients w.plus-equation.ensures.right))
      | else-is_some_and w ↦ (
          subst (Reduced s.variables rows (k + 1) e) (sym w.equation-is)
          (row_passed s.variables rows (length rows) s.led s.clear k e r inside inside c.loop-row.invariant lead.0 lead.1 (sym has ∙ w.if-is_some_and.false)))
    ]

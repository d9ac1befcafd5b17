use Rattle.std.proofs.Common.{sym, refl, ap, ◌∙◌}
use mathlib.Core.Bool.{beq, false}
use Rattle.session.proofs.Entering.{left_says, left_leads}
use Rattle.session.proofs.in_force.InForce.weigh.Goals as goal

pub returns-in-Some-default : goal.returns-in-Some-default
returns-in-Some-default c =
    let s = c.args.self.now in
    (c.reduce-reduced.ensures, left_leads s.variables s.rows.now c.args.equation c.reduce-reduced.result c.in-Some-default.field-0-0 c.requires c.reduce-reduced.ensures (sym c.in-Some-default.ensures))

pub returns-in-None-true : goal.returns-in-None-true
returns-in-None-true c =
    let s = c.args.self.now in
    (refl, λ x l h. left_says s.variables s.rows.now c.args.equation c.reduce-reduced.result c.reduce-reduced.ensures (sym c.in-None-true.ensures) x h ∙ ap (beq false) c.in-None-true.is-1)

pub returns-in-None-false : goal.returns-in-None-false
returns-in-None-false c =
    let s = c.args.self.now in
    λ x l h. left_says s.variables s.rows.now c.args.equation c.reduce-reduced.result c.reduce-reduced.ensures (sym c.in-None-false.ensures) x h ∙ ap (beq false) c.in-None-false.is-1

use Rattle.std.proofs.Common.{Bor, Bool, ◌&&◌, ◌||◌, eqb, Option, refl, sym, ap, ◌∙◌, subst}
use Rattle.bits.specs.Rows.{upto, xor}
use Rattle.equations.specs.declared.Equation.{Equation}
use Rattle.equations.specs.Equations.{words_row}
use Rattle.session.specs.Leaders.{Told}
use Rattle.session.proofs.Solving.{differ}
use Rattle.session.proofs.in_force.fn.InForce.first_solution.fold.Goals as goal

pub returns-in-Some : goal.returns-in-Some
unfolding Told
returns-in-Some c =
    subst (λ (o : Option (Bor Equation)). Told c.args.solution c.args.arg2.0 o c.with_bit.result) (sym c.in-Some.is)
    (c.with_bit.ensures ∙ ap (λ (t : Bool). upto 256 (λ i. words_row c.args.solution i || (eqb c.args.arg2.0 i && t)))
    (differ c.in-Some.row.now.right c.product.result ∙ ap (xor c.in-Some.row.now.right) c.product.ensures))

pub returns-in-None : goal.returns-in-None
unfolding Told
returns-in-None c = subst (λ (o : Option (Bor Equation)). Told c.args.solution c.args.arg2.0 o c.args.solution) (sym c.in-None.is) refl

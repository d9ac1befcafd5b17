use Rattle.std.proofs.Common.{arith}
use Rattle.std.proofs.lemmas.Bool.Decides.{nat_tests}
use Rattle.std.proofs.lemmas.Grind.{common_steps}
use Rattle.registers.proofs.inlets.gather.InletsGathers.add.Goals as goal

pub invariant_of-self : goal.invariant_of-self
invariant_of-self c = record { inside = λ k d h. grind (arith, common_steps, nat_tests, c.args.self.now.inside k d) }

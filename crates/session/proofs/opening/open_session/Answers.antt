use Rattle.std.proofs.Common.{arith}
use Rattle.std.proofs.lemmas.Grind.{common_steps}
use Rattle.session.proofs.Chains.{every_list}
use Rattle.session.proofs.opening.open_session.Goals as goal

pub returns-clause-lists : goal.returns-clause-lists
returns-clause-lists g c accepted = every_list _ _ _ (grind (arith, common_steps))

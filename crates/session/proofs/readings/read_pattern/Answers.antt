use Rattle.std.proofs.Common.{rules, arith, Ok}
use Rattle.std.proofs.lemmas.Grind.{common_steps}
use Rattle.session.specs.Fits.{fitting_at}
use Rattle.session.specs.Views.{session_of}
use Rattle.session.proofs.Openings.{halved}
use Rattle.session.proofs.Truths.{pattern_true}
use Rattle.session.proofs.readings.read_pattern.Goals as goal

pub returns-then-digits-in_force-clause-halved : goal.returns-then-digits-in_force-clause-halved
returns-then-digits-in_force-clause-halved c = halved c.args.table.now c.args.counter.now.count

pub returns-clause-halved : goal.returns-clause-halved
returns-clause-halved c = halved c.args.table.now c.args.counter.now.count

pub returns-clause-truly : goal.returns-clause-truly
returns-clause-truly c m bits st =
    let t = c.args.table.now in
    let n = c.args.counter.now.count in
    let s = session_of t c.args.counter.now in
    pattern_true m (fitting_at t.fit).frame s bits st c.args.digits.now (Ok tt) _ (search rules) (grind (arith, common_steps)) (halved t n)

use Rattle.std.proofs.Common.{rules, arith}
use Rattle.session.specs.Fits.{fitting_at}
use Rattle.session.specs.Views.{session_of}
use Rattle.session.proofs.Openings.{halved}
use Rattle.session.proofs.Truths.{free_true}
use Rattle.session.proofs.readings.free_count.Goals as goal

pub returns-clause-halved : goal.returns-clause-halved
returns-clause-halved c = halved c.args.table.now c.args.counter.now.count

pub returns-clause-truly : goal.returns-clause-truly
returns-clause-truly c m bits st =
    let t = c.args.table.now in
    let n = c.args.counter.now.count in
    free_true m (fitting_at t.fit).frame (session_of t c.args.counter.now) bits st _ (search (rules, arith)) (halved t n)

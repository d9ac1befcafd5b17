use Rattle.std.proofs.Common.{◌≡◌, ◌++◌, length, rules}
use Rattle.scan.proofs.Memory.{cleared_words}
use Rattle.scan.proofs.loading.Loading.start.Goals as goal

pub returns-clause-after : goal.returns-clause-after
returns-clause-after g c =
    let m = g.M.Machine.meaning c.args.machine.now in
    let words = c.in_ok-chains.words.now in
    let rest = c.in_ok-chains.field-0-1.now in
    let cut : c.args.chains.now ≡ words ++ rest = search rules in
    let all : length words ≡ c.args.frame.shifts = search rules in
    let cleared = cleared_words c.args.frame.shifts m.outlets words rest c.args.chains.now cut all c.fill.new.self (c.fill.ensures.after (λ y e. e)) in
    search rules

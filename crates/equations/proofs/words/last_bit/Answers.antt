use Rattle.std.proofs.Common.{rules, ◌<◌, ◌∙◌, arith}
use Rattle.std.proofs.iter.runs.Made.{chains}
use Rattle.equations.proofs.FourWords.{words_highest, words_none}
use Rattle.equations.proofs.words.last_bit.Goals as goal

pub returns-in_err-w : goal.returns-in_err-w
returns-in_err-w c = c.from_residual.ensures ∙ words_none c.args.words (search (rules, chains))

pub returns : goal.returns
returns c =
    let low : c.in_ok-w.w < 4 = search (rules, chains) in
    words_highest c.args.words c.in_ok-w.w (omega arith) low (search (rules, chains)) (omega arith) (search (rules, chains))

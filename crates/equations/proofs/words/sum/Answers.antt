use Rattle.std.proofs.Common.{rules, get_or, bit_xor, arith}
use Rattle.equations.proofs.FourWords.{made_by, words_plus}
use Rattle.equations.proofs.words.sum.Goals as goal

pub returns : goal.returns
returns c =
    words_plus c.args.a c.args.b c.from_fn.result (omega arith) (omega arith) (omega arith)
    (λ w l. made_by _ (λ i. bit_xor (get_or c.args.a i 0) (get_or c.args.b i 0)) _ _ (λ i y q k. search rules) 0 4 c.from_fn.ensures.items.each w 0 (omega arith) (omega arith))

use Rattle.std.proofs.Common.{rules, arith}
use Rattle.std.proofs.lemmas.Iterator.{YieldsList-from_map, YieldsList-from_range}
use Rattle.bits.specs.Digits.{digit_of}
use Rattle.bits.specs.Words.{bit_of}
use Rattle.tour.proofs.Texts.{text_of, digit_small, digits_by_place}
use Rattle.tour.proofs.digits.digits.Goals as goal

pub returns : goal.returns
returns c =
    let n = c.args.count in
    let bits = bit_of c.args.word in
    text_of (λ p. digit_of (bits p)) _ _ (λ p. digit_small (bits p)) (digits_by_place n bits) c.collect.ensures.ran
    (YieldsList-from_map _ _ (YieldsList-from_range 0 n n (cc) (omega arith)) c.map.ensures.closure (λ x r q k. search rules))

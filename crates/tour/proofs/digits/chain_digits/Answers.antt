use Rattle.std.proofs.Common.{rules, ℕ, Bool}
use Rattle.std.proofs.lemmas.Iterator.{YieldsList-from_map, YieldsList-from_slice}
use Rattle.bits.specs.Digits.{digit_of}
use Rattle.bits.specs.Words.{bit_of}
use Rattle.tour.proofs.Texts.{text_of, digit_small, digits_by_word}
use Rattle.tour.proofs.digits.chain_digits.Goals as goal

pub returns : goal.returns
returns c =
    let bit : ℕ → Bool = λ w. bit_of w c.args.chain in
    text_of (λ w. digit_of (bit w)) _ _ (λ w. digit_small (bit w)) (digits_by_word bit c.args.chains.now) c.collect.ensures.ran
    (YieldsList-from_map _ _ (YieldsList-from_slice c.args.chains.now cc) c.map.ensures.closure (λ x r q k. search rules))

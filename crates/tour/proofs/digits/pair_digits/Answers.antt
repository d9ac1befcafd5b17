use Rattle.std.proofs.Common.{refl, rules, arith}
use Rattle.std.proofs.lemmas.Iterator.{YieldsList-from_map, YieldsList-from_range}
use Rattle.bits.specs.Words.{bit_of}
use Rattle.tour.specs.Marks.{mark_of}
use Rattle.tour.proofs.Texts.{text_of, mark_small}
use Rattle.tour.proofs.digits.pair_digits.Goals as goal

pub returns : goal.returns
returns c =
    let n = c.args.count in
    let values = bit_of c.args.pair.0 in
    let unknowns = bit_of c.args.pair.1 in
    text_of (λ p. mark_of (unknowns p) (values p)) _ _ (λ p. mark_small (unknowns p) (values p)) refl c.collect.ensures.ran
    (YieldsList-from_map _ _ (YieldsList-from_range 0 n n (cc) (omega arith)) c.map.ensures.closure (λ x r q k. search rules))

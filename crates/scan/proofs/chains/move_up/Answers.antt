use Rattle.std.proofs.Common.{ℕ, List, get_or, set, ap, ◌∙◌}
use Rattle.bits.specs.Words.{bit_of, word_of}
use Rattle.scan.proofs.Memory.{next_carried, holding_more}
use Rattle.scan.proofs.chains.move_up.Goals as goal

pub loop-word-preserved : goal.loop-word-preserved
loop-word-preserved c =
    let n = c.loop-word.word-index in
    let so_far = c.loop-word.invariant.0 in (
      ap (λ (ws : List ℕ). set ws n c.loop-word.carried) so_far ∙ holding_more _ _ _ _ _ c.loop-word-test.true c.loop-word.invariant.1,
      c.low-leaving.ensures ∙ ap (λ (w : ℕ). word_of c.args.chains (bit_of w)) (ap (λ (ws : List ℕ). get_or ws n 0) so_far)
          ∙ next_carried n _ _ _ c.args.words.now c.loop-word-test.true,
    )

use Rattle.std.proofs.Common.{ℕ, length, List, ◌&&◌, get_or, ap, ◌∙◌, arith}
use Rattle.std.proofs.lemmas.List.{length-take}
use Rattle.bits.specs.Rows.{sum_of}
use Rattle.bits.specs.Words.{bit_of}
use Rattle.bits.proofs.Bitwise.{word_flag}
use Rattle.layers.specs.Shifter.{mixed}
use Rattle.layers.specs.Views.{sets_read}
use Rattle.layers.specs.Mixes.{sum_and}
use Rattle.layers.proofs.sets.OutletSets.mix.Goals as goal

pub loop-k-preserved : goal.loop-k-preserved
loop-k-preserved c =
    let sets = c.as_slice-set-items.result.now in
    let k = c.loop-k.k in
    let w = c.args.word in
    word_flag k c.loop-k.mixture c.parity.result (mixed 64 (sets_read c.args.self.now) (bit_of w))
    (omega (arith, length-take {A = ℕ}, ap length c.as_slice-set-items.ensures)) c.loop-k.invariant
    (c.parity.ensures ∙ sum_and (get_or sets k 0) w
    ∙ ap (λ (xs : List ℕ). sum_of 64 (λ j. bit_of (get_or xs k 0) j && bit_of w j)) c.as_slice-set-items.ensures)

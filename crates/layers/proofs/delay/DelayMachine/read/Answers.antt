use Rattle.std.proofs.Common.{ℕ, ap, ◌∙◌}
use Rattle.bits.specs.Words.{bit_of, word_of}
use Rattle.layers.specs.Delays.{read_is}
use Rattle.layers.proofs.delay.DelayMachine.read.Goals as goal

pub returns : goal.returns
returns g c =
    let d = c.args.self.now in
    let m = g.M.Machine.meaning d.below in
    c.low.ensures ∙ ap (λ (n : ℕ). word_of n (bit_of d.kept)) c.outlets.ensures ∙ read_is m.size m.outlets d.kept (g.M.Machine.cells d.below)

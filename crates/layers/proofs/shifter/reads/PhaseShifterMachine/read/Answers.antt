use Rattle.std.proofs.Common.{◌∙◌, ap, length}
use Rattle.bits.specs.Words.{word_of}
use Rattle.layers.specs.Views.{sets_read}
use Rattle.layers.specs.Mixes.{mixed_below}
use Rattle.layers.proofs.shifter.reads.PhaseShifterMachine.read.Goals as goal

pub returns : goal.returns
returns g c =
    let p = c.args.self.now in
    let m = g.M.Machine.meaning p.below in
    c.mix.ensures
    ∙ ap (word_of (length (sets_read p.sets)))
    (mixed_below (sets_read p.sets) m.outlets c.read.result (m.out (g.M.Machine.cells p.below)) (g.met.M.Machine.counted p.below).outlets_few c.read.ensures)

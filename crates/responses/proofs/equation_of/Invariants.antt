use Rattle.std.proofs.Common.{◌≡◌, ◌-◌}
use Rattle.equations.specs.Equations.{words_row}
use Rattle.scan.specs.Frames.{cycles}
use Rattle.responses.proofs.Channels.{below}
use Rattle.responses.proofs.equation_of.Given as goal

-- the responses of the channels so far are in, after the cycle whose outlets the position ends with
abbrev pub invariant-loop-channel : goal.invariant-loop-channel
invariant-loop-channel g l =
    let m = g.M.Machine.meaning l.fn.machine in
    let t = cycles l.fn.frame - l.bit.position in
    (g.M.Machine.meaning l.machine ≡ m) × (l.cycle ≡ t) × (words_row l.coefficients ≡ below m l.channel t l.bit.chain)

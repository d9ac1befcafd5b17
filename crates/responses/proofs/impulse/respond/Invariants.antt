use Rattle.std.proofs.Common.{◌≡◌, ◌-◌, length}
use Rattle.equations.specs.Equations.{words_row}
use Rattle.machine.specs.Linear.{shifted}
use Rattle.responses.proofs.Impulses.{impulse}
use Rattle.responses.proofs.Responding.{Holds}
use Rattle.responses.proofs.impulse.respond.Given as goal

-- the next shift brings the impulse as many shifts on as cycles are done, and the responses of the cycles after those left are in
abbrev pub invariant-loop-cycle : goal.invariant-loop-cycle
invariant-loop-cycle g l =
    let m = g.M.Machine.meaning l.fn.machine in
    (g.M.Machine.meaning l.machine ≡ m)
    × (shifted m (g.M.Machine.cells l.machine) l.taken ≡ impulse m l.channel (l.cycles - l.cycle))
    × (length l.coefficients ≡ 4)
    × Holds m l.channel l.cycles l.chain (words_row l.fn.coefficients) l.coefficients l.cycle
